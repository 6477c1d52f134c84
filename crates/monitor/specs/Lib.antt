pub mod Replies
pub mod Steps
pub mod Lists
pub mod Monitors

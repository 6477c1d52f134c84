pub mod Requests
pub mod Example

mod Lists
mod Chains
mod Rows
mod Masks
mod Shown
mod Writes
mod Changes
mod Selects
mod Asks
mod Runs
mod Courses
pub mod Promises
mod Sights

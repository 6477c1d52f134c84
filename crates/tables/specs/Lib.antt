pub mod Records
pub mod Queries
pub mod Outcomes
pub mod Steps
pub mod Scans
pub mod Fills

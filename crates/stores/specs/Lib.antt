pub mod Tables
pub mod Changes
pub mod Layout
pub mod Plans
pub mod Visits

pub mod Fills
pub mod Compacts
pub mod Splices
pub mod Meaning
pub mod Layings

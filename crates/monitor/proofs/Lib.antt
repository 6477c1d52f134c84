pub mod Turns
pub mod Room
pub mod Listings

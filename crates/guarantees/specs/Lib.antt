pub mod Sides
pub mod Blanking
pub mod Compare
pub mod Course

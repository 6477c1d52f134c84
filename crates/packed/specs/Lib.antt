pub mod Stretches
pub mod Soundness

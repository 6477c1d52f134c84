pub mod Walks
pub mod Few
pub mod Puts
pub mod Limits
pub mod Sweeps
pub mod Layouts
pub mod Keys
pub mod Local

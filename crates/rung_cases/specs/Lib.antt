pub mod Setting
pub mod Asked
pub mod Cases

pub mod Bound
pub mod Once

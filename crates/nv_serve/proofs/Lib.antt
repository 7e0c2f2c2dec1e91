pub mod Endings
pub mod Lengths
pub mod Opened
pub mod Outputs
pub mod Traced

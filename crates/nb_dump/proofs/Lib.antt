pub mod Gaps
pub mod Scripts

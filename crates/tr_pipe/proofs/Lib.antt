pub mod Acts
pub mod Plain
pub mod Progress
pub mod Runs
pub mod Steps

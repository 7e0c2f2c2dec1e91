pub mod Fits
pub mod Short
mod Steps

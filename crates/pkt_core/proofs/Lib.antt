pub mod Conditions
pub mod Normal
pub mod Only

mod Counted
mod Fronts
mod Runs
pub mod Told

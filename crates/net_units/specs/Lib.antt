pub mod Build
pub mod Counts
pub mod Keys
pub mod OneUnit
pub mod Units

pub mod Touched
pub mod Units
pub mod inner

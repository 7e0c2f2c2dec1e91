pub mod Back
pub mod Held
pub mod inner

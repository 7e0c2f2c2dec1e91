pub mod Tested
pub mod inner

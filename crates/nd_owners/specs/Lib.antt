pub mod Owners
pub mod inner

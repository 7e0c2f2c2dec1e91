pub mod Dnats
pub mod inner

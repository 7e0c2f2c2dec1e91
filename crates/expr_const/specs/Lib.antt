pub mod Constant
pub mod inner

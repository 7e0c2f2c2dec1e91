pub mod Microflow
pub mod inner

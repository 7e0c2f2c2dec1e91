pub mod Commands
pub mod Fault
pub mod Words
pub mod inner

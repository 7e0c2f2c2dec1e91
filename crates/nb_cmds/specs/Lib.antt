pub mod Lines
pub mod Microflows
pub mod Queries
pub mod inner
pub mod Tasks

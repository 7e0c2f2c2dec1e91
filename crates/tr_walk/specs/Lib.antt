pub mod Events
pub mod Machine
pub mod Reads
pub mod Refined
pub mod Runnable
pub mod inner

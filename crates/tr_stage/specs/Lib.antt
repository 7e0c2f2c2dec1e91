pub mod Ending
pub mod Machine
pub mod Part
pub mod Runnable
pub mod inner

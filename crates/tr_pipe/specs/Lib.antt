pub mod Learning
pub mod Machine
pub mod Runnable
pub mod Tracking
pub mod Translating
pub mod inner

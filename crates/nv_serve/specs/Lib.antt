pub mod Ends
pub mod Output
pub mod Run
pub mod Traced
pub mod inner

pub mod Calls
pub mod Ends
pub mod Lines
pub mod Opening
pub mod Status
pub mod inner

pub mod Any
pub mod Attached
pub mod First
pub mod Sound

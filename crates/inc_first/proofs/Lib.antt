pub mod Ordered
pub mod Following
pub mod Marked

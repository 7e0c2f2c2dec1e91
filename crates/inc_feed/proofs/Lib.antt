pub mod Fed
pub mod Sorted

pub mod Counts
pub mod Edge
pub mod Feed
pub mod Passed
pub mod State
pub mod Store
pub mod Writing

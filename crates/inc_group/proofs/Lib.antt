pub mod Following
pub mod Grouped
pub mod Merged
pub mod Moved
pub mod Put
pub mod Regrouped

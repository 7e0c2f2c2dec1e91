pub mod Counts
pub mod LineWords
pub mod Small
pub mod Splits
pub mod Utf8

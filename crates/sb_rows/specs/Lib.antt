pub mod Listing
pub mod Match
pub mod Row
pub mod inner

pub mod Gone
pub mod Undone
pub mod inner

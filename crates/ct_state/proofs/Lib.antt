pub mod Undone
pub mod Unlearnt

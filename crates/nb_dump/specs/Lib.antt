pub mod Dump
pub mod Edits
pub mod inner

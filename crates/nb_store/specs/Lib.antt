pub mod Places
pub mod Touched
pub mod Undo
pub mod inner

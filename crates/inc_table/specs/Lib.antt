pub mod Delta
pub mod Maker
pub mod Nested
pub mod Node
pub mod inner

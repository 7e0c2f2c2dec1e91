pub mod Members
pub mod Router
pub mod inner

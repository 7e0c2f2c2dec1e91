pub mod First
pub mod inner

pub mod Work
pub mod inner

pub mod Options
pub mod inner

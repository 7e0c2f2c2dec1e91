pub mod Unknown
pub mod inner

pub mod Hops
pub mod inner

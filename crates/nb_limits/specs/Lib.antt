pub mod Ceilings
pub mod Limitless
pub mod inner

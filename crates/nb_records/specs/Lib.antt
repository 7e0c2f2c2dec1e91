pub mod Longer
pub mod Refusal
pub mod Tags
pub mod inner

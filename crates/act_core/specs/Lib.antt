pub mod Text
pub mod WellFormed
pub mod inner

pub mod Group
pub mod inner

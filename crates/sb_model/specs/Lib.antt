pub mod Make
pub mod Stage
pub mod inner

pub mod Swapped
pub mod Table
pub mod inner

pub mod Changes
pub mod Entry
pub mod Look
pub mod Neighbours
pub mod State
pub mod Translation
pub mod inner

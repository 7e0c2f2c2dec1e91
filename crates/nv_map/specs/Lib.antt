pub mod Map
pub mod Node
pub mod inner

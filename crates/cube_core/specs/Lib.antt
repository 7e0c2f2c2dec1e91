pub mod Cube
pub mod Comparison
pub mod Limit
pub mod Cubes
pub mod inner

pub mod Fed
pub mod Picked
pub mod Stay
pub mod Told

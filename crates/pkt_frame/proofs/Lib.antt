pub mod FrameTrips
pub mod HeaderTrips
pub mod Shapes

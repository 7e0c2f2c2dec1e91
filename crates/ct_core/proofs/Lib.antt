pub mod Changed
pub mod Found
pub mod Learnt
pub mod Ports
pub mod Positions

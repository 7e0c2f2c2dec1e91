pub mod Balancers
pub mod Input
pub mod Make
pub mod Nat
pub mod Neighbours
pub mod Routes
pub mod inner

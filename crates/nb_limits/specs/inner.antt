-- What private contracts and proofs cite. No clause of a public call does, so a reader need not believe it.
pub mod Across
pub mod Attached
pub mod GroupSwitches
pub mod KnownAfter
pub mod NeighboursAfter
pub mod Weights
pub mod Within

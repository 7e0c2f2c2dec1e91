-- What private contracts and proofs cite. No clause of a public call does, so a reader need not believe it.
pub mod Blocks
pub mod Exact
pub mod OneMore

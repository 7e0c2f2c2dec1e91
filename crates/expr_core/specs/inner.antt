-- What private contracts and proofs cite. No clause of a public call does, so a reader need not believe it.
pub mod EqualLaws
pub mod EqualParts
pub mod Exact
pub mod FormulaCode
pub mod Halves
pub mod Sizes
pub mod TreeFalls

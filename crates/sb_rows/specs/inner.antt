-- What private contracts and proofs cite. No clause of a public call does, so a reader need not believe it.
pub mod Asks
pub mod Beside
pub mod ByText
pub mod Exact
pub mod Filled
pub mod Index
pub mod OfDatapath
pub mod Own
pub mod Places
pub mod Plain
pub mod Store
pub mod Tables
pub mod Told

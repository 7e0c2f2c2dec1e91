-- What private contracts, ghost members and proofs cite. No clause of a public call does, so a reader need not believe it.
pub mod Held
pub mod Listed
pub mod Only
pub mod Peers

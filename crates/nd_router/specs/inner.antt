-- What private contracts and proofs cite. The clauses of the public calls cite none of it.
pub mod Externals
pub mod Made

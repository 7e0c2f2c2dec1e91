-- What private contracts and proofs cite. The clauses of the public calls cite none of it.
pub mod Acls
pub mod Routes

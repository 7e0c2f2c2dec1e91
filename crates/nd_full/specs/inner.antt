-- What private contracts and proofs cite. The clauses of the public call cite none of it.
pub mod Between
pub mod Made
pub mod Owners

-- What private contracts and proofs cite. No clause of a public call does, so a reader need not believe it.
pub mod Answers

-- What private contracts cite. No clause of a public call does.
pub mod Passed

pub mod Operands
pub mod Passed

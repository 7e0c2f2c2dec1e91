pub mod Apart
pub mod Operands
pub mod Opposites

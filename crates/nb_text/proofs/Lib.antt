pub mod Appends
mod Backends
pub mod Quoted
pub mod Lines

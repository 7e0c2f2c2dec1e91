pub mod Bytes
pub mod Checksum
pub mod Read
pub mod Written

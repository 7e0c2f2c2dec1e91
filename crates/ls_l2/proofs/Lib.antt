pub mod Macs
pub mod Said

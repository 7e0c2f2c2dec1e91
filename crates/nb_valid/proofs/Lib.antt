pub mod Members
pub mod Vips

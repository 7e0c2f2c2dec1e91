pub mod Alike
pub mod OnList
pub mod There

pub mod Staying
pub mod WrittenBack

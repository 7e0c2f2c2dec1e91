pub mod Lists
pub mod Names
pub mod Pairs
pub mod Powers

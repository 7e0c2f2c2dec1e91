pub mod Keywords
pub mod Lists
pub mod Readings
pub mod Then
pub mod inner

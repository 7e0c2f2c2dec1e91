pub mod Build
pub mod Network
pub mod Units
pub mod Words

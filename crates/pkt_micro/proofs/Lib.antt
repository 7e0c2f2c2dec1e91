pub mod Fitting
pub mod Holding
pub mod Judged
pub mod Lists
pub mod Told

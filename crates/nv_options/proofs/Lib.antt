pub mod Below
pub mod Generate
pub mod Results
pub mod Values

pub mod Agree
pub mod All
pub mod Applied
pub mod Between
pub mod Sound
pub mod Unguarded

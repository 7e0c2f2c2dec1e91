pub mod Broadcast
pub mod Said

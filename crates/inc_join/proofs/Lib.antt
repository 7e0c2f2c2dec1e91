pub mod Following
pub mod Joined
pub mod Rejoined

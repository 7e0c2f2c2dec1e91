pub mod Packet
pub mod Prerequisite
pub mod Replies
pub mod Text
pub mod Tuple
pub mod inner

pub mod Changes
pub mod Members
pub mod Parted
pub mod Rising
pub mod Split
pub mod Undone
pub mod Values

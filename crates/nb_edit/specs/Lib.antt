pub mod Call
pub mod Commands
pub mod Edits
pub mod Forms
pub mod Keywords

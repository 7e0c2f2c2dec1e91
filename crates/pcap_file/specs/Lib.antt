pub mod Header
pub mod Numbers
pub mod Records

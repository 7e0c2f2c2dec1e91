pub mod All
pub mod Among
pub mod External
pub mod Same

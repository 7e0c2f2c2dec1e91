pub mod Edited
pub mod Going
pub mod Moves
pub mod Numbers
pub mod PortMoves
pub mod RouterMoves
pub mod RouterPortMoves
pub mod Undone

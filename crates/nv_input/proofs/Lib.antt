pub mod Conversing
pub mod Cuts
pub mod Ends
pub mod Kept
pub mod Pieces
pub mod Splits
pub mod StateAfter

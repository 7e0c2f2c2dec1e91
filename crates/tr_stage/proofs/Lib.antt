pub mod Blocks
pub mod Found
pub mod PacketRuns
pub mod Parts
pub mod Runs

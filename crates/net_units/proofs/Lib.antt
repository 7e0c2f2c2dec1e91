pub mod ByKind
pub mod Counting
pub mod Distinct
pub mod OnRouters
pub mod OnSwitches
pub mod Once
pub mod OneUnit
pub mod Unchanged

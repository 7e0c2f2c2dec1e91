pub mod Facts
pub mod Same
pub mod Stages

pub mod MatchMeaning
pub mod Relation
pub mod inner

-- What a source and a sink tell of themselves, in clauses alone.
use Rattle.std.specs.Prelude.{ℕ, List, Option}

-- a source: the bytes still to come, where it tells them; how many bytes it gave; how many takes there were, and how many of them failed
pub record SourceState : Type 0 where
  pub left : Option (List ℕ)
  pub given : ℕ
  pub takes : ℕ
  pub faults : ℕ

-- a sink: the bytes that it took, where it tells them; how many they are; how many puts there were, and how many of them failed
pub record SinkState : Type 0 where
  pub taken : Option (List ℕ)
  pub amount : ℕ
  pub puts : ℕ
  pub faults : ℕ

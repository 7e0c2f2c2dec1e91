-- The list so far, and what is left to say.
use Rattle.std.proofs.Common.{◌≡◌, ℕ, List, ◌++◌, drop}
use Rattle.std.specs.List.{flat_map}
use Rattle.expr_core.specs.Formula.{Formula, formulas}
use Rattle.expr_core.specs.declared.typed.TypedAtom.{TypedAtom}
use Rattle.pkt_micro.specs.Microflow.{all_said}
use Rattle.pkt_micro.specs.declared.equality.Equality.{Equality}
use Rattle.pkt_micro.specs.inner.Listed.{after}

-- what the items that are left make, after what is there, is what all make
abbrev pub FlatLeft : {A B : Type 0} → (A → List B) → List A → List B → List B → ℕ → Type 0
FlatLeft f xs start list i = list ++ flat_map f (drop i xs) ≡ start ++ flat_map f xs

-- what the operands that are left say, after what is there, is what all say
abbrev pub SaidLeft : List Equality → List (Formula TypedAtom) → List Equality → ℕ → Type 0
SaidLeft start fs list i = after list (all_said (formulas (drop i fs))) ≡ after start (all_said (formulas fs))

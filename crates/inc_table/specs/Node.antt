-- What a node keeps, and what a change of it makes.
use Rattle.std.specs.Prelude.{◌≡◌, ℕ, Bool, true, false, nat_lt, List, [], ◌∷◌, map, length, count_by, if◌then◌else◌}
use Rattle.std.specs.declared.cmp.Ordering.{Ordering}
use Rattle.inc_table.specs.declared.delta.Change.{Change}
use Rattle.inc_table.specs.declared.delta.Change.TheVariants.{Put, Gone}
use Rattle.inc_table.specs.declared.node.NodeState.{NodeState}
use Rattle.inc_table.specs.Delta.{IsApplied}

-- a node of units: their inputs, their outputs, whether these are to be relied on, and what makes them
pub record Node (K I O M : Type 0) : Type 0 where
  pub inputs : List (K × I)
  pub table : List (K × O)
  pub state : NodeState
  pub maker : M

-- the output of each input
abbrev pub outputs_of : {K I O : Type 0} → (K → I → O) → List (K × I) → List (K × O)
outputs_of out_of inputs = map (λ e. (e.0, out_of e.0 e.1)) inputs

-- whether a change puts a value
abbrev pub is_put : {V : Type 0} → Change V → Bool
is_put (Put value) = true
is_put Gone = false

-- how many outputs a delta makes: one for each value put; where it has more keys than this, one for each input
abbrev pub made_by : {K I : Type 0} → ℕ → List (K × Change I) → List (K × I) → ℕ
made_by fall delta inputs = if nat_lt fall (length delta) then length inputs else count_by (λ change. is_put change.1) delta

-- a node that has taken these deltas, one after the other, each as a change of a fresh one is
abbrev pub Follows : {K I O M : Type 0} → (K → K → Ordering) → (K → I → O) → List (List (K × Change I)) → Node K I O M → Node K I O M → Type 0
Follows cmp out_of [] old new = old ≡ new
Follows {K} {I} {O} {M} cmp out_of (delta ∷ deltas) old new = (next : Node K I O M) × IsApplied cmp delta old.inputs next.inputs × (next.table ≡ outputs_of out_of next.inputs) × Follows cmp out_of deltas next new

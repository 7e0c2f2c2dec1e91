-- The marks of a node that keeps first members: at each group the keys of its members.
use Rattle.std.specs.Prelude.{◌≡◌, ◌&&◌, List, Option, None, Some, true, is_some, option_and_then, if◌then◌else◌}
use Rattle.std.specs.Option.{option_map}
use Rattle.std.specs.Ordering.{is_eq}
use Rattle.std.specs.declared.cmp.Ordering.{Ordering}
use Rattle.nv_map.specs.Map.{KeysRise, first_entry, value_at}
use Rattle.inc_table.specs.declared.delta.Change.{Change}
use Rattle.inc_table.specs.Delta.{left_by}
use Rattle.inc_table.specs.Nested.{value_in}
use Rattle.inc_group.specs.Group.{among}
use Rattle.inc_group.specs.inner.Moves.{member_in}

-- a mark, where there is a value
abbrev pub mark_of : {V : Type 0} → Option V → Option (Unit {0})
mark_of value = option_map (λ v. tt) value

module _ {K V G : Type 0} (inner : K → K → Ordering) (outer : G → G → Ordering) (groups_of : K → V → List G) where
  -- each group has a mark at the key of each of its members, and at no other
  abbrev pub AreMarked : List (K × V) → List (G × List (K × Unit {0})) → Type 0
  AreMarked inputs marks = (group : G) (key : K) → value_in outer inner group key marks ≡ mark_of (member_in outer groups_of group key (value_at inner key inputs))

module _ {K G : Type 0} (inner : K → K → Ordering) (outer : G → G → Ordering) where
  -- in each of these groups the mark at a key is changed; all else is as it was
  abbrev pub IsMarkedAt : List G → K × Change (Unit {0}) → List (G × List (K × Unit {0})) → List (G × List (K × Unit {0})) → Type 0
  IsMarkedAt groups change old new = (group : G) (key : K) → value_in outer inner group key new ≡ (if is_eq (inner change.0 key) && among outer group groups then left_by change.1 else value_in outer inner group key old)

  -- groups that are not among the touched ones have the marks that they had
  abbrev pub KeepsOthers : List (G × Unit {0}) → List (G × List (K × Unit {0})) → List (G × List (K × Unit {0})) → Type 0
  KeepsOthers touched old new = (group : G) (key : K) → value_at outer group touched ≡ None → value_in outer inner group key new ≡ value_in outer inner group key old

  -- the marks of each of the touched groups rise by key
  abbrev pub Rises : Option (List (K × Unit {0})) → Type 0
  Rises None = Unit {0}
  Rises (Some marks) = KeysRise inner marks

  abbrev pub MarksRise : List (G × Unit {0}) → List (G × List (K × Unit {0})) → Type 0
  MarksRise touched marks = (group : G) → is_some (value_at outer group touched) ≡ true → Rises (value_at outer group marks)

-- these groups are touched too
abbrev pub IsTouched : {G : Type 0} → (G → G → Ordering) → List G → List (G × Unit {0}) → List (G × Unit {0}) → Type 0
IsTouched {G} outer groups old new = (group : G) → value_at outer group new ≡ (if among outer group groups then Some tt else value_at outer group old)

-- the first key that a group has a mark at
abbrev pub first_mark : {K G : Type 0} → (G → G → Ordering) → G → List (G × List (K × Unit {0})) → Option K
first_mark outer group marks = option_and_then (λ keys. option_map (λ e. e.0) (first_entry keys)) (value_at outer group marks)

-- each of the touched groups has the first key that it has a mark at; all others have what they had
abbrev pub IsUpdated : {K G : Type 0} → (G → G → Ordering) → List (G × List (K × Unit {0})) → List (G × Unit {0}) → List (G × K) → List (G × K) → Type 0
IsUpdated {K} {G} outer marks touched old new = (group : G) → value_at outer group new ≡ (if is_some (value_at outer group touched) then first_mark outer group marks else value_at outer group old)

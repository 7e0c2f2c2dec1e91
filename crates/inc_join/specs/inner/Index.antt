-- The index of a join: at each right key the left keys that name it.
use Rattle.std.specs.Prelude.{◌≡◌, List, Option, Some, false, is_some, option_and_then, if◌then◌else◌}
use Rattle.std.specs.Option.{option_map}
use Rattle.std.specs.Ordering.{is_eq}
use Rattle.std.specs.declared.cmp.Ordering.{Ordering}
use Rattle.nv_map.specs.Map.{value_at}
use Rattle.inc_table.specs.Nested.{value_in}

-- the right key that a left entry names, where there is one
abbrev pub named_at : {L Q R : Type 0} → (L → Option Q) → Option (L × Option R) → Option Q
named_at link_of entry = option_and_then (λ e. link_of e.0) entry

-- each left key is in the index under the right key that it names
abbrev pub IsIndexed : {K L Q R : Type 0} → (K → K → Ordering) → (Q → Q → Ordering) → (L → Option Q) → List (K × (L × Option R)) → List (Q × List (K × Unit {0})) → Type 0
IsIndexed {K} {L} {Q} {R} inner outer link_of table index = (key : K) (right : Q) → named_at link_of (value_at inner key table) ≡ Some right → value_in outer inner right key index ≡ Some tt

-- the index has at other left keys what it had
abbrev pub KeepsOthers : {K Q : Type 0} → (K → K → Ordering) → (Q → Q → Ordering) → K → List (Q × List (K × Unit {0})) → List (Q × List (K × Unit {0})) → Type 0
KeepsOthers {K} {Q} inner outer key old new = (other : K) (right : Q) → is_eq (inner key other) ≡ false → value_in outer inner right other new ≡ value_in outer inner right other old

-- each of these keys is among the others
abbrev pub Covers : {K : Type 0} → (K → K → Ordering) → List (K × Unit {0}) → List (K × Unit {0}) → Type 0
Covers {K} cmp keys others = (key : K) → value_at cmp key keys ≡ Some tt → value_at cmp key others ≡ Some tt

-- each left key that the index has under a right key is among these
abbrev pub IsTouched : {K Q : Type 0} → (K → K → Ordering) → (Q → Q → Ordering) → List (Q × List (K × Unit {0})) → List (K × Unit {0}) → Q → Type 0
IsTouched {K} {Q} inner outer index touched right = (key : K) → value_in outer inner right key index ≡ Some tt → value_at inner key touched ≡ Some tt

-- a left value joined anew
abbrev pub again_at : {L R : Type 0} → (L → L × Option R) → Option (L × Option R) → Option (L × Option R)
again_at join entry = option_map (λ e. join e.0) entry

-- the left values at these keys are joined anew, and the others are as they were
abbrev pub IsRejoined : {K L R : Type 0} → (K → K → Ordering) → (L → L × Option R) → List (K × Unit {0}) → List (K × (L × Option R)) → List (K × (L × Option R)) → Type 0
IsRejoined {K} cmp join touched old new = (key : K) → value_at cmp key new ≡ (if is_some (value_at cmp key touched) then again_at join (value_at cmp key old) else value_at cmp key old)

-- The texts of lists of actions, and what such texts begin with.
use Rattle.std.specs.Prelude.{◌≡◌, ◌≤◌, ◌<◌, ◌+◌, ℕ, true, List, ◌++◌, length, take}
use Rattle.act_core.specs.Text.{actions_text}
use Rattle.act_core.specs.WellFormed.{is_well_formed}
use Rattle.act_core.specs.declared.action.Action.{Action}
use Rattle.act_parse.specs.declared.fault.ActionFault.{ActionFault}
use Rattle.act_parse.specs.declared.fault.ActionFault.TheVariants.{Syntax, Memory}

-- The text is what is written of this list, which is well-formed.
abbrev pub IsTextOf : List Action → List ℕ → Type 0
IsTextOf list text = (is_well_formed list ≡ true) × (actions_text list ≡ text)

-- The text of some well-formed list begins with these bytes.
abbrev pub IsFront : List ℕ → Type 0
IsFront before = (list : List Action) × (rest : List ℕ) × IsTextOf list (before ++ rest)

-- The text is no list's. What is before the place is the front of some list's text, and with one byte more it is none.
abbrev pub FaultsAt : List ℕ → ℕ → Type 0
FaultsAt text place =
    ((list : List Action) → IsTextOf list text → ⊥)
    × (place ≤ length text)
    × IsFront (take place text)
    × (place < length text → IsFront (take (place + 1) text) → ⊥)

-- This list, and no other, is the text's.
abbrev pub IsOnlyList : List ℕ → List Action → Type 0
IsOnlyList text list = IsTextOf list text × ((other : List Action) → IsTextOf other text → other ≡ list)

-- The fault is at the end of the longest front that some list's text has in common with the text, unless memory ran out.
abbrev pub IsFaultOf : List ℕ → ActionFault → Type 0
IsFaultOf text (Syntax place) = FaultsAt text place
IsFaultOf text Memory = Unit {0}

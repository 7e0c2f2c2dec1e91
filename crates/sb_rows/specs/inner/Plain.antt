-- What a match asks, as it tells it by itself: matches that are equal ask the same.
use Rattle.std.specs.Prelude.{◌≡◌, ◌⊎◌, ◌==◌, ◌-◌, ℕ, Bool, false, List, [], ◌∷◌, Option, Some, None, bit_and, bit_or, count_ones, if◌then◌else◌, nat_lt}
use Rattle.nv_base.specs.Field.{field_number, field_width}
use Rattle.nv_base.specs.declared.field.Field.{Field}
use Rattle.nv_base.specs.declared.field.Field.TheVariants.{Inport, Outport}
use Rattle.expr_core.specs.Formula.{Formula, Formulas}
use Rattle.expr_core.specs.Formula.Formula.{Leaf, And}
use Rattle.expr_core.specs.Formula.Formulas.{Nil, Cons}
use Rattle.expr_core.specs.Width.{mask_of}
use Rattle.expr_core.specs.declared.comparison.Item.{Item}
use Rattle.expr_core.specs.declared.comparison.Item.TheVariants as item
use Rattle.expr_core.specs.declared.comparison.Rel.{Rel}
use Rattle.expr_core.specs.declared.comparison.Rel.TheVariants.{Eq}
use Rattle.expr_core.specs.declared.comparison.Right.{Right}
use Rattle.expr_core.specs.declared.comparison.Right.TheVariants as right_of
use Rattle.expr_core.specs.declared.part.Bits.{Bits}
use Rattle.expr_core.specs.declared.part.Bits.TheVariants.{Whole}
use Rattle.expr_core.specs.declared.typed.TypedAtom.{TypedAtom}
use Rattle.expr_core.specs.declared.typed.TypedAtom.TheVariants.{Compare}
use Rattle.sb_rows.specs.declared.asks.Asked.{Asked}
use Rattle.sb_rows.specs.declared.asks.Asks.{Asks}
use Rattle.sb_rows.specs.declared.asks.Called.{Called}
use Rattle.sb_rows.specs.declared.asks.Part.{Part}
use Rattle.sb_rows.specs.declared.asks.Part.TheVariants.{Anything, Number, Masked}
use Rattle.sb_rows.specs.declared.asks.Side.{Side}
use Rattle.sb_rows.specs.declared.asks.Side.TheVariants.{In, Out}
use Rattle.sb_rows.specs.inner.Asks.{low, name_bucket}

-- the port whose name is asked for, with the name and the bucket of this, and the three numbers
pub record Plain : Type 0 where
  pub port : Option (Side × (List ℕ × ℕ))
  pub first : Asked
  pub second : Asked
  pub third : Asked

abbrev pub plain_port : Option (Side × Called) → Option (Side × (List ℕ × ℕ))
plain_port None = None
plain_port (Some port) = Some (port.0, (port.1.name.now, port.1.bucket))

-- what is asked, with the name in the place of a reference to it
abbrev pub plain : Asks → Plain
plain asks = record { port = plain_port asks.port; first = asks.first; second = asks.second; third = asks.third }

-- nothing
abbrev pub no_number : Asked
no_number = record { part = Anything; number = 0 }

abbrev pub nothing_asked : Plain
nothing_asked = record { port = None; first = no_number; second = no_number; third = no_number }

-- without the second and the third number
abbrev pub short_of : Plain → Plain
short_of p = record { port = p.port; first = p.first; second = no_number; third = no_number }

-- how many bits are asked
abbrev pub part_width : Part → ℕ
part_width Anything = 0
part_width (Number field) = field_width field
part_width (Masked field mask) = count_ones mask

-- with a number, where it has more bits than another
unfoldable pub number_asked : Asked → Plain → Plain
number_asked asked p =
    if nat_lt (part_width p.first.part) (part_width asked.part) then record { port = p.port; first = asked; second = p.first; third = p.second }
    else (if nat_lt (part_width p.second.part) (part_width asked.part) then record { port = p.port; first = p.first; second = asked; third = p.second }
    else (if nat_lt (part_width p.third.part) (part_width asked.part) then record { port = p.port; first = p.first; second = p.second; third = asked } else p))

-- whether the bits of a mask are the first of 32, and not none
unfoldable pub is_front : ℕ → Bool
is_front mask = if mask == 0 then false else (if nat_lt 4294967295 mask then false else bit_or mask (mask - 1) == 4294967295)

-- with the bits of a mask
unfoldable pub masked_asked : Field → ℕ → ℕ → Plain → Plain
masked_asked field base mask p = if is_front mask then number_asked (record { part = Masked field mask; number = low (bit_and base mask) }) p else p

abbrev pub named : Option (Side × (List ℕ × ℕ)) → Side → List ℕ → Option (Side × (List ℕ × ℕ))
named None side name = Some (side, (name, name_bucket name))
named (Some port) side name = Some port

-- with the name of a port, where none is asked for yet
unfoldable pub name_asked : Side → List ℕ → Plain → Plain
name_asked side name p = record { port = named p.port side name; first = p.first; second = p.second; third = p.third }

-- the port whose field has a number
abbrev pub side_by : ℕ → Option Side
side_by number = if number == field_number Inport then Some In else (if number == field_number Outport then Some Out else None)

abbrev pub port_asked : Option Side → List ℕ → Plain → Plain
port_asked None name p = p
port_asked (Some side) name p = name_asked side name p

-- with an item that a field equals
unfoldable pub item_asked : Field → Item → Plain → Plain
item_asked field (item.One c) p = number_asked (record { part = Number field; number = low c.value }) p
item_asked field (item.Masked c m) p = masked_asked field c.value (mask_of c m) p
item_asked field (item.Text name) p = port_asked (side_by (field_number field)) name p
item_asked field (item.AddrSet name) p = p
item_asked field (item.Group name) p = p

abbrev pub set_asked : Field → List Item → Plain → Plain
set_asked field [] p = p
set_asked field (i ∷ []) p = item_asked field i p
set_asked field (i ∷ j ∷ rest) p = p

unfoldable pub right_asked : Field → Right → Plain → Plain
right_asked field (right_of.Item i) p = item_asked field i p
right_asked field (right_of.Set items) p = set_asked field items p

unfoldable pub comparison_asked : Field → Bits → Rel → Right → Plain → Plain
comparison_asked field Whole Eq right p = right_asked field right p
comparison_asked field bits rel right p = p

unfoldable pub atom_asked : TypedAtom → Plain → Plain
atom_asked (Compare field bits rel right) p = comparison_asked field bits rel right p
atom_asked atom p = p

-- with a match without operators
abbrev pub plain_asked : Formula TypedAtom → Plain → Plain
plain_asked (Leaf atom) p = atom_asked atom p
plain_asked other p = p

-- with operands of a conjunction, those without operators
abbrev pub plain_ones_asked : Formulas TypedAtom → Plain → Plain
plain_ones_asked Nil p = p
plain_ones_asked (Cons f fs) p = plain_ones_asked fs (plain_asked f p)

-- with an operand
abbrev pub operand_asked : Formula TypedAtom → Plain → Plain
operand_asked (And fs) p = plain_ones_asked fs p
operand_asked other p = plain_asked other p

-- with operands of a conjunction
abbrev pub operands_asked : Formulas TypedAtom → Plain → Plain
operands_asked Nil p = p
operands_asked (Cons f fs) p = operands_asked fs (operand_asked f p)

-- with a match
abbrev pub match_asked : Formula TypedAtom → Plain → Plain
match_asked (And fs) p = operands_asked fs p
match_asked other p = plain_asked other p

-- what a match asks
abbrev pub asked_by : Formula TypedAtom → Plain
asked_by matching = match_asked matching nothing_asked

-- what is asked is what a match asks, in short or at length
abbrev pub IsOf : Formula TypedAtom → Plain → Type 0
IsOf matching asks = (asks ≡ asked_by matching) ⊎ (asks ≡ short_of (asked_by matching))

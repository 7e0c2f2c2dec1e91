-- The type rules of matches.
use Rattle.std.specs.Prelude.{ℕ, ◌^◌, ◌==◌, Bool, true, false, not, ◌&&◌, ◌||◌, nat_lt, nat_le, Option, Some, None, if◌then◌else◌}
use Rattle.std.specs.List.{list_all}
use Rattle.nv_base.specs.declared.field.Field.{Field}
use Rattle.nv_base.specs.declared.field.Field.TheVariants.{Outport}
use Rattle.nv_base.specs.declared.field.Prerequisite.{Prerequisite}
use Rattle.nv_base.specs.declared.field.Prerequisite.TheVariants.{IcmpError}
use Rattle.nv_base.specs.declared.field.Printed.{Printed}
use Rattle.nv_base.specs.declared.field.Printed.TheVariants.{PortName}
use Rattle.nv_base.specs.Field.{field_width, field_printed, field_prerequisite, is_header}
use Rattle.expr_core.specs.declared.constant.Const.{Const}
use Rattle.expr_core.specs.declared.comparison.Item.{Item}
use Rattle.expr_core.specs.declared.comparison.Item.TheVariants.{One, Masked, Text, AddrSet, Group}
use Rattle.expr_core.specs.declared.comparison.Rel.{Rel}
use Rattle.expr_core.specs.declared.comparison.Rel.TheVariants.{Eq, Ne}
use Rattle.expr_core.specs.declared.comparison.Right.{Right}
use Rattle.expr_core.specs.declared.comparison.Right.TheVariants as right_of
use Rattle.expr_core.specs.declared.part.Bits.{Bits}
use Rattle.expr_core.specs.declared.part.Bits.TheVariants.{Whole, Bit, Range}
use Rattle.expr_core.specs.declared.predicate.Pred.{Pred}
use Rattle.expr_core.specs.declared.predicate.Pred.TheVariants.{CtNew, CtEst, CtRel, CtRpl, CtInv, CtTrk}
use Rattle.expr_core.specs.Width.{part_width, is_prefix}
use Rattle.expr_core.specs.declared.role.Role.{Role}
use Rattle.expr_core.specs.declared.role.Role.TheVariants.{Row, AclFrom, AclTo, Micro}
use Rattle.expr_core.specs.declared.subject.Subject.{Subject}
use Rattle.expr_core.specs.declared.subject.Subject.TheVariants as subject

-- What may be asked for in a role.

-- numbers of ports, which a match writes by their names
abbrev pub are_ports : Printed → Bool
are_ports PortName = true
are_ports _ = false

-- a port's field: `inport` and `outport`
abbrev pub is_port : Field → Bool
is_port f = are_ports (field_printed f)

abbrev pub is_outport : Field → Bool
is_outport Outport = true
is_outport _ = false

-- a field that a packet has on its way alone: the loopback flag, the connection's fields and the registers
abbrev pub is_internal : Field → Bool
is_internal f = not (is_header f) && not (is_port f)

-- what an ICMP error alone has
abbrev pub is_of_error : Prerequisite → Bool
is_of_error IcmpError = true
is_of_error _ = false

-- of an ICMP error, what it says of the packet that it is about
abbrev pub is_quote : Field → Bool
is_quote f = is_of_error (field_prerequisite f)

-- a predicate of the connection
abbrev pub is_of_connection : Pred → Bool
is_of_connection CtNew = true
is_of_connection CtEst = true
is_of_connection CtRel = true
is_of_connection CtRpl = true
is_of_connection CtInv = true
is_of_connection CtTrk = true
is_of_connection _ = false

-- A row may ask for anything. An ACL and a microflow may not ask for what a packet has on its way alone; an ACL not for
-- quotes; and where the port to go out by is not known yet, not for it.
abbrev pub is_allowed_field : Role → Field → Bool
is_allowed_field Row f = true
is_allowed_field AclFrom f = not (is_internal f) && not (is_outport f) && not (is_quote f)
is_allowed_field AclTo f = not (is_internal f) && not (is_quote f)
is_allowed_field Micro f = not (is_internal f) && not (is_outport f)

abbrev pub is_allowed_predicate : Role → Pred → Bool
is_allowed_predicate Row p = true
is_allowed_predicate AclFrom p = not (is_of_connection p)
is_allowed_predicate AclTo p = not (is_of_connection p)
is_allowed_predicate Micro p = not (is_of_connection p)

abbrev pub is_allowed : Role → Subject → Bool
is_allowed role (subject.Field f) = is_allowed_field role f
is_allowed role (subject.Pred p) = is_allowed_predicate role p

-- Widths. A predicate has none, and then only what needs none is tested.

abbrev pub width_of : Subject → Option ℕ
width_of (subject.Field f) = Some (field_width f)
width_of (subject.Pred p) = None

-- below the width, where there is one
abbrev pub is_below : Option ℕ → ℕ → Bool
is_below None n = true
is_below (Some width) n = nat_lt n width

-- the bits are bits of the field, and a range does not fall
abbrev pub bits_fit : Option ℕ → Bits → Bool
bits_fit width Whole = true
bits_fit width (Bit n) = is_below width n
bits_fit width (Range first last) = nat_le first last && is_below width last

-- below 2 to the power of the part's bits, where its field has a width
abbrev pub number_fits : Option ℕ → Bits → ℕ → Bool
number_fits None bits n = true
number_fits (Some width) bits n = nat_lt n (2 ^ part_width bits width)

-- the length of a prefix is at most 32, and a mask fits as a number does
abbrev pub mask_fits : Option ℕ → Bits → Const → Const → Bool
mask_fits width bits base mask = if is_prefix base mask then nat_le mask.value 32 else number_fits width bits mask.value

abbrev pub item_fits : Option ℕ → Bits → Item → Bool
item_fits width bits (One c) = number_fits width bits c.value
item_fits width bits (Masked c m) = number_fits width bits c.value && mask_fits width bits c m
item_fits width bits (Text name) = true
item_fits width bits (AddrSet name) = true
item_fits width bits (Group name) = true

abbrev pub right_fits : Option ℕ → Bits → Right → Bool
right_fits width bits (right_of.Item i) = item_fits width bits i
right_fits width bits (right_of.Set is) = list_all (item_fits width bits) is

-- Forms.

abbrev pub is_whole : Bits → Bool
is_whole Whole = true
is_whole _ = false

-- A part alone is a bit of a field, or a predicate. A port has no bits.
abbrev pub may_stand_alone : Subject → Bits → Bool
may_stand_alone (subject.Field f) bits = not (is_port f) && (part_width bits (field_width f) == 1)
may_stand_alone (subject.Pred p) bits = is_whole bits

abbrev pub tests_equality : Rel → Bool
tests_equality Eq = true
tests_equality Ne = true
tests_equality _ = false

-- one number without a mask
abbrev pub is_number : Right → Bool
is_number (right_of.Item (One c)) = true
is_number _ = false

-- an address set has values for a whole field of 32 or 48 bits
abbrev pub may_be_in_set : Field → Bits → Bool
may_be_in_set f bits = is_whole bits && ((field_width f == 32) || (field_width f == 48))

-- A port is compared with names and port groups; a number with numbers, masks and address sets.
abbrev pub suits : Field → Bits → Item → Bool
suits f bits (One c) = not (is_port f)
suits f bits (Masked c m) = not (is_port f)
suits f bits (Text name) = is_port f
suits f bits (AddrSet name) = not (is_port f) && may_be_in_set f bits
suits f bits (Group name) = is_port f

abbrev pub right_suits : Field → Bits → Right → Bool
right_suits f bits (right_of.Item i) = suits f bits i
right_suits f bits (right_of.Set is) = list_all (suits f bits) is

-- A field is compared for order with one number alone, and no part of a port and no predicate is compared.
abbrev pub may_be_compared : Subject → Bits → Rel → Right → Bool
may_be_compared (subject.Field f) bits rel right = (not (is_port f) || is_whole bits) && (tests_equality rel || is_number right) && right_suits f bits right
may_be_compared (subject.Pred p) bits rel right = false

-- Microflows: the match that says which packet is traced, and by which port it comes in (ovn-trace(8), the argument `microflow`). That
-- it is a conjunction of equalities, and what these may be, is not from OVN.
use Rattle.std.specs.Prelude.{ℕ, ◌==◌, Bool, true, false, not, ◌&&◌, List, [], ◌∷◌, ◌++◌, map, Option, Some, None, Result, Ok, Err, nat_eq}
use Rattle.std.specs.List.{find, flat_map, list_any}
use Rattle.std.specs.Option.{option_map, option_and_then}
use Rattle.std.specs.Cmp.Lexicographic.{pointwise}
use Rattle.nv_base.specs.Field.{field_number, field_prerequisite, all_fields}
use Rattle.nv_base.specs.declared.field.Field.{Field}
use Rattle.nv_base.specs.declared.field.Field.TheVariants.{Inport}
use Rattle.nv_base.specs.declared.field.Prerequisite.{Prerequisite}
use Rattle.nv_base.specs.declared.field.Prerequisite.TheVariants as needs
use Rattle.expr_core.specs.Formula.{Formula, Formulas}
use Rattle.expr_core.specs.Formula.Formula.{Leaf, Not, And, Or}
use Rattle.expr_core.specs.Formula.Formulas.{Nil, Cons}
use Rattle.expr_core.specs.Tests.{prerequisite_tests}
use Rattle.expr_core.specs.declared.comparison.Item.{Item}
use Rattle.expr_core.specs.declared.comparison.Item.TheVariants.{One, Text}
use Rattle.expr_core.specs.declared.comparison.Rel.TheVariants.{Eq}
use Rattle.expr_core.specs.declared.comparison.Right.TheVariants as right_of
use Rattle.expr_core.specs.declared.part.Bits.TheVariants.{Whole}
use Rattle.expr_core.specs.declared.predicate.Pred.{Pred}
use Rattle.expr_core.specs.declared.predicate.Pred.TheVariants as pred
use Rattle.expr_core.specs.declared.test.Test.{Test}
use Rattle.expr_core.specs.declared.typed.TypedAtom.{TypedAtom}
use Rattle.expr_core.specs.declared.typed.TypedAtom.TheVariants.{Truth, Holds, Compare}
use Rattle.pkt_core.specs.Packet.{Values, zero_packet, with_values}
use Rattle.pkt_micro.specs.declared.equality.Equality.{Equality}
use Rattle.pkt_micro.specs.declared.equality.Value.{Value}
use Rattle.pkt_micro.specs.declared.equality.Value.TheVariants.{Number, Port}
use Rattle.pkt_micro.specs.declared.fault.MicroFault.{MicroFault}
use Rattle.pkt_micro.specs.declared.fault.MicroFault.TheVariants.{NotConjunction, Contradiction, NoInport, Memory}
use Rattle.pkt_micro.specs.declared.microflow.Micro.{Micro}

-- What a match says, as a list of equalities: a field, and its number or, of `inport`, the name of its port.

abbrev pub equality : Field → Value → Equality
equality field value = record { field = field; value = value }

-- a test without an alternative is an equality
abbrev pub sole : List Test → List Equality
sole (t ∷ []) = equality t.field (Number t.number) ∷ []
sole _ = []

-- the equalities that a prerequisite adds; that an ICMP error is of one type or another adds none
abbrev pub implied : Prerequisite → List Equality
implied needed = flat_map sole (prerequisite_tests needed)

-- the prerequisite that a predicate names
abbrev pub prerequisite_named : Pred → Option Prerequisite
prerequisite_named pred.Ip4 = Some needs.Ip4
prerequisite_named pred.Arp = Some needs.Arp
prerequisite_named pred.Tcp = Some needs.Tcp
prerequisite_named pred.Udp = Some needs.Udp
prerequisite_named pred.Icmp4 = Some needs.Icmp4
prerequisite_named _ = None

-- a field has this value, and what it needs to be there
abbrev pub needing : Field → Value → List Equality
needing field value = implied (field_prerequisite field) ++ equality field value ∷ []

-- a whole field equals one number, or the port of a name
abbrev pub said_of : Field → Item → Option (List Equality)
said_of field (One c) = Some (needing field (Number c.value))
said_of field (Text name) = Some (needing field (Port name))
said_of field _ = None

abbrev pub said_by : TypedAtom → Option (List Equality)
said_by (Truth true) = Some []
said_by (Holds p) = option_map implied (prerequisite_named p)
said_by (Compare field Whole Eq (right_of.Item i)) = said_of field i
said_by _ = None

-- what two say, where both do
abbrev pub joined : Option (List Equality) → Option (List Equality) → Option (List Equality)
joined (Some es) (Some more) = Some (es ++ more)
joined _ _ = None

abbrev mutual
  -- what a conjunction says, nested at will; another match says nothing
  pub said : Formula TypedAtom → Option (List Equality)
  said (Leaf a) = said_by a
  said (And fs) = all_said fs
  said (Not f) = None
  said (Or fs) = None

  pub all_said : Formulas TypedAtom → Option (List Equality)
  all_said Nil = Some []
  all_said (Cons f fs) = joined (said f) (all_said fs)

-- What is wrong with it.

abbrev pub same_value : Value → Value → Bool
same_value (Number n) (Number m) = n == m
same_value (Port name) (Port other) = pointwise nat_eq name other
same_value _ _ = false

-- the equality is of this field
abbrev pub is_of : Field → Equality → Bool
is_of field e = field_number e.field == field_number field

-- the field is given another value than by this equality, its first
abbrev pub is_given_another : Field → List Equality → Option Equality → Bool
is_given_another field es None = false
is_given_another field es (Some first) = list_any (λ e. is_of field e && not (same_value first.value e.value)) es

-- the field is given two values
abbrev pub is_contradicted : List Equality → Field → Bool
is_contradicted es field = is_given_another field es (find (is_of field) es)

-- What it makes.

-- The number in the packet. That of a port comes where the port is looked up by its name, and is zero until then.
abbrev pub number_of : Value → ℕ
number_of (Number n) = n
number_of (Port name) = 0

-- the field and its number
abbrev pub numbered : Equality → Field × ℕ
numbered e = (e.field, number_of e.value)

abbrev pub name_of : Value → Option (List ℕ)
name_of (Number n) = None
name_of (Port name) = Some name

-- the port that the packet comes in by
abbrev pub port_said : List Equality → Option (List ℕ)
port_said es = option_and_then (λ e. name_of e.value) (find (is_of Inport) es)

-- the packet: zero for each field that is not given
abbrev pub packet_said : List Equality → Values
packet_said es = with_values zero_packet (map numbered es)

-- the first field that is given two values, no port, or the microflow
abbrev pub judged : List Equality → Option Field → Option (List ℕ) → Result Micro MicroFault
judged es (Some field) port = Err (Contradiction field)
judged es None None = Err NoInport
judged es None (Some name) = Ok (record { inport = name; packet = packet_said es })

abbrev pub microflow_of : Option (List Equality) → Result Micro MicroFault
microflow_of None = Err NotConjunction
microflow_of (Some es) = judged es (find (is_contradicted es) all_fields) (port_said es)

-- the microflow that the match is, or its first fault
abbrev pub microflow : Formula TypedAtom → Result Micro MicroFault
microflow t = microflow_of (said t)

-- out of memory
abbrev pub is_memory : MicroFault → Bool
is_memory Memory = true
is_memory _ = false

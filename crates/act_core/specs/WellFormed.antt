-- Which action lists are well-formed.
use Rattle.std.specs.Prelude.{ℕ, ◌^◌, Bool, true, false, ◌&&◌, ◌||◌, ◌==◌, nat_lt, nat_le, List, [], ◌∷◌, Option, Some, None, is_some, is_none}
use Rattle.std.specs.List.{list_all}
use Rattle.nv_base.specs.Field.{field_width}
use Rattle.nv_base.specs.Name.{is_quotable}
use Rattle.nv_base.specs.declared.ip4.Ip4.{Ip4}
use Rattle.expr_core.specs.Width.{part_width, limit}
use Rattle.expr_core.specs.declared.constant.Const.{Const}
use Rattle.expr_core.specs.declared.part.Bits.{Bits}
use Rattle.expr_core.specs.declared.part.Bits.TheVariants.{Whole, Bit, Range}
use Rattle.act_core.specs.declared.action.Action.{Action}
use Rattle.act_core.specs.declared.action.Action.TheVariants as action
use Rattle.act_core.specs.declared.step.Target.{Target}
use Rattle.act_core.specs.declared.step.Step.{Step}
use Rattle.act_core.specs.declared.step.Step.TheVariants.{Jump, Set, Copy, SetOutport, Exchange, CtLbTo, CtSnatTo, CtDnatTo}

-- the constant fits so many bits, and the spelling of its form
abbrev pub fits : ℕ → Const → Bool
fits width c = nat_lt c.value (2 ^ width) && nat_lt c.value (limit c.form)

-- the bits lie in a field of this width, the first of them not above the last
abbrev pub are_bits_of : ℕ → Bits → Bool
are_bits_of width Whole = true
are_bits_of width (Bit n) = nat_lt n width
are_bits_of width (Range first last) = nat_le first last && nat_lt last width

-- an address is a number of 32 bits, as its type says
abbrev pub is_address : Ip4 → Bool
is_address addr = nat_lt addr.0 (2 ^ 32)

-- a port is a number of 16 bits, as its type says
abbrev pub is_port : Option ℕ → Bool
is_port None = true
is_port (Some port) = nat_lt port (2 ^ 16)

-- a table is a number of 8 bits, as its type says
abbrev pub is_table : ℕ → Bool
is_table table = nat_lt table (2 ^ 8)

abbrev pub is_target : Target → Bool
is_target target = is_address target.addr && is_port target.port

-- all of them have ports, or none has
abbrev pub have_ports_or_none : List Target → Bool
have_ports_or_none targets = list_all (λ t. is_some t.port) targets || list_all (λ t. is_none t.port) targets

-- one or more
abbrev pub has_one : {A : Type 0} → List A → Bool
has_one [] = false
has_one (x ∷ xs) = true

-- An action without a block is well-formed: a constant fits its part, bits lie in their field, a copied field is as wide as the part
-- that it fills, exchanged fields have one width, a string may hold the name of a port, and targets have ports in all or none.
abbrev pub is_step : Step → Bool
is_step (Jump egress table) = is_table table
is_step (Set field bits constant) = are_bits_of (field_width field) bits && fits (part_width bits (field_width field)) constant
is_step (Copy field bits from) = are_bits_of (field_width field) bits && (field_width from == part_width bits (field_width field))
is_step (SetOutport name) = is_quotable name
is_step (Exchange one other) = field_width one == field_width other
is_step (CtLbTo targets) = has_one targets && list_all is_target targets && have_ports_or_none targets
is_step (CtSnatTo addr) = is_address addr
is_step (CtDnatTo addr) = is_address addr
is_step _ = true

-- a block has one action or more
abbrev pub is_block : List Step → Bool
is_block steps = has_one steps && list_all is_step steps

abbrev pub is_action : Action → Bool
is_action (action.Step step) = is_step step
is_action (action.Arp steps) = is_block steps
is_action (action.Icmp4 steps) = is_block steps
is_action (action.TcpReset steps) = is_block steps
is_action (action.Reject steps) = is_block steps

-- an action list is well-formed: each of its actions is
abbrev pub is_well_formed : List Action → Bool
is_well_formed actions = list_all is_action actions

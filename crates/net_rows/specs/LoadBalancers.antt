-- The rows of load balancing on a switch (ovn-northd(8), 'Ingress Table: LB'; priorities are not from OVN), and what those at a router share
-- with them.
use Rattle.std.specs.Prelude.{ℕ, if◌then◌else◌, List, [], ◌∷◌, map, Option, Some, None}
use Rattle.nv_base.specs.declared.field.Field.{Field}
use Rattle.nv_base.specs.declared.field.Field.TheVariants.{Ip4Dst, Reg0, TcpDst, UdpDst}
use Rattle.expr_core.specs.Formula.{Formula}
use Rattle.expr_core.specs.declared.part.Bits.TheVariants.{Bit}
use Rattle.expr_core.specs.declared.predicate.Pred.TheVariants.{CtNew}
use Rattle.expr_core.specs.declared.typed.TypedAtom.{TypedAtom}
use Rattle.act_core.specs.declared.step.Step.{Step}
use Rattle.act_core.specs.declared.step.Step.TheVariants as step
use Rattle.act_core.specs.declared.step.Target.{Target}
use Rattle.nb_records.specs.declared.balancer.Backend.{Backend}
use Rattle.nb_records.specs.declared.balancer.Proto.{Proto}
use Rattle.nb_records.specs.declared.balancer.Proto.TheVariants.{Tcp, Udp}
use Rattle.nb_model.specs.Applies.{is_empty}
use Rattle.sb_model.specs.Make.{takes_each, goes_on, is_predicate, equals, in_decimal, as_ip4, all_of, steps}
use Rattle.sb_model.specs.declared.stage.Stage.TheVariants.{LsInLb}
use Rattle.net_rows.specs.Unit.{rule}
use Rattle.net_rows.specs.declared.inputs.VipInput.{VipInput}
use Rattle.net_rows.specs.declared.rule.Rule.{Rule}

-- ---- of a VIP, at a switch or at a router

-- the destination port of a protocol
abbrev pub port_field : Proto → Field
port_field Tcp = TcpDst
port_field Udp = UdpDst

-- the port that a VIP has; one without a port takes each
abbrev pub is_to_port : Proto → Option ℕ → List (Formula TypedAtom)
is_to_port proto None = []
is_to_port proto (Some port) = equals (port_field proto) (in_decimal port) ∷ []

-- a VIP with a port comes before one without
abbrev pub priority_of_vip : Option ℕ → ℕ
priority_of_vip None = 110
priority_of_vip (Some port) = 120

-- a new connection to the VIP
abbrev pub opens : VipInput → Formula TypedAtom
opens input = all_of (is_predicate CtNew ∷ equals Ip4Dst (as_ip4 input.at.addr.0) ∷ is_to_port input.proto input.at.port)

-- a backend, as what a packet is sent to
abbrev pub target_of : Backend → Target
target_of backend = record { addr = backend.addr; port = backend.port }

-- it goes to one of the backends
abbrev pub balances_to : List Backend → Step
balances_to backends = step.CtLbTo (map target_of backends)

-- ---- at a switch

-- the rule of each switch
abbrev pub switch_lb_rules : List Rule
switch_lb_rules = rule LsInLb 0 takes_each goes_on ∷ []

-- `reg0[1] = 0`: the connection is not to be kept as it is
abbrev pub keeps_no_more : Step
keeps_no_more = step.Set Reg0 (Bit 1) (in_decimal 0)

-- a new connection to the VIP is recorded as one to one of its backends, and goes there
abbrev pub vip_switch_rule : VipInput → Rule
vip_switch_rule input = rule LsInLb (priority_of_vip input.at.port) (opens input) (steps (keeps_no_more ∷ balances_to input.backends ∷ []))

-- the rule of a VIP; no sound network has one without backends
unfoldable pub vip_switch_rules : VipInput → List Rule
vip_switch_rules input = if is_empty input.backends then [] else vip_switch_rule input ∷ []

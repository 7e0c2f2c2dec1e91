-- The rows of load balancing at a router (ovn-northd(8), 'Load balancing DNAT rules'; stages and priorities are not from OVN).
use Rattle.std.specs.Prelude.{if◌then◌else◌, List, [], ◌∷◌}
use Rattle.nb_model.specs.Applies.{is_empty}
use Rattle.sb_model.specs.Make.{steps}
use Rattle.sb_model.specs.declared.stage.Stage.TheVariants.{LrInDnat}
use Rattle.net_rows.specs.LoadBalancers.{balances_to, opens, priority_of_vip}
use Rattle.net_rows.specs.Unit.{rule}
use Rattle.net_rows.specs.declared.inputs.VipInput.{VipInput}
use Rattle.net_rows.specs.declared.rule.Rule.{Rule}
use Rattle.lr_rows.specs.Make.{arp_rule_for}
use Rattle.lr_rows.specs.declared.inputs.VipAddrInput.{VipAddrInput}

-- a new connection to the VIP goes to one of its backends
abbrev pub balancing_rule : VipInput → Rule
balancing_rule input = rule LrInDnat (priority_of_vip input.at.port) (opens input) (steps (balances_to input.backends ∷ []))

-- the rule of a VIP; no sound network has one without backends
unfoldable pub vip_router_rules : VipInput → List Rule
vip_router_rules input = if is_empty input.backends then [] else balancing_rule input ∷ []

-- the rule of an address of VIPs: who asks for it is answered
unfoldable pub vip_addr_rules : VipAddrInput → List Rule
vip_addr_rules input = arp_rule_for input.addr ∷ []

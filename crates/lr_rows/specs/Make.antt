-- The matches and actions that rows of routers are made of.
use Rattle.std.specs.Prelude.{true, List, [], ◌∷◌, ◌++◌, map}
use Rattle.nv_base.specs.Block.{Block}
use Rattle.nv_base.specs.declared.field.Field.{Field}
use Rattle.nv_base.specs.declared.field.Field.TheVariants.{EthSrc, EthDst, ArpOp, ArpSpa, ArpSha, ArpTpa, ArpTha, Reg6}
use Rattle.nv_base.specs.declared.ip4.Ip4.{Ip4}
use Rattle.expr_core.specs.Formula.{Formula}
use Rattle.expr_core.specs.declared.comparison.Item.{Item}
use Rattle.expr_core.specs.declared.comparison.Item.TheVariants.{One, Masked}
use Rattle.expr_core.specs.declared.constant.Const.{Const}
use Rattle.expr_core.specs.declared.part.Bits.TheVariants.{Whole}
use Rattle.expr_core.specs.declared.typed.TypedAtom.{TypedAtom}
use Rattle.act_core.specs.declared.step.Step.{Step}
use Rattle.act_core.specs.declared.step.Step.TheVariants as step
use Rattle.nb_read.specs.Readings.{cleared}
use Rattle.sb_model.specs.Make.{compares, equals, in_decimal, as_ip4, all_of, steps, turns_back}
use Rattle.sb_model.specs.Stage.{last_table}
use Rattle.sb_model.specs.declared.stage.DatapathKind.TheVariants.{Router}
use Rattle.sb_model.specs.declared.stage.Stage.TheVariants.{LrInIpInput}
use Rattle.net_rows.specs.Unit.{rule}
use Rattle.net_rows.specs.declared.rule.Rule.{Rule}

-- ---- matches

-- one address
abbrev pub as_address : Ip4 → Item
as_address addr = One (as_ip4 addr.0)

-- a network, `base/len` whatever its length
abbrev pub as_network : Block → Item
as_network net = Masked (as_ip4 net.base.0) (in_decimal net.len)

-- the addresses of a port, and its networks without their host parts, in their order
abbrev pub addresses_of : List Block → List Item
addresses_of nets = map (λ net. as_address net.base) nets

abbrev pub networks_of : List Block → List Item
networks_of nets = map (λ net. as_network (cleared net)) nets

-- the field is an address of the network
abbrev pub is_within : Field → Block → Formula TypedAtom
is_within field net = compares field (as_network net)

-- ---- actions

-- a whole field becomes a constant, or what another field is
abbrev pub becomes : Field → Const → Step
becomes field constant = step.Set field Whole constant

abbrev pub takes_over : Field → Field → Step
takes_over field other = step.Copy field Whole other

-- the packet goes back by the port that it came in by, through the last table of egress alone
abbrev pub turns_back_late : List Step
turns_back_late = turns_back ++ step.Jump true (last_table Router) ∷ []

-- the ARP request is answered: what was asked for has the MAC of the port that it came in by, which is in `reg6`
abbrev pub answers_arp : List Step
answers_arp =
    takes_over EthDst EthSrc
    ∷ takes_over EthSrc Reg6
    ∷ becomes ArpOp (in_decimal 2)
    ∷ takes_over ArpTha ArpSha
    ∷ takes_over ArpSha Reg6
    ∷ step.Exchange ArpTpa ArpSpa
    ∷ turns_back
    ++ step.Output ∷ []

-- ---- a rule that NAT rules and load balancers have alike

-- an ARP request for an address of the router that is no port's is answered at each port
abbrev pub arp_rule_for : Ip4 → Rule
arp_rule_for addr =
    rule LrInIpInput 90 (all_of (equals ArpOp (in_decimal 1) ∷ equals ArpTpa (as_ip4 addr.0) ∷ [])) (steps answers_arp)

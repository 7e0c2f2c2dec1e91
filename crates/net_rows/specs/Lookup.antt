-- The rows of ARP replies and of the lookup of destinations (ovn-northd(8), 'Ingress Table: ARP/ND responder' and 'Destination
-- Lookup').
use Rattle.nv_base.specs.Name.{flood_group, unknown_group}
use Rattle.std.specs.Prelude.{ℕ, Bool, ◌&&◌, ◌==◌, if◌then◌else◌, List, [], ◌∷◌, ◌++◌, map, Option, Some, None}
use Rattle.std.specs.List.{flat_map, list_any}
use Rattle.nv_base.specs.declared.ip4.Ip4.{Ip4}
use Rattle.nv_base.specs.declared.field.Field.TheVariants.{Inport, EthSrc, EthDst, ArpOp, ArpSpa, ArpSha, ArpTpa, ArpTha}
use Rattle.expr_core.specs.declared.part.Bits.TheVariants.{Whole}
use Rattle.expr_core.specs.Formula.{Formula}
use Rattle.expr_core.specs.declared.predicate.Pred.TheVariants.{EthMcast}
use Rattle.expr_core.specs.declared.typed.TypedAtom.{TypedAtom}
use Rattle.act_core.specs.declared.step.Step.{Step}
use Rattle.act_core.specs.declared.step.Step.TheVariants as step
use Rattle.nb_records.specs.declared.switch.Addr.{Addr}
use Rattle.nb_records.specs.declared.switch.Addr.TheVariants as addr
use Rattle.nb_model.specs.Belongs.{is_router_kind}
use Rattle.nb_model.specs.Readable.{macs_of}
use Rattle.sb_model.specs.Make.{takes_each, is_predicate, equals, is_port, in_decimal, as_mac, as_ip4, all_of, steps, goes_on, drops, goes_out_by, turns_back}
use Rattle.sb_model.specs.declared.stage.Stage.TheVariants.{LsInArpRsp, LsInL2Lkup, LsInL2Unknown}
use Rattle.nb_model.specs.Ports.{is_router_word}
use Rattle.net_rows.specs.Unit.{rule}
use Rattle.net_rows.specs.declared.inputs.PortL2Input.{PortL2Input}
use Rattle.net_rows.specs.declared.inputs.SwitchL2Input.{SwitchL2Input}
use Rattle.net_rows.specs.declared.rule.Rule.{Rule}

-- what no port has goes to the ports for unknown addresses
abbrev pub unknown_rules : Bool → List Rule
unknown_rules unknown = if unknown then rule LsInL2Unknown 50 takes_each (goes_out_by unknown_group) ∷ [] else []

-- the rules of a switch
unfoldable pub switch_l2_rules : SwitchL2Input → List Rule
switch_l2_rules input =
    rule LsInArpRsp 0 takes_each goes_on
    ∷ rule LsInL2Lkup 100 (is_predicate EthMcast) (goes_out_by flood_group)
    ∷ rule LsInL2Lkup 0 takes_each goes_on
    ∷ rule LsInL2Unknown 0 takes_each drops
    ∷ unknown_rules input.unknown

-- an ARP request for an address
abbrev pub requests : Ip4 → List (Formula TypedAtom)
requests ip = equals ArpOp (in_decimal 1) ∷ equals ArpTpa (as_ip4 ip.0) ∷ []

-- the request is answered: this MAC has the address
abbrev pub answers : ℕ → Ip4 → List Step
answers mac ip =
    step.Copy EthDst Whole EthSrc
    ∷ step.Set EthSrc Whole (as_mac mac)
    ∷ step.Set ArpOp Whole (in_decimal 2)
    ∷ step.Copy ArpTha Whole ArpSha
    ∷ step.Set ArpSha Whole (as_mac mac)
    ∷ step.Copy ArpTpa Whole ArpSpa
    ∷ step.Set ArpSpa Whole (as_ip4 ip.0)
    ∷ turns_back
    ++ step.Output ∷ []

-- the port's own request for its address goes on, and that of others is answered
abbrev pub arp_rules : List ℕ → ℕ → Ip4 → List Rule
arp_rules name mac ip =
    rule LsInArpRsp 100 (all_of (is_port Inport name ∷ requests ip)) goes_on
    ∷ rule LsInArpRsp 50 (all_of (requests ip)) (steps (answers mac ip))
    ∷ []

-- the rules of the IPv4 addresses of an address
abbrev pub arp_rules_of : List ℕ → Addr → List Rule
arp_rules_of name (addr.Host mac ips) = flat_map (arp_rules name mac) ips
arp_rules_of name other = []

-- a packet for a MAC goes out by the port
abbrev pub lookup_rule : List ℕ → ℕ → Rule
lookup_rule name mac = rule LsInL2Lkup 50 (equals EthDst (as_mac mac)) (goes_out_by name)

-- the MAC of the peer, where the port has it not itself
abbrev pub more_macs : Option ℕ → List ℕ → List ℕ
more_macs None own = []
more_macs (Some mac) own = if list_any (λ m. m == mac) own then [] else mac ∷ []

-- the MACs that a port takes: those of its addresses and, at kind Router with the word `router`, that of its peer
abbrev pub looked_up : PortL2Input → List ℕ
looked_up input =
    let own = flat_map macs_of input.addresses in
    own ++ (if is_router_kind input.kind && list_any is_router_word input.addresses then more_macs input.peer_mac own else [])

-- a host is answered for
abbrev pub host_rules : PortL2Input → List Rule
host_rules input = if is_router_kind input.kind then [] else flat_map (arp_rules_of input.name) input.addresses

-- the rules of a port; a disabled one has none
unfoldable pub port_l2_rules : PortL2Input → List Rule
port_l2_rules input = if input.enabled then host_rules input ++ map (lookup_rule input.name) (looked_up input) else []

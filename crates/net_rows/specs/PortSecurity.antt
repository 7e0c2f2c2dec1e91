-- The rows of port security (ovn-northd(8), 'Ingress Table 0: Admission Control and Ingress Port Security check' and 'Egress Table:
-- Egress Port Security'; numbers and priorities are not from OVN).
use Rattle.std.specs.Prelude.{ℕ, ◌+◌, ◌-◌, ◌*◌, ◌/◌, Bool, not, ◌&&◌, if◌then◌else◌, nat_lt, List, [], ◌∷◌, ◌++◌, map, filter}
use Rattle.std.specs.List.{flat_map}
use Rattle.nv_base.specs.Block.{Block}
use Rattle.nv_base.specs.declared.field.Field.TheVariants.{Inport, Outport, EthSrc, EthDst, EthType, Ip4Src, Ip4Dst, ArpSpa, ArpSha, UdpSrc, UdpDst}
use Rattle.expr_core.specs.Formula.{Formula}
use Rattle.expr_core.specs.declared.comparison.Item.{Item}
use Rattle.expr_core.specs.declared.comparison.Item.TheVariants.{One, Masked}
use Rattle.expr_core.specs.declared.predicate.Pred.TheVariants.{EthMcast}
use Rattle.expr_core.specs.declared.typed.TypedAtom.{TypedAtom}
use Rattle.nb_records.specs.declared.switch.Guard.{Guard}
use Rattle.sb_model.specs.Make.{takes_each, bit, is_predicate, equals, is_port, in_decimal, in_hexadecimal, as_mac, as_ip4, is_one_of, differs, is_none_of, all_of, one_of, goes_on, drops, goes_out}
use Rattle.sb_model.specs.declared.stage.Stage.TheVariants.{LsInCheckPortSec, LsOutCheckPortSec}
use Rattle.nb_model.specs.Applies.{is_empty}
use Rattle.nb_model.specs.Addresses.{size_of, has_host_part}
use Rattle.net_rows.specs.Unit.{rule}
use Rattle.net_rows.specs.declared.inputs.PortSecInput.{PortSecInput}
use Rattle.net_rows.specs.declared.rule.Rule.{Rule}

-- the rules of each switch: no sender has a multicast MAC, and what is for many goes out
abbrev pub switch_sec_rules : List Rule
switch_sec_rules =
    rule LsInCheckPortSec 100 (bit EthSrc 40) drops
    ∷ rule LsInCheckPortSec 0 takes_each goes_on
    ∷ rule LsOutCheckPortSec 100 (is_predicate EthMcast) goes_out
    ∷ rule LsOutCheckPortSec 0 takes_each goes_out
    ∷ []

-- `base/len` where the host part is zero, else the address that is written
abbrev pub item_of : Block → Item
item_of net = if nat_lt net.len 32 && not (has_host_part net) then Masked (as_ip4 net.base.0) (in_decimal net.len) else One (as_ip4 net.base.0)

-- the addresses that a guard lets through
abbrev pub own_items : Guard → List Item
own_items guard = map item_of guard.nets

-- the broadcast address of a network
abbrev pub broadcast_of : Block → Item
broadcast_of net = One (as_ip4 (net.base.0 / size_of net * size_of net + (size_of net - 1)))

-- the addresses for many: the broadcast of each network that is written with a host part, of all, and multicast
abbrev pub items_for_many : Guard → List Item
items_for_many guard =
    map broadcast_of (filter (λ net. nat_lt net.len 32 && has_host_part net) guard.nets)
    ++ One (as_ip4 0xffff_ffff) ∷ Masked (as_ip4 0xe000_0000) (in_decimal 4) ∷ []

-- what comes from the port with the MAC of the guard, and what goes to it
abbrev pub from_guarded : List ℕ → Guard → List (Formula TypedAtom)
from_guarded name guard = is_port Inport name ∷ equals EthSrc (as_mac guard.mac) ∷ []

abbrev pub to_guarded : List ℕ → Guard → List (Formula TypedAtom)
to_guarded name guard = is_port Outport name ∷ equals EthDst (as_mac guard.mac) ∷ []

-- it is let in where it is this too, and let out
abbrev pub lets_in_where : List ℕ → Guard → List (Formula TypedAtom) → Rule
lets_in_where name guard terms = rule LsInCheckPortSec 90 (all_of (from_guarded name guard ++ terms)) goes_on

abbrev pub lets_out_where : List ℕ → Guard → List (Formula TypedAtom) → Rule
lets_out_where name guard terms = rule LsOutCheckPortSec 90 (all_of (to_guarded name guard ++ terms)) goes_out

-- the kinds of packets by their `eth.type`
abbrev pub ip4_type : Item
ip4_type = One (in_hexadecimal 0x800)

abbrev pub arp_type : Item
arp_type = One (in_hexadecimal 0x806)

abbrev pub ip6_type : Item
ip6_type = One (in_hexadecimal 0x86dd)

-- an ARP packet whose sender tells this MAC
abbrev pub tells : ℕ → Formula TypedAtom
tells mac = equals ArpSha (as_mac mac)

-- the rules of a guard without networks
abbrev pub open_rules : List ℕ → Guard → List Rule
open_rules name guard =
    lets_in_where name guard (one_of (tells guard.mac ∷ differs EthType (in_hexadecimal 0x806) ∷ []) ∷ [])
    ∷ lets_out_where name guard []
    ∷ []

-- a DHCP client that has no address yet
abbrev pub discovers : List (Formula TypedAtom)
discovers = equals Ip4Src (as_ip4 0) ∷ equals Ip4Dst (as_ip4 0xffff_ffff) ∷ equals UdpSrc (in_decimal 68) ∷ equals UdpDst (in_decimal 67) ∷ []

-- the rules of a guard with networks
abbrev pub closed_rules : List ℕ → Guard → List Rule
closed_rules name guard =
    lets_in_where name guard (is_one_of Ip4Src (own_items guard) ∷ [])
    ∷ lets_in_where name guard discovers
    ∷ lets_in_where name guard (tells guard.mac ∷ is_one_of ArpSpa (own_items guard) ∷ [])
    ∷ lets_in_where name guard (is_none_of EthType (ip4_type ∷ arp_type ∷ ip6_type ∷ []) ∷ [])
    ∷ lets_out_where name guard (is_one_of Ip4Dst (own_items guard ++ items_for_many guard) ∷ [])
    ∷ lets_out_where name guard (is_none_of EthType (ip4_type ∷ ip6_type ∷ []) ∷ [])
    ∷ []

abbrev pub guard_rules : List ℕ → Guard → List Rule
guard_rules name guard = if is_empty guard.nets then open_rules name guard else closed_rules name guard

-- a port with guards lets nothing else in or out
abbrev pub guarded_rules : List ℕ → List Guard → List Rule
guarded_rules name [] = []
guarded_rules name (guard ∷ guards) =
    rule LsInCheckPortSec 50 (is_port Inport name) drops
    ∷ rule LsOutCheckPortSec 50 (is_port Outport name) drops
    ∷ flat_map (guard_rules name) (guard ∷ guards)

-- a disabled port lets nothing in
abbrev pub disabled_rules : Bool → List ℕ → List Rule
disabled_rules enabled name = if enabled then [] else rule LsInCheckPortSec 100 (is_port Inport name) drops ∷ []

-- the rules of a port
unfoldable pub port_sec_rules : PortSecInput → List Rule
port_sec_rules input = disabled_rules input.enabled input.name ++ guarded_rules input.name input.security

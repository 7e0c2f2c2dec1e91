-- The rows of admission, of learning neighbours and of input to a router (ovn-northd(8), 'Ingress Table 0: L2 Admission Control',
-- 'Neighbor learning' and 'IP Input'; stages, registers and priorities are not from OVN).
use Rattle.std.specs.Prelude.{ℕ, if◌then◌else◌, List, [], ◌∷◌, ◌++◌, map, Option, Some, None, slice_get}
use Rattle.nv_base.specs.Block.{Block}
use Rattle.nv_base.specs.declared.field.Field.TheVariants.{Inport, EthSrc, EthDst, IpTtl, Ip4Src, Ip4Dst, ArpOp, ArpSpa, ArpSha, ArpTpa, Icmp4Type, Icmp4Code, Reg6}
use Rattle.nv_base.specs.declared.ip4.Ip4.{Ip4}
use Rattle.expr_core.specs.Formula.{Formula}
use Rattle.expr_core.specs.Formula.Formula.{Leaf}
use Rattle.expr_core.specs.declared.comparison.Item.{Item}
use Rattle.expr_core.specs.declared.comparison.Item.TheVariants.{One, Masked}
use Rattle.expr_core.specs.declared.comparison.Rel.TheVariants.{Eq}
use Rattle.expr_core.specs.declared.comparison.Right.TheVariants as right
use Rattle.expr_core.specs.declared.part.Bits.TheVariants.{Bit, Range}
use Rattle.expr_core.specs.declared.predicate.Pred.TheVariants as is
use Rattle.expr_core.specs.declared.typed.TypedAtom.{TypedAtom}
use Rattle.expr_core.specs.declared.typed.TypedAtom.TheVariants.{Compare}
use Rattle.act_core.specs.declared.action.Action.TheVariants as action
use Rattle.act_core.specs.declared.step.Step.{Step}
use Rattle.act_core.specs.declared.step.Step.TheVariants as step
use Rattle.nb_model.specs.Applies.{is_empty}
use Rattle.sb_model.specs.Make.{takes_each, bit, is_predicate, equals, is_port, in_decimal, in_hexadecimal, as_mac, as_ip4, is_one_of, differs, all_of, one_of, steps, goes_on, drops}
use Rattle.sb_model.specs.declared.stage.Stage.TheVariants.{LrInAdmission, LrInLearnNeighbor, LrInIpInput}
use Rattle.net_rows.specs.Unit.{rule}
use Rattle.net_rows.specs.declared.rule.Rule.{Rule}
use Rattle.lr_rows.specs.Make.{as_address, addresses_of, networks_of, becomes, takes_over, turns_back_late, answers_arp}
use Rattle.lr_rows.specs.declared.inputs.PortInInput.{PortInInput}

-- ---- the rules of each router

-- no sender has a multicast MAC; a port admits the rest, and what tells no neighbour goes on
abbrev pub admission_rules : List Rule
admission_rules =
    rule LrInAdmission 100 (bit EthSrc 40) drops
    ∷ rule LrInAdmission 0 takes_each drops
    ∷ rule LrInLearnNeighbor 0 takes_each goes_on
    ∷ []

-- the source is a multicast address
abbrev pub is_from_many : Formula TypedAtom
is_from_many = Leaf (Compare Ip4Src (Range 28 31) Eq (right.Item (One (in_hexadecimal 0xe))))

-- a network of eight bits
abbrev pub eight_bits : ℕ → Item
eight_bits base = Masked (as_ip4 base) (in_decimal 8)

-- the source is the broadcast address, a loopback address, or of no network
abbrev pub is_from_no_host : Formula TypedAtom
is_from_no_host = is_one_of Ip4Src (One (as_ip4 0xffff_ffff) ∷ eight_bits 0x7f00_0000 ∷ eight_bits 0 ∷ [])

-- the destination is a loopback address, or of no network
abbrev pub is_to_no_host : Formula TypedAtom
is_to_no_host = is_one_of Ip4Dst (eight_bits 0x7f00_0000 ∷ eight_bits 0 ∷ [])

-- what no router passes on is dropped, and other IPv4 goes on
abbrev pub input_rules : List Rule
input_rules =
    rule LrInIpInput 100 (one_of (is_from_many ∷ is_from_no_host ∷ is_to_no_host ∷ [])) drops
    ∷ rule LrInIpInput 85 (is_predicate is.Arp) drops
    ∷ rule LrInIpInput 50 (one_of (is_predicate is.EthBcast ∷ is_predicate is.Ip4Mcast ∷ [])) drops
    ∷ rule LrInIpInput 10 (is_predicate is.Ip4) goes_on
    ∷ rule LrInIpInput 0 takes_each drops
    ∷ []

abbrev pub router_in_rules : List Rule
router_in_rules = admission_rules ++ input_rules

-- ---- the rules of a router port

-- an enabled port admits what is for its MAC or for many, and its MAC goes to `reg6`
abbrev pub admitting_rules : PortInInput → List Rule
admitting_rules input =
    if input.enabled then
    rule LrInAdmission 50 (all_of (is_port Inport input.name ∷ one_of (equals EthDst (as_mac input.mac) ∷ is_predicate is.EthMcast ∷ []) ∷ []))
    (steps (becomes Reg6 (as_mac input.mac) ∷ step.Next ∷ [])) ∷ []
    else []

-- the port learns who tells an address of its networks, with a unicast MAC that is not zero
abbrev pub learning_rule : PortInInput → Rule
learning_rule input =
    rule LrInLearnNeighbor 100
    (all_of
    (is_port Inport input.name
    ∷ is_one_of ArpSpa (networks_of input.nets)
    ∷ Leaf (Compare ArpSha (Bit 40) Eq (right.Item (One (in_decimal 0))))
    ∷ differs ArpSha (as_mac 0)
    ∷ []))
    (steps (step.PutArp ∷ step.Next ∷ []))

-- no other sender has an address of the port
abbrev pub own_source_rule : PortInInput → Rule
own_source_rule input = rule LrInIpInput 100 (is_one_of Ip4Src (addresses_of input.nets)) drops

-- an ARP request at the port for an address of it is answered
abbrev pub own_arp_rule : PortInInput → Rule
own_arp_rule input =
    rule LrInIpInput 90 (all_of (is_port Inport input.name ∷ equals ArpOp (in_decimal 1) ∷ is_one_of ArpTpa (addresses_of input.nets) ∷ [])) (steps answers_arp)

-- the echo request is answered
abbrev pub answers_echo : List Step
answers_echo =
    takes_over EthDst EthSrc
    ∷ takes_over EthSrc Reg6
    ∷ step.Exchange Ip4Dst Ip4Src
    ∷ becomes IpTtl (in_decimal 255)
    ∷ becomes Icmp4Type (in_decimal 0)
    ∷ turns_back_late

-- an ICMP echo request for an address of the port is answered, at whichever port it came in
abbrev pub echo_rule : PortInInput → Rule
echo_rule input =
    rule LrInIpInput 90
    (all_of (is_one_of Ip4Dst (addresses_of input.nets) ∷ equals Icmp4Type (in_decimal 8) ∷ equals Icmp4Code (in_decimal 0) ∷ []))
    (steps answers_echo)

-- what is for an address of the port that neither NAT nor load balancing uses
abbrev pub is_for : List Ip4 → Formula TypedAtom
is_for addrs = is_one_of Ip4Dst (map as_address addrs)

-- what an answer begins and ends with, where it is made in the place of the packet
abbrev pub answers_from_port : List Step → List Step
answers_from_port more = takes_over EthSrc Reg6 ∷ more ++ turns_back_late

-- no service is there: TCP is reset, UDP gets an ICMP error, and the rest is dropped
abbrev pub service_rules : List Ip4 → List Rule
service_rules addrs =
    rule LrInIpInput 80 (all_of (is_for addrs ∷ is_predicate is.Tcp ∷ [])) (action.TcpReset (answers_from_port []) ∷ [])
    ∷ rule LrInIpInput 80 (all_of (is_for addrs ∷ is_predicate is.Udp ∷ [])) (action.Icmp4 (answers_from_port []) ∷ [])
    ∷ rule LrInIpInput 60 (is_for addrs) drops
    ∷ []

-- where there is such an address
abbrev pub free_rules : List Ip4 → List Rule
free_rules addrs = if is_empty addrs then [] else service_rules addrs

-- the ICMP error that the time to live was exceeded, from this address
abbrev pub answers_expired : Ip4 → List Step
answers_expired addr =
    answers_from_port (becomes Icmp4Type (in_decimal 11) ∷ becomes Icmp4Code (in_decimal 0) ∷ becomes Ip4Src (as_ip4 addr.0) ∷ [])

-- a packet that came in by the port and has no hop left is answered from its first address
abbrev pub expiring_rules : List ℕ → Ip4 → List Rule
expiring_rules name first =
    rule LrInIpInput 40 (all_of (is_port Inport name ∷ is_one_of IpTtl (One (in_decimal 0) ∷ One (in_decimal 1) ∷ []) ∷ []))
    (action.Icmp4 (answers_expired first) ∷ []) ∷ []

-- what neighbours tell, and what is said of the addresses of the port
abbrev pub address_rules : PortInInput → List Rule
address_rules input = learning_rule input ∷ own_source_rule input ∷ own_arp_rule input ∷ echo_rule input ∷ []

-- the rules of a port with networks, by the first of them
abbrev pub port_in_rules_from : PortInInput → Block → List Rule
port_in_rules_from input first = admitting_rules input ++ address_rules input ++ free_rules input.free ++ expiring_rules input.name first.base

-- what is made by the first network, where there is one
abbrev pub by_first : (Block → List Rule) → Option Block → List Rule
by_first rules None = []
by_first rules (Some first) = rules first

-- the rules of a port; no sound network has one without networks
unfoldable pub port_in_rules : PortInInput → List Rule
port_in_rules input = by_first (port_in_rules_from input) (slice_get input.nets 0)

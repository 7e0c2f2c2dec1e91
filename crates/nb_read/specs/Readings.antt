-- The readings of single words: each gets a word's number in the line and its bytes.
use Rattle.std.specs.Prelude.{ℕ, ◌-◌, ◌*◌, ◌/◌, ◌%◌, ◌^◌, ◌==◌, Bool, true, false, not, ◌&&◌, ◌||◌, nat_lt, nat_le, List, [], ◌∷◌, ◌++◌, length, Option, Some, None, is_some, option_and_then, ok_or, codes, Result, Ok, Err, if◌then◌else◌}
use Rattle.std.specs.List.{list_all, list_any, slice_index, slice_split}
use Rattle.std.specs.Str.{bytes_eq}
use Rattle.expr_core.specs.Formula.{Formula}
use Rattle.expr_core.specs.declared.expr.Atom.{Atom}
use Rattle.expr_core.specs.declared.role.Role.{Role}
use Rattle.expr_core.specs.declared.role.Role.TheVariants.{AclFrom, AclTo}
use Rattle.expr_core.specs.declared.typed.TypedAtom.{TypedAtom}
use Rattle.expr_parse.specs.Faults.{fault_offset}
use Rattle.expr_parse.specs.Grammar.{Reading, reading}
use Rattle.expr_parse.specs.Grammar.Reading.{Read, Fails}
use Rattle.expr_check.specs.Check.{checked}
use Rattle.expr_check.specs.declared.fault.TypeFault.{TypeFault}
use Rattle.expr_check.specs.declared.fault.TypeFault.TheVariants as fault
use Rattle.nv_base.specs.Block.{Block}
use Rattle.nv_base.specs.Bytes.{around_first}
use Rattle.nv_base.specs.Ip4.{address, ip4_of}
use Rattle.nv_base.specs.Mac.{mac_of}
use Rattle.nv_base.specs.Name.{is_object_name}
use Rattle.nv_base.specs.Number.{below, decimal_of, number_of}
use Rattle.nv_base.specs.Prefix.{block, prefix_of}
use Rattle.nv_base.specs.declared.ip4.Ip4.{Ip4}
use Rattle.nb_records.specs.declared.acl.Verdict.{Verdict}
use Rattle.nb_records.specs.declared.acl.Way.{Way}
use Rattle.nb_records.specs.declared.acl.Way.TheVariants.{From, To}
use Rattle.nb_records.specs.declared.balancer.Backend.{Backend}
use Rattle.nb_records.specs.declared.balancer.Frontend.{Frontend}
use Rattle.nb_records.specs.declared.balancer.Proto.{Proto}
use Rattle.nb_records.specs.declared.edit.OwnerKind.{OwnerKind}
use Rattle.nb_records.specs.declared.edit.OwnerKind.TheVariants as owner
use Rattle.nb_records.specs.declared.refusal.MatchRule.TheVariants as rule
use Rattle.nb_records.specs.declared.refusal.Refusal.{Refusal}
use Rattle.nb_records.specs.declared.refusal.Refusal.TheVariants.{WrongWords, BadName, BadMac, BadAddress, BadNumber, MatchSyntax, MatchType, NotInProfile}
use Rattle.nb_records.specs.declared.router.NatKind.{NatKind}
use Rattle.nb_records.specs.declared.router.NatKind.TheVariants as nat
use Rattle.nb_records.specs.declared.sets.Member.{Member}
use Rattle.nb_records.specs.declared.sets.Member.TheVariants as member
use Rattle.nb_records.specs.declared.switch.PortKind.{PortKind}
use Rattle.nb_read.specs.Then.{and_then}
use Rattle.nb_read.specs.Keywords.{way_of, verdict_of, proto_of, nat_kind_of, port_kind_of, state_of}

-- the name of a port, a datapath or a load balancer
abbrev pub object_name : ℕ → List ℕ → Result (List ℕ) Refusal
object_name number text = if is_object_name text then Ok text else Err (BadName number)

-- a letter, a digit, `_` or `.`
abbrev pub is_set_byte : ℕ → Bool
is_set_byte byte =
    (nat_le 97 byte && nat_le byte 122) || (nat_le 65 byte && nat_le byte 90) || (nat_le 48 byte && nat_le byte 57) || (byte == 95) || (byte == 46)

-- A set and a group are named by 1 to 127 such bytes, of which the first is no digit.
abbrev pub is_set_name : List ℕ → Bool
is_set_name text =
    nat_lt 0 (length text) && nat_le (length text) 127 && list_all is_set_byte text
    && not (nat_le 48 (slice_index text 0) && nat_le (slice_index text 0) 57)

-- the name of an address set or a port group
abbrev pub set_name : ℕ → List ℕ → Result (List ℕ) Refusal
set_name number text = if is_set_name text then Ok text else Err (BadName number)

-- the text may name the owner of an ACL, of that kind or of either
abbrev pub is_owner_name : Option OwnerKind → List ℕ → Bool
is_owner_name None text = is_object_name text || is_set_name text
is_owner_name (Some owner.Switch) text = is_object_name text
is_owner_name (Some owner.Group) text = is_set_name text

-- the name of the owner of an ACL
abbrev pub owner_name : Option OwnerKind → ℕ → List ℕ → Result (List ℕ) Refusal
owner_name of number text = if is_owner_name of text then Ok text else Err (BadName number)

-- keywords; those that are none were refused before, but for three words that are known to OVN and not taken here
abbrev pub way : ℕ → List ℕ → Result Way Refusal
way number text = ok_or (way_of text) WrongWords

abbrev pub verdict : ℕ → List ℕ → Result Verdict Refusal
verdict number text = ok_or (verdict_of text) (NotInProfile number)

abbrev pub proto : ℕ → List ℕ → Result Proto Refusal
proto number text = ok_or (proto_of text) (NotInProfile number)

abbrev pub nat_kind : ℕ → List ℕ → Result NatKind Refusal
nat_kind number text = ok_or (nat_kind_of text) WrongWords

abbrev pub port_kind : ℕ → List ℕ → Result PortKind Refusal
port_kind number text = ok_or (port_kind_of text) (NotInProfile number)

abbrev pub state : ℕ → List ℕ → Result Bool Refusal
state number text = ok_or (state_of text) WrongWords

-- a MAC that is neither zero nor multicast, whose first byte is odd
abbrev pub is_unicast : ℕ → Bool
is_unicast mac = not (mac / 2 ^ 40 % 2 == 1) && not (mac == 0)

abbrev pub unicast : Option ℕ → Option ℕ
unicast None = None
unicast (Some mac) = if is_unicast mac then Some mac else None

abbrev pub mac : ℕ → List ℕ → Result ℕ Refusal
mac number text = ok_or (unicast (mac_of text)) (BadMac number)

-- Why a text is refused that is no address: one with a `:`, as of IPv6, is known to OVN. A MAC is just no address.
abbrev pub no_address : ℕ → List ℕ → Refusal
no_address number text = if list_any (λ byte. byte == 58) text && not (is_some (mac_of text)) then NotInProfile number else BadAddress number

abbrev pub ip : ℕ → List ℕ → Result Ip4 Refusal
ip number text = ok_or (ip4_of text) (no_address number text)

-- an address with a length, or without: then it is 32
abbrev pub prefix : ℕ → List ℕ → Result Block Refusal
prefix number text = ok_or (prefix_of text) (no_address number text)

-- a prefix with its host part cleared
abbrev pub cleared : Block → Block
cleared p = block (address (p.base.0 / 2 ^ (32 - p.len) * 2 ^ (32 - p.len))) p.len

-- a prefix, its host part cleared
unfoldable pub network : ℕ → List ℕ → Result Block Refusal
network number text = and_then (prefix number text) (λ p. Ok (cleared p))

-- the address of the next router: not zero, and `discard` is not taken here
abbrev pub nexthop : ℕ → List ℕ → Result Ip4 Refusal
nexthop number text =
    if bytes_eq text (codes "discard") then Err (NotInProfile number)
    else and_then (ip number text) (λ a. if a.0 == 0 then Err (BadAddress number) else Ok a)

-- what a NAT rule of this kind changes: a network for `snat`, else an address
abbrev pub logical : NatKind → ℕ → List ℕ → Result Block Refusal
logical nat.Snat number text = network number text
logical nat.Dnat number text = and_then (ip number text) (λ a. Ok (block a 32))
logical nat.DnatAndSnat number text = and_then (ip number text) (λ a. Ok (block a 32))

-- a port of TCP or UDP: a decimal from 1 to 65,535
abbrev pub in_ports : Option ℕ → Option ℕ
in_ports None = None
in_ports (Some n) = if n == 0 then None else Some n

abbrev pub service_port : List ℕ → Option ℕ
service_port text = in_ports (below 65536 (decimal_of text))

-- where connections go: an address, and a port where there is one
abbrev pub frontend : Option ℕ → Option Ip4 → Option Frontend
frontend port None = None
frontend port (Some a) = Some (record { addr = a; port = port })

-- an address alone
abbrev pub alone : List ℕ → Option Frontend
alone text = frontend None (ip4_of text)

-- an address and a port
abbrev pub with_port : List ℕ → List ℕ → Option Frontend
with_port addr port = option_and_then (λ p. frontend (Some p) (ip4_of addr)) (service_port port)

-- `IP`, or what is before and after the first `:` of `IP:PORT`
abbrev pub frontend_around : List ℕ → Option (List ℕ × List ℕ) → Option Frontend
frontend_around text None = alone text
frontend_around text (Some parts) = with_port parts.0 parts.1

abbrev pub frontend_of : List ℕ → Option Frontend
frontend_of text = frontend_around text (around_first 58 text)

-- where a load balancer takes connections: `IP` or `IP:PORT`
unfoldable pub vip : ℕ → List ℕ → Result Frontend Refusal
vip number text = ok_or (frontend_of text) (BadAddress number)

-- there is a port exactly where there is to be one
abbrev pub has_port_as : Bool → Option ℕ → Bool
has_port_as true port = is_some port
has_port_as false port = not (is_some port)

-- a backend, with a port exactly where the VIP has one
abbrev pub backend : Bool → Option Frontend → Option Backend
backend has_port None = None
backend has_port (Some f) = if has_port_as has_port f.port then Some (record { addr = f.addr; port = f.port }) else None

-- the backends of these texts, after those before
abbrev pub backends_of : Bool → List Backend → List (List ℕ) → Option (List Backend)
backends_of has_port before [] = Some before
backends_of has_port before (text ∷ texts) = option_and_then (λ b. backends_of has_port (before ++ b ∷ []) texts) (backend has_port (frontend_of text))

-- what a VIP stands for: backends with commas between
abbrev pub backends : Bool → ℕ → List ℕ → Result (List Backend) Refusal
backends has_port number text = ok_or (backends_of has_port [] (slice_split (λ byte. byte == 44) text)) (BadAddress number)

-- the priority of an ACL: a number up to 32,767
abbrev pub priority : ℕ → List ℕ → Result ℕ Refusal
priority number text = ok_or (below 32768 (number_of text)) (BadNumber number)

-- the role of the match of an ACL
abbrev pub role_of : Way → Role
role_of From = AclFrom
role_of To = AclTo

-- why a match is refused that breaks a rule of its role (no match is refused as `Memory`)
abbrev pub rule_broken : TypeFault → Refusal
rule_broken (fault.UnknownField place) = MatchType rule.UnknownField place
rule_broken (fault.NotAllowedHere place) = MatchType rule.NotAllowedHere place
rule_broken (fault.WrongWidth place) = MatchType rule.WrongWidth place
rule_broken (fault.WrongForm place) = MatchType rule.WrongForm place
rule_broken fault.Memory = WrongWords

abbrev pub checked_match : Result (Formula TypedAtom) TypeFault → Result (Formula TypedAtom) Refusal
checked_match (Ok t) = Ok t
checked_match (Err f) = Err (rule_broken f)

abbrev pub parsed_match : Role → Reading (Formula Atom) → Result (Formula TypedAtom) Refusal
parsed_match role (Read e rest) = checked_match (checked role e)
parsed_match role (Fails f) = Err (MatchSyntax (fault_offset f))

-- the match of an ACL
unfoldable pub acl_match : Way → List ℕ → Result (Formula TypedAtom) Refusal
acl_match way text = parsed_match (role_of way) (reading text)

-- a member of an address set: a MAC that is not zero, or a prefix with its host part
abbrev pub member_of : ℕ → List ℕ → Option ℕ → Result Member Refusal
member_of number text None = and_then (prefix number text) (λ p. Ok (member.Net p))
member_of number text (Some mac) = if mac == 0 then Err (BadMac number) else Ok (member.Mac mac)

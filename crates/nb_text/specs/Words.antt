-- How the words of commands are written. A word that may hold a space stands in single quotes where it holds one.
use Rattle.std.specs.Prelude.{ℕ, ◌==◌, Bool, if◌then◌else◌, List, [], ◌∷◌, ◌++◌, codes, decimal, Option, None, Some}
use Rattle.std.specs.List.{flat_map}
use Rattle.nv_base.specs.Block.{Block}
use Rattle.nv_base.specs.Ip4.{ip4_text}
use Rattle.nv_base.specs.Mac.{mac_text}
use Rattle.nv_base.specs.Prefix.{prefix_text}
use Rattle.nv_base.specs.declared.ip4.Ip4.{Ip4}
use Rattle.nb_records.specs.Refusal.{spaced}
use Rattle.nb_records.specs.declared.acl.Verdict.{Verdict}
use Rattle.nb_records.specs.declared.acl.Verdict.TheVariants as verdict
use Rattle.nb_records.specs.declared.acl.Way.{Way}
use Rattle.nb_records.specs.declared.acl.Way.TheVariants as way
use Rattle.nb_records.specs.declared.balancer.Backend.{Backend}
use Rattle.nb_records.specs.declared.balancer.Proto.{Proto}
use Rattle.nb_records.specs.declared.balancer.Proto.TheVariants.{Tcp, Udp}
use Rattle.nb_records.specs.declared.edit.OwnerKind.{OwnerKind}
use Rattle.nb_records.specs.declared.edit.OwnerKind.TheVariants as owner
use Rattle.nb_records.specs.declared.router.NatKind.{NatKind}
use Rattle.nb_records.specs.declared.router.NatKind.TheVariants.{Snat, Dnat, DnatAndSnat}
use Rattle.nb_records.specs.declared.router.RouteBy.{RouteBy}
use Rattle.nb_records.specs.declared.router.RouteBy.TheVariants.{Dst, Src}
use Rattle.nb_records.specs.declared.sets.Member.{Member}
use Rattle.nb_records.specs.declared.sets.Member.TheVariants as member
use Rattle.nb_records.specs.declared.switch.Addr.{Addr}
use Rattle.nb_records.specs.declared.switch.Addr.TheVariants as addr
use Rattle.nb_records.specs.declared.switch.Guard.{Guard}
use Rattle.nb_records.specs.declared.switch.PortKind.{PortKind}
use Rattle.nb_records.specs.declared.switch.PortKind.TheVariants as kind

-- a text in single quotes
abbrev pub in_quotes : List ℕ → List ℕ
in_quotes text = codes "'" ++ text ++ codes "'"

-- each of a list as a word, after a space
abbrev pub each_spaced : {X : Type 0} → (X → List ℕ) → List X → List ℕ
each_spaced text xs = flat_map (λ x. spaced (text x)) xs

-- a MAC alone or, in quotes, with what goes with it
abbrev pub mac_with : {X : Type 0} → (X → List ℕ) → ℕ → List X → List ℕ
mac_with text mac [] = mac_text mac
mac_with text mac (x ∷ xs) = in_quotes (mac_text mac ++ each_spaced text (x ∷ xs))

-- a prefix, as an address where its length is 32
abbrev pub net_text : Block → List ℕ
net_text p = if p.len == 32 then ip4_text p.base else prefix_text p

abbrev pub addr_text : Addr → List ℕ
addr_text addr.Unknown = codes "unknown"
addr_text addr.Router = codes "router"
addr_text (addr.Host mac ips) = mac_with ip4_text mac ips

abbrev pub guard_text : Guard → List ℕ
guard_text guard = mac_with net_text guard.mac guard.nets

abbrev pub member_text : Member → List ℕ
member_text (member.Mac mac) = mac_text mac
member_text (member.Net p) = net_text p

-- an address, and a port where there is one
abbrev pub service_text : Ip4 → Option ℕ → List ℕ
service_text a None = ip4_text a
service_text a (Some port) = ip4_text a ++ codes ":" ++ decimal port

-- backends with commas between, after what is written before the first
abbrev pub backends_text : List ℕ → List Backend → List ℕ
backends_text front [] = []
backends_text front (b ∷ bs) = front ++ service_text b.addr b.port ++ backends_text (codes ",") bs

abbrev pub port_kind_text : PortKind → List ℕ
port_kind_text kind.Host = codes "''"
port_kind_text kind.Router = codes "router"

abbrev pub state_text : Bool → List ℕ
state_text enabled = if enabled then codes "enabled" else codes "disabled"

abbrev pub nat_kind_text : NatKind → List ℕ
nat_kind_text Snat = codes "snat"
nat_kind_text Dnat = codes "dnat"
nat_kind_text DnatAndSnat = codes "dnat_and_snat"

abbrev pub proto_text : Proto → List ℕ
proto_text Tcp = codes "tcp"
proto_text Udp = codes "udp"

abbrev pub way_text : Way → List ℕ
way_text way.From = codes "from-lport"
way_text way.To = codes "to-lport"

abbrev pub verdict_text : Verdict → List ℕ
verdict_text verdict.Allow = codes "allow"
verdict_text verdict.AllowRelated = codes "allow-related"
verdict_text verdict.AllowStateless = codes "allow-stateless"
verdict_text verdict.Drop = codes "drop"
verdict_text verdict.Reject = codes "reject"

-- the option `--may-exist`, where it stands, before a command's name
abbrev pub may_exist_text : Bool → List ℕ
may_exist_text stands = if stands then codes "--may-exist " else []

-- the option `--policy`, where it stands
abbrev pub policy_text : Option RouteBy → List ℕ
policy_text None = []
policy_text (Some Dst) = codes "--policy=dst-ip "
policy_text (Some Src) = codes "--policy=src-ip "

-- the option `--type`, where it stands
abbrev pub owner_text : Option OwnerKind → List ℕ
owner_text None = []
owner_text (Some owner.Switch) = codes "--type=switch "
owner_text (Some owner.Group) = codes "--type=port-group "

-- a word that may be there, after a space
abbrev pub maybe_spaced : Option (List ℕ) → List ℕ
maybe_spaced None = []
maybe_spaced (Some word) = spaced word

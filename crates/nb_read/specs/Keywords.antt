-- The keywords that words may be.
use Rattle.std.specs.Prelude.{ℕ, Bool, true, false, List, nat_eq, Option, Some, None, codes, if◌then◌else◌}
use Rattle.std.specs.List.{starts_with}
use Rattle.std.specs.Str.{bytes_eq}
use Rattle.nb_records.specs.declared.acl.Way.{Way}
use Rattle.nb_records.specs.declared.acl.Way.TheVariants.{From, To}
use Rattle.nb_records.specs.declared.acl.Verdict.{Verdict}
use Rattle.nb_records.specs.declared.acl.Verdict.TheVariants.{Allow, AllowRelated, AllowStateless, Drop, Reject}
use Rattle.nb_records.specs.declared.balancer.Proto.{Proto}
use Rattle.nb_records.specs.declared.balancer.Proto.TheVariants.{Tcp, Udp}
use Rattle.nb_records.specs.declared.router.NatKind.{NatKind}
use Rattle.nb_records.specs.declared.router.NatKind.TheVariants.{Snat, Dnat, DnatAndSnat}
use Rattle.nb_records.specs.declared.switch.PortKind.{PortKind}
use Rattle.nb_records.specs.declared.switch.PortKind.TheVariants.{Host, Router}

abbrev pub way_of : List ℕ → Option Way
way_of text = if bytes_eq text (codes "from-lport") then Some From else (if bytes_eq text (codes "to-lport") then Some To else None)

abbrev pub verdict_of : List ℕ → Option Verdict
verdict_of text =
    if bytes_eq text (codes "allow") then Some Allow
    else (if bytes_eq text (codes "allow-related") then Some AllowRelated
    else (if bytes_eq text (codes "allow-stateless") then Some AllowStateless
    else (if bytes_eq text (codes "drop") then Some Drop
    else (if bytes_eq text (codes "reject") then Some Reject else None))))

abbrev pub proto_of : List ℕ → Option Proto
proto_of text = if bytes_eq text (codes "tcp") then Some Tcp else (if bytes_eq text (codes "udp") then Some Udp else None)

abbrev pub nat_kind_of : List ℕ → Option NatKind
nat_kind_of text =
    if bytes_eq text (codes "snat") then Some Snat
    else (if bytes_eq text (codes "dnat") then Some Dnat
    else (if bytes_eq text (codes "dnat_and_snat") then Some DnatAndSnat else None))

-- the type of a port, by its name: that of a host's port is empty
abbrev pub port_kind_of : List ℕ → Option PortKind
port_kind_of text = if bytes_eq text (codes "") then Some Host else (if bytes_eq text (codes "router") then Some Router else None)

-- whether a port is to be enabled
abbrev pub state_of : List ℕ → Option Bool
state_of text = if bytes_eq text (codes "enabled") then Some true else (if bytes_eq text (codes "disabled") then Some false else None)

-- the word begins with these bytes
abbrev pub begins : List ℕ → List ℕ → Bool
begins text front = starts_with nat_eq text front

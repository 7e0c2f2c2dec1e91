-- The words of a trace for why a packet is dropped.
use Rattle.std.specs.Prelude.{ℕ, List, codes}
use Rattle.net_meaning.specs.declared.cause.Cause.{Cause}
use Rattle.net_meaning.specs.declared.cause.Cause.TheVariants.{PortSec, Acl, Unknown, SamePort, NoPeer, CtFull, NoPort, Admission, IpInput, NoRoute, Delivery}

-- the cause's name
abbrev pub cause_name : Cause → List ℕ
cause_name PortSec = codes "port_sec"
cause_name Acl = codes "acl"
cause_name Unknown = codes "unknown"
cause_name SamePort = codes "same_port"
cause_name NoPeer = codes "no_peer"
cause_name CtFull = codes "ct_full"
cause_name NoPort = codes "no_port"
cause_name Admission = codes "admission"
cause_name IpInput = codes "ip_input"
cause_name NoRoute = codes "no_route"
cause_name Delivery = codes "delivery"

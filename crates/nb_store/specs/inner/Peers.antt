-- What a port of a switch has for its peer.
use Rattle.std.specs.Prelude.{ℕ, List, Option, None}
use Rattle.nb_records.specs.declared.switch.PortKind.{PortKind}
use Rattle.nb_records.specs.declared.switch.PortKind.TheVariants as kind

-- the router port that the option of a port of kind Router names
abbrev pub peer_name : PortKind → Option (List ℕ) → Option (List ℕ)
peer_name kind.Router name = name
peer_name kind.Host name = None

-- What the list says of the match, and the packet that it makes.
use Rattle.std.proofs.Common.{◌≡◌, ℕ, List, [], drop, map, Option, Some, None}
use Rattle.pkt_core.specs.Packet.{Values, with_values}
use Rattle.pkt_micro.specs.Microflow.{numbered, packet_said}
use Rattle.pkt_micro.specs.declared.equality.Equality.{Equality}
use Rattle.pkt_micro.specs.inner.Listed.{after}

-- after nothing, what is said is the list
pub said_is : (s : Option (List Equality)) (es : List Equality) → after [] s ≡ Some es → s ≡ Some es
said_is None es e = cc
said_is (Some others) es e = e

-- the packet with the numbers that are left is the packet with all
abbrev pub PacketLeft : List Equality → Values → ℕ → Type 0
PacketLeft es packet i = with_values packet (map numbered (drop i es)) ≡ packet_said es

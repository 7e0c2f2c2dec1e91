-- Packets, and tuples, that are equal by `==` are one value.
use Rattle.std.proofs.Common.{◌≡◌, Bool}
use Rattle.std.proofs.lemmas.Bool.{eqb-true, and_parts}
use Rattle.nv_base.specs.inner.Exact as tells
use Rattle.nv_base.specs.inner.Exact.{Tells}
use Rattle.pkt_core.specs.contracts.packet.PacketPartialEq.TheImpl as packet_eq
use Rattle.pkt_core.specs.contracts.tuple.TuplePartialEq.TheImpl as tuple_eq
use Rattle.pkt_core.specs.declared.tuple.Tuple.{Tuple}

pub packet : Tells ((packet_eq.ghosts).eq)
packet = tells.list _ tells.number

-- the derived `==` of tuples
abbrev pub same_tuple : Tuple → Tuple → Bool
same_tuple = (tuple_eq.ghosts).eq

pub tuple : Tells same_tuple
tuple a b e =
    let proto = and_parts _ _ e in
    let src = and_parts _ _ proto.1 in
    let sport = and_parts _ _ src.1 in
    let last = and_parts _ _ sport.1 in
    let protos : a.proto ≡ b.proto = eqb-true _ _ proto.0 in
    let sources : a.src ≡ b.src = tells.address _ _ src.0 in
    let sports : a.sport ≡ b.sport = eqb-true _ _ sport.0 in
    let destinations : a.dst ≡ b.dst = tells.address _ _ last.0 in
    let dports : a.dport ≡ b.dport = eqb-true _ _ last.1 in
    λ i. record { proto = protos i; src = sources i; sport = sports i; dst = destinations i; dport = dports i }

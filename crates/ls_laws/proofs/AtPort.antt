-- What matches on the port of a packet mean: the field has the port's number.
use Rattle.std.proofs.Common.{◌≡◌, ◌<◌, true, List, [], ◌∷◌, map, sym, ap, refl, ◌∙◌, ◌⊎◌, inl, inr, arith}
use Rattle.std.specs.Prelude.{Some}
use Rattle.std.specs.List.{Contains}
use Rattle.std.proofs.lemmas.Bool.{and_parts, eqb-true, eq-eqb}
use Rattle.std.proofs.lemmas.List.Elements.{All-contains, All-from_recursion}
use Rattle.nv_base.specs.Field.{field_prerequisite}
use Rattle.nv_base.specs.declared.field.Field.{Field}
use Rattle.nv_base.specs.declared.field.Prerequisite.TheVariants.{Nothing}
use Rattle.pkt_core.specs.Packet.{Values, value}
use Rattle.pkt_core.specs.Prerequisite.{meets, is_there}
use Rattle.expr_eval.specs.MatchMeaning.{holds}
use Rattle.expr_eval.specs.Relation.{is_of_port}
use Rattle.nb_records.specs.declared.router.RouterPort.{RouterPort}
use Rattle.nb_records.specs.declared.switch.Port.{Port}
use Rattle.nb_model.specs.Names.{names, port_number}
use Rattle.nb_model.specs.Network.{Network}
use Rattle.nb_model.specs.Sound.{IsSound}
use Rattle.sb_model.specs.Make.{is_port}
use Rattle.net_rows.proofs.Elements.{one_of, one_of_none}
use Rattle.net_rows.proofs.Sound.{PortsRise, ports_rise, port_of_sound}
use Rattle.ls_laws.proofs.PortNames.{own_name, no_group}

-- the name of a port of a sound network leads to the port
pub port_by_name : (net : Network) (port : Port) → IsSound net → Contains net.ports port → port_number net port.name ≡ Some port.id
port_by_name net port sound there =
    rw (no_group port.name (port_of_sound net sound port there).named, own_name net.ports (map (λ (p : RouterPort). p.name) net.router_ports) port sound.named.ports there) refl

-- a field that each packet has
pub always_there : (packet : Values) (field : Field) → field_prerequisite field ≡ Nothing → is_there packet field ≡ true
always_there packet field plain = ap (meets packet) plain

module _ (net : Network) (packet : Values) (field : Field) (plain : field_prerequisite field ≡ Nothing) (sound : IsSound net) (port : Port) (there : Contains net.ports port) where
  -- the field has the number of the port where the match on its name holds
  pub at_port-gives : holds (names net) packet (is_port field port.name) ≡ true → value packet field ≡ port.id.0
  at_port-gives does =
      let parts = and_parts (is_there packet field) (is_of_port (value packet field) (port_number net port.name)) does in
      eqb-true (value packet field) port.id.0 (sym (ap (is_of_port (value packet field)) (port_by_name net port sound there)) ∙ parts.1)

  -- and where it has it, the match holds
  pub at_port-from : value packet field ≡ port.id.0 → holds (names net) packet (is_port field port.name) ≡ true
  at_port-from is = rw (always_there packet field plain, port_by_name net port sound there) (eq-eqb (value packet field) port.id.0 is)

-- ports of one number are one
one_port : (ports : List Port) → PortsRise ports → (p q : Port) → Contains ports p → Contains ports q → p.id.0 ≡ q.id.0 → p ≡ q
one_port [] rise p q at_p at_q same = absurd (one_of_none p at_p)
one_port (x ∷ ports) rise p q at_p at_q same = by (one_of x ports p at_p) (one_of x ports q at_q) (λ later_p later_q. one_port ports rise.1 p q later_p later_q same)
  where
    above : (r : Port) → Contains ports r → x.id.0 < r.id.0
    above r at = All-contains (λ (y : Port). x.id.0 < y.id.0) ports r (All-from_recursion (λ (y : Port). x.id.0 < y.id.0) ports rise.0) at

    by : (x ≡ p) ⊎ Contains ports p → (x ≡ q) ⊎ Contains ports q → (Contains ports p → Contains ports q → p ≡ q) → p ≡ q
    by (inl is_p) (inl is_q) rest = sym is_p ∙ is_q
    by (inl is_p) (inr later_q) rest = let below = above q later_q in let here : x.id.0 ≡ p.id.0 = ap (λ (r : Port). r.id.0) is_p in absurd (omega arith)
    by (inr later_p) (inl is_q) rest = let below = above p later_p in let here : x.id.0 ≡ q.id.0 = ap (λ (r : Port). r.id.0) is_q in absurd (omega arith)
    by (inr later_p) (inr later_q) rest = rest later_p later_q

pub same_port : (net : Network) → IsSound net → (p q : Port) → Contains net.ports p → Contains net.ports q → p.id.0 ≡ q.id.0 → p ≡ q
same_port net sound p q at_p at_q same = one_port net.ports (ports_rise net sound) p q at_p at_q same

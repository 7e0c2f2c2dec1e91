-- What the rules of VIPs ask of a packet, at a switch and at a router: that it begins a connection, and is to the address of the VIP, and to
-- its port where it has one.
use Rattle.std.proofs.Common.{◌≡◌, ℕ, Bool, true, false, List, map, length, eqb, sym, ap, refl, ◌∙◌}
use Rattle.std.specs.Prelude.{◌&&◌, Option, Some, None, option_map, slice_get}
use Rattle.std.specs.Option.{option_map_or}
use Rattle.std.proofs.lemmas.Bool.{false≢true, and_parts, eq-eqb, eqb-true}
use Rattle.std.proofs.lemmas.List.{length-map}
use Rattle.std.proofs.lemmas.Option.{slice_get-map}
use Rattle.nv_base.specs.declared.field.Field.TheVariants.{CtState, IpProto, Ip4Dst}
use Rattle.nv_base.specs.declared.field.Prerequisite.TheVariants as needs
use Rattle.pkt_core.specs.declared.tuple.Tuple.{Tuple}
use Rattle.pkt_core.specs.Packet.{Values, value}
use Rattle.pkt_core.specs.Prerequisite.{is_ip4, is_there, meets}
use Rattle.pkt_core.specs.Tuple.{dport_of, tuple}
use Rattle.ct_core.specs.declared.look.Look.{Look}
use Rattle.ct_core.specs.declared.look.Look.TheVariants.{Invalid, New, Found}
use Rattle.ct_core.specs.declared.look.Side.TheVariants.{Orig, Reply}
use Rattle.ct_core.specs.Look.{flags_of}
use Rattle.ct_core.specs.Translation.{balance, with_destination}
use Rattle.expr_core.specs.Formula.{formulas}
use Rattle.expr_core.specs.Lookup.{Lookup}
use Rattle.expr_core.specs.declared.predicate.Pred.TheVariants.{CtNew}
use Rattle.expr_eval.specs.MatchMeaning.{all_hold, holds}
use Rattle.act_core.specs.declared.step.Target.{Target}
use Rattle.nb_records.specs.declared.balancer.Backend.{Backend}
use Rattle.nb_records.specs.declared.balancer.Lb.{Lb}
use Rattle.nb_records.specs.declared.balancer.Proto.{Proto}
use Rattle.nb_records.specs.declared.balancer.Proto.TheVariants.{Tcp, Udp}
use Rattle.nb_records.specs.declared.balancer.Vip.{Vip}
use Rattle.sb_model.specs.Make.{is_predicate}
use Rattle.net_meaning.specs.Balancing.{is_of, is_to}
use Rattle.net_rows.specs.Build.{vip_input}
use Rattle.net_rows.specs.LoadBalancers as rows
use Rattle.net_rows.specs.LoadBalancers.{opens, port_field, target_of}
use Rattle.net_rows.specs.declared.inputs.VipInput.{VipInput}

-- equal numbers are so either way
pub turned : (m n : ℕ) → eqb m n ≡ eqb n m
turned m n = by (eqb m n) refl (eqb n m) refl
  where
    by : (p : Bool) → eqb m n ≡ p → (q : Bool) → eqb n m ≡ q → p ≡ q
    by true e true f = refl
    by true e false f = absurd (false≢true (sym f ∙ eq-eqb n m (sym (eqb-true m n e))))
    by false e true f = absurd (false≢true (sym e ∙ eq-eqb m n (sym (eqb-true n m f))))
    by false e false f = refl

and_none : (b : Bool) → (b && false) ≡ false
and_none true = refl
and_none false = refl

pub and_all : (b : Bool) → (b && true) ≡ b
and_all true = refl
and_all false = refl

-- a look-up tells that the packet begins a connection
abbrev pub is_new : Option Look → Bool
is_new (Some New) = true
is_new _ = false

module _ (packet : Values) where
  -- what a VIP of a protocol asks of the port
  abbrev pub asks : Proto → Option ℕ → Bool
  asks proto None = true
  asks proto (Some port) = is_of proto packet && eqb port (dport_of packet)

  -- what a VIP of a load balancer asks of the packet
  abbrev pub is_for : Lb → Vip → Bool
  is_for lb vip = is_to packet vip && asks lb.proto vip.at.port

  -- ---- the port

  -- a packet of UDP is none of TCP
  no_tcp : meets packet needs.Udp ≡ true → meets packet needs.Tcp ≡ false
  no_tcp udp =
      let parts = and_parts (is_ip4 packet) (eqb (value packet IpProto) 17) udp in
      ap (λ n. is_ip4 packet && eqb n 6) (eqb-true (value packet IpProto) 17 parts.1) ∙ and_none (is_ip4 packet)

  -- the field of the port is the packet's port
  field_match : (proto : Proto) (port : ℕ) → (is_there packet (port_field proto) && eqb (value packet (port_field proto)) port) ≡ (is_of proto packet && eqb port (dport_of packet))
  field_match Tcp port = by (meets packet needs.Tcp) refl
    where
      by : (b : Bool) → meets packet needs.Tcp ≡ b → (is_there packet (port_field Tcp) && eqb (value packet (port_field Tcp)) port) ≡ (is_of Tcp packet && eqb port (dport_of packet))
      by true is = rw is (turned (value packet (port_field Tcp)) port)
      by false is = rw is refl
  field_match Udp port = by (meets packet needs.Udp) refl
    where
      by : (b : Bool) → meets packet needs.Udp ≡ b → (is_there packet (port_field Udp) && eqb (value packet (port_field Udp)) port) ≡ (is_of Udp packet && eqb port (dport_of packet))
      by true is = rw (is, no_tcp is) (turned (value packet (port_field Udp)) port)
      by false is = rw is refl

  -- ---- the backend

  -- the tuple of a packet that goes to a backend
  abbrev pub to_backend : Backend → Tuple
  to_backend backend = with_destination backend.addr backend.port (tuple packet)

  abbrev pub to_target : Target → Tuple
  to_target target = with_destination target.addr target.port (tuple packet)

  -- a target is chosen as its backend is
  pub balanced_is : (backends : List Backend) → option_map to_target (slice_get (map target_of backends) (balance (tuple packet) (length (map target_of backends))))
      ≡ option_map to_backend (slice_get backends (balance (tuple packet) (length backends)))
  balanced_is backends =
      ap (λ n. option_map to_target (slice_get (map target_of backends) (balance (tuple packet) n))) (length-map backends target_of)
      ∙ ap (option_map to_target) (slice_get-map target_of backends (balance (tuple packet) (length backends)))
      ∙ by (slice_get backends (balance (tuple packet) (length backends)))
    where
      by : (o : Option Backend) → option_map to_target (option_map target_of o) ≡ option_map to_backend o
      by None = refl
      by (Some backend) = refl

-- ---- matches

module _ (known : Lookup) (packet : Values) where
  -- where the look-up is noted in the packet
  pub new_is : (found : Option Look) → value packet CtState ≡ option_map_or flags_of found 0 → holds known packet (is_predicate CtNew) ≡ is_new found
  new_is None is = rw is refl
  new_is (Some Invalid) is = rw is refl
  new_is (Some New) is = rw is refl
  new_is (Some (Found place Orig true blocked)) is = rw is refl
  new_is (Some (Found place Orig false blocked)) is = rw is refl
  new_is (Some (Found place Reply true blocked)) is = rw is refl
  new_is (Some (Found place Reply false blocked)) is = rw is refl

  port_match : (proto : Proto) (port : Option ℕ) → all_hold known packet (formulas (rows.is_to_port proto port)) ≡ asks packet proto port
  port_match proto None = refl
  port_match proto (Some port) = and_all (is_there packet (port_field proto) && eqb (value packet (port_field proto)) port) ∙ field_match packet proto port

  -- a packet of IPv4 is to this address
  pub destination_match : is_ip4 packet ≡ true → (n : ℕ) → (is_ip4 packet && eqb (value packet Ip4Dst) n) ≡ eqb n (value packet Ip4Dst)
  destination_match ip4 n = ap (λ b. b && eqb (value packet Ip4Dst) n) ip4 ∙ turned (value packet Ip4Dst) n

  -- the rule of a VIP takes what begins a connection to it
  pub opens_is : is_ip4 packet ≡ true → (found : Option Look) → value packet CtState ≡ option_map_or flags_of found 0 → (lb : Lb) (vip : Vip)
      → holds known packet (opens (vip_input lb vip)) ≡ (is_new found && is_for packet lb vip)
  opens_is ip4 found flagged lb vip = λ i. new_is found flagged i && (destination_match ip4 vip.at.addr.0 i && port_match lb.proto vip.at.port i)

  -- and no packet but of IPv4
  pub opens_for_ip4 : (input : VipInput) → holds known packet (opens input) ≡ true → is_ip4 packet ≡ true
  opens_for_ip4 input takes =
      let later = all_hold known packet (formulas (rows.is_to_port input.proto input.at.port)) in
      let here = is_ip4 packet && eqb (value packet Ip4Dst) input.at.addr.0 in
      let both = and_parts here later (and_parts (holds known packet (is_predicate CtNew)) (here && later) takes).1 in
      (and_parts (is_ip4 packet) (eqb (value packet Ip4Dst) input.at.addr.0) both.0).0

-- What becomes of packets that are alike: they are let out alike, and go on with one packet carried.
use Rattle.std.proofs.Common.{◌≡◌, ℕ, Bool, true, false, cond, List, [], ◌∷◌, sym, ap, refl, subst, ◌∙◌}
use Rattle.std.specs.Prelude.{Option, Some, None, not, ◌&&◌, ◌||◌, ◌==◌}
use Rattle.std.specs.List.{list_any}
use Rattle.nv_base.specs.declared.object.ObjId.{ObjId}
use Rattle.nv_base.specs.declared.field.Field.TheVariants.{Inport, FlagsLoopback, EthDst, EthType, ArpOp, ArpTpa, Ip4Dst}
use Rattle.nv_base.specs.declared.field.Prerequisite.TheVariants.{Tcp}
use Rattle.pkt_core.specs.Packet.{Values, value}
use Rattle.pkt_core.specs.Prerequisite.{meets}
use Rattle.pkt_core.specs.Replies.{is_answerable, reset, icmp_error, arp_reply}
use Rattle.pkt_core.specs.declared.replies.IcmpReason.TheVariants.{PortUnreachable}
use Rattle.nb_records.specs.declared.switch.Guard.{Guard}
use Rattle.nb_records.specs.declared.switch.Port.{Port}
use Rattle.nb_model.specs.Applies.{is_empty}
use Rattle.nb_model.specs.Network.{Network}
use Rattle.net_meaning.specs.AclVerdict.{Decision}
use Rattle.net_meaning.specs.AclVerdict.Decision.{Allowed, Dropped, Rejected, Full}
use Rattle.net_meaning.specs.Address.{is_multicast}
use Rattle.net_meaning.specs.Guards.{covers, is_for_many, is_let_out, some_guard}
use Rattle.net_meaning.specs.Switches.{mac_with, is_answering, answering, answered_for, port_for, open_ports, unknown_ports, to_unknown, to_port, sent_on, turned_back, is_request, asked, rejection, rejected, decided, let_out}
use Rattle.net_meaning.specs.Walk.{Passed, Target, carried, carrying}
use Rattle.net_meaning.specs.Walk.Passed.{GoesOn, Drops, Makes}
use Rattle.net_meaning.specs.Walk.Target.{OnePort, Ports}
use Rattle.net_meaning.specs.declared.answer.Answer.TheVariants.{Reject}
use Rattle.net_meaning.specs.declared.cause.Cause.TheVariants.{PortSec, Acl}
use Rattle.ls_ct_laws.proofs.Noted.{AreAlike}
use Rattle.ls_ct_laws.proofs.Alike.{alike_with, alike_arp_reply, alike_reset, alike_icmp_error, same_headers, same_meets, same_answerable}

module _ (a b : Values) (alike : AreAlike a b) where
  -- ---- what is asked of a packet

  pub same_multicast : is_multicast (value a EthDst) ≡ is_multicast (value b EthDst)
  same_multicast = ap is_multicast (alike.same EthDst refl)

  pub same_request : is_request a ≡ is_request b
  same_request = rw (alike.same EthType refl, alike.same ArpOp refl) refl

  -- a port lets out both or none
  pub same_let_out : (port : Port) → is_let_out port a ≡ is_let_out port b
  same_let_out port =
      ap (λ n. lets n (value a EthType) (value a Ip4Dst)) (alike.same EthDst refl)
      ∙ ap (λ n. lets (value b EthDst) n (value a Ip4Dst)) (alike.same EthType refl)
      ∙ ap (λ n. lets (value b EthDst) (value b EthType) n) (alike.same Ip4Dst refl)
    where
      -- by the numbers of the fields that it looks at
      nets : ℕ → ℕ → Guard → Bool
      nets kind to guard = ((kind == 0x800) && (list_any (covers to) guard.nets || is_for_many to guard.nets)) || not ((kind == 0x800) || (kind == 0x86dd))

      lets : ℕ → ℕ → ℕ → Bool
      lets mac kind to = is_multicast mac || some_guard (λ guard. (mac == guard.mac) && (is_empty guard.nets || nets kind to guard)) port

  -- ---- packets that are made

  pub alike_turned_back : AreAlike (turned_back a) (turned_back b)
  alike_turned_back = alike_with a b alike FlagsLoopback 1

  pub alike_rejection : AreAlike (rejection a) (rejection b)
  alike_rejection =
      subst (λ c. AreAlike (cond c (reset a) (icmp_error a PortUnreachable)) (rejection b)) (sym (same_meets a b alike Tcp)) (by (meets b Tcp))
    where
      by : (c : Bool) → AreAlike (cond c (reset a) (icmp_error a PortUnreachable)) (cond c (reset b) (icmp_error b PortUnreachable))
      by true = alike_reset a b alike
      by false = alike_icmp_error a b alike PortUnreachable

  -- ---- what goes on

  -- the same is carried of both
  pub same_carried : carried a ≡ carried b
  same_carried = rw (same_headers a b alike, alike.same Inport refl, alike.same FlagsLoopback refl) refl

  goes : (target : Target) → carrying (GoesOn target a) ≡ carrying (GoesOn target b)
  goes target = ap (GoesOn target) same_carried

  pub same_sent_on : (net : Network) (switch : ObjId) → carrying (sent_on net switch a) ≡ carrying (sent_on net switch b)
  same_sent_on net switch = ap (λ mac. carrying (sent mac a)) (alike.same EthDst refl) ∙ by_kind (is_multicast (value b EthDst))
    where
      sent : ℕ → Values → Passed
      sent mac packet =
          cond (is_multicast mac) (GoesOn (Ports (open_ports net switch)) packet) (to_port (port_for net switch mac) (unknown_ports net switch) packet)

      by_ports : (ports : List ObjId) → carrying (to_unknown ports a) ≡ carrying (to_unknown ports b)
      by_ports [] = refl
      by_ports (port ∷ ports) = goes (Ports (port ∷ ports))

      by_port : (found : Option Port) → carrying (to_port found (unknown_ports net switch) a) ≡ carrying (to_port found (unknown_ports net switch) b)
      by_port (Some port) = goes (OnePort port.id)
      by_port None = by_ports (unknown_ports net switch)

      by_kind : (c : Bool) → carrying (cond c (GoesOn (Ports (open_ports net switch)) a) (to_port (port_for net switch (value b EthDst)) (unknown_ports net switch) a))
          ≡ carrying (cond c (GoesOn (Ports (open_ports net switch)) b) (to_port (port_for net switch (value b EthDst)) (unknown_ports net switch) b))
      by_kind true = goes (Ports (open_ports net switch))
      by_kind false = by_port (port_for net switch (value b EthDst))

  -- what a port lets out
  pub same_out : (port : Port) → carrying (let_out port a) ≡ carrying (let_out port b)
  same_out port = ap (λ c. carrying (cond c (GoesOn (OnePort port.id) a) (Drops PortSec))) (same_let_out port) ∙ by (is_let_out port b)
    where
      by : (c : Bool) → carrying (cond c (GoesOn (OnePort port.id) a) (Drops PortSec)) ≡ carrying (cond c (GoesOn (OnePort port.id) b) (Drops PortSec))
      by true = goes (OnePort port.id)
      by false = refl

module _ (a b : Values) (alike : AreAlike a b) where
  -- what answers a request
  pub same_asked : (net : Network) (port : Port) → carrying (asked net port a) ≡ carrying (asked net port b)
  same_asked net port =
      ap (λ c. carrying (told c (value a ArpTpa) a)) (same_request a b alike) ∙ ap (λ ip. carrying (told (is_request b) ip a)) (alike.same ArpTpa refl)
      ∙ by_kind (is_request b && not (is_answering port.switch (value b ArpTpa) port))
    where
      told : Bool → ℕ → Values → Passed
      told asks ip packet =
          cond (asks && not (is_answering port.switch ip port)) (answered_for net port packet (answering net port.switch ip)) (sent_on net port.switch packet)

      by_port : (found : Option Port) → carrying (answered_for net port a found) ≡ carrying (answered_for net port b found)
      by_port None = same_sent_on a b alike net port.switch
      by_port (Some found) =
          let mac = mac_with (value b ArpTpa) found.addresses in
          ap (λ ip. GoesOn (OnePort port.id) (carried (turned_back (arp_reply a (mac_with ip found.addresses))))) (alike.same ArpTpa refl)
          ∙ goes (turned_back (arp_reply a mac)) (turned_back (arp_reply b mac)) (alike_turned_back (arp_reply a mac) (arp_reply b mac) (alike_arp_reply a b alike mac)) (OnePort port.id)

      by_kind : (c : Bool) → carrying (cond c (answered_for net port a (answering net port.switch (value b ArpTpa))) (sent_on net port.switch a))
          ≡ carrying (cond c (answered_for net port b (answering net port.switch (value b ArpTpa))) (sent_on net port.switch b))
      by_kind true = by_port (answering net port.switch (value b ArpTpa))
      by_kind false = same_sent_on a b alike net port.switch

  -- what answers a rejected packet
  pub same_rejected : carrying (rejected a) ≡ carrying (rejected b)
  same_rejected = ap (λ c. carrying (made c (value a Inport) a)) (same_answerable a b alike) ∙ ap (λ n. carrying (made (is_answerable b) n a)) (alike.same Inport refl) ∙ by (is_answerable b)
    where
      made : Bool → ℕ → Values → Passed
      made may port packet = cond may (Makes Reject (record { 0 = port }) (turned_back (rejection packet))) (Drops Acl)

      by : (may : Bool) → carrying (made may (value b Inport) a) ≡ carrying (made may (value b Inport) b)
      by true = ap (Makes Reject (record { 0 = value b Inport })) (same_carried (turned_back (rejection a)) (turned_back (rejection b)) (alike_turned_back (rejection a) (rejection b) (alike_rejection a b alike)))
      by false = refl

  -- what follows a decision, where the same follows where it is allowed
  pub same_decided : (what : Decision) (x y : Passed) → carrying x ≡ carrying y → carrying (decided what a x) ≡ carrying (decided what b y)
  same_decided Allowed x y onward = onward
  same_decided Dropped x y onward = refl
  same_decided Rejected x y onward = same_rejected
  same_decided Full x y onward = refl

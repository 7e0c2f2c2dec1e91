-- What ACLs and load balancers of a switch leave: a packet, of which all but addresses, ports and quotes is as before, and a state; for the
-- switch learns nothing, and the connections that it keeps are of numbers that fit.
use Rattle.std.proofs.Common.{◌≡◌, ℕ, Bool, true, false, cond, List, refl, subst, ◌∙◌}
use Rattle.std.specs.Prelude.{Option, Some, None}
use Rattle.std.specs.List.{Contains}
use Rattle.std.proofs.lemmas.Option.{same_Some, none-some}
use Rattle.pkt_core.specs.declared.tuple.Tuple.{Tuple}
use Rattle.pkt_core.specs.Packet.{Values, IsPacket}
use Rattle.pkt_core.specs.Tuple.{tuple, with_tuple}
use Rattle.ct_core.specs.declared.entry.Entry.{Entry}
use Rattle.ct_core.specs.declared.look.Look.{Look}
use Rattle.ct_core.specs.declared.look.Look.TheVariants.{Invalid, New, Found}
use Rattle.ct_core.specs.declared.look.Side.TheVariants.{Orig, Reply}
use Rattle.ct_core.specs.declared.zone.Zone.TheVariants as zone
use Rattle.ct_core.specs.Changes.{IsEntry, IsTuple, marked, recorded}
use Rattle.ct_core.specs.Look.{look}
use Rattle.ct_core.specs.State.{State, with_conns}
use Rattle.ct_core.specs.Translation.{begun_as, followed}
use Rattle.ct_core.proofs.Changed.{keeps_marked, keeps_recorded}
use Rattle.nb_records.specs.declared.acl.Acl.{Acl}
use Rattle.nb_records.specs.declared.acl.Way.{Way}
use Rattle.nb_records.specs.declared.acl.Way.TheVariants.{From, To}
use Rattle.nb_records.specs.declared.switch.Port.{Port}
use Rattle.nb_model.specs.Applies.{balances, lbs_on}
use Rattle.nb_model.specs.Network.{Network}
use Rattle.nb_model.specs.Sound.{IsSound}
use Rattle.net_meaning.specs.AclVerdict.{Decision, decided_by}
use Rattle.net_meaning.specs.AclVerdict.Decision.{Allowed, Dropped, Rejected, Full}
use Rattle.net_meaning.specs.Guards.{is_let_in}
use Rattle.net_meaning.specs.Switches.{after_acls, arriving_at, asked, leaving_by}
use Rattle.net_meaning.specs.Tracked.{Begun, Ruled, as_found, asked_acl, asked_again, asked_new, begins, is_to_keep, is_tracked, may_begin, ruled, ruled_after, ruled_as, ruled_by, to_backend, with_one}
use Rattle.net_meaning.specs.Walk.Passed.{Drops}
use Rattle.net_meaning.specs.declared.cause.Cause.TheVariants.{PortSec}
use Rattle.net_rows.proofs.Elements.{Contains-from_filter}
use Rattle.tr_router.specs.Parts.{IsState}
use Rattle.tr_router.proofs.Changed.{KeepsRest, balanced_is}
use Rattle.tr_router.proofs.Translated.{of_followed, swap_is, tuple_is, with_tuple_is, with_tuple_stays}
use Rattle.tr_walk.proofs.NetworkPorts.{its_port, number_fits}

-- what is left of a packet
pub record IsLeft (before : Values) (ruling : Ruled) : Type 0 where
  pub is : IsPacket ruling.packet
  pub rest : KeepsRest before ruling.packet
  pub state : IsState ruling.state

-- and of one that begins a connection
record BeginsOf (before : Values) (new : Begun) : Type 0 where
  is : IsPacket new.packet
  rest : KeepsRest before new.packet
  entry : IsEntry new.entry

module _ (before packet : Values) (is : IsPacket packet) (rest : KeepsRest before packet) (state : State) (are : IsState state) where
  -- no more than a decision
  as_it_is : (what : Decision) → IsLeft before (ruled_as what packet state)
  as_it_is what = record { is = is; rest = rest; state = are }

  -- with one more connection
  one_kept : (new : Begun) → BeginsOf before new → IsLeft before (with_one new packet state (recorded new.entry state.conns))
  one_kept new fits = by (recorded new.entry state.conns) refl
    where
      by : (room : Option (List Entry)) → recorded new.entry state.conns ≡ room → IsLeft before (with_one new packet state room)
      by (Some conns) there = record { is = fits.is; rest = fits.rest; state = record { conns = keeps_recorded new.entry state.conns conns are.conns fits.entry there; nbrs = are.nbrs } }
      by None full = as_it_is Full

  -- with a mark
  marked_kept : (what : Decision) (place : ℕ) (blocked : Bool) → IsLeft before (ruled_as what packet (with_conns (marked place blocked state.conns) state))
  marked_kept what place blocked = record { is = is; rest = rest; state = record { conns = keeps_marked place blocked state.conns are.conns; nbrs = are.nbrs } }

  new_kept : (new : Option Begun) → ((b : Begun) → new ≡ Some b → BeginsOf before b) → (what : Decision) → IsLeft before (asked_new new what packet state)
  new_kept (Some new) fits Allowed = one_kept new (fits new refl)
  new_kept (Some new) fits Dropped = as_it_is Dropped
  new_kept (Some new) fits Rejected = as_it_is Rejected
  new_kept (Some new) fits Full = as_it_is Full
  new_kept None fits what = as_it_is what

  again_kept : (keep : Bool) (what : Decision) (place : ℕ) → IsLeft before (asked_again keep what place packet state)
  again_kept true Allowed place = marked_kept Allowed place false
  again_kept false Allowed place = as_it_is Allowed
  again_kept true Dropped place = marked_kept Dropped place true
  again_kept true Rejected place = marked_kept Rejected place true
  again_kept true Full place = marked_kept Full place true
  again_kept false Dropped place = marked_kept Dropped place true
  again_kept false Rejected place = marked_kept Rejected place true
  again_kept false Full place = marked_kept Full place true

  found_kept : (acl : Option Acl) (new : Option Begun) → ((b : Begun) → new ≡ Some b → BeginsOf before b) → (found : Look) → IsLeft before (ruled_by acl new packet state found)
  found_kept acl new fits Invalid = as_it_is Dropped
  found_kept acl new fits New = new_kept new fits (decided_by acl)
  found_kept acl new fits (Found place Orig false blocked) = again_kept (is_to_keep acl) (decided_by acl) place
  found_kept acl new fits (Found place Orig true blocked) = as_it_is (cond blocked Dropped Allowed)
  found_kept acl new fits (Found place Reply related blocked) = as_it_is (cond blocked Dropped Allowed)

module _ (net : Network) (sound : IsSound net) (port : Port) (there : Contains net.ports port) (packet : Values) (state : State) (formed : IsPacket packet) (are : IsState state) where
  -- what a packet may begin fits
  module _ (now : Values) (is : IsPacket now) (rest : KeepsRest packet now) where
    entry_is : (t : Tuple) → IsTuple t → IsEntry (begun_as (zone.Port port.id) t now)
    entry_is t of = record { zone = number_fits net sound port.id (its_port net port there); orig = tuple_is now is; reply = swap_is t of }

    begun_fits : (keep : Bool) (to : Option Tuple) → ((t : Tuple) → to ≡ Some t → IsTuple t) → (b : Begun) → begins keep to (zone.Port port.id) now ≡ Some b → BeginsOf packet b
    begun_fits keep (Some t) fits b is_b =
        subst (BeginsOf packet) (same_Some _ b is_b)
        (record { is = with_tuple_is now t is (fits t refl); rest = λ field kept. with_tuple_stays now t field is.count kept ∙ rest field kept; entry = entry_is t (fits t refl) })
    begun_fits true None fits b is_b = subst (BeginsOf packet) (same_Some _ b is_b) (record { is = is; rest = rest; entry = entry_is (tuple now) (tuple_is now is) })
    begun_fits false None fits b none = absurd (none-some b none)

    backend_fits : (way : Way) (t : Tuple) → to_backend net way port.switch now ≡ Some t → IsTuple t
    backend_fits From t to = balanced_is net sound (lbs_on net port.switch) (λ lb attached. Contains-from_filter _ net.lbs lb attached) now is t to
    backend_fits To t none = absurd (none-some t none)

    after_kept : (way : Way) (found : Look) → IsLeft packet (ruled_after net way port now state found)
    after_kept way found =
        found_kept packet now is rest state are (asked_acl net way port now) (may_begin net way port now)
        (begun_fits (is_to_keep (asked_acl net way port now)) (to_backend net way port.switch now) (backend_fits way)) found

  pub ruled_left : (way : Way) → IsLeft packet (ruled net way port packet state)
  ruled_left way = by (is_tracked net way port packet)
    where
      told : Look
      told = look state.conns (zone.Port port.id) packet

      now_left : (b : Bool) → IsLeft packet (ruled_after net way port (cond b (followed state.conns packet told) packet) state told)
      now_left true =
          after_kept (followed state.conns packet told) (of_followed.formed state.conns packet told are.conns formed) (λ field kept. of_followed.leaves state.conns packet told field formed.count kept) way told
      now_left false = after_kept packet formed (λ field kept. refl) way told

      by : (b : Bool) → IsLeft packet (cond b (ruled_after net way port (as_found net way port state.conns packet told) state told) (ruled_as (decided_by (asked_acl net way port packet)) packet state))
      by true = now_left (balances net port.switch)
      by false = as_it_is packet packet formed (λ field kept. refl) state are (decided_by (asked_acl net way port packet))

  pub arriving_state : IsState (arriving_at net port packet state).state
  arriving_state = by (is_let_in port packet)
    where
      by : (b : Bool) → IsState (cond b (after_acls (ruled net From port packet state) (asked net port)) (record { passed = Drops PortSec; state = state })).state
      by true = (ruled_left From).state
      by false = are

  pub leaving_state : IsState (leaving_by net port packet state).state
  leaving_state = (ruled_left To).state

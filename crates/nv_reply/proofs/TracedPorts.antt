-- The port at which a trace begins is one of a datapath.
use Rattle.std.proofs.Common.{◌≡◌, ◌==◌, ℕ, Bool, true, false, cond, List, [], ◌∷◌, map, Some, None, Option, Ok, Err, IfOk, refl, sym, ap}
use Rattle.std.specs.Prelude.{option_map}
use Rattle.std.specs.List.{Contains}
use Rattle.std.proofs.lemmas.Bool.{eqb-true}
use Rattle.nv_base.specs.declared.object.ObjId.{ObjId}
use Rattle.std.proofs.lemmas.Result.{IfOk-at_ok}
use Rattle.nb_records.specs.declared.refusal.Refusal.TheVariants.{NotOnDatapath}
use Rattle.nb_records.specs.declared.router.RouterPort.{RouterPort}
use Rattle.nb_records.specs.declared.switch.Port.{Port}
use Rattle.nb_model.specs.Belongs.{either, is_number}
use Rattle.nb_model.specs.Network.{Network}
use Rattle.nb_model.specs.Sound.{port_ids, router_port_ids}
use Rattle.nb_model.proofs.Reading.{goes_on_anyway}
use Rattle.nb_store.specs.Places.{on_datapath}
use Rattle.nv_table.specs.Table.{record_of}
use Rattle.std.proofs.lemmas.List.Elements.{Contains-append_left, Contains-append_right}
use Rattle.net_rows.proofs.Elements.{one_first, one_later}
use Rattle.tr_walk.specs.Refined.{IsPort}
use Rattle.nv_reply.specs.Reply.{on_wanted, traced_port, wanted_datapath, wanted_port}

-- a record of a number is among the numbers
of_number : {R : Type 0} (number : R → ObjId) (n : ObjId) (records : List R) (r : R) → record_of number n records ≡ Some r → Contains (map number records) n
of_number number n [] r found = absurd (cc)
of_number {R} number n (x ∷ records) r found = by (n.0 == (number x).0) refl found (of_number number n records r)
  where
    same_number : n.0 ≡ (number x).0 → number x ≡ n
    same_number is = ap (λ (m : ℕ). record { 0 = m }) (sym is)

    by : (b : Bool) → (n.0 == (number x).0) ≡ b → cond b (Some x) (record_of number n records) ≡ Some r → (record_of number n records ≡ Some r → Contains (map number records) n)
        → Contains (number x ∷ map number records) n
    by true is there rest = one_first (number x) (map number records) n (same_number (eqb-true n.0 (number x).0 is))
    by false is there rest = one_later (number x) (map number records) n (rest there)

-- a port that is on a datapath
on_is_port : (net : Network) (number dp : ObjId) → on_datapath net number ≡ Some dp → IsPort net number
on_is_port net number dp on = of_switch (record_of (λ (port : Port). port.id) number net.ports) refl (record_of (λ (port : RouterPort). port.id) number net.router_ports) refl on
  where
    of_switch : (port : Option Port) → record_of (λ (p : Port). p.id) number net.ports ≡ port → (router : Option RouterPort) → record_of (λ (p : RouterPort). p.id) number net.router_ports ≡ router
        → either (option_map (λ (p : Port). p.switch) port) (option_map (λ (p : RouterPort). p.router) router) ≡ Some dp → IsPort net number
    of_switch (Some port) found router other is = Contains-append_left (port_ids net) (router_port_ids net) number (of_number (λ (p : Port). p.id) number net.ports port found)
    of_switch None none (Some port) found is = Contains-append_right (port_ids net) (router_port_ids net) number (of_number (λ (p : RouterPort). p.id) number net.router_ports port found)
    of_switch None none None found is = absurd (cc)

wanted_given : (net : Network) (dp : ObjId) (name : List ℕ) (port : ObjId) → IfOk (on_wanted net dp name port) (IsPort net)
wanted_given net dp name port = by (on_datapath net port) refl
  where
    by : (on : Option ObjId) → on_datapath net port ≡ on → IfOk (cond (is_number on dp) (Ok port) (Err (NotOnDatapath name))) (IsPort net)
    by None none = tt
    by (Some own) found = held (is_number (Some own) dp)
      where
        held : (b : Bool) → IfOk (cond b (Ok port) (Err (NotOnDatapath name))) (IsPort net)
        held true = on_is_port net port own found
        held false = tt

pub traced_is_port : (net : Network) (dp name : List ℕ) (arrival : ObjId) → traced_port net dp name ≡ Ok arrival → IsPort net arrival
traced_is_port net dp name arrival is =
    IfOk-at_ok (IsPort net) is
    (goes_on_anyway (IsPort net) (wanted_datapath net dp) _ (λ own. goes_on_anyway (IsPort net) (wanted_port net name) _ (wanted_given net own name)))

-- The peer of a port of a switch.
use Rattle.std.proofs.Common.{◌≡◌, ℕ, Bool, true, false, cond, ◌<◌, ◌==◌, ◌&&◌, List, [], ◌∷◌, Option, Some, None, refl, sym, ap, ◌∙◌, arith}
use borrow.Author.Tests.{eqb-true, eq-eqb}
use Rattle.std.specs.Prelude.{find}
use Rattle.std.specs.Str.{bytes_eq}
use Rattle.std.proofs.lemmas.Bool.{false≢true}
use Rattle.std.proofs.lemmas.Bool.Decides.{nat_tests}
use Rattle.nv_base.specs.inner.Exact.{list, number}
use Rattle.nv_base.specs.declared.object.ObjId.{ObjId}
use Rattle.nb_records.specs.declared.router.RouterPort.{RouterPort}
use Rattle.nb_records.specs.declared.switch.Port.{Port}
use Rattle.nb_records.specs.declared.switch.PortKind.{PortKind}
use Rattle.nb_records.specs.declared.switch.PortKind.TheVariants as kind
use Rattle.nb_model.specs.Belongs.{is_port, is_name, is_router_kind, is_to_router, peer_port, peer_router_port}
use Rattle.nb_model.specs.Network.{Network, router_port_named}
use Rattle.nv_table.specs.Table.{NumbersRise, record_of}
use Rattle.nv_table.proofs.Undone.{all_found}
use Rattle.nb_store.specs.inner.Peers.{peer_name}
use Rattle.nb_store.proofs.Found.{same_found, bytes_turned, peer_named}

-- what a test finds passes it
pub found_passes : {R : Type 0} (test : R → Bool) (rs : List R) (r : R) → find test rs ≡ Some r → test r ≡ true
found_passes test [] r e = absurd (cc)
found_passes test (x ∷ rs) r e = by (test x) refl e (found_passes test rs r)
  where
    by : (b : Bool) → test x ≡ b → cond b (Some x) (find test rs) ≡ Some r → (find test rs ≡ Some r → test r ≡ true) → test r ≡ true
    by true t f rest = let same : x ≡ r = cc in ap test (sym same) ∙ t
    by false t f rest = rest f

-- and it is the record of its number
pub found_is_record : {R : Type 0} (number : R → ObjId) (test : R → Bool) (rs : List R) (r : R) → NumbersRise number rs → find test rs ≡ Some r → record_of number (number r) rs ≡ Some r
found_is_record number test [] r rise e = absurd (cc)
found_is_record number test (x ∷ rs) r rise e = by (test x) e (found_is_record number test rs r rise.1)
  where
    differ : (m n : ℕ) → m < n → (n == m) ≡ false
    differ m n l = grind (arith, nat_tests)

    by : (b : Bool) → cond b (Some x) (find test rs) ≡ Some r → (find test rs ≡ Some r → record_of number (number r) rs ≡ Some r) → record_of number (number r) (x ∷ rs) ≡ Some r
    by true f rest =
        let same : x ≡ r = cc in
        ap (λ b. cond b (Some x) (record_of number (number r) rs)) (eq-eqb _ _ (ap (λ y. (number y).0) (sym same))) ∙ ap Some same
    by false f rest =
        let above : (number x).0 < (number r).0 = all_found number (λ y. (number x).0 < (number y).0) (number r) r rs rise.0 (rest f) in
        ap (λ b. cond b (Some x) (record_of number (number r) rs)) (differ _ _ above) ∙ rest f

none_passes : {R : Type 0} (test : R → Bool) (rs : List R) → ((r : R) → test r ≡ false) → find test rs ≡ None
none_passes test [] none = refl
none_passes test (x ∷ rs) none = ap (λ b. cond b (Some x) (find test rs)) (none x) ∙ none_passes test rs none

false_or : (b : Bool) → (b ≡ true → ⊥) → b ≡ false
false_or true h = absurd (h refl)
false_or false h = refl

and_false : (a : Bool) → (a && false) ≡ false
and_false true = refl
and_false false = refl

and_true : (a : Bool) → (a && true) ≡ a
and_true true = refl
and_true false = refl

module _ (net : Network) (port : Port) (there : record_of (λ (x : Port). x.id) port.id net.ports ≡ Some port) (rise : NumbersRise (λ (x : Port). x.id) net.ports) where
  -- the port found by a name is this one
  abbrev pub found : List ℕ → Bool
  found name = is_port port (peer_named name net.ports)

  -- then it names that router port
  names_it : (name : List ℕ) (o : Option Port) → peer_named name net.ports ≡ o → is_port port o ≡ true → (is_to_router port && is_name port.router_port name) ≡ true
  names_it name None e is = absurd (false≢true is)
  names_it name (Some peer) e is =
      let test : Port → Bool = λ p. is_to_router p && is_name p.router_port name in
      let of_peer : record_of (λ (x : Port). x.id) peer.id net.ports ≡ Some peer = found_is_record (λ (x : Port). x.id) test net.ports peer rise e in
      let own_number : port.id ≡ peer.id = ap (λ (n : ℕ). let m : ObjId = record { 0 = n } in m) (eqb-true _ _ is) in
      let same_record : Some port ≡ Some peer = sym there ∙ ap (λ (n : ObjId). record_of (λ (x : Port). x.id) n net.ports) own_number ∙ of_peer in
      let same : port ≡ peer = cc in
      ap test same ∙ found_passes test net.ports peer e

  no_peer_named : (k : PortKind) (o : Option (List ℕ)) (name : List ℕ) → peer_name k o ≡ None → (is_router_kind k && is_name o name) ≡ false
  no_peer_named kind.Router None name e = refl
  no_peer_named kind.Router (Some own) name e = absurd (cc)
  no_peer_named kind.Host o name e = refl

  peer_is_named : (k : PortKind) (o : Option (List ℕ)) (own name : List ℕ) → peer_name k o ≡ Some own → (is_router_kind k && is_name o name) ≡ bytes_eq own name
  peer_is_named kind.Router None own name e = absurd (cc)
  peer_is_named kind.Router (Some x) own name e = let same : x ≡ own = cc in ap (λ n. bytes_eq n name) same
  peer_is_named kind.Host o own name e = absurd (cc)

  -- a port that names no router port has no peer
  pub no_peer : peer_name port.kind port.router_port ≡ None → peer_router_port net port ≡ None
  no_peer e =
      none_passes (λ (other : RouterPort). is_port port (peer_port net other)) net.router_ports
      (λ other. false_or (found other.name) (λ is. false≢true (sym (no_peer_named port.kind port.router_port other.name e) ∙ names_it other.name (peer_named other.name net.ports) refl is)))

  module _ (name : List ℕ) (e : peer_name port.kind port.router_port ≡ Some name) where
    agree : (own : List ℕ) → found own ≡ (bytes_eq own name && found name)
    agree own = by (bytes_eq own name) refl
      where
        by : (b : Bool) → bytes_eq own name ≡ b → found own ≡ (b && found name)
        by true is = ap found (list _ number own name is)
        by false is = false_or (found own) (λ here. false≢true (sym is ∙ bytes_turned own name ∙ sym (peer_is_named port.kind port.router_port name own e) ∙ names_it own (peer_named own net.ports) refl here))

    by_name : peer_router_port net port ≡ find (λ (other : RouterPort). bytes_eq other.name name && found name) net.router_ports
    by_name = same_found _ _ (λ (other : RouterPort). agree other.name) net.router_ports

    -- the router port is its peer where it is the port that is found by that name
    pub is_peer : found name ≡ true → peer_router_port net port ≡ router_port_named net name
    is_peer is = by_name ∙ same_found _ _ (λ (other : RouterPort). ap (λ b. bytes_eq other.name name && b) is ∙ and_true (bytes_eq other.name name)) net.router_ports

    pub is_no_peer : found name ≡ false → peer_router_port net port ≡ None
    is_no_peer is = by_name ∙ none_passes _ net.router_ports (λ (other : RouterPort). ap (λ b. bytes_eq other.name name && b) is ∙ and_false (bytes_eq other.name name))

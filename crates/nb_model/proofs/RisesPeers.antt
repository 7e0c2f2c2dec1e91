-- A port is the peer of at most one router port, so fewer router ports have no more neighbours.
use Rattle.std.proofs.Common.{◌≡◌, ℕ, ◌≤◌, Bool, true, false, cond, not, ◌&&◌, Some, None, Option, List, [], ◌∷◌, ◌++◌, map, refl, sym, ap, ◌∙◌, subst, arith}
use Rattle.std.specs.Prelude.{IsTrue, filter, find, if◌then◌else◌}
use Rattle.std.specs.List.{list_all, AllByRecursion}
use Rattle.std.specs.Str.{bytes_eq}
use Rattle.std.proofs.lemmas.Bool.{and_parts, and_from, false≢true}
use Rattle.std.proofs.lemmas.Slice.Eq.{bytes_eq-Decides}
use Rattle.nv_base.specs.declared.object.ObjId.{ObjId}
use Rattle.nb_records.specs.declared.refusal.Kind.TheVariants as kind
use Rattle.nb_model.specs.Amounts.{amount, total, net_count, pair_count, neighbours_across, ip_count}
use Rattle.nb_model.specs.Belongs.{is_to_router, is_name, is_port, peer_port, peer_router_port}
use Rattle.nb_model.specs.Effect.{without}
use Rattle.nb_model.specs.Network.{Network, same, RouterPort, Port}
use Rattle.nb_model.specs.Readable.{are_apart}
use Rattle.nb_model.specs.Sound.{AreNumbered, AreNamed, switch_ids, port_ids, router_ids, router_port_ids, route_ids, nat_ids, lb_ids, acl_ids, set_ids, group_ids, binding_ids}
use Rattle.nb_model.proofs.Alike.{same_names, same_sym}
use Rattle.nb_model.proofs.Lists.{all_parts, same_is}
use Rattle.nb_model.proofs.RecordLists.{all_as, apart_by, found_holds, only}
use Rattle.nb_model.proofs.RisesNeighbours.{is_peer_of, is_across}
use Rattle.nb_model.proofs.Totals.{le_self, total_kept, total_fewer}

-- Lists of which no two are the same.

apart_second : {X : Type 0} (same : X → X → Bool) (xs ys : List X) → IsTrue (are_apart same (xs ++ ys)) → IsTrue (are_apart same ys)
apart_second same [] ys apart = apart
apart_second same (x ∷ xs) ys apart = let parts = and_parts (list_all (λ y. not (same x y)) (xs ++ ys)) (are_apart same (xs ++ ys)) apart in apart_second same xs ys parts.1

apart_first : {X : Type 0} (same : X → X → Bool) (xs ys : List X) → IsTrue (are_apart same (xs ++ ys)) → IsTrue (are_apart same xs)
apart_first same [] ys apart = refl
apart_first same (x ∷ xs) ys apart =
    let parts = and_parts (list_all (λ y. not (same x y)) (xs ++ ys)) (are_apart same (xs ++ ys)) apart in
    and_from (list_all (λ y. not (same x y)) xs) (are_apart same xs) (all_parts (λ y. not (same x y)) xs ys parts.0).0 (apart_first same xs ys parts.1)

not_weaker : (p q : Bool) → (IsTrue q → IsTrue p) → IsTrue (not p) → IsTrue (not q)
not_weaker true q weaker fails = absurd (false≢true fails)
not_weaker false true weaker fails = absurd (false≢true (weaker refl))
not_weaker false false weaker fails = refl

-- nor by a stronger test
apart_as : {X : Type 0} (s t : X → X → Bool) (xs : List X) → ((a b : X) → IsTrue (t a b) → IsTrue (s a b)) → IsTrue (are_apart s xs) → IsTrue (are_apart t xs)
apart_as s t [] stronger apart = refl
apart_as s t (x ∷ xs) stronger apart =
    let parts = and_parts (list_all (λ y. not (s x y)) xs) (are_apart s xs) apart in
    and_from (list_all (λ y. not (t x y)) xs) (are_apart t xs)
    (all_as (λ y. not (s x y)) (λ y. not (t x y)) xs (λ y fails. not_weaker (s x y) (t x y) (stronger x y) fails) parts.0) (apart_as s t xs stronger parts.1)

-- what holds of each holds of what is found
found_every : {X : Type 0} (P : X → Type 0) (q : X → Bool) (xs : List X) (y : X) → AllByRecursion P xs → find q xs ≡ Some y → P y
found_every P q [] y all found = absurd (cc)
found_every {X} P q (x ∷ xs) y all found = by (q x) found all.0 (found_every P q xs y all.1)
  where
    by : (here : Bool) → cond here (Some x) (find q xs) ≡ Some y → P x → (find q xs ≡ Some y → P y) → P y
    by true is passes more = let it : x ≡ y = cc in subst P it passes
    by false is passes more = more is

-- nothing is found where none passes
find_none : {X : Type 0} (p : X → Bool) (xs : List X) → IsTrue (list_all (λ x. not (p x)) xs) → find p xs ≡ None
find_none p [] none = refl
find_none {X} p (x ∷ xs) none =
    let parts = and_parts (not (p x)) (list_all (λ y. not (p y)) xs) none in
    by (p x) parts.0 (find_none p xs parts.1)
  where
    by : (here : Bool) → IsTrue (not here) → find p xs ≡ None → cond here (Some x) (find p xs) ≡ None
    by true fails more = absurd (false≢true fails)
    by false fails more = more

nothing_left : (a b c : ℕ) → a ≤ b → b ≡ 0 → a ≤ c
nothing_left a b c less nothing = omega arith

-- what is found of those that are kept, where at most one passes
found_kept : (p keep : RouterPort → Bool) (xs : List RouterPort) → IsTrue (are_apart (λ a b. p a && p b) xs) → net_count (find p (filter keep xs)) ≤ net_count (find p xs)
found_kept p keep [] apart = le_self 0
found_kept p keep (x ∷ xs) apart =
    let parts = and_parts (list_all (λ y. not (p x && p y)) xs) (are_apart (λ a b. p a && p b) xs) apart in
    by (p x) (keep x) refl parts.0 (found_kept p keep xs parts.1)
  where
    by : (here kept : Bool) → p x ≡ here → IsTrue (list_all (λ y. not (p x && p y)) xs) → net_count (find p (filter keep xs)) ≤ net_count (find p xs)
        → net_count (find p (cond kept (x ∷ filter keep xs) (filter keep xs))) ≤ net_count (cond here (Some x) (find p xs))
    by true true is alone rest = subst (λ b. net_count (cond b (Some x) (find p (filter keep xs))) ≤ net_count (Some x)) (sym is) (le_self (net_count (Some x)))
    by false true is alone rest = subst (λ b. net_count (cond b (Some x) (find p (filter keep xs))) ≤ net_count (find p xs)) (sym is) rest
    by true false is alone rest =
        let none : find p xs ≡ None = find_none p xs (all_as (λ y. not (p x && p y)) (λ y. not (p y)) xs (λ y fails. not_weaker (p x && p y) (p y) (λ there. and_from (p x) (p y) is there) fails) alone) in
        nothing_left (net_count (find p (filter keep xs))) (net_count (find p xs)) (net_count (Some x)) rest (ap net_count none)
    by false false is alone rest = rest

-- Peers.

-- ports of one number are one
one_port : (q r : Port → Bool) (ports : List Port) (x y : Port) → IsTrue (are_apart (λ a b. same a.id b.id) ports) → find q ports ≡ Some x → find r ports ≡ Some y
    → IsTrue (same x.id y.id) → y ≡ x
one_port q r ports x y apart at_x at_y is =
    found_every (λ z. IsTrue (same x.id z.id) → z ≡ x) r ports y
    (only (λ a b. same a.id b.id) q (λ z. same x.id z.id) ports x apart at_x (λ z there. there) (λ z there. same_sym z.id x.id ∙ there)) at_y is

-- an option names one name
one_name : (own : Option (List ℕ)) (m n : List ℕ) → IsTrue (is_name own m) → IsTrue (is_name own n) → IsTrue (bytes_eq m n)
one_name None m n first second = absurd (false≢true first)
one_name (Some own) m n first second = (bytes_eq-Decides m n).1 (sym (same_names own m first) ∙ same_names own n second)

-- router ports of which a port is the peer have one name
peers_named : (net : Network) → IsTrue (are_apart (λ a b. same a.id b.id) net.ports) → (port : Port) (a b : RouterPort)
    → IsTrue (is_port port (peer_port net a) && is_port port (peer_port net b)) → IsTrue (bytes_eq a.name b.name)
peers_named net apart port a b both =
    let parts = and_parts (is_port port (peer_port net a)) (is_port port (peer_port net b)) both in
    by (peer_port net a) (peer_port net b) refl refl parts.0 parts.1
  where
    by : (x y : Option Port) → peer_port net a ≡ x → peer_port net b ≡ y → IsTrue (is_port port x) → IsTrue (is_port port y) → IsTrue (bytes_eq a.name b.name)
    by None y at_a at_b first second = absurd (false≢true first)
    by (Some x) None at_a at_b first second = absurd (false≢true second)
    by (Some x) (Some y) at_a at_b first second =
        let it : y ≡ x = one_port (is_peer_of a.name) (is_peer_of b.name) net.ports x y apart at_a at_b (subst (λ id. IsTrue (same id y.id)) (same_is port.id x.id first) second) in
        let of_a = and_parts (is_to_router x) (is_name x.router_port a.name) (found_holds (is_peer_of a.name) net.ports x at_a) in
        let of_b = and_parts (is_to_router y) (is_name y.router_port b.name) (found_holds (is_peer_of b.name) net.ports y at_b) in
        one_name x.router_port a.name b.name of_a.1 (subst (λ (p : Port). IsTrue (is_name p.router_port b.name)) it of_b.1)

-- Fewer router ports.

pub record ArePeersApart (net : Network) : Type 0 where
  pub ports : IsTrue (are_apart (λ a b. same a.id b.id) net.ports)
  pub router_ports : IsTrue (are_apart (λ a b. bytes_eq a.name b.name) net.router_ports)

pub are_peers_apart : (net : Network) → AreNumbered net → AreNamed net → ArePeersApart net
are_peers_apart net numbered named =
    let others : List ObjId = router_ids net ++ (router_port_ids net ++ (route_ids net ++ (nat_ids net ++ (lb_ids net ++ (acl_ids net ++ (set_ids net ++ (group_ids net ++ binding_ids net))))))) in
    record {
      ports = apart_by same (λ (port : Port). port.id) net.ports
          (apart_first same (port_ids net) others (apart_second same (switch_ids net) (port_ids net ++ others) numbered.apart));
      router_ports = apart_by bytes_eq (λ (port : RouterPort). port.name) net.router_ports
          (apart_second bytes_eq (map (λ (port : Port). port.name) net.ports) (map (λ (port : RouterPort). port.name) net.router_ports) named.ports);
    }

either_less : (b : Bool) (m n k : ℕ) → m ≤ n → (if b then m else k) ≤ (if b then n else k)
either_less true m n k less = less
either_less false m n k less = le_self k

fewer_pairs : (net : Network) (gone : RouterPort → Bool) → ArePeersApart net → (port : Port)
    → pair_count (record net { router_ports = without gone net.router_ports }) port ≤ pair_count net port
fewer_pairs net gone apart port =
    let after : Network = record net { router_ports = without gone net.router_ports } in
    let is_of : RouterPort → Bool = λ other. is_port port (peer_port net other) in
    either_less (is_to_router port) (net_count (peer_router_port after port)) (net_count (peer_router_port net port)) (total ip_count port.addresses)
    (found_kept is_of (λ other. not (gone other)) net.router_ports
    (apart_as (λ a b. bytes_eq a.name b.name) (λ a b. is_of a && is_of b) net.router_ports (peers_named net apart.ports port) apart.router_ports))

fewer_across : (net : Network) (gone : RouterPort → Bool) → ArePeersApart net → (peer : Option Port)
    → neighbours_across (record net { router_ports = without gone net.router_ports }) peer ≤ neighbours_across net peer
fewer_across net gone apart None = le_self 0
fewer_across net gone apart (Some peer) =
    let after : Network = record net { router_ports = without gone net.router_ports } in
    total_fewer (pair_count after) (pair_count net) (is_across peer) (is_across peer) net.ports (λ port is. is) (fewer_pairs net gone apart)

pub router_ports_less_known : (net : Network) (gone : RouterPort → Bool) → ArePeersApart net
    → amount (record net { router_ports = without gone net.router_ports }) kind.Neighbour ≤ amount net kind.Neighbour
router_ports_less_known net gone apart =
    let after : Network = record net { router_ports = without gone net.router_ports } in
    total_kept (λ port. neighbours_across after (peer_port after port)) (λ port. neighbours_across net (peer_port net port)) (λ port. not (gone port)) net.router_ports
    (λ port. fewer_across net gone apart (peer_port net port))

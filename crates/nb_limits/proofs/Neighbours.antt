-- All neighbours that router ports know are known at the ports of the switches, where each port is known to the router ports beside it.
use Rattle.std.proofs.Common.{◌≡◌, ℕ, ◌+◌, ◌*◌, ◌-◌, ◌≤◌, Bool, true, false, cond, not, ◌&&◌, ◌||◌, List, [], ◌∷◌, Option, Some, None, arith, refl, sym, ap, ◌∙◌, subst, length}
use Rattle.std.proofs.lemmas.Bool.{and_parts, and_from, false≢true}
use Rattle.std.specs.Prelude.{IsTrue, filter, find}
use Rattle.std.specs.List.{list_all, AllByRecursion}
use Rattle.std.specs.Str.{bytes_eq}
use Rattle.nv_base.specs.declared.object.ObjId.{ObjId}
use Rattle.nb_records.specs.declared.refusal.Kind.TheVariants as kind
use Rattle.nb_records.specs.declared.router.RouterPort.{RouterPort}
use Rattle.nb_records.specs.declared.switch.Port.{Port}
use Rattle.nb_records.specs.declared.switch.Switch.{Switch}
use Rattle.nb_model.specs.Amounts.{amount, total, pair_count, neighbours_across}
use Rattle.nb_model.specs.Belongs.{is_to_router, is_name, is_among, is_port, peer_port}
use Rattle.nb_model.specs.Network.{Network, same}
use Rattle.nb_model.specs.Readable.{are_apart}
use Rattle.nb_model.specs.Sound.{switch_ids}
use Rattle.nb_model.proofs.Alike.{same_names}
use Rattle.nb_model.proofs.Lists.{same_is, same_self}
use Rattle.nb_model.proofs.RisesNeighbours.{is_across, is_peer_of}
use Rattle.nb_model.proofs.RisesPeers.{are_peers_apart}
use Rattle.nb_model.proofs.Totals.{total_cons, length_kept}
use Rattle.nv_table.specs.Table.{NumbersRise, record_of}
use Rattle.nb_store.proofs.Peering.{found_is_record, found_passes}
use Rattle.nb_store.proofs.PlacedRecords.{rises}
use Rattle.nb_limits.specs.Limitless.{IsSoundButLimits}
use Rattle.nb_limits.specs.inner.Across.{peered, peers_on, known_at, neighbours_on}
use Rattle.nb_limits.specs.inner.Weights.{found_count}
use Rattle.nb_limits.proofs.Counted.{two_kinds, none_kept, of_number, is_found, found_list}
use Rattle.nb_limits.proofs.Every.{each_is_record, every_as, every_holds}
use Rattle.nb_limits.proofs.Rest.{same_kept}
use Rattle.nb_limits.proofs.Swapped.{total_filter, total_same, swapped}

-- Sums over lists.

-- of one amount for each
pub total_each : {X : Type 0} (n : ℕ) (xs : List X) → total (λ x. n) xs ≡ n * length xs
total_each n [] = none n
  where
    none : (n : ℕ) → 0 ≡ n * 0
    none n = omega arith
total_each {X} n (x ∷ xs) = total_cons (λ (y : X). n) x xs ∙ ap (λ m. n + m) (total_each n xs) ∙ one_more n (length xs) (length (x ∷ xs)) (omega arith)
  where
    spread : (n m : ℕ) → n + n * m ≡ n * (m + 1)
    spread n m = grind arith

    one_more : (n m k : ℕ) → k ≡ m + 1 → n + n * m ≡ n * k
    one_more n m k is = spread n m ∙ ap (λ j. n * j) (sym is)

total_ones : {X : Type 0} (xs : List X) → total (λ x. 1) xs ≡ length xs
total_ones xs = total_each 1 xs ∙ once (length xs)
  where
    once : (n : ℕ) → 1 * n ≡ n
    once n = omega arith

-- of those that are kept, by what is so of all
total_same_kept : {X : Type 0} (f g : X → ℕ) (q : X → Bool) (xs : List X) → AllByRecursion (λ x. f x ≡ g x) xs → total f (filter q xs) ≡ total g (filter q xs)
total_same_kept f g q [] all = refl
total_same_kept {X} f g q (x ∷ xs) all = by (q x) (total_same_kept f g q xs all.1)
  where
    by : (b : Bool) → total f (filter q xs) ≡ total g (filter q xs) → total f (cond b (x ∷ filter q xs) (filter q xs)) ≡ total g (cond b (x ∷ filter q xs) (filter q xs))
    by true more = total_cons f x (filter q xs) ∙ ap (λ n. n + total f (filter q xs)) all.0 ∙ ap (λ n. g x + n) more ∙ sym (total_cons g x (filter q xs))
    by false more = more

total_same_all : {X : Type 0} (f g : X → ℕ) (xs : List X) → AllByRecursion (λ x. f x ≡ g x) xs → total f xs ≡ total g xs
total_same_all f g [] all = refl
total_same_all f g (x ∷ xs) all = total_cons f x xs ∙ ap (λ n. n + total f xs) all.0 ∙ ap (λ n. g x + n) (total_same_all f g xs all.1) ∙ sym (total_cons g x xs)

-- two tests, one after the other
kept_turned : {X : Type 0} (p q : X → Bool) (xs : List X) → filter p (filter q xs) ≡ filter q (filter p xs)
kept_turned p q [] = refl
kept_turned {X} p q (x ∷ xs) = by (p x) (q x) refl refl (kept_turned p q xs)
  where
    by : (a b : Bool) → p x ≡ a → q x ≡ b → filter p (filter q xs) ≡ filter q (filter p xs) → filter p (cond b (x ∷ filter q xs) (filter q xs)) ≡ filter q (cond a (x ∷ filter p xs) (filter p xs))
    by true true e f more = ap (λ c. cond c (x ∷ filter p (filter q xs)) (filter p (filter q xs))) e ∙ ap (λ (l : List X). x ∷ l) more ∙ sym (ap (λ c. cond c (x ∷ filter q (filter p xs)) (filter q (filter p xs))) f)
    by true false e f more = more ∙ sym (ap (λ c. cond c (x ∷ filter q (filter p xs)) (filter q (filter p xs))) f)
    by false true e f more = ap (λ c. cond c (x ∷ filter p (filter q xs)) (filter p (filter q xs))) e ∙ more
    by false false e f more = more

-- where at most one passes, as many are kept as one is found
none_after : {X : Type 0} (q : X → Bool) (x : X) (xs : List X) → q x ≡ true → IsTrue (list_all (λ y. not (q x && q y)) xs) → filter q xs ≡ []
none_after q x [] is alone = refl
none_after {X} q x (y ∷ xs) is alone = let parts = and_parts (not (q x && q y)) (list_all (λ z. not (q x && q z)) xs) alone in by (q y) refl parts.0 (none_after q x xs is parts.1)
  where
    by : (b : Bool) → q y ≡ b → IsTrue (not (q x && q y)) → filter q xs ≡ [] → cond b (y ∷ filter q xs) (filter q xs) ≡ []
    by true e fails more = absurd (false≢true (sym (ap (λ b. not (b && q y)) is ∙ ap (λ b. not (true && b)) e) ∙ fails))
    by false e fails more = more

pub one_passes : {X : Type 0} (q : X → Bool) (xs : List X) → IsTrue (are_apart (λ a b. q a && q b) xs) → length (filter q xs) ≡ found_count (find q xs)
one_passes q [] apart = refl
one_passes {X} q (x ∷ xs) apart =
    let parts = and_parts (list_all (λ y. not (q x && q y)) xs) (are_apart (λ a b. q a && q b) xs) apart in
    by (q x) refl parts.0 (one_passes q xs parts.1)
  where
    by : (b : Bool) → q x ≡ b → IsTrue (list_all (λ y. not (q x && q y)) xs) → length (filter q xs) ≡ found_count (find q xs) → length (cond b (x ∷ filter q xs) (filter q xs)) ≡ found_count (cond b (Some x) (find q xs))
    by true is alone more = ap (λ (l : List X). length (x ∷ l)) (none_after q x xs is alone)
    by false is alone more = more

pub not_both_apart : {X : Type 0} (s t : X → X → Bool) (xs : List X) → ((a b : X) → IsTrue (t a b) → IsTrue (s a b)) → IsTrue (are_apart s xs) → IsTrue (are_apart t xs)
not_both_apart s t [] stronger apart = refl
not_both_apart {X} s t (x ∷ xs) stronger apart =
    let parts = and_parts (list_all (λ y. not (s x y)) xs) (are_apart s xs) apart in
    and_from (list_all (λ y. not (t x y)) xs) (are_apart t xs) (none xs parts.0) (not_both_apart s t xs stronger parts.1)
  where
    by : (a b : Bool) → (IsTrue b → IsTrue a) → IsTrue (not a) → IsTrue (not b)
    by true b w fails = absurd (false≢true fails)
    by false true w fails = absurd (false≢true (w refl))
    by false false w fails = refl

    none : (l : List X) → IsTrue (list_all (λ y. not (s x y)) l) → IsTrue (list_all (λ y. not (t x y)) l)
    none [] all = refl
    none (y ∷ l) all = let parts = and_parts (not (s x y)) (list_all (λ z. not (s x z)) l) all in and_from (not (t x y)) (list_all (λ z. not (t x z)) l) (by (s x y) (t x y) (stronger x y) parts.0) (none l parts.1)

-- Peers.

-- an option names one name
one_name : (own : Option (List ℕ)) (m n : List ℕ) → IsTrue (is_name own m) → IsTrue (is_name own n) → IsTrue (bytes_eq m n)
one_name None m n first second = absurd (false≢true first)
one_name (Some own) m n first second = subst (λ it. IsTrue (bytes_eq it n)) (same_names own m first) second

-- a peer is on this switch
abbrev pub is_peer_on : ObjId → Option Port → Bool
is_peer_on switch None = false
is_peer_on switch (Some peer) = same switch peer.switch

-- a router port with this peer knows the port
abbrev knows : Option Port → Port → Bool
knows None port = false
knows (Some peer) port = is_across peer port

module _ (net : Network) (limitless : IsSoundButLimits net) where
  pub ports_rise : NumbersRise (λ (p : Port). p.id) net.ports
  ports_rise = rises (λ (p : Port). p.id) net.ports limitless.numbered.order.ports

  -- the port of this number is the peer
  is_the_peer : (port peer : Port) (own : RouterPort) → record_of (λ (p : Port). p.id) port.id net.ports ≡ Some port → peer_port net own ≡ Some peer → IsTrue (same port.id peer.id) → port ≡ peer
  is_the_peer port peer own there is alike =
      let of_peer : record_of (λ (p : Port). p.id) peer.id net.ports ≡ Some peer = found_is_record (λ (p : Port). p.id) (is_peer_of own.name) net.ports peer ports_rise is in
      let both : Some port ≡ Some peer = sym there ∙ ap (λ (n : ObjId). record_of (λ (p : Port). p.id) n net.ports) (same_is port.id peer.id alike) ∙ of_peer in
      cc

  module _ (port : Port) (there : record_of (λ (p : Port). p.id) port.id net.ports ≡ Some port) where
    pub names_it : (own : RouterPort) (found : Option Port) → peer_port net own ≡ found → IsTrue (is_port port found) → IsTrue (is_name port.router_port own.name)
    names_it own None is alike = absurd (false≢true alike)
    names_it own (Some peer) is alike =
        subst (λ (p : Port). IsTrue (is_name p.router_port own.name)) (sym (is_the_peer port peer own there is alike))
        (and_parts (is_to_router peer) (is_name peer.router_port own.name) (found_passes (is_peer_of own.name) net.ports peer is)).1

    -- it is the peer of at most one
    pub peered_is : peered net port ≡ length (filter (λ own. is_port port (peer_port net own)) net.router_ports)
    peered_is =
        sym (one_passes (λ own. is_port port (peer_port net own)) net.router_ports
        (not_both_apart (λ a b. bytes_eq a.name b.name) (λ a b. is_port port (peer_port net a) && is_port port (peer_port net b)) net.router_ports of_one_name (are_peers_apart net limitless.numbered limitless.named).router_ports))
      where
        of_one_name : (a b : RouterPort) → IsTrue (is_port port (peer_port net a) && is_port port (peer_port net b)) → IsTrue (bytes_eq a.name b.name)
        of_one_name a b both =
            let parts = and_parts (is_port port (peer_port net a)) (is_port port (peer_port net b)) both in
            one_name port.router_port a.name b.name (names_it a (peer_port net a) refl parts.0) (names_it b (peer_port net b) refl parts.1)

    -- a peer on the switch of an enabled port is another one, across which the port is known, or the port itself
    module _ (on : port.enabled ≡ true) where
      abbrev other : RouterPort → Bool
      other own = knows (peer_port net own) port

      abbrev itself : RouterPort → Bool
      itself own = is_port port (peer_port net own)

      other_or_itself : (own : RouterPort) → (other own || itself own) ≡ is_peer_on port.switch (peer_port net own)
      other_or_itself own = at (peer_port net own) refl
        where
          alone : (b : Bool) → ((b && true) || false) ≡ b
          alone true = refl
          alone false = refl

          whole : (b : Bool) → (b || true) ≡ true
          whole true = refl
          whole false = refl

          by : (peer : Port) (b : Bool) → same port.id peer.id ≡ b → peer_port net own ≡ Some peer → ((true && (same port.switch peer.switch && not b)) || b) ≡ same port.switch peer.switch
          by peer true alike is =
              whole (true && (same port.switch peer.switch && not true)) ∙ sym (ap (λ (p : Port). same port.switch p.switch) (sym (is_the_peer port peer own there is alike)) ∙ same_self port.switch)
          by peer false alike is = alone (same port.switch peer.switch)

          at : (found : Option Port) → peer_port net own ≡ found → (knows found port || is_port port found) ≡ is_peer_on port.switch found
          at None is = refl
          at (Some peer) is = ap (λ b. (b && (same port.switch peer.switch && not (same port.id peer.id))) || same port.id peer.id) on ∙ by peer (same port.id peer.id) refl is

      not_both : (owns : List RouterPort) → IsTrue (list_all (λ own. not (other own && itself own)) owns)
      not_both [] = refl
      not_both (own ∷ owns) = and_from (not (other own && itself own)) (list_all (λ o. not (other o && itself o)) owns) (one (peer_port net own)) (not_both owns)
        where
          by : (a b c : Bool) → IsTrue (not ((a && (b && not c)) && c))
          by true true true = refl
          by true true false = refl
          by true false c = refl
          by false b c = refl

          one : (found : Option Port) → IsTrue (not (knows found port && is_port port found))
          one None = refl
          one (Some peer) = by port.enabled (same port.switch peer.switch) (same port.id peer.id)

      beside : length (filter (λ own. is_peer_on port.switch (peer_port net own)) net.router_ports) ≡ length (filter other net.router_ports) + peered net port
      beside =
          ap length (sym (same_kept (λ own. other own || itself own) (λ own. is_peer_on port.switch (peer_port net own)) net.router_ports other_or_itself))
          ∙ two_kinds other itself net.router_ports (not_both net.router_ports)
          ∙ ap (λ n. length (filter other net.router_ports) + n) (sym peered_is)

  -- As many ports of a switch are peers as router ports have their peers there.

  each_port : AllByRecursion (λ (p : Port). record_of (λ (x : Port). x.id) p.id net.ports ≡ Some p) net.ports
  each_port = each_is_record (λ (p : Port). p.id) net.ports ports_rise

  module _ (switch : ObjId) where
    abbrev on : Port → Bool
    on port = same switch port.switch

    one_peer : (own : RouterPort) (found : Option Port) → peer_port net own ≡ found → total (λ port. 1) (filter (λ port. is_port port found) (filter on net.ports)) ≡ cond (is_peer_on switch found) 1 0
    one_peer own None is = total_ones (filter (λ (port : Port). false) (filter on net.ports)) ∙ none_kept (filter on net.ports)
    one_peer own (Some peer) is =
        ap (total (λ (port : Port). 1))
        (kept_turned (λ (port : Port). same port.id peer.id) on net.ports
        ∙ ap (filter on) (of_number (λ (p : Port). p.id) peer.id net.ports ports_rise ∙ ap (found_list (λ (p : Port). p.id) peer.id) (found_is_record (λ (p : Port). p.id) (is_peer_of own.name) net.ports peer ports_rise is)))
        ∙ by (same switch peer.switch)
      where
        by : (b : Bool) → total (λ (port : Port). 1) (cond b (peer ∷ []) []) ≡ cond b 1 0
        by true = refl
        by false = refl

    pub peers_are : peers_on net switch ≡ length (filter (λ own. is_peer_on switch (peer_port net own)) net.router_ports)
    peers_are =
        total_same_kept (peered net) (λ port. total (λ own. 1) (filter (λ own. is_port port (peer_port net own)) net.router_ports)) on net.ports
        (every_as (λ (p : Port). record_of (λ (x : Port). x.id) p.id net.ports ≡ Some p) (λ port. peered net port ≡ total (λ own. 1) (filter (λ own. is_port port (peer_port net own)) net.router_ports)) net.ports
        (λ port there. peered_is port there ∙ sym (total_ones (filter (λ own. is_port port (peer_port net own)) net.router_ports))) each_port)
        ∙ swapped (λ (port : Port) (own : RouterPort). 1) (λ port own. is_port port (peer_port net own)) (filter on net.ports) net.router_ports
        ∙ total_same (λ own. total (λ port. 1) (filter (λ port. is_port port (peer_port net own)) (filter on net.ports))) (λ own. cond (is_peer_on switch (peer_port net own)) 1 0) net.router_ports (λ own. one_peer own (peer_port net own) refl)
        ∙ sym (total_filter (λ (own : RouterPort). 1) (λ own. is_peer_on switch (peer_port net own)) net.router_ports)
        ∙ total_ones (filter (λ own. is_peer_on switch (peer_port net own)) net.router_ports)

    -- which are no more than there are
    pub peers_few : peers_on net switch ≤ length net.router_ports
    peers_few = subst (λ n. n ≤ length net.router_ports) (sym peers_are) (length_kept (λ own. is_peer_on switch (peer_port net own)) net.router_ports)

  -- What is known at a port, and at all.

  abbrev at_port : Port → ℕ
  at_port port = known_at net (peers_on net port.switch) port

  known_to : (port : Port) → record_of (λ (p : Port). p.id) port.id net.ports ≡ Some port → total (λ own. pair_count net port) (filter (λ own. knows (peer_port net own) port) net.router_ports) ≡ at_port port
  known_to port there = total_each (pair_count net port) (filter (λ own. knows (peer_port net own) port) net.router_ports) ∙ by port.enabled refl
    where
      left : (a b c d : ℕ) → a ≡ c → c ≡ b + d → b ≡ a - d
      left a b c d e f = omega (arith, e, f)

      nothing : (n : ℕ) → n * 0 ≡ 0
      nothing n = omega arith

      off : port.enabled ≡ false → (found : Option Port) → knows found port ≡ false
      off is None = refl
      off is (Some peer) = ap (λ b. b && (same port.switch peer.switch && not (same port.id peer.id))) is

      by : (b : Bool) → port.enabled ≡ b → pair_count net port * length (filter (λ own. knows (peer_port net own) port) net.router_ports) ≡ cond b (pair_count net port * (peers_on net port.switch - peered net port)) 0
      by true is =
          ap (λ n. pair_count net port * n)
          (left (peers_on net port.switch) (length (filter (λ own. knows (peer_port net own) port) net.router_ports)) (length (filter (λ own. is_peer_on port.switch (peer_port net own)) net.router_ports)) (peered net port)
          (peers_are port.switch) (beside port there is))
      by false is =
          ap (λ (l : List RouterPort). pair_count net port * length l) (same_kept (λ own. knows (peer_port net own) port) (λ own. false) net.router_ports (λ own. off is (peer_port net own)))
          ∙ ap (λ n. pair_count net port * n) (none_kept net.router_ports) ∙ nothing (pair_count net port)

  across_is : (found : Option Port) → neighbours_across net found ≡ total (pair_count net) (filter (knows found) net.ports)
  across_is None = sym (none net.ports)
    where
      none : (l : List Port) → total (pair_count net) (filter (λ (p : Port). false) l) ≡ 0
      none [] = refl
      none (p ∷ l) = none l
  across_is (Some peer) = refl

  by_ports : total at_port net.ports ≡ amount net kind.Neighbour
  by_ports =
      sym (total_same_all (λ port. total (λ own. pair_count net port) (filter (λ own. knows (peer_port net own) port) net.router_ports)) at_port net.ports
      (every_as (λ (p : Port). record_of (λ (x : Port). x.id) p.id net.ports ≡ Some p) (λ port. total (λ own. pair_count net port) (filter (λ own. knows (peer_port net own) port) net.router_ports) ≡ at_port port) net.ports known_to each_port))
      ∙ sym (swapped (λ (own : RouterPort) (port : Port). pair_count net port) (λ own port. knows (peer_port net own) port) net.router_ports net.ports)
      ∙ total_same (λ own. total (pair_count net) (filter (knows (peer_port net own)) net.ports)) (λ own. neighbours_across net (peer_port net own)) net.router_ports (λ own. sym (across_is (peer_port net own)))

  -- none where there is no peer
  pub no_peer_knows : (peers : ℕ) → peers ≡ 0 → (l : List Port) → total (known_at net peers) l ≡ 0
  no_peer_knows peers is [] = refl
  no_peer_knows peers is (port ∷ l) = total_cons (known_at net peers) port l ∙ none (known_at net peers port) (total (known_at net peers) l) (by port.enabled) (no_peer_knows peers is l)
    where
      none : (a b : ℕ) → a ≡ 0 → b ≡ 0 → a + b ≡ 0
      none a b e f = omega (arith, e, f)

      nothing : (n k : ℕ) → n * (0 - k) ≡ 0
      nothing n k = ap (λ m. n * m) (less k) ∙ zero n
        where
          less : (k : ℕ) → 0 - k ≡ 0
          less k = omega arith

          zero : (n : ℕ) → n * 0 ≡ 0
          zero n = omega arith

      by : (b : Bool) → cond b (pair_count net port * (peers - peered net port)) 0 ≡ 0
      by true = ap (λ m. pair_count net port * (m - peered net port)) is ∙ nothing (pair_count net port) (peered net port)
      by false = refl

  -- those at the ports of one switch
  on_switch : (switch : ObjId) → neighbours_on net switch ≡ total at_port (filter (λ port. same switch port.switch) net.ports)
  on_switch switch =
      total_filter (known_at net (peers_on net switch)) (λ port. same switch port.switch) net.ports
      ∙ total_same (λ port. cond (same switch port.switch) (known_at net (peers_on net switch) port) 0) (λ port. cond (same switch port.switch) (at_port port) 0) net.ports (λ port. by port (same switch port.switch) refl)
      ∙ sym (total_filter at_port (λ port. same switch port.switch) net.ports)
    where
      by : (port : Port) (b : Bool) → same switch port.switch ≡ b → cond b (known_at net (peers_on net switch) port) 0 ≡ cond b (at_port port) 0
      by port true is = ap (λ (n : ObjId). known_at net (peers_on net n) port) (same_is switch port.switch is)
      by port false is = refl

  -- a switch that is there is one
  one_switch : (n : ℕ) (number : ObjId) (found : Option Switch) → length (found_list (λ (s : Switch). s.id) number found) ≡ 1 → total (λ s. n) (found_list (λ (s : Switch). s.id) number found) ≡ n
  one_switch n number None is = absurd (omega (arith, is))
  one_switch n number (Some s) is = total_cons (λ (x : Switch). n) s [] ∙ alone n
    where
      alone : (n : ℕ) → n + 0 ≡ n
      alone n = omega arith

  at_switches : total (λ switch. neighbours_on net switch.id) net.switches ≡ total at_port net.ports
  at_switches =
      total_same (λ switch. neighbours_on net switch.id) (λ switch. total at_port (filter (λ port. same switch.id port.switch) net.ports)) net.switches (λ switch. on_switch switch.id)
      ∙ swapped (λ (switch : Switch) (port : Port). at_port port) (λ switch port. same switch.id port.switch) net.switches net.ports
      ∙ total_same_all (λ port. total (λ switch. at_port port) (filter (λ switch. same switch.id port.switch) net.switches)) at_port net.ports
      (every_as (λ port. IsTrue (is_among port.switch (switch_ids net))) (λ port. total (λ switch. at_port port) (filter (λ switch. same switch.id port.switch) net.switches) ≡ at_port port) net.ports
      (λ port there. ap (total (λ (s : Switch). at_port port)) (of_number (λ (s : Switch). s.id) port.switch net.switches switches_rise)
      ∙ one_switch (at_port port) port.switch (record_of (λ (s : Switch). s.id) port.switch net.switches) (is_found (λ (s : Switch). s.id) port.switch net.switches there))
      (every_holds (λ port. is_among port.switch (switch_ids net)) net.ports limitless.refers.ports))
    where
      switches_rise : NumbersRise (λ (s : Switch). s.id) net.switches
      switches_rise = rises (λ (s : Switch). s.id) net.switches limitless.numbered.order.switches

  pub all_known : total (λ switch. neighbours_on net switch.id) net.switches ≡ amount net kind.Neighbour
  all_known = at_switches ∙ by_ports

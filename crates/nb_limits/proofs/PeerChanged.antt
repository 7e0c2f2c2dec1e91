-- How many neighbours there may be once one port is changed, which may be the peer of another router port then, or of none.
use Rattle.std.proofs.Common.{◌≡◌, ℕ, ◌+◌, ◌*◌, ◌≤◌, ◌<◌, ◌⊎◌, inl, inr, Bool, true, false, cond, not, ◌&&◌, List, [], ◌∷◌, map, Option, Some, None, arith, refl, sym, ap, ◌∙◌, subst, length}
use Rattle.std.proofs.lemmas.Bool.{and_parts, false≢true, lt-ltb}
use Rattle.std.specs.Prelude.{IsTrue, find, filter, option_map}
use Rattle.std.specs.List.{AllByRecursion}
use Rattle.std.specs.Str.{bytes_eq}
use Rattle.nv_base.specs.declared.object.ObjId.{ObjId}
use Rattle.nb_records.specs.declared.refusal.Kind.TheVariants as kind
use Rattle.nb_records.specs.declared.router.RouterPort.{RouterPort}
use Rattle.nb_records.specs.declared.switch.Port.{Port}
use Rattle.nb_model.specs.Amounts.{amount, total, ip_count, net_count, pair_count, neighbours_across}
use Rattle.nb_model.specs.Belongs.{is_to_router, is_port, peer_port, peer_router_port}
use Rattle.nb_model.specs.Effect.{set_port}
use Rattle.nb_model.specs.Network.{Network, same}
use Rattle.nb_model.proofs.Alike.{same_names, same_sym}
use Rattle.nb_model.proofs.Lists.{same_is, same_self}
use Rattle.nb_model.proofs.RisesNeighbours.{is_across, is_peer_of}
use Rattle.nb_model.proofs.RisesPeers.{are_peers_apart}
use Rattle.nb_model.proofs.Totals.{le_equal, le_self, le_trans, sums, total_cons}
use Rattle.nv_table.specs.Table.{NumbersRise, record_of}
use Rattle.nb_limits.specs.Limitless.{IsSoundButLimits}
use Rattle.nb_limits.specs.inner.Weights.{found_count}
use Rattle.nb_limits.proofs.Counted.{of_number, found_list}
use Rattle.nb_limits.proofs.Every.{each_is_record, every_as}
use Rattle.nb_limits.proofs.Fewer.{fewer_found, total_less, total_less_changed}
use Rattle.nb_limits.proofs.Leaving.{IsLast}
use Rattle.nb_limits.proofs.Neighbours.{not_both_apart, one_passes, peered_is, ports_rise, total_each}
use Rattle.nb_limits.proofs.Swapped.{total_filter, total_plus}

-- no two router ports have one name
pub alone_named : (net : Network) → IsSoundButLimits net → (to : List ℕ) → length (filter (λ (own : RouterPort). bytes_eq own.name to) net.router_ports) ≡ found_count (find (λ (own : RouterPort). bytes_eq own.name to) net.router_ports)
alone_named net limitless to =
    one_passes (λ (own : RouterPort). bytes_eq own.name to) net.router_ports
    (not_both_apart (λ (a b : RouterPort). bytes_eq a.name b.name) (λ a b. bytes_eq a.name to && bytes_eq b.name to) net.router_ports both (are_peers_apart net limitless.numbered limitless.named).router_ports)
  where
    both : (a b : RouterPort) → IsTrue (bytes_eq a.name to && bytes_eq b.name to) → IsTrue (bytes_eq a.name b.name)
    both a b is =
        let parts = and_parts (bytes_eq a.name to) (bytes_eq b.name to) is in
        subst (λ n. IsTrue (bytes_eq a.name n)) (sym (same_names b.name to parts.1)) parts.0

module _ (net : Network) (limitless : IsSoundButLimits net) (name : List ℕ) (change : Port → Port) (port : Port) (there : record_of (λ (p : Port). p.id) port.id net.ports ≡ Some port) (named : bytes_eq port.name name ≡ true)
    (only : AllByRecursion (λ (p : Port). IsTrue (bytes_eq p.name name) → p ≡ port) net.ports)
    (same_id : (p : Port) → (change p).id ≡ p.id) (same_switch : (p : Port) → (change p).switch ≡ p.switch) (same_enabled : (p : Port) → (change p).enabled ≡ p.enabled) where
  abbrev changed : Port → Port
  changed p = cond (bytes_eq p.name name) (change p) p

  abbrev after : Network
  after = record net { ports = map changed net.ports }

  is_changed : (p : Port) (b : Bool) → bytes_eq p.name name ≡ b → changed p ≡ cond b (change p) p
  is_changed p b is = ap (λ c. cond c (change p) p) is

  one_id : (p : Port) → (changed p).id ≡ p.id
  one_id p = by (bytes_eq p.name name) refl
    where
      by : (b : Bool) → bytes_eq p.name name ≡ b → (changed p).id ≡ p.id
      by true is = ap (λ (q : Port). q.id) (is_changed p true is) ∙ same_id p
      by false is = ap (λ (q : Port). q.id) (is_changed p false is)

  alike : (peer p : Port) → is_across (changed peer) (changed p) ≡ is_across peer p
  alike peer p =
      ap (λ b. b && (same (changed p).switch (changed peer).switch && not (same (changed p).id (changed peer).id))) (enabled p)
      ∙ ap (λ s. p.enabled && (same s (changed peer).switch && not (same (changed p).id (changed peer).id))) (switch p)
      ∙ ap (λ s. p.enabled && (same p.switch s && not (same (changed p).id (changed peer).id))) (switch peer)
      ∙ ap (λ n. p.enabled && (same p.switch peer.switch && not (same n (changed peer).id))) (one_id p)
      ∙ ap (λ n. p.enabled && (same p.switch peer.switch && not (same p.id n))) (one_id peer)
    where
      enabled : (q : Port) → (changed q).enabled ≡ q.enabled
      enabled q = by (bytes_eq q.name name) refl
        where
          by : (b : Bool) → bytes_eq q.name name ≡ b → (changed q).enabled ≡ q.enabled
          by true is = ap (λ (x : Port). x.enabled) (is_changed q true is) ∙ same_enabled q
          by false is = ap (λ (x : Port). x.enabled) (is_changed q false is)

      switch : (q : Port) → (changed q).switch ≡ q.switch
      switch q = by (bytes_eq q.name name) refl
        where
          by : (b : Bool) → bytes_eq q.name name ≡ b → (changed q).switch ≡ q.switch
          by true is = ap (λ (x : Port). x.switch) (is_changed q true is) ∙ same_switch q
          by false is = ap (λ (x : Port). x.switch) (is_changed q false is)

  port_changed : changed port ≡ change port
  port_changed = is_changed port true named

  -- where a test tells the port before and after apart, it is that port
  is_it : (q : Port → Bool) (p : Port) → (IsTrue (bytes_eq p.name name) → p ≡ port) → (a b : Bool) → q (changed p) ≡ a → q p ≡ b → (a ≡ b → ⊥) → p ≡ port
  is_it q p is a b e f differ = by (bytes_eq p.name name) refl
    where
      by : (c : Bool) → bytes_eq p.name name ≡ c → p ≡ port
      by true n = is n
      by false n = absurd (differ (sym e ∙ ap q (is_changed p false n) ∙ f))

  -- the port of its number is no other
  of_its_number : (p : Port) → record_of (λ (x : Port). x.id) p.id net.ports ≡ Some p → IsTrue (same p.id port.id) → p ≡ port
  of_its_number p is number =
      let both : Some p ≡ Some port = sym is ∙ ap (λ (n : ObjId). record_of (λ (x : Port). x.id) n net.ports) (same_is p.id port.id number) ∙ there in
      cc

  -- What is found then: what was, as changed, or none, where the port was and no later one passes, or the port.

  module _ (q : Port → Bool) where
    abbrev Moved : List Port → Type 0
    Moved ports =
        (find q (map changed ports) ≡ option_map changed (find q ports))
        ⊎ ((find q (map changed ports) ≡ None) ⊎ ((find q (map changed ports) ≡ Some (change port)) × ((q (change port) ≡ true) × (q port ≡ false))))

    none_later : (ports : List Port) → q (change port) ≡ false → IsLast q ports port → AllByRecursion (λ (p : Port). port.id.0 < p.id.0) ports → AllByRecursion (λ (p : Port). IsTrue (bytes_eq p.name name) → p ≡ port) ports
        → find q (map changed ports) ≡ None
    none_later [] fails last above all = refl
    none_later (p ∷ ports) fails last above all = ap (λ b. cond b (Some (changed p)) (find q (map changed ports))) (by (bytes_eq p.name name) refl) ∙ none_later ports fails last.1 above.1 all.1
      where
        by : (b : Bool) → bytes_eq p.name name ≡ b → q (changed p) ≡ false
        by true is = ap q (is_changed p true is ∙ ap change (all.0 is)) ∙ fails
        by false is = ap q (is_changed p false is) ∙ last.0 (lt-ltb port.id.0 p.id.0 above.0)

    moved : (ports : List Port) → (q port ≡ true → q (change port) ≡ false → IsLast q ports port) → NumbersRise (λ (p : Port). p.id) ports → AllByRecursion (λ (p : Port). IsTrue (bytes_eq p.name name) → p ≡ port) ports → Moved ports
    moved [] last rise all = inl refl
    moved (p ∷ ports) last rise all = by (q (changed p)) (q p) refl refl (moved ports (λ passed fails. (last passed fails).1) rise.1 all.1)
      where
        rest : Option Port
        rest = find q (map changed ports)

        At : Bool → Bool → Type 0
        At a b =
            (cond a (Some (changed p)) rest ≡ option_map changed (cond b (Some p) (find q ports)))
            ⊎ ((cond a (Some (changed p)) rest ≡ None) ⊎ ((cond a (Some (changed p)) rest ≡ Some (change port)) × ((q (change port) ≡ true) × (q port ≡ false))))

        is_changed_port : p ≡ port → changed p ≡ change port
        is_changed_port is = ap changed is ∙ port_changed

        by : (a b : Bool) → q (changed p) ≡ a → q p ≡ b → Moved ports → At a b
        by true true e f more = inl refl
        by false false e f more = more
        by false true e f more =
            let is : p ≡ port = is_it q p all.0 false true e f false≢true in
            let fails : q (change port) ≡ false = sym (ap q (is_changed_port is)) ∙ e in
            inr (inl (none_later ports fails (last (sym (ap q is) ∙ f) fails).1 (subst (λ (x : Port). AllByRecursion (λ (y : Port). x.id.0 < y.id.0) ports) is rise.0) all.1))
        by true false e f more =
            let is : p ≡ port = is_it q p all.0 true false e f (λ same. false≢true (sym same)) in
            inr (inr (ap Some (is_changed_port is), (sym (ap q (is_changed_port is)) ∙ e, sym (ap q is) ∙ f)))

  module _ (last : (n : List ℕ) → is_peer_of n port ≡ true → is_peer_of n (change port) ≡ false → IsLast (is_peer_of n) net.ports port) where
    peers : (own : RouterPort) → Moved (is_peer_of own.name) net.ports
    peers own = moved (is_peer_of own.name) net.ports (last own.name) (ports_rise net limitless) only

    -- another port is the peer of no other router port
    still_peer : (p : Port) → same p.id port.id ≡ false → (own : RouterPort) → IsTrue (is_port p (peer_port after own)) → IsTrue (is_port p (peer_port net own))
    still_peer p other own is = by (peers own)
      where
        as_before : (found : Option Port) → is_port p (option_map changed found) ≡ is_port p found
        as_before None = refl
        as_before (Some peer) = ap (same p.id) (one_id peer)

        by : Moved (is_peer_of own.name) net.ports → IsTrue (is_port p (peer_port net own))
        by (inl met) = sym (as_before (peer_port net own)) ∙ sym (ap (is_port p) met) ∙ is
        by (inr (inl none)) = absurd (false≢true (sym (ap (is_port p) none) ∙ is))
        by (inr (inr it)) = absurd (false≢true (sym (ap (is_port p) it.0 ∙ ap (same p.id) (same_id port) ∙ other) ∙ is))

    other_pairs : (p : Port) → record_of (λ (x : Port). x.id) p.id net.ports ≡ Some p → same p.id port.id ≡ false → pair_count after p ≤ pair_count net p
    other_pairs p is other = by (is_to_router p)
      where
        by : (b : Bool) → cond b (net_count (find (λ own. is_port p (peer_port after own)) net.router_ports)) (total ip_count p.addresses) ≤ cond b (net_count (find (λ own. is_port p (peer_port net own)) net.router_ports)) (total ip_count p.addresses)
        by true = fewer_found (λ own. is_port p (peer_port net own)) (λ own. is_port p (peer_port after own)) (still_peer p other) net_count refl net.router_ports (sym (peered_is net limitless p is))
        by false = le_self (total ip_count p.addresses)

    -- The port itself is the peer of those that it names alone.

    abbrev AreRecords : List Port → Type 0
    AreRecords ports = AllByRecursion (λ (p : Port). record_of (λ (x : Port). x.id) p.id net.ports ≡ Some p) ports

    not_found : (q : Port → Bool) → q (change port) ≡ false → (ports : List Port) → AreRecords ports → is_port (change port) (find q (map changed ports)) ≡ false
    not_found q fails [] are = refl
    not_found q fails (p ∷ ports) are = by (q (changed p)) refl (not_found q fails ports are.1)
      where
        differs : q (changed p) ≡ true → (b : Bool) → same p.id port.id ≡ b → same (change port).id (changed p).id ≡ false
        differs passes true is = absurd (false≢true (sym fails ∙ sym (ap q (ap changed (of_its_number p are.0 is) ∙ port_changed)) ∙ passes))
        differs passes false is = ap (λ n. same n (changed p).id) (same_id port) ∙ ap (same port.id) (one_id p) ∙ same_sym port.id p.id ∙ is

        by : (b : Bool) → q (changed p) ≡ b → is_port (change port) (find q (map changed ports)) ≡ false → is_port (change port) (cond b (Some (changed p)) (find q (map changed ports))) ≡ false
        by true passes rest = differs passes (same p.id port.id) refl
        by false passes rest = rest

    -- so that its pairs are no more than the networks of one that is found by a test which those pass
    pub few_pairs : (p : RouterPort → Bool) → ((own : RouterPort) → is_peer_of own.name (change port) ≡ true → IsTrue (p own)) → length (filter p net.router_ports) ≡ found_count (find p net.router_ports) → is_to_router (change port) ≡ true
        → pair_count after (change port) ≤ net_count (find p net.router_ports)
    few_pairs p passes one is =
        subst (λ b. cond b (net_count (peer_router_port after (change port))) (total ip_count (change port).addresses) ≤ net_count (find p net.router_ports)) (sym is)
        (fewer_found p (λ own. is_port (change port) (peer_port after own)) names net_count refl net.router_ports one)
      where
        names : (own : RouterPort) → IsTrue (is_port (change port) (peer_port after own)) → IsTrue (p own)
        names own it = by (is_peer_of own.name (change port)) refl
          where
            by : (b : Bool) → is_peer_of own.name (change port) ≡ b → IsTrue (p own)
            by true e = passes own e
            by false e = absurd (false≢true (sym (not_found (is_peer_of own.name) e net.ports (each_is_record (λ (x : Port). x.id) net.ports (ports_rise net limitless))) ∙ it))

    -- What router ports know then.

    module _ (more : ℕ) (brings : pair_count after (change port) ≤ more) where
      -- for one port, itself or another
      abbrev own_more : Port → ℕ
      own_more p = cond (same p.id port.id) more 0

      pairs : (p : Port) → record_of (λ (x : Port). x.id) p.id net.ports ≡ Some p → (IsTrue (bytes_eq p.name name) → p ≡ port) → pair_count after (changed p) ≤ pair_count net p + own_more p
      pairs p is one = by (bytes_eq p.name name) refl
        where
          grown : (a b c : ℕ) → a ≤ more → c ≡ more → a ≤ b + c
          grown a b c low e = omega (arith, low, e)

          no_more : (a b c : ℕ) → a ≤ b → a ≤ b + c
          no_more a b c low = omega (arith, low)

          by : (b : Bool) → bytes_eq p.name name ≡ b → pair_count after (changed p) ≤ pair_count net p + own_more p
          by true e =
              grown (pair_count after (changed p)) (pair_count net p) (own_more p) (subst (λ (x : Port). pair_count after x ≤ more) (sym (ap changed (one e) ∙ port_changed)) brings)
              (ap (λ c. cond c more 0) (ap (λ (x : Port). same x.id port.id) (one e) ∙ same_self port.id))
          by false e = subst (λ (x : Port). pair_count after x ≤ pair_count net p + own_more p) (sym (is_changed p false e)) (no_more (pair_count after p) (pair_count net p) (own_more p) (other_pairs p is (differs (same p.id port.id) refl)))
            where
              differs : (b : Bool) → same p.id port.id ≡ b → same p.id port.id ≡ false
              differs true number = absurd (false≢true (sym e ∙ ap (λ (x : Port). bytes_eq x.name name) (of_its_number p is number) ∙ named))
              differs false number = number

      once : total own_more net.ports ≤ more
      once =
          subst (λ n. n ≤ more) (ap (total (λ (p : Port). more)) (sym (of_number (λ (p : Port). p.id) port.id net.ports (ports_rise net limitless) ∙ ap (found_list (λ (p : Port). p.id) port.id) there)) ∙ total_filter (λ (p : Port). more) (λ p. same p.id port.id) net.ports)
          (subst (λ n. n ≤ more) (sym (total_cons (λ (p : Port). more) port [])) (plus_none more))
        where
          plus_none : (n : ℕ) → n + 0 ≤ n
          plus_none n = omega arith

      across : (found : Option Port) → neighbours_across after (option_map changed found) ≤ neighbours_across net found + more
      across None = omega arith
      across (Some peer) =
          le_trans (neighbours_across after (Some (changed peer))) (total (λ p. counted p + own_more p) net.ports) (neighbours_across net (Some peer) + more)
          (subst (λ n. n ≤ total (λ p. counted p + own_more p) net.ports) (sym (total_filter (pair_count after) (is_across (changed peer)) (map changed net.ports)))
          (total_less_changed (λ p. cond (is_across (changed peer) p) (pair_count after p) 0) (λ p. counted p + own_more p) changed net.ports (each net.ports (each_is_record (λ (p : Port). p.id) net.ports (ports_rise net limitless)) only)))
          (subst (λ n. n ≤ neighbours_across net (Some peer) + more) (sym (total_plus counted own_more net.ports))
          (sums (total counted net.ports) (total own_more net.ports) (neighbours_across net (Some peer)) more (le_equal (total counted net.ports) (neighbours_across net (Some peer)) (sym (total_filter (pair_count net) (is_across peer) net.ports))) once))
        where
          counted : Port → ℕ
          counted p = cond (is_across peer p) (pair_count net p) 0

          by : (b : Bool) (a c d : ℕ) → a ≤ c + d → cond b a 0 ≤ cond b c 0 + d
          by true a c d low = low
          by false a c d low = omega arith

          each : (ports : List Port) → AreRecords ports → AllByRecursion (λ (p : Port). IsTrue (bytes_eq p.name name) → p ≡ port) ports
              → AllByRecursion (λ p. cond (is_across (changed peer) (changed p)) (pair_count after (changed p)) 0 ≤ counted p + own_more p) ports
          each [] are all = tt
          each (p ∷ ports) are all =
              (subst (λ b. cond b (pair_count after (changed p)) 0 ≤ counted p + own_more p) (sym (alike peer p)) (by (is_across peer p) (pair_count after (changed p)) (pair_count net p) (own_more p) (pairs p are.0 all.0)), each ports are.1 all.1)

      module _ (to : List ℕ) (comes : ℕ)
          (new : AllByRecursion (λ (own : RouterPort). is_peer_of own.name (change port) ≡ true → is_peer_of own.name port ≡ false → IsTrue (bytes_eq own.name to) × (neighbours_across net (Some port) ≤ comes)) net.router_ports) where
        -- for one router port, the one that is named then or another
        abbrev its_more : RouterPort → ℕ
        its_more own = cond (bytes_eq own.name to) comes 0

        abbrev known : RouterPort → ℕ
        known own = neighbours_across net (peer_port net own)

        knows : (own : RouterPort) → (is_peer_of own.name (change port) ≡ true → is_peer_of own.name port ≡ false → IsTrue (bytes_eq own.name to) × (neighbours_across net (Some port) ≤ comes))
            → neighbours_across after (peer_port after own) ≤ (known own + its_more own) + more
        knows own is_new = by (peers own)
          where
            wider : (a b c d : ℕ) → a ≤ b + d → a ≤ (b + c) + d
            wider a b c d low = omega (arith, low)

            none : (a b : ℕ) → a ≡ 0 → a ≤ b
            none a b is = omega (arith, is)

            comes_new : (a b c e : ℕ) → a ≤ b + more → b ≤ comes → c ≡ comes → a ≤ (e + c) + more
            comes_new a b c e low high is = omega (arith, low, high, is)

            by : Moved (is_peer_of own.name) net.ports → neighbours_across after (peer_port after own) ≤ (known own + its_more own) + more
            by (inl met) =
                wider (neighbours_across after (peer_port after own)) (known own) (its_more own) more (subst (λ o. neighbours_across after o ≤ known own + more) (sym met) (across (peer_port net own)))
            by (inr (inl gone)) = none (neighbours_across after (peer_port after own)) ((known own + its_more own) + more) (ap (neighbours_across after) gone)
            by (inr (inr it)) =
                let both = is_new it.1.0 it.1.1 in
                comes_new (neighbours_across after (peer_port after own)) (neighbours_across net (Some port)) (its_more own) (known own)
                (subst (λ o. neighbours_across after o ≤ neighbours_across net (Some port) + more) (ap Some port_changed ∙ sym it.0) (across (Some port))) both.1 (ap (λ b. cond b comes 0) both.0)

        -- no two have the name
        one_named : length (filter (λ (own : RouterPort). bytes_eq own.name to) net.router_ports) ≡ found_count (find (λ (own : RouterPort). bytes_eq own.name to) net.router_ports)
        one_named = alone_named net limitless to

        new_once : total its_more net.router_ports ≤ comes
        new_once =
            subst (λ n. n ≤ comes) (sym (total_each comes (filter (λ (own : RouterPort). bytes_eq own.name to) net.router_ports)) ∙ total_filter (λ (own : RouterPort). comes) (λ own. bytes_eq own.name to) net.router_ports)
            (at_most (length (filter (λ (own : RouterPort). bytes_eq own.name to) net.router_ports)) (find (λ (own : RouterPort). bytes_eq own.name to) net.router_ports) one_named)
          where
            once_more : comes * 1 ≤ comes
            once_more = omega arith

            no_time : comes * 0 ≤ comes
            no_time = omega arith

            at_most : (n : ℕ) (found : Option RouterPort) → n ≡ found_count found → comes * n ≤ comes
            at_most n None is = subst (λ m. comes * m ≤ comes) (sym is) no_time
            at_most n (Some own) is = subst (λ m. comes * m ≤ comes) (sym is) once_more

        pub one_changes : amount (set_port net name change) kind.Neighbour ≤ (amount net kind.Neighbour + comes * 1) + more * length net.router_ports
        one_changes =
            le_trans (amount after kind.Neighbour) (total (λ own. (known own + its_more own) + more) net.router_ports) ((amount net kind.Neighbour + comes * 1) + more * length net.router_ports)
            (total_less (λ own. neighbours_across after (peer_port after own)) (λ own. (known own + its_more own) + more) net.router_ports
            (every_as (λ (own : RouterPort). is_peer_of own.name (change port) ≡ true → is_peer_of own.name port ≡ false → IsTrue (bytes_eq own.name to) × (neighbours_across net (Some port) ≤ comes)) (λ own. neighbours_across after (peer_port after own) ≤ (known own + its_more own) + more) net.router_ports knows new))
            (all (total (λ own. (known own + its_more own) + more) net.router_ports) (total (λ own. known own + its_more own) net.router_ports) (total (λ (own : RouterPort). more) net.router_ports) (total known net.router_ports) (total its_more net.router_ports) (more * length net.router_ports)
            (total_plus (λ own. known own + its_more own) (λ own. more) net.router_ports) (total_plus known its_more net.router_ports) (total_each more net.router_ports) new_once)
          where
            all : (v a b c d m : ℕ) → v ≡ a + b → a ≡ c + d → b ≡ m → d ≤ comes → v ≤ (c + comes * 1) + m
            all v a b c d m e f g low = omega (arith, e, f, g, low)

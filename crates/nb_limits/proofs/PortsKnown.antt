-- What is known of neighbours once a port is changed, or ports are gone, is so.
use Rattle.std.proofs.Common.{◌≡◌, ℕ, ◌+◌, ◌*◌, ◌≤◌, map, Bool, true, false, cond, not, ◌&&◌, ◌||◌, nat_lt, List, [], ◌∷◌, Option, Some, None, arith, refl, sym, ap, ◌∙◌, subst, length}
use Rattle.std.proofs.lemmas.Bool.{and_parts, false≢true}
use Rattle.std.specs.Prelude.{IsTrue, filter, find, is_some}
use Rattle.std.specs.List.{list_any, AllByRecursion}
use Rattle.std.specs.Str.{bytes_eq}
use Rattle.nv_base.specs.declared.object.ObjId.{ObjId}
use Rattle.nb_records.specs.declared.refusal.Kind.TheVariants as kind
use Rattle.nb_records.specs.declared.router.RouterPort.{RouterPort}
use Rattle.nb_records.specs.declared.switch.Addr.{Addr}
use Rattle.nb_records.specs.declared.switch.Port.{Port}
use Rattle.nb_records.specs.declared.switch.PortKind.{PortKind}
use Rattle.nb_records.specs.declared.switch.PortKind.TheVariants as port_kind
use Rattle.nb_model.specs.Amounts.{amount, total, ip_count, net_count, pair_count, neighbours_across}
use Rattle.nb_model.specs.Belongs.{is_router_kind, is_to_router, is_name, is_number, peer_router_port}
use Rattle.nb_model.specs.Effect.{delete_port, delete_switch, set_port, without_ports}
use Rattle.nb_model.specs.Network.{Network, port_named, router_port_named, same as is_same, switch_id}
use Rattle.nb_model.specs.Readable.{are_apart}
use Rattle.nb_model.proofs.Alike.{names_sym, same_names}
use Rattle.nb_model.proofs.RecordLists.{found_holds}
use Rattle.nb_model.proofs.RisesNeighbours.{is_peer_of}
use Rattle.nb_model.proofs.Totals.{le_equal, le_self}
use Rattle.nb_store.proofs.Peering.{found_is_record}
use Rattle.nv_table.specs.Table.{is_after, record_of}
use Rattle.nb_limits.specs.Ceilings.{IsCeiling}
use Rattle.nb_limits.specs.inner.NeighboursAfter.{each_knows, with_own, with_name, named_after, is_followed, has_follower, without, without_port, has_followers, without_switch, with_addresses, with_enabled, same_kind, other_kind, with_kind, same_option, with_option}
use Rattle.nb_limits.specs.inner.Weights.{found_count}
use Rattle.nb_limits.specs.inner.Within.{up_to, raised, raised_by}
use Rattle.nb_limits.specs.Limitless.{IsSoundButLimits}
use Rattle.nb_limits.proofs.Every.{every_as, every_fails, none_differs}
use Rattle.nb_limits.proofs.Fitting.{only_named}
use Rattle.nb_limits.proofs.Leaving.{IsLast, some_leave}
use Rattle.nb_limits.proofs.Neighbours.{ports_rise}
use Rattle.nb_limits.proofs.NewMembers.{none_changed}
use Rattle.nb_limits.proofs.NewPorts.{peer_fits}
use Rattle.nb_limits.proofs.OnePort.{pairs_bring, pairs_stay}
use Rattle.nb_limits.proofs.PeerChanged.{alone_named, few_pairs, one_changes}
use Rattle.nb_limits.proofs.PortNeighbours.{addresses_bring}
use Rattle.nb_limits.proofs.Raised.{falls, raised_by_ceiling}

-- a port that is found is the one of its number
found_record : (net : Network) → IsSoundButLimits net → (name : List ℕ) (port : Port) → port_named net name ≡ Some port → record_of (λ (p : Port). p.id) port.id net.ports ≡ Some port
found_record net limitless name port found = found_is_record (λ (p : Port). p.id) (λ p. bytes_eq p.name name) net.ports port (ports_rise net limitless) found

-- after a port that has none to follow it, none names what it names
none_follows : (net : Network) (port : Port) → has_follower net port ≡ false → (n : List ℕ) → is_peer_of n port ≡ true → IsLast (is_peer_of n) net.ports port
none_follows net port none n passes = by port.router_port refl
  where
    parts : (is_to_router port ≡ true) × IsTrue (is_name port.router_port n)
    parts = and_parts (is_to_router port) (is_name port.router_port n) passes

    not_followed : (a b : Bool) → a ≡ true → (a && b) ≡ false → b ≡ false
    not_followed true b is e = e
    not_followed false b is e = absurd (false≢true is)

    not_there : (found : Option Port) → is_some found ≡ false → found ≡ None
    not_there None is = refl
    not_there (Some p) is = absurd (false≢true (sym is))

    by : (option : Option (List ℕ)) → port.router_port ≡ option → IsLast (is_peer_of n) net.ports port
    by None says = absurd (false≢true (subst (λ o. IsTrue (is_name o n)) says parts.1))
    by (Some given) says =
        every_as (λ (p : Port). (is_after (Some port.id) p.id && (is_to_router p && is_name p.router_port given)) ≡ false) (λ p. IsTrue (nat_lt port.id.0 p.id.0) → is_peer_of n p ≡ false) net.ports
        (λ p fails above.
        let same_name : given ≡ n = same_names given n (subst (λ o. IsTrue (is_name o n)) says parts.1) in
        subst (λ m. (is_to_router p && is_name p.router_port m) ≡ false) same_name (sym (ap (λ b. b && (is_to_router p && is_name p.router_port given)) above) ∙ fails))
        (every_fails (λ (p : Port). is_after (Some port.id) p.id && (is_to_router p && is_name p.router_port given)) net.ports
        (not_there (named_after net port.id given) (subst (λ o. is_followed net port.id o ≡ false) says (not_followed (is_to_router port) (is_followed net port.id port.router_port) parts.0 none))))

-- what is raised where nothing is known is not known

none_raised : (limit : ℕ) (more : Option ℕ) (times : ℕ) → raised_by limit None more times ≡ None
none_raised limit None times = refl
none_raised limit (Some more) times = refl

none_named : (net : Network) (port : Port) (option : Option (List ℕ)) → with_name net port option None ≡ None
none_named net port None = refl
none_named net port (Some given) = by (router_port_named net given)
  where
    by : (own : Option RouterPort) → with_own net port own None ≡ None
    by None = refl
    by (Some own) = ap (λ most. raised 262144 most (length own.nets) (length net.router_ports)) (none_raised 262144 (up_to 262144 (neighbours_across net (Some port))) 1)

no_more_than : (a b n : ℕ) → a ≤ (b + 0 * 1) + 0 * n → a ≤ b
no_more_than a b n low = omega (arith, low)

module _ (net : Network) (most : Option ℕ) (are : IsCeiling 262144 (amount net kind.Neighbour) most) where
  same : (after : Network) → amount after kind.Neighbour ≤ amount net kind.Neighbour → IsCeiling 262144 (amount after kind.Neighbour) most
  same after low = falls 262144 (amount net kind.Neighbour) (amount after kind.Neighbour) most low are

  -- where ports are gone, after none of which another one follows
  some_less : IsSoundButLimits net → (gone : Port → Bool) → AllByRecursion (λ (p : Port). IsTrue (gone p) → has_follower net p ≡ false) net.ports → IsCeiling 262144 (amount (without_ports gone net) kind.Neighbour) most
  some_less limitless gone none =
      same (without_ports gone net) (some_leave gone net limitless
      (λ n. every_as (λ (p : Port). IsTrue (gone p) → has_follower net p ≡ false) (λ p. IsTrue (gone p) → is_peer_of n p ≡ true → IsLast (is_peer_of n) net.ports p) net.ports (λ p is goes passes. none_follows net p (is goes) n passes) none))

  -- where a port is gone
  pub one_less : IsSoundButLimits net → (name : List ℕ) → IsTrue (are_apart bytes_eq (map (λ (p : Port). p.name) net.ports)) → IsCeiling 262144 (amount (delete_port net name) kind.Neighbour) (without_port net (port_named net name) most)
  one_less limitless name apart = by (port_named net name) refl
    where
      given : (port : Port) (b : Bool) → port_named net name ≡ Some port → has_follower net port ≡ b → IsCeiling 262144 (amount (delete_port net name) kind.Neighbour) (cond b None most)
      given port true found is = tt
      given port false found is =
          some_less limitless (λ p. bytes_eq p.name name)
          (every_as (λ (p : Port). IsTrue (bytes_eq p.name name) → p ≡ port) (λ p. IsTrue (bytes_eq p.name name) → has_follower net p ≡ false) net.ports (λ p is_port gone. ap (has_follower net) (is_port gone) ∙ is)
          (only_named (λ (p : Port). p.name) net.ports name port apart found))

      by : (found : Option Port) → port_named net name ≡ found → IsCeiling 262144 (amount (delete_port net name) kind.Neighbour) (without_port net found most)
      by None is =
          some_less limitless (λ p. bytes_eq p.name name)
          (every_as (λ (p : Port). bytes_eq p.name name ≡ false) (λ p. IsTrue (bytes_eq p.name name) → has_follower net p ≡ false) net.ports (λ p fails gone. absurd (false≢true (sym fails ∙ gone))) (every_fails (λ (p : Port). bytes_eq p.name name) net.ports is))
      by (Some port) is = given port (has_follower net port) is refl

  -- where a switch is gone
  pub switch_less : IsSoundButLimits net → (name : List ℕ) → IsCeiling 262144 (amount (delete_switch net name) kind.Neighbour) (without_switch net (switch_id net name) most)
  switch_less limitless name = by (switch_id net name)
    where
      none_gone : (l : List Port) → AllByRecursion (λ (p : Port). IsTrue (is_number None p.switch) → has_follower net p ≡ false) l
      none_gone [] = tt
      none_gone (p ∷ l) = (λ gone. absurd (false≢true gone), none_gone l)

      no_followers : (switch : ObjId) (l : List Port) → list_any (λ port. is_same switch port.switch && has_follower net port) l ≡ false → AllByRecursion (λ (p : Port). IsTrue (is_same switch p.switch) → has_follower net p ≡ false) l
      no_followers switch [] is = tt
      no_followers switch (p ∷ l) is = (
        λ gone. first (is_same switch p.switch) (has_follower net p) (list_any (λ port. is_same switch port.switch && has_follower net port) l) gone is,
        no_followers switch l (later (is_same switch p.switch && has_follower net p) (list_any (λ port. is_same switch port.switch && has_follower net port) l) is),
      )
        where
          first : (a b c : Bool) → IsTrue a → ((a && b) || c) ≡ false → b ≡ false
          first true true c gone e = absurd (false≢true (sym e))
          first true false c gone e = refl
          first false b c gone e = absurd (false≢true gone)

          later : (a b : Bool) → (a || b) ≡ false → b ≡ false
          later true b e = absurd (false≢true (sym e))
          later false b e = e

      given : (switch : ObjId) (b : Bool) → has_followers net switch ≡ b → IsCeiling 262144 (amount (without_ports (λ port. is_same switch port.switch) net) kind.Neighbour) (cond b None most)
      given switch true is = tt
      given switch false is = some_less limitless (λ port. is_same switch port.switch) (no_followers switch net.ports is)

      by : (found : Option ObjId) → IsCeiling 262144 (amount (without_ports (λ port. is_number found port.switch) net) kind.Neighbour) (without_switch net found most)
      by None = some_less limitless (λ port. false) (none_gone net.ports)
      by (Some switch) = given switch (has_followers net switch) refl

  module _ (limitless : IsSoundButLimits net) (apart : IsTrue (are_apart bytes_eq (map (λ (p : Port). p.name) net.ports))) (name : List ℕ) where
    -- where a port that is there is left as it is
    left_alone : (change : Port → Port) (port : Port) → port_named net name ≡ Some port → change port ≡ port → IsCeiling 262144 (amount (set_port net name change) kind.Neighbour) most
    left_alone change port found is =
        subst (λ (ports : List Port). IsCeiling 262144 (amount (record net { ports = ports }) kind.Neighbour) most)
        (sym (none_differs (λ (p : Port). bytes_eq p.name name) change net.ports
        (every_as (λ (p : Port). IsTrue (bytes_eq p.name name) → p ≡ port) (λ p. IsTrue (bytes_eq p.name name) → change p ≡ p) net.ports
        (λ p only named. subst (λ (q : Port). change q ≡ q) (sym (only named)) is) (only_named (λ (p : Port). p.name) net.ports name port apart found))))
        are

    none_there : (change : Port → Port) → port_named net name ≡ None → IsCeiling 262144 (amount (set_port net name change) kind.Neighbour) most
    none_there change none =
        subst (λ (ports : List Port). IsCeiling 262144 (amount (record net { ports = ports }) kind.Neighbour) most)
        (sym (none_changed (λ (p : Port). bytes_eq p.name name) change net.ports none)) are

    abbrev only_port : (port : Port) → port_named net name ≡ Some port → AllByRecursion (λ (p : Port). IsTrue (bytes_eq p.name name) → p ≡ port) net.ports
    only_port port found = only_named (λ (p : Port). p.name) net.ports name port apart found

    -- where a port is enabled
    pub one_enabled : IsCeiling 262144 (amount (set_port net name (λ p. record p { enabled = true })) kind.Neighbour) (with_enabled net (port_named net name) most)
    one_enabled = by (port_named net name) refl
      where
        given : (port : Port) (b : Bool) → port.enabled ≡ b → port_named net name ≡ Some port
            → IsCeiling 262144 (amount (set_port net name (λ p. record p { enabled = true })) kind.Neighbour) (cond b most (each_knows net (pair_count net port) most))
        given port true is found = left_alone (λ p. record p { enabled = true }) port found (ap (λ b. let p : Port = record port { enabled = b } in p) (sym is))
        given port false is found =
            raised_by_ceiling 262144 (amount net kind.Neighbour) (amount (set_port net name (λ p. record p { enabled = true })) kind.Neighbour) most (pair_count net port) (length net.router_ports) are
            (pairs_bring net name (λ p. record p { enabled = true }) port apart (only_port port found) (λ p. refl) (λ p. refl) (λ n. refl) (pair_count net port) (le_self (pair_count net port)))

        by : (found : Option Port) → port_named net name ≡ found → IsCeiling 262144 (amount (set_port net name (λ p. record p { enabled = true })) kind.Neighbour) (with_enabled net found most)
        by None is = none_there (λ p. record p { enabled = true }) is
        by (Some port) is = given port port.enabled refl is

    -- where a port may be the peer of another router port then, or of none
    module _ (change : Port → Port) (port : Port) (found : port_named net name ≡ Some port) (same_id : (p : Port) → (change p).id ≡ p.id) (same_switch : (p : Port) → (change p).switch ≡ p.switch)
        (same_enabled : (p : Port) → (change p).enabled ≡ p.enabled) (last : (n : List ℕ) → is_peer_of n port ≡ true → is_peer_of n (change port) ≡ false → IsLast (is_peer_of n) net.ports port) where
      abbrev after : Network
      after = set_port net name change

      abbrev there : record_of (λ (p : Port). p.id) port.id net.ports ≡ Some port
      there = found_record net limitless name port found

      abbrev named : bytes_eq port.name name ≡ true
      named = found_holds (λ (p : Port). bytes_eq p.name name) net.ports port found

      -- of none, where it has the kind of a host
      unpeered : is_to_router (change port) ≡ false → (more : ℕ) → total ip_count (change port).addresses ≡ more → IsCeiling 262144 (amount after kind.Neighbour) (each_knows net more most)
      unpeered host more is =
          raised_by_ceiling 262144 (amount net kind.Neighbour) (amount after kind.Neighbour) most more (length net.router_ports) are
          (plain (amount after kind.Neighbour) (amount net kind.Neighbour) (more * length net.router_ports)
          (one_changes net limitless name change port there named (only_port port found) same_id same_switch same_enabled last more
          (le_equal (pair_count after (change port)) more (ap (λ b. cond b (net_count (peer_router_port after (change port))) (total ip_count (change port).addresses)) host ∙ is)) [] 0
          (of_all net.router_ports)))
        where
          plain : (a b c : ℕ) → a ≤ (b + 0 * 1) + c → a ≤ b + c
          plain a b c low = omega (arith, low)

          of_all : (owns : List RouterPort)
              → AllByRecursion (λ (own : RouterPort). is_peer_of own.name (change port) ≡ true → is_peer_of own.name port ≡ false → IsTrue (bytes_eq own.name []) × (neighbours_across net (Some port) ≤ 0)) owns
          of_all [] = tt
          of_all (own ∷ owns) = (λ passes failed. absurd (false≢true (sym host ∙ (and_parts (is_to_router (change port)) (is_name (change port).router_port own.name) passes).0)), of_all owns)

      -- of the one that its option names
      peered_then : is_to_router (change port) ≡ true → (option : Option (List ℕ)) → (change port).router_port ≡ option → IsCeiling 262144 (amount after kind.Neighbour) (with_name net port option most)
      peered_then router None says =
          same after (no_more_than (amount after kind.Neighbour) (amount net kind.Neighbour) (length net.router_ports)
          (one_changes net limitless name change port there named (only_port port found) same_id same_switch same_enabled last 0
          (subst (λ o. pair_count after (change port) ≤ net_count o) (none net.router_ports)
          (few_pairs net limitless name change port there named (only_port port found) same_id same_switch same_enabled last (λ own. false) (λ own passes. absurd (unnamed own passes)) (both net.router_ports) router)) [] 0
          (of_all net.router_ports)))
        where
          unnamed : (own : RouterPort) → is_peer_of own.name (change port) ≡ true → ⊥
          unnamed own passes = false≢true (subst (λ o. IsTrue (is_name o own.name)) says (and_parts (is_to_router (change port)) (is_name (change port).router_port own.name) passes).1)

          none : (owns : List RouterPort) → find (λ (own : RouterPort). false) owns ≡ None
          none [] = refl
          none (own ∷ owns) = none owns

          both : (owns : List RouterPort) → length (filter (λ (own : RouterPort). false) owns) ≡ found_count (find (λ (own : RouterPort). false) owns)
          both [] = refl
          both (own ∷ owns) = both owns

          of_all : (owns : List RouterPort)
              → AllByRecursion (λ (own : RouterPort). is_peer_of own.name (change port) ≡ true → is_peer_of own.name port ≡ false → IsTrue (bytes_eq own.name []) × (neighbours_across net (Some port) ≤ 0)) owns
          of_all [] = tt
          of_all (own ∷ owns) = (λ passes failed. absurd (unnamed own passes), of_all owns)
      peered_then router (Some given) says = by (router_port_named net given) refl
        where
          names : (own : RouterPort) → is_peer_of own.name (change port) ≡ true → IsTrue (bytes_eq own.name given)
          names own passes =
              names_sym own.name given ∙ subst (λ o. IsTrue (is_name o own.name)) says (and_parts (is_to_router (change port)) (is_name (change port).router_port own.name) passes).1

          few : pair_count after (change port) ≤ net_count (router_port_named net given)
          few = few_pairs net limitless name change port there named (only_port port found) same_id same_switch same_enabled last (λ own. bytes_eq own.name given) names (alone_named net limitless given) router

          by : (own : Option RouterPort) → router_port_named net given ≡ own → IsCeiling 262144 (amount after kind.Neighbour) (with_own net port own most)
          by None is =
              same after (no_more_than (amount after kind.Neighbour) (amount net kind.Neighbour) (length net.router_ports)
              (one_changes net limitless name change port there named (only_port port found) same_id same_switch same_enabled last 0 (subst (λ o. pair_count after (change port) ≤ net_count o) is few) given 0
              (every_as (λ (own : RouterPort). bytes_eq own.name given ≡ false)
              (λ own. is_peer_of own.name (change port) ≡ true → is_peer_of own.name port ≡ false → IsTrue (bytes_eq own.name given) × (neighbours_across net (Some port) ≤ 0)) net.router_ports
              (λ own fails passes failed. absurd (false≢true (sym fails ∙ names own passes))) (every_fails (λ (own : RouterPort). bytes_eq own.name given) net.router_ports is))))
          by (Some own) is =
              peer_fits net port (length own.nets) most (amount after kind.Neighbour) are
              (one_changes net limitless name change port there named (only_port port found) same_id same_switch same_enabled last (length own.nets) (subst (λ o. pair_count after (change port) ≤ net_count o) is few) given
              (neighbours_across net (Some port)) (of_all net.router_ports))
            where
              of_all : (owns : List RouterPort)
                  → AllByRecursion (λ (x : RouterPort). is_peer_of x.name (change port) ≡ true → is_peer_of x.name port ≡ false → IsTrue (bytes_eq x.name given) × (neighbours_across net (Some port) ≤ neighbours_across net (Some port))) owns
              of_all [] = tt
              of_all (x ∷ owns) = (λ passes failed. (names x passes, le_self (neighbours_across net (Some port))), of_all owns)

  -- where a port has this kind, or option
  module _ (limitless : IsSoundButLimits net) (apart : IsTrue (are_apart bytes_eq (map (λ (p : Port). p.name) net.ports))) (name : List ℕ) where
    pub one_kind : (own : PortKind) → IsCeiling 262144 (amount (set_port net name (λ p. record p { kind = own })) kind.Neighbour) (with_kind net (port_named net name) own most)
    one_kind own = by (port_named net name) refl
      where
        alike : (a b : PortKind) → same_kind a b ≡ true → b ≡ a
        alike port_kind.Host port_kind.Host is = refl
        alike port_kind.Router port_kind.Router is = refl
        alike port_kind.Host port_kind.Router is = absurd (false≢true is)
        alike port_kind.Router port_kind.Host is = absurd (false≢true is)

        was_host : (k : PortKind) → same_kind k port_kind.Router ≡ false → is_router_kind k ≡ false
        was_host port_kind.Host is = refl
        was_host port_kind.Router is = absurd (false≢true (sym is))

        other : (port : Port) (given : PortKind) → own ≡ given → same_kind port.kind given ≡ false → port_named net name ≡ Some port
            → IsCeiling 262144 (amount (set_port net name (λ p. record p { kind = given })) kind.Neighbour) (other_kind net port given most)
        other port port_kind.Router is differs found =
            peered_then limitless apart name (λ p. record p { kind = port_kind.Router }) port found (λ p. refl) (λ p. refl) (λ p. refl)
            (λ n passes fails. absurd (false≢true (sym (was_host port.kind differs) ∙ (and_parts (is_to_router port) (is_name port.router_port n) passes).0))) refl port.router_port refl
        other port port_kind.Host is differs found = by (has_follower net port) refl
          where
            by : (b : Bool) → has_follower net port ≡ b → IsCeiling 262144 (amount (set_port net name (λ p. record p { kind = port_kind.Host })) kind.Neighbour) (each_knows net (total ip_count port.addresses) (cond b None most))
            by true e = subst (IsCeiling 262144 (amount (set_port net name (λ p. record p { kind = port_kind.Host })) kind.Neighbour)) (sym (none_raised 262144 (up_to 262144 (total ip_count port.addresses)) (length net.router_ports))) tt
            by false e =
                unpeered limitless apart name (λ p. record p { kind = port_kind.Host }) port found (λ p. refl) (λ p. refl) (λ p. refl) (λ n passes fails. none_follows net port e n passes) refl (total ip_count port.addresses) refl

        given : (port : Port) (b : Bool) → same_kind port.kind own ≡ b → port_named net name ≡ Some port → IsCeiling 262144 (amount (set_port net name (λ p. record p { kind = own })) kind.Neighbour) (cond b most (other_kind net port own most))
        given port true is found = left_alone limitless apart name (λ p. record p { kind = own }) port found (ap (λ k. let p : Port = record port { kind = k } in p) (alike port.kind own is))
        given port false is found = other port own refl is found

        by : (found : Option Port) → port_named net name ≡ found → IsCeiling 262144 (amount (set_port net name (λ p. record p { kind = own })) kind.Neighbour) (with_kind net found own most)
        by None is = none_there limitless apart name (λ p. record p { kind = own }) is
        by (Some port) is = given port (same_kind port.kind own) refl is

    pub one_option : (option : Option (List ℕ)) → IsCeiling 262144 (amount (set_port net name (λ p. record p { router_port = option })) kind.Neighbour) (with_option net (port_named net name) option most)
    one_option option = by (port_named net name) refl
      where
        set : Port → Port
        set p = record p { router_port = option }

        alike : (a b : Option (List ℕ)) → same_option a b ≡ true → b ≡ a
        alike None None is = refl
        alike (Some a) (Some b) is = ap Some (sym (same_names a b is))
        alike None (Some b) is = absurd (false≢true is)
        alike (Some a) None is = absurd (false≢true is)

        hosts : (b : Bool) → b ≡ false → (n : List ℕ) (o p : Option (List ℕ)) → (b && is_name o n) ≡ (b && is_name p n)
        hosts b is n o p = ap (λ c. c && is_name o n) is ∙ sym (ap (λ c. c && is_name p n) is)

        other : (port : Port) (b : Bool) → has_follower net port ≡ b → is_to_router port ≡ true → port_named net name ≡ Some port → IsCeiling 262144 (amount (set_port net name set) kind.Neighbour) (with_name net port option (cond b None most))
        other port true e router found = subst (IsCeiling 262144 (amount (set_port net name set) kind.Neighbour)) (sym (none_named net port option)) tt
        other port false e router found =
            peered_then limitless apart name set port found (λ p. refl) (λ p. refl) (λ p. refl) (λ n passes fails. none_follows net port e n passes) router option refl

        given : (port : Port) (a b : Bool) → is_to_router port ≡ a → same_option port.router_port option ≡ b → port_named net name ≡ Some port
            → IsCeiling 262144 (amount (set_port net name set) kind.Neighbour) (cond (not a || b) most (with_name net port option (without net port most)))
        given port false b is e found =
            same (set_port net name set)
            (pairs_stay net name set port apart (only_port limitless apart name port found) (λ p. refl) (λ p. refl) (λ n. hosts (is_to_router port) is n option port.router_port) refl (le_self (pair_count net port)))
        given port true true is e found = left_alone limitless apart name set port found (ap (λ o. let p : Port = record port { router_port = o } in p) (alike port.router_port option e))
        given port true false is e found = other port (has_follower net port) refl is found

        by : (found : Option Port) → port_named net name ≡ found → IsCeiling 262144 (amount (set_port net name set) kind.Neighbour) (with_option net found option most)
        by None is = none_there limitless apart name set is
        by (Some port) is = given port (is_to_router port) (same_option port.router_port option) refl refl is

  -- where a port has other addresses
  pub one_addressed : (name : List ℕ) (list : List Addr) → IsTrue (are_apart bytes_eq (map (λ (p : Port). p.name) net.ports))
      → IsCeiling 262144 (amount (set_port net name (λ p. record p { addresses = list })) kind.Neighbour) (with_addresses net list most)
  one_addressed name list apart =
      raised_by_ceiling 262144 (amount net kind.Neighbour) (amount (set_port net name (λ p. record p { addresses = list })) kind.Neighbour) most (total ip_count list) (length net.router_ports)
      are (addresses_bring net name list apart)

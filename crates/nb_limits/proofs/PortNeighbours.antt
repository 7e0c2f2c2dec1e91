-- How many neighbours there may be once a port has other addresses.
use Rattle.std.proofs.Common.{◌≡◌, ℕ, ◌+◌, ◌*◌, ◌≤◌, Bool, true, false, cond, not, ◌&&◌, List, [], ◌∷◌, map, Option, Some, None, arith, refl, sym, ap, ◌∙◌, subst, length}
use Rattle.std.proofs.lemmas.Bool.{cond_both}
use Rattle.std.specs.Prelude.{IsTrue, option_map}
use Rattle.std.specs.Str.{bytes_eq}
use Rattle.nb_records.specs.declared.refusal.Kind.TheVariants as kind
use Rattle.nb_records.specs.declared.router.RouterPort.{RouterPort}
use Rattle.nb_records.specs.declared.switch.Addr.{Addr}
use Rattle.nb_records.specs.declared.switch.Port.{Port}
use Rattle.nb_model.specs.Amounts.{amount, total, ip_count, net_count, pair_count, neighbours_across}
use Rattle.nb_model.specs.Belongs.{is_to_router, is_name, is_port, peer_port, peer_router_port}
use Rattle.nb_model.specs.Effect.{set_port}
use Rattle.nb_model.specs.Network.{Network, same}
use Rattle.nb_model.specs.Readable.{are_apart}
use Rattle.nb_model.proofs.AnyOf.{find_changed}
use Rattle.nb_model.proofs.RisesNeighbours.{is_across, is_peer_of}
use Rattle.nb_model.proofs.Totals.{total_cons}
use Rattle.nb_limits.proofs.NewVips.{one_total}
use Rattle.nb_limits.proofs.Rest.{same_met}
use Rattle.nb_limits.proofs.Swapped.{total_filter, total_same}

-- A sum of which each part is at most so much more.
pub each_more : {X : Type 0} (f g : X → ℕ) (k : ℕ) (xs : List X) → ((x : X) → f x ≤ g x + k) → total f xs ≤ total g xs + k * length xs
each_more f g k [] less = omega arith
each_more f g k (x ∷ xs) less =
    joined (total f (x ∷ xs)) (f x) (total f xs) (total g (x ∷ xs)) (g x) (total g xs) (k * length (x ∷ xs)) (k * length xs) (total_cons f x xs) (total_cons g x xs) (ap (λ n. k * n) longer ∙ once (length xs)) (less x) (each_more f g k xs less)
  where
    longer : length (x ∷ xs) ≡ 1 + length xs
    longer = omega arith

    once : (n : ℕ) → k * (1 + n) ≡ k + k * n
    once n = grind arith

    joined : (v a b w c d m n : ℕ) → v ≡ a + b → w ≡ c + d → m ≡ k + n → a ≤ c + k → b ≤ d + n → v ≤ w + m
    joined v a b w c d m n e f g low high = omega (arith, e, f, g, low, high)

-- the port by its number alone
pub same_port : (a b : Port) → a.id ≡ b.id → (found : Option Port) → is_port a found ≡ is_port b found
same_port a b is None = refl
same_port a b is (Some other) = ap (λ n. same n other.id) is

at_most_more : (a b k : ℕ) → a ≡ b → a ≤ b + k
at_most_more a b k is = omega (arith, is)

more_of : (k n : ℕ) → k ≤ n + k
more_of k n = omega arith

-- Other addresses of one port.
module _ (net : Network) (name : List ℕ) (list : List Addr) (apart : IsTrue (are_apart bytes_eq (map (λ (p : Port). p.name) net.ports))) where
  abbrev more : ℕ
  more = total ip_count list

  abbrev addressed : Port → Port
  addressed port = record port { addresses = list }

  abbrev changed : Port → Port
  changed port = cond (bytes_eq port.name name) (addressed port) port

  abbrev after : Network
  after = record net { ports = map changed net.ports }

  same_id : (port : Port) → (changed port).id ≡ port.id
  same_id port = cond_both (bytes_eq port.name name) (addressed port) port (λ p. p.id ≡ port.id) (λ is. refl) (λ is. refl)

  same_switch : (port : Port) → (changed port).switch ≡ port.switch
  same_switch port = cond_both (bytes_eq port.name name) (addressed port) port (λ p. p.switch ≡ port.switch) (λ is. refl) (λ is. refl)

  same_kind : (port : Port) → is_to_router (changed port) ≡ is_to_router port
  same_kind port = cond_both (bytes_eq port.name name) (addressed port) port (λ p. is_to_router p ≡ is_to_router port) (λ is. refl) (λ is. refl)

  same_option : (port : Port) → (changed port).router_port ≡ port.router_port
  same_option port = cond_both (bytes_eq port.name name) (addressed port) port (λ p. p.router_port ≡ port.router_port) (λ is. refl) (λ is. refl)

  peers : (port : RouterPort) → peer_port after port ≡ option_map changed (peer_port net port)
  peers port = find_changed (is_peer_of port.name) (is_peer_of port.name) changed net.ports (λ other. λ i. same_kind other i && is_name (same_option other i) port.name)

  is_peer : (own : Port) (found : Option Port) → is_port own (option_map changed found) ≡ is_port own found
  is_peer own None = refl
  is_peer own (Some peer) = ap (same own.id) (same_id peer)

  peer_ports : (own : Port) → peer_router_port after own ≡ peer_router_port net own
  peer_ports own =
      same_met (λ other. is_port own (peer_port after other)) (λ other. is_port own (peer_port net other)) net.router_ports (λ other. ap (is_port own) (peers other) ∙ is_peer own (peer_port net other))

  pairs : (own : Port) → pair_count after own ≡ pair_count net own
  pairs own = ap (λ o. cond (is_to_router own) (net_count o) (total ip_count own.addresses)) (peer_ports own)

  addressed_pairs : (own : Port) → pair_count after (addressed own) ≤ pair_count after own + more
  addressed_pairs own = by (is_to_router own)
    where
      met : peer_router_port after (addressed own) ≡ peer_router_port after own
      met = same_met (λ other. is_port (addressed own) (peer_port after other)) (λ other. is_port own (peer_port after other)) net.router_ports (λ other. same_port (addressed own) own refl (peer_port after other))

      by : (b : Bool) → cond b (net_count (peer_router_port after (addressed own))) more ≤ cond b (net_count (peer_router_port after own)) (total ip_count own.addresses) + more
      by true = at_most_more (net_count (peer_router_port after (addressed own))) (net_count (peer_router_port after own)) more (ap net_count met)
      by false = more_of more (total ip_count own.addresses)

  -- what a port counts for across this peer
  abbrev counted : Port → Port → ℕ
  counted peer own = cond (is_across peer own) (pair_count after own) 0

  addressed_counted : (peer own : Port) → counted peer (addressed own) ≤ counted peer own + more
  addressed_counted peer own = by (is_across peer own)
    where
      by : (b : Bool) → cond b (pair_count after (addressed own)) 0 ≤ cond b (pair_count after own) 0 + more
      by true = addressed_pairs own
      by false = omega arith

  counted_before : (peer own : Port) → counted (changed peer) own ≡ cond (is_across peer own) (pair_count net own) 0
  counted_before peer own =
      ap (λ id. cond (own.enabled && (same own.switch (changed peer).switch && not (same own.id id))) (pair_count after own) 0) (same_id peer)
      ∙ ap (λ switch. cond (own.enabled && (same own.switch switch && not (same own.id peer.id))) (pair_count after own) 0) (same_switch peer)
      ∙ ap (λ n. cond (is_across peer own) n 0) (pairs own)

  across : (peer : Option Port) → neighbours_across after (option_map changed peer) ≤ neighbours_across net peer + more
  across None = omega arith
  across (Some peer) =
      subst (λ n. n ≤ neighbours_across net (Some peer) + more) (sym (total_filter (pair_count after) (is_across (changed peer)) (map changed net.ports)))
      (subst (λ n. total (counted (changed peer)) (map changed net.ports) ≤ n + more)
      (total_same (counted (changed peer)) (λ own. cond (is_across peer own) (pair_count net own) 0) net.ports (counted_before peer) ∙ sym (total_filter (pair_count net) (is_across peer) net.ports))
      (one_total (λ (p : Port). p.name) name addressed (counted (changed peer)) more (addressed_counted (changed peer)) net.ports apart))

  pub addresses_bring : amount (set_port net name (λ p. record p { addresses = list })) kind.Neighbour ≤ amount net kind.Neighbour + total ip_count list * length net.router_ports
  addresses_bring =
      each_more (λ port. neighbours_across after (peer_port after port)) (λ port. neighbours_across net (peer_port net port)) more net.router_ports
      (λ port. subst (λ peer. neighbours_across after peer ≤ neighbours_across net (peer_port net port) + more) (sym (peers port)) (across (peer_port net port)))

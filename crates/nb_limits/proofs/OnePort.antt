-- How many neighbours there may be once one port is changed, and no peer with it.
use Rattle.std.proofs.Common.{◌≡◌, ℕ, ◌+◌, ◌*◌, ◌≤◌, Bool, true, false, cond, not, ◌&&◌, List, map, Option, Some, None, arith, refl, sym, ap, ◌∙◌, subst, length}
use Rattle.std.proofs.lemmas.Bool.{cond_both}
use Rattle.std.specs.Prelude.{IsTrue, option_map}
use Rattle.std.specs.List.{AllByRecursion}
use Rattle.std.specs.Str.{bytes_eq}
use Rattle.nv_base.specs.declared.object.ObjId.{ObjId}
use Rattle.nb_records.specs.declared.refusal.Kind.TheVariants as kind
use Rattle.nb_records.specs.declared.router.RouterPort.{RouterPort}
use Rattle.nb_records.specs.declared.switch.Port.{Port}
use Rattle.nb_model.specs.Amounts.{amount, total, ip_count, net_count, pair_count, neighbours_across}
use Rattle.nb_model.specs.Belongs.{is_to_router, is_port, peer_port, peer_router_port}
use Rattle.nb_model.specs.Effect.{set_port}
use Rattle.nb_model.specs.Network.{Network, same}
use Rattle.nb_model.specs.Readable.{are_apart}
use Rattle.nb_model.proofs.RisesNeighbours.{is_across, is_peer_of}
use Rattle.nb_limits.proofs.Every.{every_as, found_changed}
use Rattle.nb_limits.proofs.NewVips.{one_rises}
use Rattle.nb_limits.proofs.PortNeighbours.{each_more, same_port}
use Rattle.nb_limits.proofs.Rest.{same_met}
use Rattle.nb_limits.proofs.Swapped.{total_filter, total_same}

-- the only port of a name changes, but in its number and its switch, and is a peer of what it was
module _ (net : Network) (name : List ℕ) (change : Port → Port) (port : Port) (apart : IsTrue (are_apart bytes_eq (map (λ (p : Port). p.name) net.ports)))
    (only : AllByRecursion (λ (p : Port). IsTrue (bytes_eq p.name name) → p ≡ port) net.ports) (same_id : (p : Port) → (change p).id ≡ p.id) (same_switch : (p : Port) → (change p).switch ≡ p.switch)
    (same_peer : (n : List ℕ) → is_peer_of n (change port) ≡ is_peer_of n port) where
  abbrev changed : Port → Port
  changed p = cond (bytes_eq p.name name) (change p) p

  abbrev after : Network
  after = record net { ports = map changed net.ports }

  one_id : (p : Port) → (changed p).id ≡ p.id
  one_id p = cond_both (bytes_eq p.name name) (change p) p (λ q. q.id ≡ p.id) (λ is. same_id p) (λ is. refl)

  one_switch : (p : Port) → (changed p).switch ≡ p.switch
  one_switch p = cond_both (bytes_eq p.name name) (change p) p (λ q. q.switch ≡ p.switch) (λ is. same_switch p) (λ is. refl)

  still_peers : (n : List ℕ) → AllByRecursion (λ p. is_peer_of n (changed p) ≡ is_peer_of n p) net.ports
  still_peers n = every_as (λ (p : Port). IsTrue (bytes_eq p.name name) → p ≡ port) (λ p. is_peer_of n (changed p) ≡ is_peer_of n p) net.ports (λ p is. by p (bytes_eq p.name name) is) only
    where
      by : (p : Port) (b : Bool) → (IsTrue b → p ≡ port) → is_peer_of n (cond b (change p) p) ≡ is_peer_of n p
      by p true is = subst (λ (q : Port). is_peer_of n (change q) ≡ is_peer_of n q) (sym (is refl)) (same_peer n)
      by p false is = refl

  peers : (own : RouterPort) → peer_port after own ≡ option_map changed (peer_port net own)
  peers own = found_changed (is_peer_of own.name) changed net.ports (still_peers own.name)

  is_peer : (p : Port) (found : Option Port) → is_port p (option_map changed found) ≡ is_port p found
  is_peer p None = refl
  is_peer p (Some peer) = ap (same p.id) (one_id peer)

  peer_ports : (p : Port) → peer_router_port after p ≡ peer_router_port net p
  peer_ports p = same_met (λ own. is_port p (peer_port after own)) (λ own. is_port p (peer_port net own)) net.router_ports (λ own. ap (is_port p) (peers own) ∙ is_peer p (peer_port net own))

  pairs : (p : Port) → pair_count after p ≡ pair_count net p
  pairs p = ap (λ o. cond (is_to_router p) (net_count o) (total ip_count p.addresses)) (peer_ports p)

  -- the pairs of the port then
  abbrev new_pairs : ℕ
  new_pairs = cond (is_to_router (change port)) (net_count (peer_router_port net port)) (total ip_count (change port).addresses)

  changed_pairs : pair_count after (change port) ≡ new_pairs
  changed_pairs =
      ap (λ o. cond (is_to_router (change port)) (net_count o) (total ip_count (change port).addresses))
      (same_met (λ own. is_port (change port) (peer_port after own)) (λ own. is_port port (peer_port after own)) net.router_ports (λ own. same_port (change port) port (same_id port) (peer_port after own)) ∙ peer_ports port)

  -- what a port counts for across this peer
  abbrev counted : Port → Port → ℕ
  counted peer p = cond (is_across peer p) (pair_count after p) 0

  counted_before : (peer p : Port) → counted (changed peer) p ≡ cond (is_across peer p) (pair_count net p) 0
  counted_before peer p =
      ap (λ id. cond (p.enabled && (same p.switch (changed peer).switch && not (same p.id id))) (pair_count after p) 0) (one_id peer)
      ∙ ap (λ switch. cond (p.enabled && (same p.switch switch && not (same p.id peer.id))) (pair_count after p) 0) (one_switch peer)
      ∙ ap (λ n. cond (is_across peer p) n 0) (pairs p)

  module _ (more : ℕ) (less : (peer : Port) → counted peer (change port) ≤ counted peer port + more) where
    across : (peer : Option Port) → neighbours_across after (option_map changed peer) ≤ neighbours_across net peer + more
    across None = omega arith
    across (Some peer) =
        subst (λ n. n ≤ neighbours_across net (Some peer) + more) (sym (total_filter (pair_count after) (is_across (changed peer)) (map changed net.ports)))
        (subst (λ n. total (counted (changed peer)) (map changed net.ports) ≤ n + more)
        (total_same (counted (changed peer)) (λ p. cond (is_across peer p) (pair_count net p) 0) net.ports (counted_before peer) ∙ sym (total_filter (pair_count net) (is_across peer) net.ports))
        (one_rises (λ (p : Port). p.name) name change (counted (changed peer)) more net.ports apart
        (every_as (λ (p : Port). IsTrue (bytes_eq p.name name) → p ≡ port) (λ p. IsTrue (bytes_eq p.name name) → counted (changed peer) (change p) ≤ counted (changed peer) p + more) net.ports
        (λ p is named. subst (λ (q : Port). counted (changed peer) (change q) ≤ counted (changed peer) q + more) (sym (is named)) (less (changed peer))) only)))

    rises : amount (set_port net name change) kind.Neighbour ≤ amount net kind.Neighbour + more * length net.router_ports
    rises =
        each_more (λ own. neighbours_across after (peer_port after own)) (λ own. neighbours_across net (peer_port net own)) more net.router_ports
        (λ own. subst (λ peer. neighbours_across after peer ≤ neighbours_across net (peer_port net own) + more) (sym (peers own)) (across (peer_port net own)))

  -- by as many as its pairs then are
  pub pairs_bring : (more : ℕ) → new_pairs ≤ more → amount (set_port net name change) kind.Neighbour ≤ amount net kind.Neighbour + more * length net.router_ports
  pairs_bring more low = rises more less
    where
      few : pair_count after (change port) ≤ more
      few = subst (λ n. n ≤ more) (sym changed_pairs) low

      either : (b : Bool) (n m : ℕ) → n ≤ more → cond b n 0 ≤ m + more
      either true n m low = omega (arith, low)
      either false n m low = omega arith

      less : (peer : Port) → counted peer (change port) ≤ counted peer port + more
      less peer = either (is_across peer (change port)) (pair_count after (change port)) (counted peer port) few

  -- by none where it has no more pairs than before
  pub pairs_stay : (change port).enabled ≡ port.enabled → new_pairs ≤ pair_count net port → amount (set_port net name change) kind.Neighbour ≤ amount net kind.Neighbour
  pairs_stay enabled low = none (amount (set_port net name change) kind.Neighbour) (amount net kind.Neighbour) (length net.router_ports) (rises 0 less)
    where
      none : (a b n : ℕ) → a ≤ b + 0 * n → a ≤ b
      none a b n e = omega (arith, e)

      few : pair_count after (change port) ≤ pair_count after port
      few = subst (λ n. pair_count after (change port) ≤ n) (sym (pairs port)) (subst (λ n. n ≤ pair_count net port) (sym changed_pairs) low)

      both : (b : Bool) (n m : ℕ) → n ≤ m → cond b n 0 ≤ cond b m 0 + 0
      both true n m low = omega (arith, low)
      both false n m low = omega arith

      alike : (peer : Port) → is_across peer (change port) ≡ is_across peer port
      alike peer =
          ap (λ b. b && (same (change port).switch peer.switch && not (same (change port).id peer.id))) enabled
          ∙ ap (λ (s : ObjId). port.enabled && (same s peer.switch && not (same (change port).id peer.id))) (same_switch port)
          ∙ ap (λ (n : ObjId). port.enabled && (same port.switch peer.switch && not (same n peer.id))) (same_id port)

      less : (peer : Port) → counted peer (change port) ≤ counted peer port + 0
      less peer = subst (λ b. cond b (pair_count after (change port)) 0 ≤ counted peer port + 0) (sym (alike peer)) (both (is_across peer port) (pair_count after (change port)) (pair_count after port) few)

-- A router port that no port of a switch names brings no neighbours, and by how many one may raise them that a port names.
use Rattle.std.proofs.Common.{◌≡◌, ℕ, ◌+◌, ◌*◌, ◌≤◌, Bool, true, false, cond, ◌&&◌, not, List, [], ◌∷◌, ◌++◌, Option, Some, None, arith, refl, sym, ap, ◌∙◌, subst, length}
use Rattle.std.proofs.lemmas.Bool.{cond_both}
use Rattle.std.specs.Prelude.{find, filter, is_some}
use Rattle.nv_base.specs.Block.{Block}
use Rattle.nb_records.specs.declared.edit.Edit.TheVariants as edit
use Rattle.nb_records.specs.declared.refusal.Kind.TheVariants as kind
use Rattle.nb_records.specs.declared.router.Router.{Router}
use Rattle.nb_records.specs.declared.router.RouterPort.{RouterPort}
use Rattle.nb_records.specs.declared.switch.Port.{Port}
use Rattle.nb_model.specs.Amounts.{amount, total, ip_count, net_count, pair_count, neighbours_across}
use Rattle.nb_model.specs.Belongs.{is_to_router, is_port, peer_port, peer_router_port}
use Rattle.nb_model.specs.Effect.{effect, where_there, add_router_port}
use Rattle.nb_model.specs.Network.{Network, same, router_named, router_port_named}
use Rattle.nb_model.proofs.AnyOf.{all_true}
use Rattle.nb_model.proofs.RisesNeighbours.{is_across}
use Rattle.nb_model.proofs.Totals.{le_self, le_trans, sums, total_cons, total_kept, total_le}
use Rattle.nv_table.specs.Table.{record_of}
use Rattle.nb_limits.specs.Ceilings.{IsCeiling}
use Rattle.nb_limits.specs.inner.NeighboursAfter.{peer_named, with_peer, with_router_port}
use Rattle.nb_limits.specs.inner.Within.{up_to, raised, raised_by}
use Rattle.nb_limits.specs.Limitless.{IsSoundButLimits}
use Rattle.nb_limits.proofs.Counted.{found_list, of_number}
use Rattle.nb_limits.proofs.Neighbours.{ports_rise}
use Rattle.nb_limits.proofs.PortNeighbours.{each_more}
use Rattle.nb_limits.proofs.Raised.{raised_by_ceiling, raised_ceiling, total_last}
use Rattle.nb_limits.proofs.Swapped.{total_filter, total_plus}

-- what is found does not change where one more does not pass
found_last : {X : Type 0} (p : X → Bool) (xs : List X) (x : X) → p x ≡ false → find p (xs ++ x ∷ []) ≡ find p xs
found_last p [] x fails = ap (λ b. cond b (Some x) None) fails
found_last p (y ∷ xs) x fails = ap (λ o. cond (p y) (Some y) o) (found_last p xs x fails)

no_more : (n : ℕ) → n + 0 ≡ n
no_more n = omega arith

module _ (net : Network) (port : RouterPort) (alone : peer_port net port ≡ None) where
  abbrev longer : Network
  longer = record net { router_ports = net.router_ports ++ port ∷ []; next = net.next + 1 }

  same_peer : (own : Port) → peer_router_port longer own ≡ peer_router_port net own
  same_peer own = found_last (λ other. is_port own (peer_port net other)) net.router_ports port (ap (is_port own) alone)

  same_pairs : (own : Port) → pair_count longer own ≡ pair_count net own
  same_pairs own = ap (λ o. cond (is_to_router own) (net_count o) (total ip_count own.addresses)) (same_peer own)

  same_across : (peer : Option Port) → neighbours_across longer peer ≡ neighbours_across net peer
  same_across None = refl
  same_across (Some peer) = ap (λ (f : Port → ℕ). total f (filter (λ (own : Port). own.enabled && (same own.switch peer.switch && not (same own.id peer.id))) net.ports)) (λ i own. same_pairs own i)

  pub unraised : amount longer kind.Neighbour ≡ amount net kind.Neighbour
  unraised =
      ap (λ (f : RouterPort → ℕ). total f (net.router_ports ++ port ∷ [])) (λ i own. same_across (peer_port net own) i)
      ∙ total_last (λ (own : RouterPort). neighbours_across net (peer_port net own)) net.router_ports port
      ∙ ap (λ o. amount net kind.Neighbour + neighbours_across net o) alone
      ∙ no_more (amount net kind.Neighbour)

-- what is known, raised for a router port that may have this peer, is so of no more than that
pub peer_fits : (net : Network) (peer : Port) (nets : ℕ) (most : Option ℕ) (after : ℕ) → IsCeiling 262144 (amount net kind.Neighbour) most → after ≤ (amount net kind.Neighbour + neighbours_across net (Some peer) * 1) + nets * length net.router_ports
    → IsCeiling 262144 after (with_peer net peer nets most)
peer_fits net peer nets most after known low =
    raised_ceiling 262144 a after (raised_by 262144 most (up_to 262144 (neighbours_across net (Some peer))) 1) nets (length net.router_ports) (length net.router_ports)
    (raised_by_ceiling 262144 (amount net kind.Neighbour) a most (neighbours_across net (Some peer)) 1 known (le_self a)) low (le_self (length net.router_ports))
  where
    a : ℕ
    a = amount net kind.Neighbour + neighbours_across net (Some peer) * 1

-- One that a port names.

-- what is found with one more
found_more : (p : RouterPort → Bool) (new : RouterPort) (owns : List RouterPort) → net_count (find p (owns ++ new ∷ [])) ≤ net_count (find p owns) + cond (p new) (length new.nets) 0
found_more p new [] = by (p new)
  where
    by : (b : Bool) → net_count (cond b (Some new) None) ≤ 0 + cond b (length new.nets) 0
    by true = omega arith
    by false = omega arith
found_more p new (own ∷ owns) = by (p own) (found_more p new owns)
  where
    no_less : (n m : ℕ) → n ≤ n + m
    no_less n m = omega arith

    by : (b : Bool) → net_count (find p (owns ++ new ∷ [])) ≤ net_count (find p owns) + cond (p new) (length new.nets) 0
        → net_count (cond b (Some own) (find p (owns ++ new ∷ []))) ≤ net_count (cond b (Some own) (find p owns)) + cond (p new) (length new.nets) 0
    by true rest = no_less (net_count (Some own)) (cond (p new) (length new.nets) 0)
    by false rest = rest

module _ (net : Network) (limitless : IsSoundButLimits net) (port : RouterPort) (peer : Port) (is : peer_port net port ≡ Some peer) where
  abbrev with_port : Network
  with_port = record net { router_ports = net.router_ports ++ port ∷ []; next = net.next + 1 }

  abbrev nets : ℕ
  nets = length port.nets

  more_pairs : (own : Port) → pair_count with_port own ≤ pair_count net own + cond (same own.id peer.id) nets 0
  more_pairs own =
      by (is_to_router own)
      (subst (λ o. net_count (peer_router_port with_port own) ≤ net_count (peer_router_port net own) + cond (is_port own o) nets 0) is (found_more (λ other. is_port own (peer_port net other)) port net.router_ports))
    where
      no_less : (n m : ℕ) → n ≤ n + m
      no_less n m = omega arith

      by : (b : Bool) → net_count (peer_router_port with_port own) ≤ net_count (peer_router_port net own) + cond (same own.id peer.id) nets 0
          → cond b (net_count (peer_router_port with_port own)) (total ip_count own.addresses) ≤ cond b (net_count (peer_router_port net own)) (total ip_count own.addresses) + cond (same own.id peer.id) nets 0
      by true less = less
      by false less = no_less (total ip_count own.addresses) (cond (same own.id peer.id) nets 0)

  -- those of the peer are counted once
  once : (q : Port → Bool) → total (λ own. cond (same own.id peer.id) nets 0) (filter q net.ports) ≤ nets
  once q =
      le_trans (total (λ own. cond (same own.id peer.id) nets 0) (filter q net.ports)) (total (λ own. cond (same own.id peer.id) nets 0) net.ports) nets
      (total_kept (λ own. cond (same own.id peer.id) nets 0) (λ own. cond (same own.id peer.id) nets 0) q net.ports (λ own. le_self (cond (same own.id peer.id) nets 0)))
      (subst (λ n. n ≤ nets)
      (sym (ap (total (λ (own : Port). nets)) (of_number (λ (p : Port). p.id) peer.id net.ports (ports_rise net limitless))) ∙ total_filter (λ (own : Port). nets) (λ own. same own.id peer.id) net.ports)
      (one (record_of (λ (p : Port). p.id) peer.id net.ports)))
    where
      plus_none : (n : ℕ) → n + 0 ≤ n
      plus_none n = omega arith

      one : (found : Option Port) → total (λ own. nets) (found_list (λ (p : Port). p.id) peer.id found) ≤ nets
      one None = omega arith
      one (Some own) = subst (λ n. n ≤ nets) (sym (total_cons (λ (p : Port). nets) own [])) (plus_none nets)

  more_across : (found : Option Port) → neighbours_across with_port found ≤ neighbours_across net found + nets
  more_across None = omega arith
  more_across (Some own) = over (is_across own)
    where
      over : (q : Port → Bool) → total (pair_count with_port) (filter q net.ports) ≤ total (pair_count net) (filter q net.ports) + nets
      over q =
          le_trans (total (pair_count with_port) (filter q net.ports)) (total (pair_count net) (filter q net.ports) + total (λ p. cond (same p.id peer.id) nets 0) (filter q net.ports)) (total (pair_count net) (filter q net.ports) + nets)
          (subst (λ n. total (pair_count with_port) (filter q net.ports) ≤ n) (total_plus (pair_count net) (λ p. cond (same p.id peer.id) nets 0) (filter q net.ports))
          (total_le (pair_count with_port) (λ p. pair_count net p + cond (same p.id peer.id) nets 0) (λ p. true) (filter q net.ports) (all_true (filter q net.ports)) (λ p of. more_pairs p)))
          (sums (total (pair_count net) (filter q net.ports)) (total (λ p. cond (same p.id peer.id) nets 0) (filter q net.ports)) (total (pair_count net) (filter q net.ports)) nets (le_self (total (pair_count net) (filter q net.ports))) (once q))

  pub peer_brings : amount with_port kind.Neighbour ≤ ((amount net kind.Neighbour + neighbours_across net (Some peer) * 1) + nets * length net.router_ports) + nets * 1
  peer_brings =
      all (amount with_port kind.Neighbour) (total (λ own. neighbours_across with_port (peer_port net own)) net.router_ports) (neighbours_across with_port (peer_port net port)) (amount net kind.Neighbour)
      (neighbours_across net (Some peer)) (nets * length net.router_ports) nets (total_last (λ own. neighbours_across with_port (peer_port net own)) net.router_ports port)
      (each_more (λ own. neighbours_across with_port (peer_port net own)) (λ own. neighbours_across net (peer_port net own)) nets net.router_ports (λ own. more_across (peer_port net own)))
      (subst (λ o. neighbours_across with_port o ≤ neighbours_across net (Some peer) + nets) (sym is) (more_across (Some peer)))
    where
      all : (v a b m c k n : ℕ) → v ≡ a + b → a ≤ m + k → b ≤ c + n → v ≤ ((m + c * 1) + k) + n * 1
      all v a b m c k n e f g = omega (arith, e, f, g)

  -- so that what is known, raised by so much, is so of no more than that
  pub raised_fits : (most : Option ℕ) (after : ℕ) → IsCeiling 262144 (amount net kind.Neighbour) most → after ≤ ((amount net kind.Neighbour + neighbours_across net (Some peer) * 1) + nets * length net.router_ports) + nets * 1
      → IsCeiling 262144 after (raised 262144 (with_peer net peer nets most) nets 1)
  raised_fits most after known low =
      raised_ceiling 262144 (a + nets * length net.router_ports) after (with_peer net peer nets most) nets 1 1 (peer_fits net peer nets most (a + nets * length net.router_ports) known (le_self (a + nets * length net.router_ports))) low (le_self 1)
    where
      a : ℕ
      a = amount net kind.Neighbour + neighbours_across net (Some peer) * 1

pub port_fits : (net : Network) → IsSoundButLimits net → (router name : List ℕ) (mac : ℕ) (nets : List Block) (may : Bool) (most : Option ℕ) → IsCeiling 262144 (amount net kind.Neighbour) most
    → IsCeiling 262144 (amount (effect net (edit.LrpAdd router name mac nets may)) kind.Neighbour) (with_router_port net (peer_named net name) (length nets) most)
port_fits net limitless router name mac nets may most known = at (peer_named net name) refl
  where
    new : Router → RouterPort
    new r = record { id = record { 0 = net.next }; router = r.id; name = name; mac = mac; nets = nets; enabled = true }

    by : (found : Option Router) → peer_named net name ≡ None → IsCeiling 262144 (amount (where_there found (add_router_port net name mac nets) net) kind.Neighbour) most
    by None is = known
    by (Some r) is = subst (λ n. IsCeiling 262144 n most) (sym (unraised net (new r) is)) known

    as_before : (r : Router) (peer : Port) → peer_named net name ≡ Some peer → IsCeiling 262144 (amount net kind.Neighbour) (raised 262144 (with_peer net peer (length nets) most) (length nets) 1)
    as_before r peer is = raised_fits net limitless (new r) peer is most (amount net kind.Neighbour) known (no_less (amount net kind.Neighbour) (neighbours_across net (Some peer)) (length nets * length net.router_ports) (length nets))
      where
        no_less : (m c k n : ℕ) → m ≤ ((m + c * 1) + k) + n * 1
        no_less m c k n = omega arith

    named : (found : Option Router) (peer : Port) → peer_named net name ≡ Some peer → IsCeiling 262144 (amount (where_there found (add_router_port net name mac nets) net) kind.Neighbour) (raised 262144 (with_peer net peer (length nets) most) (length nets) 1)
    named None peer is = as_before any peer is
      where
        any : Router
        any = record { id = record { 0 = 0 }; name = []; lbs = [] }
    named (Some r) peer is = raised_fits net limitless (new r) peer is most (amount (add_router_port net name mac nets r) kind.Neighbour) known (peer_brings net limitless (new r) peer is)

    at : (peer : Option Port) → peer_named net name ≡ peer → IsCeiling 262144 (amount (effect net (edit.LrpAdd router name mac nets may)) kind.Neighbour) (with_router_port net peer (length nets) most)
    at None is =
        cond_both (is_some (router_port_named net name)) net (where_there (router_named net router) (add_router_port net name mac nets) net)
        (λ after. IsCeiling 262144 (amount after kind.Neighbour) most) (λ there. known) (λ new. by (router_named net router) is)
    at (Some peer) is =
        cond_both (is_some (router_port_named net name)) net (where_there (router_named net router) (add_router_port net name mac nets) net)
        (λ after. IsCeiling 262144 (amount after kind.Neighbour) (raised 262144 (with_peer net peer (length nets) most) (length nets) 1)) (λ there. named None peer is) (λ new. named (router_named net router) peer is)

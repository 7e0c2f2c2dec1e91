-- How many neighbours there may be once ports are gone, after none of which a port names what it names.
use Rattle.std.proofs.Common.{◌≡◌, ℕ, ◌≤◌, ◌<◌, ◌⊎◌, inl, inr, Bool, true, false, cond, not, nat_lt, List, [], ◌∷◌, Option, Some, None, arith, refl, sym, ap, ◌∙◌, subst}
use Rattle.std.proofs.lemmas.Bool.{false≢true, lt-ltb}
use Rattle.std.specs.Prelude.{IsTrue, find, filter}
use Rattle.std.specs.List.{AllByRecursion}
use Rattle.nb_records.specs.declared.refusal.Kind.TheVariants as kind
use Rattle.nb_records.specs.declared.router.RouterPort.{RouterPort}
use Rattle.nb_records.specs.declared.switch.Port.{Port}
use Rattle.nb_model.specs.Amounts.{amount, total, ip_count, net_count, pair_count, neighbours_across}
use Rattle.nb_model.specs.Belongs.{is_to_router, is_port, peer_port}
use Rattle.nb_model.specs.Effect.{without, without_ports}
use Rattle.nb_model.specs.Network.{Network}
use Rattle.nb_model.proofs.AnyOf.{all_true}
use Rattle.nb_model.proofs.RisesNeighbours.{is_across, is_peer_of}
use Rattle.nb_model.proofs.Totals.{le_self, le_trans, total_kept_twice, total_le}
use Rattle.nv_table.specs.Table.{NumbersRise, record_of}
use Rattle.nb_limits.specs.Limitless.{IsSoundButLimits}
use Rattle.nb_limits.proofs.Every.{each_is_record, every_as}
use Rattle.nb_limits.proofs.Fewer.{fewer_found, total_less_kept}
use Rattle.nb_limits.proofs.Neighbours.{peered_is, ports_rise}

-- none of these after this port passes
abbrev pub IsLast : (Port → Bool) → List Port → Port → Type 0
IsLast q ports port = AllByRecursion (λ (p : Port). IsTrue (nat_lt port.id.0 p.id.0) → q p ≡ false) ports

module _ (gone : Port → Bool) where
  -- so of each that goes and passes
  abbrev pub AreLast : (Port → Bool) → List Port → List Port → Type 0
  AreLast q ports some = AllByRecursion (λ (p : Port). IsTrue (gone p) → q p ≡ true → IsLast q ports p) some

  none_kept : (q : Port → Bool) (port : Port) (ports : List Port) → IsLast q ports port → AllByRecursion (λ (p : Port). port.id.0 < p.id.0) ports → find q (without gone ports) ≡ None
  none_kept q port [] last above = refl
  none_kept q port (p ∷ ports) last above = by (not (gone p)) (none_kept q port ports last.1 above.1)
    where
      by : (b : Bool) → find q (without gone ports) ≡ None → find q (cond b (p ∷ without gone ports) (without gone ports)) ≡ None
      by true rest = ap (λ b. cond b (Some p) (find q (without gone ports))) (last.0 (lt-ltb port.id.0 p.id.0 above.0)) ∙ rest
      by false rest = rest

  -- what is found without those that go: what was, or nothing
  left_found : (q : Port → Bool) (ports : List Port) → NumbersRise (λ (p : Port). p.id) ports → AreLast q ports ports → (find q (without gone ports) ≡ find q ports) ⊎ (find q (without gone ports) ≡ None)
  left_found q [] rise last = inl refl
  left_found q (p ∷ ports) rise last =
      by (gone p) (q p) refl refl
      (left_found q ports rise.1 (every_as (λ (x : Port). IsTrue (gone x) → q x ≡ true → IsLast q (p ∷ ports) x) (λ x. IsTrue (gone x) → q x ≡ true → IsLast q ports x) ports (λ x is goes passes. (is goes passes).1) last.1))
    where
      by : (a b : Bool) → gone p ≡ a → q p ≡ b → (find q (without gone ports) ≡ find q ports) ⊎ (find q (without gone ports) ≡ None)
          → (find q (cond (not a) (p ∷ without gone ports) (without gone ports)) ≡ cond b (Some p) (find q ports)) ⊎ (find q (cond (not a) (p ∷ without gone ports) (without gone ports)) ≡ None)
      by true true goes passes rest = inr (none_kept q p ports (last.0 goes passes).1 rise.0)
      by true false goes passes rest = rest
      by false true goes passes rest = inl (ap (λ b. cond b (Some p) (find q (without gone ports))) passes)
      by false false goes passes (inl same) = inl (ap (λ b. cond b (Some p) (find q (without gone ports))) passes ∙ same)
      by false false goes passes (inr none) = inr (ap (λ b. cond b (Some p) (find q (without gone ports))) passes ∙ none)

  module _ (net : Network) (limitless : IsSoundButLimits net) (last : (n : List ℕ) → AreLast (is_peer_of n) net.ports net.ports) where
    abbrev left : Network
    left = without_ports gone net

    -- a router port has the peer that it had, or none
    peers : (own : RouterPort) → (peer_port left own ≡ peer_port net own) ⊎ (peer_port left own ≡ None)
    peers own = left_found (is_peer_of own.name) net.ports (ports_rise net limitless) (last own.name)

    -- so that a port is the peer of no other one
    still_peer : (p : Port) (own : RouterPort) → IsTrue (is_port p (peer_port left own)) → IsTrue (is_port p (peer_port net own))
    still_peer p own is = by (peers own)
      where
        by : (peer_port left own ≡ peer_port net own) ⊎ (peer_port left own ≡ None) → IsTrue (is_port p (peer_port net own))
        by (inl same) = subst (λ o. IsTrue (is_port p o)) same is
        by (inr none) = absurd (false≢true (sym (ap (is_port p) none) ∙ is))

    pairs : (p : Port) → record_of (λ (x : Port). x.id) p.id net.ports ≡ Some p → pair_count left p ≤ pair_count net p
    pairs p there = by (is_to_router p)
      where
        by : (b : Bool) → cond b (net_count (find (λ own. is_port p (peer_port left own)) net.router_ports)) (total ip_count p.addresses) ≤ cond b (net_count (find (λ own. is_port p (peer_port net own)) net.router_ports)) (total ip_count p.addresses)
        by true = fewer_found (λ own. is_port p (peer_port net own)) (λ own. is_port p (peer_port left own)) (still_peer p) net_count refl net.router_ports (sym (peered_is net limitless p there))
        by false = le_self (total ip_count p.addresses)

    across : (peer : Option Port) → neighbours_across left peer ≤ neighbours_across net peer
    across None = le_self 0
    across (Some peer) =
        le_trans (neighbours_across left (Some peer)) (total (pair_count left) (filter (is_across peer) net.ports)) (neighbours_across net (Some peer))
        (total_kept_twice (pair_count left) (λ p. not (gone p)) (is_across peer) net.ports)
        (total_less_kept (pair_count left) (pair_count net) (is_across peer) net.ports
        (every_as (λ (p : Port). record_of (λ (x : Port). x.id) p.id net.ports ≡ Some p) (λ p. pair_count left p ≤ pair_count net p) net.ports pairs (each_is_record (λ (p : Port). p.id) net.ports (ports_rise net limitless))))

    pub some_leave : amount (without_ports gone net) kind.Neighbour ≤ amount net kind.Neighbour
    some_leave =
        total_le (λ own. neighbours_across left (peer_port left own)) (λ own. neighbours_across net (peer_port net own)) (λ own. true) net.router_ports (all_true net.router_ports) (λ own of. by own (peers own))
      where
        nothing : (n m : ℕ) → n ≡ 0 → n ≤ m
        nothing n m is = omega (arith, is)

        by : (own : RouterPort) → (peer_port left own ≡ peer_port net own) ⊎ (peer_port left own ≡ None) → neighbours_across left (peer_port left own) ≤ neighbours_across net (peer_port net own)
        by own (inl is) = subst (λ o. neighbours_across left o ≤ neighbours_across net (peer_port net own)) (sym is) (across (peer_port net own))
        by own (inr is) = nothing (neighbours_across left (peer_port left own)) (neighbours_across net (peer_port net own)) (ap (neighbours_across left) is)

-- The neighbours of a router port, looked for at each port of its peer's switch.
use Rattle.std.proofs.Common.{◌≡◌, ℕ, Bool, true, false, cond, not, ◌&&◌, Some, refl, sym, ap, ◌∙◌}
use Rattle.std.specs.Prelude.{filter}
use Rattle.nb_records.specs.declared.switch.Port.{Port}
use Rattle.nb_model.specs.Amounts.{total, pair_count, neighbours_across}
use Rattle.nb_model.specs.Network.{Network, same}
use Rattle.nb_model.proofs.Alike.{same_sym}
use Rattle.nb_limits.specs.inner.Across.{is_across}
use Rattle.nb_limits.proofs.Swapped.{total_same, total_filter}

module _ (net : Network) (peer : Port) where
  -- those at a port of the switch
  abbrev pub pairs_at : Port → ℕ
  pairs_at port = cond (is_across peer port) (pair_count net port) 0

  abbrev is_neighbour : Port → Bool
  is_neighbour port = port.enabled && (same port.switch peer.switch && not (same port.id peer.id))

  pub all_beside : total pairs_at (filter (λ port. same peer.switch port.switch) net.ports) ≡ neighbours_across net (Some peer)
  all_beside =
      total_filter pairs_at (λ port. same peer.switch port.switch) net.ports
      ∙ total_same (λ port. cond (same peer.switch port.switch) (pairs_at port) 0) (λ port. cond (is_neighbour port) (pair_count net port) 0) net.ports each
      ∙ sym (total_filter (pair_count net) is_neighbour net.ports)
    where
      by : (beside enabled other : Bool) (n : ℕ) → cond beside (cond (enabled && other) n 0) 0 ≡ cond (enabled && (beside && other)) n 0
      by true e o n = refl
      by false true o n = refl
      by false false o n = refl

      each : (port : Port) → cond (same peer.switch port.switch) (pairs_at port) 0 ≡ cond (is_neighbour port) (pair_count net port) 0
      each port =
          ap (λ b. cond b (pairs_at port) 0) (same_sym peer.switch port.switch) ∙ by (same port.switch peer.switch) port.enabled (not (same port.id peer.id)) (pair_count net port)

-- The rows of a network: those of its switches and those of its routers, which are on other datapaths.
use Rattle.std.proofs.Common.{◌≡◌, ℕ, suc, List, [], ◌∷◌, sym, ap, subst, ◌∙◌, inl, inr, arith}
use Rattle.std.specs.Prelude.{◌↔◌}
use Rattle.std.specs.List.{All, AllPairs, Contains}
use Rattle.std.proofs.lemmas.Bool.{eqb-true}
use Rattle.std.proofs.lemmas.List.Elements.{All-append}
use Rattle.nv_base.specs.declared.object.ObjId.{ObjId}
use Rattle.nb_records.specs.declared.switch.Port.{Port}
use Rattle.nb_records.specs.declared.switch.Switch.{Switch}
use Rattle.nb_model.specs.Applies.{applies}
use Rattle.nb_model.specs.Belongs.{is_among}
use Rattle.nb_model.specs.Network.{Network, same}
use Rattle.nb_model.specs.Sound.{IsSound, router_ids, switch_ids}
use Rattle.sb_model.specs.declared.row.Row.{Row}
use Rattle.sb_rows.specs.Row.{AreApart, HasTypedMatch, IsInRowOrder}
use Rattle.sb_rows.proofs.AllAtOnce.{put_members, put_rows_ordered}
use Rattle.net_rows.specs.Build.{all_rows}
use Rattle.net_rows.proofs.ApartUnits.{all_rows_apart}
use Rattle.net_rows.proofs.Differ.{Differ, dps_differ}
use Rattle.net_rows.proofs.Elements.{any_gives, Contains-from_filter, Contains-map}
use Rattle.net_rows.proofs.Pairs.{Across, OfPairs, all_pairs, every_from_members, pairs_append}
use Rattle.net_rows.proofs.Sound.{each_passes}
use Rattle.net_rows.proofs.Typed.{all_rows_typed}
use Rattle.net_rows.proofs.Units.{IsRow, all_rows-gives}
use Rattle.lr_units.specs.Build.{router_rows}
use Rattle.lr_units.specs.Network.{network_rows, rows_of_units}
use Rattle.lr_units.proofs.Apart.{pairs_differ}
use Rattle.lr_units.proofs.Datapaths.{row_on_router}
use Rattle.lr_units.proofs.Numbers.{switch_is_no_router}
use Rattle.lr_units.proofs.Typed.{router_rows_typed}

-- the rows of the units and no others
pub network_members : (net : Network) (row : Row) → Contains (network_rows net) row ↔ Contains (rows_of_units net) row
unfolding network_rows
network_members net row = put_members (rows_of_units net) row

-- in row order
pub network_in_order : (net : Network) → IsInRowOrder (network_rows net)
unfolding network_rows
network_in_order net = put_rows_ordered (rows_of_units net) [] (λ k d le lt. absurd (omega arith))

-- what holds of every two elements, by their places, holds of an element and each later one
of_all_pairs : {X : Type 0} (R : X → X → Type 0) (xs : List X) → AllPairs R xs → OfPairs R xs
of_all_pairs R [] all = tt
of_all_pairs {X} R (x ∷ xs) all = (
  every_from_members (R x) xs later,
  of_all_pairs R xs (λ i j d before below. all (suc i) (suc j) d (omega (arith, before)) (omega (arith, below))),
)
  where
    later : (y : X) → Contains xs y → R x y
    later y (k, within, is) = subst (R x) is (all 0 (suc k) y (omega arith) (omega (arith, within)))

module _ (net : Network) (sound : IsSound net) where
  -- a row of the units of switches is on a switch
  of_switches : (row : Row) → Contains (all_rows net) row → Contains (switch_ids net) row.dp
  of_switches row there = by (all_rows-gives net row there)
    where
      its_switch : (switch : Switch) → Contains net.switches switch → Contains (switch_ids net) switch.id
      its_switch switch at = Contains-map (λ (s : Switch). s.id) net.switches switch at

      of_port : (port : Port) → Contains net.ports port → Contains (switch_ids net) port.switch
      of_port port at =
          let its = any_gives (same port.switch) (switch_ids net) (each_passes (λ (p : Port). is_among p.switch (switch_ids net)) net.ports port sound.refers.ports at) in
          let is_it : its.0 ≡ port.switch = ap (λ (n : ℕ). record { 0 = n }) (sym (eqb-true port.switch.0 its.0.0 its.2)) in
          subst (λ (n : ObjId). Contains (switch_ids net) n) is_it its.1

      on : (number : ObjId) → Contains (switch_ids net) number → number ≡ row.dp → Contains (switch_ids net) row.dp
      on number at is = subst (λ (n : ObjId). Contains (switch_ids net) n) is at

      by : IsRow net row → Contains (switch_ids net) row.dp
      by (inl of) = on of.switch.id (its_switch of.switch of.among) (ap (λ (r : Row). r.dp) of.is)
      by (inr (inl of)) = on of.port.switch (of_port of.port of.among) (ap (λ (r : Row). r.dp) of.is)
      by (inr (inr (inl of))) = on of.switch.id (its_switch of.switch (Contains-from_filter (λ (s : Switch). applies net s.id of.acl) net.switches of.switch of.applied)) (ap (λ (r : Row). r.dp) of.is)
      by (inr (inr (inr of))) = on of.switch.id (its_switch of.switch of.among) (ap (λ (r : Row). r.dp) of.is)

  -- and one of routers is on none
  two_kinds : Across Differ (all_rows net) (router_rows net)
  two_kinds x y in_switches in_routers =
      let router = any_gives (same y.dp) (router_ids net) (row_on_router net sound y in_routers) in
      let apart = switch_is_no_router net sound x.dp router.0 (of_switches x in_switches) router.1 in
      dps_differ x y (λ e. apart (e ∙ eqb-true y.dp.0 router.0.0 router.2))

  pub network_typed : All HasTypedMatch (rows_of_units net)
  network_typed = All-append HasTypedMatch (all_rows net) (router_rows net) (all_rows_typed net sound) (router_rows_typed net sound)

  pub network_apart : AreApart (rows_of_units net)
  network_apart =
      all_pairs Differ (rows_of_units net)
      (pairs_append Differ (all_rows net) (router_rows net) (of_all_pairs Differ (all_rows net) (all_rows_apart net sound)) (pairs_differ net sound) two_kinds)

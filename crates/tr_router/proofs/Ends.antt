-- On the rows of the routers of a sound network each packet comes to an end.
use Rattle.std.proofs.Common.{◌≡◌, List, [], ◌∷◌, refl, subst, arith}
use Rattle.std.specs.Bool.{IsTrue}
use Rattle.std.specs.List.{Contains}
use Rattle.std.proofs.lemmas.Bool.{false≢true}
use Rattle.std.proofs.lemmas.List.Elements.{Contains-append_left}
use Rattle.std.proofs.lemmas.Nat.{pow_pos}
use Rattle.nv_base.specs.Field.{field_width}
use Rattle.pkt_core.specs.Packet.{IsPacket, zero_packet}
use Rattle.act_core.specs.WellFormed.{is_well_formed}
use Rattle.act_core.specs.declared.action.Action.{Action}
use Rattle.nb_records.specs.declared.router.Router.{Router}
use Rattle.nb_model.specs.Names.{names}
use Rattle.nb_model.specs.Network.{Network}
use Rattle.nb_model.specs.Sound.{IsSound}
use Rattle.sb_model.specs.Make.{takes_each, goes_on, goes_out, drops, steps}
use Rattle.sb_model.specs.Stage.{is_same_kind, stage_table}
use Rattle.sb_model.specs.declared.row.Row.{Row}
use Rattle.sb_model.specs.declared.stage.DatapathKind.TheVariants as kinds
use Rattle.sb_model.specs.declared.stage.Stage.{Stage}
use Rattle.sb_model.specs.declared.stage.Stage.TheVariants.{LrInAdmission, LrInLearnNeighbor, LrInIpInput, LrInUnsnat, LrInDefrag, LrInDnat, LrInIpRouting, LrInArpResolve, LrInArpRequest, LrOutUndnat, LrOutSnat, LrOutDelivery}
use Rattle.act_core.specs.declared.step.Step.TheVariants as act
use Rattle.net_rows.specs.Unit.{row_of, rule, unit_of_datapath}
use Rattle.net_rows.proofs.Elements.{All-from_members}
use Rattle.lr_rows.specs.Input.{router_in_rules}
use Rattle.lr_rows.specs.Nat.{connection_rules, passing_rules, router_nat_rules}
use Rattle.lr_rows.specs.Routes.{router_route_rules}
use Rattle.lr_units.specs.Network.{network_rows}
use Rattle.lr_units.specs.Units.{router_nat_input}
use Rattle.sb_rows.proofs.Tables.{in_table-from}
use Rattle.tr_stage.specs.Machine.{kind_of}
use Rattle.tr_stage.specs.Runnable.{TakesEach}
use Rattle.tr_pipe.specs.Runnable.{are_run}
use Rattle.lr_laws.specs.Steps.{flows_at}
use Rattle.lr_laws.proofs.Tables.{rows-router_in, rows-router_nat, rows-router_route, table-gives}
use Rattle.tr_router.specs.Parts.{AreRunnable}
use Rattle.tr_router.proofs.Networks.{of_router, on_router}
use Rattle.tr_router.proofs.Routed.{zero_at}
use Rattle.tr_router.proofs.RuleRuns.{row_runs}

zero_is : IsPacket zero_packet
zero_is = record { count = refl; fits = λ field. rw (zero_at field) (pow_pos (field_width field)) }

module _ (net : Network) (router : Router) (there : Contains net.routers router) where
  abbrev Takes : Stage → Type 0
  Takes stage = TakesEach (flows_at net router.id) stage

  by_input : (stage : Stage) (actions : List Action) → Contains router_in_rules (rule stage 0 takes_each actions) → Takes stage
  by_input stage actions in_it =
      let says = rule stage 0 takes_each actions in
      (row_of (unit_of_datapath router.id) says, rows-router_in net router says there in_it, refl, refl, refl)

  by_routes : (stage : Stage) (actions : List Action) → Contains router_route_rules (rule stage 0 takes_each actions) → Takes stage
  by_routes stage actions in_it =
      let says = rule stage 0 takes_each actions in
      (row_of (unit_of_datapath router.id) says, rows-router_route net router says there in_it, refl, refl, refl)

  by_passing : (stage : Stage) → Contains passing_rules (rule stage 0 takes_each goes_on) → Takes stage
  unfolding router_nat_rules
  by_passing stage in_it =
      let says = rule stage 0 takes_each goes_on in
      let input = router_nat_input net router in
      (row_of (unit_of_datapath router.id) says, rows-router_nat net router says there (Contains-append_left passing_rules (connection_rules input.dnats) says in_it), refl, refl, refl)

  -- each stage of a router takes each packet
  pub router_takes_each : (stage : Stage) → IsTrue (is_same_kind (stage_table stage).kind kinds.Router) → Takes stage
  router_takes_each LrInAdmission _ = by_input LrInAdmission drops (1, omega arith, refl)
  router_takes_each LrInLearnNeighbor _ = by_input LrInLearnNeighbor goes_on (2, omega arith, refl)
  router_takes_each LrInIpInput _ = by_input LrInIpInput drops (7, omega arith, refl)
  router_takes_each LrInUnsnat _ = by_passing LrInUnsnat (0, omega arith, refl)
  router_takes_each LrInDefrag _ = by_passing LrInDefrag (1, omega arith, refl)
  router_takes_each LrInDnat _ = by_passing LrInDnat (2, omega arith, refl)
  router_takes_each LrInIpRouting _ = by_routes LrInIpRouting drops (0, omega arith, refl)
  router_takes_each LrInArpResolve _ = by_routes LrInArpResolve (steps (act.GetArp ∷ act.Next ∷ [])) (1, omega arith, refl)
  router_takes_each LrInArpRequest _ = by_routes LrInArpRequest goes_out (3, omega arith, refl)
  router_takes_each LrOutUndnat _ = by_passing LrOutUndnat (3, omega arith, refl)
  router_takes_each LrOutSnat _ = by_passing LrOutSnat (4, omega arith, refl)
  router_takes_each LrOutDelivery _ = by_routes LrOutDelivery drops (4, omega arith, refl)
  router_takes_each _ of_it = absurd (false≢true of_it)

  -- so does each of the datapath, which is a router in a sound network
  pub takes_each_there : IsSound net → (stage : Stage) → IsTrue (is_same_kind (stage_table stage).kind (kind_of (flows_at net router.id))) → Takes stage
  takes_each_there sound stage of_it = router_takes_each stage (subst (λ kind. IsTrue (is_same_kind (stage_table stage).kind kind)) (of_router net sound router there) of_it)

-- so each packet comes to an end, on each router
pub runnable : (net : Network) → IsSound net → AreRunnable net
runnable net sound router there = record {
  takes_each = takes_each_there net router there sound;
  formed = All-from_members (λ (row : Row). row.dp ≡ router.id → IsTrue (is_well_formed row.actions)) (network_rows net) (λ row at of_dp. (runs row at of_dp).0);
  run = All-from_members (λ (row : Row). row.dp ≡ router.id → IsTrue (are_run (names net) row.stage row.actions)) (network_rows net) (λ row at of_dp. (runs row at of_dp).1);
}
  where
    runs : (row : Row) → Contains (network_rows net) row → row.dp ≡ router.id → IsTrue (is_well_formed row.actions) × IsTrue (are_run (names net) row.stage row.actions)
    runs row at of_dp =
        row_runs net sound router.id row (table-gives net router zero_packet (on_router net sound router there zero_packet zero_is) row.stage row at (in_table-from router.id row.stage row of_dp refl))

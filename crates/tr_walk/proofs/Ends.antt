-- On the rows of a sound network each packet comes to an end, on its switches and on its routers.
use Rattle.std.proofs.Common.{◌≡◌, Bool, true, false, List, refl, subst, arith}
use Rattle.std.specs.Bool.{IsTrue}
use Rattle.std.specs.List.{Contains}
use Rattle.std.proofs.lemmas.Bool.{false≢true}
use Rattle.act_core.specs.WellFormed.{is_well_formed}
use Rattle.act_core.specs.declared.action.Action.{Action}
use Rattle.nb_records.specs.declared.router.Router.{Router}
use Rattle.nb_records.specs.declared.switch.Switch.{Switch}
use Rattle.nb_model.specs.Applies.{balances, tracks}
use Rattle.nb_model.specs.Names.{names}
use Rattle.nb_model.specs.Network.{Network}
use Rattle.nb_model.specs.Sound.{IsSound}
use Rattle.net_rows.specs.Acls.{passes, switch_acl_rules}
use Rattle.net_rows.specs.Build.{has_unknown}
use Rattle.net_rows.specs.Lookup.{switch_l2_rules}
use Rattle.net_rows.specs.Unit.{row_of, rule, unit_of_datapath}
use Rattle.net_rows.proofs.Elements.{All-from_members}
use Rattle.lr_units.specs.Network.{network_rows}
use Rattle.sb_model.specs.Make.{takes_each, goes_on, goes_out, drops}
use Rattle.sb_model.specs.Stage.{is_same_kind, stage_table}
use Rattle.sb_model.specs.declared.row.Row.{Row}
use Rattle.sb_model.specs.declared.stage.DatapathKind.TheVariants as kinds
use Rattle.sb_model.specs.declared.stage.Stage.{Stage}
use Rattle.sb_model.specs.declared.stage.Stage.TheVariants.{LsInCheckPortSec, LsInPreAcl, LsInPreStateful, LsInAclEval, LsInLb, LsInStateful, LsInArpRsp, LsInL2Lkup, LsInL2Unknown, LsOutPreAcl, LsOutPreStateful, LsOutAclEval, LsOutStateful, LsOutCheckPortSec}
use Rattle.tr_stage.specs.Machine.{Flows, kind_of}
use Rattle.tr_stage.specs.Runnable.{TakesEach}
use Rattle.tr_pipe.specs.Runnable.{IsRunnable, are_run}
use Rattle.ls_laws.specs.Steps.{flows_at}
use Rattle.ls_laws.proofs.RuleStages.{rules_where}
use Rattle.ls_laws.proofs.Tables.{row_of_switch}
use Rattle.ls_ct_laws.proofs.RuleRuns.{row_at_switch_runs}
use Rattle.tr_walk.specs.Runnable.{AreRunnable, EndWell, StagesTakeEach}
use Rattle.tr_router.proofs.Ends as routers
use Rattle.tr_walk.proofs.Datapaths.{is_switch}

module _ (net : Network) (switch : Switch) (there : Contains net.switches switch) where
  -- a rule for each packet, among those of a switch that tracks connections or not
  abbrev HasLast : Stage → List Action → Type 0
  HasLast stage actions = (tracking balances unknown : Bool) → Contains (rules_where tracking balances unknown) (rule stage 0 takes_each actions)

  by_rule : (stage : Stage) (actions : List Action) → Contains (rules_where (tracks net switch.id) (balances net switch.id) (has_unknown net switch.id)) (rule stage 0 takes_each actions) → TakesEach (flows_at net switch.id) stage
  by_rule stage actions in_rules =
      let says = rule stage 0 takes_each actions in
      (row_of (unit_of_datapath switch.id) says, row_of_switch net switch says there in_rules, refl, refl, refl)

  by_last : (stage : Stage) (actions : List Action) → HasLast stage actions → TakesEach (flows_at net switch.id) stage
  by_last stage actions last = by_rule stage actions (last (tracks net switch.id) (balances net switch.id) (has_unknown net switch.id))

  -- each stage of a switch takes each packet
  pub switch_takes_each : StagesTakeEach kinds.Switch (flows_at net switch.id)
  unfolding switch_acl_rules switch_l2_rules
  switch_takes_each LsInCheckPortSec _ = by_last LsInCheckPortSec goes_on (λ tracking balances unknown. (1, omega arith, refl))
  switch_takes_each LsInPreAcl _ = by_last LsInPreAcl goes_on (λ tracking balances unknown. (4, omega arith, refl))
  switch_takes_each LsInPreStateful _ = by_last LsInPreStateful goes_on (λ tracking balances unknown. (6, omega arith, refl))
  switch_takes_each LsInAclEval _ = by_rule LsInAclEval (passes (tracks net switch.id)) (8, omega arith, refl)
  switch_takes_each LsInLb _ = by_last LsInLb goes_on at
    where
      at : HasLast LsInLb goes_on
      at true balances unknown = (24, omega arith, refl)
      at false balances unknown = (12, omega arith, refl)
  switch_takes_each LsInStateful _ = by_last LsInStateful goes_on (λ tracking balances unknown. (10, omega arith, refl))
  switch_takes_each LsInArpRsp _ = by_last LsInArpRsp goes_on at
    where
      at : HasLast LsInArpRsp goes_on
      at true balances unknown = (25, omega arith, refl)
      at false balances unknown = (13, omega arith, refl)
  switch_takes_each LsInL2Lkup _ = by_last LsInL2Lkup goes_on at
    where
      at : HasLast LsInL2Lkup goes_on
      at true balances unknown = (27, omega arith, refl)
      at false balances unknown = (15, omega arith, refl)
  switch_takes_each LsInL2Unknown _ = by_last LsInL2Unknown drops at
    where
      at : HasLast LsInL2Unknown drops
      at true balances unknown = (28, omega arith, refl)
      at false balances unknown = (16, omega arith, refl)
  switch_takes_each LsOutPreAcl _ = by_last LsOutPreAcl goes_on (λ tracking balances unknown. (5, omega arith, refl))
  switch_takes_each LsOutPreStateful _ = by_last LsOutPreStateful goes_on (λ tracking balances unknown. (7, omega arith, refl))
  switch_takes_each LsOutAclEval _ = by_rule LsOutAclEval (passes (tracks net switch.id)) (9, omega arith, refl)
  switch_takes_each LsOutStateful _ = by_last LsOutStateful goes_on (λ tracking balances unknown. (11, omega arith, refl))
  switch_takes_each LsOutCheckPortSec _ = by_last LsOutCheckPortSec goes_out (λ tracking balances unknown. (3, omega arith, refl))
  switch_takes_each _ of_it = absurd (false≢true of_it)

  module _ (sound : IsSound net) where
    -- so does each of the datapath, which is a switch
    takes_each_there : StagesTakeEach (kind_of (flows_at net switch.id)) (flows_at net switch.id)
    takes_each_there stage of_it = switch_takes_each stage (subst (λ kind. IsTrue (is_same_kind (stage_table stage).kind kind)) (is_switch net sound switch there) of_it)

    of_switch : EndWell (flows_at net switch.id)
    of_switch = record {
      formed = All-from_members (λ (row : Row). row.dp ≡ switch.id → IsTrue (is_well_formed row.actions)) (network_rows net) (λ row at of_dp. (row_at_switch_runs net sound switch there row at of_dp).0);
      run = All-from_members (λ (row : Row). row.dp ≡ switch.id → IsTrue (are_run (names net) row.stage row.actions)) (network_rows net) (λ row at of_dp. (row_at_switch_runs net sound switch there row at of_dp).1);
    }

-- the machine may be run where it runs the actions of each row
pub switch_runs : (net : Network) → IsSound net → (switch : Switch) → Contains net.switches switch → EndWell (flows_at net switch.id) → IsRunnable (flows_at net switch.id)
switch_runs net sound switch there ends = record {
  takes_each = takes_each_there net switch there sound;
  formed = ends.formed;
  run = ends.run;
}

pub router_runs : (net : Network) → IsSound net → (router : Router) → Contains net.routers router → EndWell (flows_at net router.id) → IsRunnable (flows_at net router.id)
router_runs net sound router there ends = record {
  takes_each = routers.takes_each_there net router there sound;
  formed = ends.formed;
  run = ends.run;
}

-- it runs them all
pub runnable : (net : Network) → IsSound net → AreRunnable net
runnable net sound = record {
  switches = λ switch there. of_switch net switch there sound;
  routers = λ router there. of_router (routers.runnable net sound router there);
}
  where
    of_router : {flows : Flows} → IsRunnable flows → EndWell flows
    of_router runs = record { formed = runs.formed; run = runs.run }

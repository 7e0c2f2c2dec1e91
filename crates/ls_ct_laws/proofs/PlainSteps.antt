-- A stage that asks for no connection does to a packet with connections what it does to any, and leaves the state.
use Rattle.std.proofs.Common.{◌≡◌, Bool, true, false, Option, Some, None, sym, ap, refl, ◌∙◌, subst, inl, inr}
use Rattle.std.specs.Prelude.{◌&&◌}
use Rattle.std.specs.Bool.{IsTrue}
use Rattle.std.specs.List.{Contains}
use Rattle.nb_records.specs.declared.switch.Switch.{Switch}
use Rattle.nb_model.specs.Applies.{tracks}
use Rattle.nb_model.specs.Names.{names}
use Rattle.nb_model.specs.Network.{Network}
use Rattle.nb_model.specs.Sound.{IsSound}
use Rattle.net_rows.specs.Acls.{acl_on_rules}
use Rattle.net_rows.specs.Build.{acl_on_input, port_rules, switch_rules}
use Rattle.net_rows.specs.declared.rule.Rule.{Rule}
use Rattle.net_rows.proofs.Pairs.{every_member}
use Rattle.sb_model.specs.declared.row.Row.{Row}
use Rattle.sb_model.specs.declared.stage.Stage.{Stage}
use Rattle.sb_rows.proofs.Tables.{in_table-from}
use Rattle.tr_stage.specs.Machine as packets
use Rattle.tr_stage.specs.Machine.{Flows, acting}
use Rattle.tr_stage.proofs.Found.{IsFound, IsFound-from_select}
use Rattle.tr_stage.proofs.PacketRuns as steps
use Rattle.tr_pipe.specs.Machine.{acted, ended, step}
use Rattle.tr_pipe.specs.Tracking.{Flight}
use Rattle.tr_pipe.proofs.Plain.{plain_actions}
use Rattle.ls_laws.specs.Steps.{flows_at}
use Rattle.ls_laws.proofs.Tables.{IsRule, table-gives}
use Rattle.ls_ct_laws.proofs.RuleRuns.{IsRun, acl_rules_run, asks_for_connections, port_rules_run, switch_rules_run, vip_rule_runs}

-- where the row that acts asks for no connection
pub plain_at : (flows : Flows) (stage : Stage) (flight : Flight) → ((row : Row) → acting flows stage flight.packet ≡ Some row → IsTrue (steps.are_run flows.net stage row.actions))
    → step flows stage flight ≡ ended flight (packets.step flows stage flight.packet)
unfolding step packets.step
plain_at flows stage flight asks_none = by (acting flows stage flight.packet) refl
  where
    by : (found : Option Row) → acting flows stage flight.packet ≡ found → acted flows.net flows.dp stage flight found ≡ ended flight (packets.acted flows.net stage flight.packet found)
    by None none = refl
    by (Some row) is = plain_actions flows.net flows.dp stage row.actions flight (asks_none row is)

-- where a switch tracks no connections or the stage asks for none
module _ (net : Network) (sound : IsSound net) (switch : Switch) (among : Contains net.switches switch) (stage : Stage) (none : (tracks net switch.id && asks_for_connections stage) ≡ false) where
  said : (says : Rule) (row : Row) → IsTrue (steps.are_run (names net) says.stage says.actions) → says.stage ≡ stage → row.actions ≡ says.actions → IsTrue (steps.are_run (names net) stage row.actions)
  said says row run of_stage actions =
      subst (λ done. IsTrue (steps.are_run (names net) stage done)) (sym actions) (subst (λ s. IsTrue (steps.are_run (names net) s says.actions)) of_stage run)

  at_stage : (says : Rule) → says.stage ≡ stage → (tracks net switch.id && asks_for_connections says.stage) ≡ false
  at_stage says of_stage = ap (λ s. tracks net switch.id && asks_for_connections s) of_stage ∙ none

  of_row : (row : Row) → IsRule net switch.id stage row → IsTrue (steps.are_run (names net) stage row.actions)
  of_row row (inl of) =
      let is = every_member (IsRun (names net) (tracks net switch.id)) (switch_rules net switch.id) of.says (switch_rules_run net switch.id) of.in_rules in
      said of.says row (is.plain (at_stage of.says of.of_stage)) of.of_stage (ap (λ (r : Row). r.actions) of.is)
  of_row row (inr (inl of)) =
      let is = every_member (IsRun (names net) false) (port_rules net of.port) of.says (port_rules_run net sound of.port of.among) of.in_rules in
      said of.says row (is.plain refl) of.of_stage (ap (λ (r : Row). r.actions) of.is)
  of_row row (inr (inr (inl of))) =
      let is = every_member (IsRun (names net) (tracks net switch.id)) (acl_on_rules (acl_on_input net of.acl switch.id)) of.says (acl_rules_run net of.acl switch.id) of.in_rules in
      said of.says row (is.plain (at_stage of.says of.of_stage)) of.of_stage (ap (λ (r : Row). r.actions) of.is)
  of_row row (inr (inr (inr of))) =
      let is = vip_rule_runs net sound switch.id of.lb of.attached of.vip of.in_lb of.says of.in_rules in
      said of.says row (is.plain (at_stage of.says of.of_stage)) of.of_stage (ap (λ (r : Row). r.actions) of.is)

  pub plain_stage : (flight : Flight) → step (flows_at net switch.id) stage flight ≡ ended flight (packets.step (flows_at net switch.id) stage flight.packet)
  plain_stage flight = plain_at (flows_at net switch.id) stage flight by
    where
      by : (row : Row) → acting (flows_at net switch.id) stage flight.packet ≡ Some row → IsTrue (steps.are_run (names net) stage row.actions)
      by row is =
          let of : IsFound (flows_at net switch.id).rows switch.id stage row = IsFound-from_select (flows_at net switch.id) stage flight.packet row is in
          of_row row (table-gives net sound switch among stage row of.among (in_table-from switch.id stage row of.of_dp of.of_stage))

-- at each switch, a stage that asks for none
pub plain_stage_of : (net : Network) → IsSound net → (switch : Switch) → Contains net.switches switch → (stage : Stage) → asks_for_connections stage ≡ false → (flight : Flight)
    → step (flows_at net switch.id) stage flight ≡ ended flight (packets.step (flows_at net switch.id) stage flight.packet)
plain_stage_of net sound switch among stage asks_none = plain_stage net sound switch among stage (by (tracks net switch.id))
  where
    by : (b : Bool) → (b && asks_for_connections stage) ≡ false
    by true = asks_none
    by false = refl

-- and each stage of a switch that tracks none
pub plain_where_untracked : (net : Network) → IsSound net → (switch : Switch) → Contains net.switches switch → (stage : Stage) → tracks net switch.id ≡ false → (flight : Flight)
    → step (flows_at net switch.id) stage flight ≡ ended flight (packets.step (flows_at net switch.id) stage flight.packet)
plain_where_untracked net sound switch among stage untracked = plain_stage net sound switch among stage (ap (λ b. b && asks_for_connections stage) untracked)

-- What a packet that may be of a connection meets in a stage, where several rows of the table take it.
use Rattle.std.proofs.Common.{◌≡◌, ◌<◌, true, sym, ap, ◌∙◌, ◌⊎◌, inl, inr}
use Rattle.std.specs.Ordering.{is_gt}
use Rattle.std.specs.List.{Contains}
use Rattle.std.proofs.lemmas.Bool.{false≢true}
use Rattle.expr_eval.specs.MatchMeaning.{holds}
use Rattle.sb_model.specs.declared.row.Row.{Row}
use Rattle.sb_model.specs.declared.stage.Stage.{Stage}
use Rattle.sb_rows.specs.Row.{row_cmp}
use Rattle.sb_rows.proofs.Tables.{in_table-from, in_table-gives}
use Rattle.nb_records.specs.declared.switch.Switch.{Switch}
use Rattle.nb_model.specs.Names.{names}
use Rattle.nb_model.specs.Network.{Network}
use Rattle.lr_units.specs.Network.{network_rows}
use Rattle.lr_units.proofs.Whole.{network_in_order}
use Rattle.tr_pipe.specs.Machine.{run_actions, step}
use Rattle.tr_pipe.specs.Tracking.{Flight}
use Rattle.ls_laws.specs.Steps.{IsOn, flows_at}
use Rattle.ls_laws.proofs.Tables.{IsRule, table-gives}
use Rattle.ls_laws.proofs.Takers.{IsMet, met, lower_after}

-- The packet's step does what a row says that takes the packet, where each other row of the table that takes it says the same or is after it
-- in the order of rows.
pub meets : (net : Network) (switch : Switch) (flight : Flight) → IsOn net switch flight.packet → (stage : Stage) (r : Row) → Contains (network_rows net) r → r.dp ≡ switch.id → r.stage ≡ stage
    → holds (names net) flight.packet r.matching ≡ true
    → ((x : Row) → IsRule net switch.id stage x → holds (names net) flight.packet x.matching ≡ true → (x.actions ≡ r.actions) ⊎ (is_gt (row_cmp x r) ≡ true))
    → step (flows_at net switch.id) stage flight ≡ run_actions (names net) switch.id stage r.actions flight
unfolding step
meets net switch flight on stage r there of_dp of_stage takes others =
    rw at.is (ap (λ actions. run_actions (names net) switch.id stage actions flight) (by (others at.row (table-gives net on.sound switch on.among stage at.row at.among at.in_table) at.takes)))
  where
    at : IsMet (names net) switch.id stage flight.packet (network_rows net) r
    at = met (names net) switch.id stage flight.packet r (in_table-from switch.id stage r of_dp of_stage) takes (network_rows net) (network_in_order net) there

    by : (at.row.actions ≡ r.actions) ⊎ (is_gt (row_cmp at.row r) ≡ true) → at.row.actions ≡ r.actions
    by (inl same) = same
    by (inr after) = absurd (false≢true (sym at.not_after ∙ after))

-- So it does where each of them says the same or has a lower priority.
pub meets_above : (net : Network) (switch : Switch) (flight : Flight) → IsOn net switch flight.packet → (stage : Stage) (r : Row) → Contains (network_rows net) r → r.dp ≡ switch.id → r.stage ≡ stage
    → holds (names net) flight.packet r.matching ≡ true
    → ((x : Row) → IsRule net switch.id stage x → holds (names net) flight.packet x.matching ≡ true → (x.actions ≡ r.actions) ⊎ (x.priority < r.priority))
    → step (flows_at net switch.id) stage flight ≡ run_actions (names net) switch.id stage r.actions flight
unfolding step
meets_above net switch flight on stage r there of_dp of_stage takes others =
    rw at.is (ap (λ actions. run_actions (names net) switch.id stage actions flight) (by (others at.row (table-gives net on.sound switch on.among stage at.row at.among at.in_table) at.takes)))
  where
    at : IsMet (names net) switch.id stage flight.packet (network_rows net) r
    at = met (names net) switch.id stage flight.packet r (in_table-from switch.id stage r of_dp of_stage) takes (network_rows net) (network_in_order net) there

    by : (at.row.actions ≡ r.actions) ⊎ (at.row.priority < r.priority) → at.row.actions ≡ r.actions
    by (inl same) = same
    by (inr lower) =
        let of = in_table-gives switch.id stage at.row at.in_table in
        absurd (false≢true (sym at.not_after ∙ lower_after at.row r (of.0 ∙ sym of_dp) (of.1 ∙ sym of_stage) lower))

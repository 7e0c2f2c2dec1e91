-- The rows that the machine runs.
use Rattle.std.specs.Prelude.{◌≡◌, Bool, true, false, not, ◌&&◌, if◌then◌else◌, IsTrue, List, [], ◌∷◌, All}
use Rattle.expr_core.specs.Lookup.{Lookup}
use Rattle.act_core.specs.WellFormed.{is_well_formed}
use Rattle.act_core.specs.declared.action.Action.{Action}
use Rattle.act_core.specs.declared.action.Action.TheVariants as action
use Rattle.act_core.specs.declared.step.Step.{Step}
use Rattle.act_core.specs.declared.step.Step.TheVariants.{CtNext, CtLb, CtLbTo, CtCommit, CtSnat, CtSnatTo, CtDnat, CtDnatTo, PutArp, GetArp}
use Rattle.sb_model.specs.declared.stage.Stage.{Stage}
use Rattle.sb_model.specs.Stage.{stage_table, is_same_kind, is_last}
use Rattle.tr_stage.specs.Machine.{Flows, kind_of}
use Rattle.tr_stage.specs.Runnable as packets
use Rattle.tr_stage.specs.Runnable.{TakesEach}

-- what others may follow: a change of the packet alone, a commit, or what is learnt of neighbours or asked of them
abbrev pub is_change : Lookup → Step → Bool
is_change net (CtCommit blocked) = true
is_change net PutArp = true
is_change net GetArp = true
is_change net step = packets.is_change net step

-- what looks a packet up or changes its addresses, after which it goes on
abbrev pub is_tracking : Step → Bool
is_tracking CtNext = true
is_tracking CtLb = true
is_tracking (CtLbTo targets) = true
is_tracking CtSnat = true
is_tracking (CtSnatTo external) = true
is_tracking CtDnat = true
is_tracking (CtDnatTo addr) = true
is_tracking _ = false

-- what may be a row's last action: where there is a next stage one that asks for a connection, else one that asks for none
abbrev pub ends_row : Lookup → Stage → Step → Bool
ends_row net stage step = if is_tracking step then not (is_last stage) else packets.may_end stage step

abbrev pub may_be_last : Lookup → Stage → Action → Bool
may_be_last net stage (action.Step step) = ends_row net stage step
may_be_last net stage last = packets.may_be_last net stage last

-- changes, and then a last action
abbrev pub are_run : Lookup → Stage → List Action → Bool
are_run net stage [] = false
are_run net stage (last ∷ []) = may_be_last net stage last
are_run net stage (action.Step step ∷ others) = is_change net step && are_run net stage others
are_run net stage (_ ∷ others) = false

-- rows in which each packet comes to the end of a pipeline of the datapath: each stage takes each packet, and the actions are
-- well-formed changes before a last action
pub record IsRunnable (flows : Flows) : Type 0 where
  pub takes_each : (stage : Stage) → IsTrue (is_same_kind (stage_table stage).kind (kind_of flows)) → TakesEach flows stage
  pub formed : All (λ row. row.dp ≡ flows.dp → IsTrue (is_well_formed row.actions)) flows.rows
  pub run : All (λ row. row.dp ≡ flows.dp → IsTrue (are_run flows.net row.stage row.actions)) flows.rows

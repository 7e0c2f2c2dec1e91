-- Networks by whose rows each packet comes to an end.
use Rattle.std.specs.Prelude.{◌≡◌, IsTrue, All, Contains}
use Rattle.act_core.specs.WellFormed.{is_well_formed}
use Rattle.nb_records.specs.declared.router.Router.{Router}
use Rattle.nb_records.specs.declared.switch.Switch.{Switch}
use Rattle.nb_model.specs.Network.{Network}
use Rattle.sb_model.specs.Stage.{stage_table, is_same_kind}
use Rattle.sb_model.specs.declared.stage.DatapathKind.{DatapathKind}
use Rattle.sb_model.specs.declared.stage.Stage.{Stage}
use Rattle.tr_stage.specs.Machine.{Flows}
use Rattle.tr_stage.specs.Runnable.{TakesEach}
use Rattle.tr_pipe.specs.Runnable.{are_run}
use Rattle.ls_laws.specs.Steps.{flows_at}

-- each stage of this kind of datapath takes each packet
abbrev pub StagesTakeEach : DatapathKind → Flows → Type 0
StagesTakeEach kind flows = (stage : Stage) → IsTrue (is_same_kind (stage_table stage).kind kind) → TakesEach flows stage

-- the machine runs the actions of each row of the datapath, which are well-formed
pub record EndWell (flows : Flows) : Type 0 where
  pub formed : All (λ row. row.dp ≡ flows.dp → IsTrue (is_well_formed row.actions)) flows.rows
  pub run : All (λ row. row.dp ≡ flows.dp → IsTrue (are_run flows.net row.stage row.actions)) flows.rows

-- so does it on each switch and on each router
pub record AreRunnable (net : Network) : Type 0 where
  pub switches : (switch : Switch) → Contains net.switches switch → EndWell (flows_at net switch.id)
  pub routers : (router : Router) → Contains net.routers router → EndWell (flows_at net router.id)

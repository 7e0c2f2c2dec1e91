-- The stages of the pipelines, as data: a choice among the tables of ovn-northd(8), with numbers that are not from OVN.
use Rattle.std.specs.Prelude.{ℕ, ◌+◌, ◌==◌, Bool, true, false, not, ◌&&◌, List, [], ◌∷◌, Option, is_some, codes}
use Rattle.std.specs.List.{find}
use Rattle.sb_model.specs.declared.stage.DatapathKind.{DatapathKind}
use Rattle.sb_model.specs.declared.stage.DatapathKind.TheVariants.{Switch, Router}
use Rattle.sb_model.specs.declared.stage.Pipeline.{Pipeline}
use Rattle.sb_model.specs.declared.stage.Pipeline.TheVariants.{Ingress, Egress}
use Rattle.sb_model.specs.declared.stage.Stage.{Stage}
use Rattle.sb_model.specs.declared.stage.Stage.TheVariants.{LsInCheckPortSec, LsInPreAcl, LsInPreStateful, LsInAclEval, LsInLb, LsInStateful, LsInArpRsp, LsInL2Lkup, LsInL2Unknown, LsOutPreAcl, LsOutPreStateful, LsOutAclEval, LsOutStateful, LsOutCheckPortSec, LrInAdmission, LrInLearnNeighbor, LrInIpInput, LrInUnsnat, LrInDefrag, LrInDnat, LrInIpRouting, LrInArpResolve, LrInArpRequest, LrOutUndnat, LrOutSnat, LrOutDelivery}

-- what is known of a stage
pub record Known : Type 0 where
  pub place : ℕ  -- among all stages, from 0; the rows of a datapath are listed in this order
  pub kind : DatapathKind  -- the datapaths that have it
  pub pipeline : Pipeline  -- the pipeline that it is a table of
  pub table : ℕ  -- the number of the table within its pipeline, from 0
  pub name : List ℕ  -- in a listing of flows

-- a line of the table
abbrev pub known : ℕ → DatapathKind → Pipeline → ℕ → List ℕ → Known
known place kind pipeline table name = record { place = place; kind = kind; pipeline = pipeline; table = table; name = name }

-- the table of the stages
abbrev pub stage_table : Stage → Known
stage_table LsInCheckPortSec = known 0 Switch Ingress 0 (codes "ls_in_check_port_sec")
stage_table LsInPreAcl = known 1 Switch Ingress 1 (codes "ls_in_pre_acl")
stage_table LsInPreStateful = known 2 Switch Ingress 2 (codes "ls_in_pre_stateful")
stage_table LsInAclEval = known 3 Switch Ingress 3 (codes "ls_in_acl_eval")
stage_table LsInLb = known 4 Switch Ingress 4 (codes "ls_in_lb")
stage_table LsInStateful = known 5 Switch Ingress 5 (codes "ls_in_stateful")
stage_table LsInArpRsp = known 6 Switch Ingress 6 (codes "ls_in_arp_rsp")
stage_table LsInL2Lkup = known 7 Switch Ingress 7 (codes "ls_in_l2_lkup")
stage_table LsInL2Unknown = known 8 Switch Ingress 8 (codes "ls_in_l2_unknown")
stage_table LsOutPreAcl = known 9 Switch Egress 0 (codes "ls_out_pre_acl")
stage_table LsOutPreStateful = known 10 Switch Egress 1 (codes "ls_out_pre_stateful")
stage_table LsOutAclEval = known 11 Switch Egress 2 (codes "ls_out_acl_eval")
stage_table LsOutStateful = known 12 Switch Egress 3 (codes "ls_out_stateful")
stage_table LsOutCheckPortSec = known 13 Switch Egress 4 (codes "ls_out_check_port_sec")
stage_table LrInAdmission = known 14 Router Ingress 0 (codes "lr_in_admission")
stage_table LrInLearnNeighbor = known 15 Router Ingress 1 (codes "lr_in_learn_neighbor")
stage_table LrInIpInput = known 16 Router Ingress 2 (codes "lr_in_ip_input")
stage_table LrInUnsnat = known 17 Router Ingress 3 (codes "lr_in_unsnat")
stage_table LrInDefrag = known 18 Router Ingress 4 (codes "lr_in_defrag")
stage_table LrInDnat = known 19 Router Ingress 5 (codes "lr_in_dnat")
stage_table LrInIpRouting = known 20 Router Ingress 6 (codes "lr_in_ip_routing")
stage_table LrInArpResolve = known 21 Router Ingress 7 (codes "lr_in_arp_resolve")
stage_table LrInArpRequest = known 22 Router Ingress 8 (codes "lr_in_arp_request")
stage_table LrOutUndnat = known 23 Router Egress 0 (codes "lr_out_undnat")
stage_table LrOutSnat = known 24 Router Egress 1 (codes "lr_out_snat")
stage_table LrOutDelivery = known 25 Router Egress 2 (codes "lr_out_delivery")

-- all the stages, in the order of their places
unfoldable pub all_stages : List Stage
all_stages =
    LsInCheckPortSec ∷ LsInPreAcl ∷ LsInPreStateful ∷ LsInAclEval ∷ LsInLb ∷
    LsInStateful ∷ LsInArpRsp ∷ LsInL2Lkup ∷ LsInL2Unknown ∷
    LsOutPreAcl ∷ LsOutPreStateful ∷ LsOutAclEval ∷ LsOutStateful ∷ LsOutCheckPortSec ∷
    LrInAdmission ∷ LrInLearnNeighbor ∷ LrInIpInput ∷ LrInUnsnat ∷ LrInDefrag ∷
    LrInDnat ∷ LrInIpRouting ∷ LrInArpResolve ∷ LrInArpRequest ∷
    LrOutUndnat ∷ LrOutSnat ∷ LrOutDelivery ∷ []

-- the name in a listing of flows
unfoldable pub stage_name : Stage → List ℕ
stage_name stage = (stage_table stage).name

-- the number of the table within its pipeline
unfoldable pub table_number : Stage → ℕ
table_number stage = (stage_table stage).table

-- the pipeline that the stage is a table of
unfoldable pub pipeline_of : Stage → Pipeline
pipeline_of stage = (stage_table stage).pipeline

-- the place of the stage among all, which orders the rows of a datapath
unfoldable pub stage_place : Stage → ℕ
stage_place stage = (stage_table stage).place

-- whether two kinds of datapaths are one
abbrev pub is_same_kind : DatapathKind → DatapathKind → Bool
is_same_kind Switch Switch = true
is_same_kind Switch Router = false
is_same_kind Router Switch = false
is_same_kind Router Router = true

-- whether two pipelines are one
abbrev pub is_same_pipeline : Pipeline → Pipeline → Bool
is_same_pipeline Ingress Ingress = true
is_same_pipeline Ingress Egress = false
is_same_pipeline Egress Ingress = false
is_same_pipeline Egress Egress = true

-- whether it is the stage of this table of a pipeline
abbrev pub is_at : DatapathKind → Pipeline → ℕ → Stage → Bool
is_at kind pipeline table stage =
    is_same_kind (stage_table stage).kind kind && is_same_pipeline (stage_table stage).pipeline pipeline && ((stage_table stage).table == table)

-- the stage of this table of a pipeline, if there is one
unfoldable pub stage_at : DatapathKind → Pipeline → ℕ → Option Stage
stage_at kind pipeline table = find (is_at kind pipeline table) all_stages

-- the stage that a packet begins in
unfoldable pub first_stage : DatapathKind → Pipeline → Option Stage
first_stage kind pipeline = stage_at kind pipeline 0

-- the stage of the next table of the pipeline, if the stage is not the last
unfoldable pub next_stage : Stage → Option Stage
next_stage stage = stage_at (stage_table stage).kind (stage_table stage).pipeline ((stage_table stage).table + 1)

-- the last stage of egress of a datapath of the kind
abbrev pub last_stage : DatapathKind → Stage
last_stage Switch = LsOutCheckPortSec
last_stage Router = LrOutDelivery

-- the number of its table, by which packets go out that are made
abbrev pub last_table : DatapathKind → ℕ
last_table kind = (stage_table (last_stage kind)).table

-- whether the stage is the last of its pipeline
abbrev pub is_last : Stage → Bool
is_last stage = not (is_some (next_stage stage))

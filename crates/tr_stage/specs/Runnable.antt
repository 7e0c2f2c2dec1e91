-- The actions that a row may have, as far as it asks for no connection.
use Rattle.std.specs.Prelude.{◌≡◌, Bool, true, false, not, ◌&&◌, List, [], ◌∷◌, is_some, Contains}
use Rattle.sb_model.specs.Make.{takes_each}
use Rattle.expr_core.specs.Lookup.{Lookup}
use Rattle.act_core.specs.declared.action.Action.{Action}
use Rattle.act_core.specs.declared.action.Action.TheVariants as action
use Rattle.act_core.specs.declared.step.Step.{Step}
use Rattle.act_core.specs.declared.step.Step.TheVariants.{Next, Jump, Output, Drop, Set, Copy, SetOutport, Exchange, DecTtl}
use Rattle.sb_model.specs.declared.stage.Stage.{Stage}
use Rattle.sb_model.specs.declared.row.Row.{Row}
use Rattle.sb_model.specs.Stage.{is_last, is_same_pipeline, pipeline_of}
use Rattle.sb_model.specs.declared.stage.Pipeline.TheVariants.{Ingress}
use Rattle.tr_stage.specs.Machine.{Flows, cause_at, number_of}

-- an assignment or an exchange, of which a name is known, or one hop less to live
abbrev pub is_change : Lookup → Step → Bool
is_change net (Set field bits constant) = true
is_change net (Copy field bits from) = true
is_change net (SetOutport name) = is_some (number_of net name)
is_change net (Exchange one other) = true
is_change net DecTtl = true
is_change net _ = false

-- a stage of ingress
abbrev pub is_ingress : Stage → Bool
is_ingress stage = is_same_pipeline (pipeline_of stage) Ingress

-- what may be a row's last action without a block: `next;` where there is a next stage, `output;`, `drop;` where there is a cause for it, and
-- from ingress a table of egress
abbrev pub may_end : Stage → Step → Bool
may_end stage Next = not (is_last stage)
may_end stage Output = true
may_end stage Drop = is_some (cause_at stage)
may_end stage (Jump true table) = is_ingress stage
may_end stage _ = false

-- what may be a block's last action: the packet goes out of a table of egress, by `output;` from ingress alone
abbrev pub may_end_block : Stage → Step → Bool
may_end_block stage (Jump true table) = true
may_end_block stage Output = is_ingress stage
may_end_block stage _ = false

-- a block: assignments and exchanges, and then a last action
abbrev pub is_block : Lookup → Stage → List Step → Bool
is_block net stage [] = false
is_block net stage (last ∷ []) = may_end_block stage last
is_block net stage (step ∷ others) = is_change net step && is_block net stage others

-- a block in a stage where there is a cause to drop what may not be answered
abbrev pub may_answer : Lookup → Stage → List Step → Bool
may_answer net stage block = is_some (cause_at stage) && is_block net stage block

-- what may be a row's last action: one without a block, or a block whose packet answers another or asks in its place
abbrev pub may_be_last : Lookup → Stage → Action → Bool
may_be_last net stage (action.Step step) = may_end stage step
may_be_last net stage (action.TcpReset block) = may_answer net stage block
may_be_last net stage (action.Icmp4 block) = may_answer net stage block
may_be_last net stage (action.Reject block) = may_answer net stage block
may_be_last net stage (action.Arp block) = is_block net stage block

-- a row of the datapath's table of this stage takes each packet
abbrev pub TakesEach : Flows → Stage → Type 0
TakesEach flows stage = (row : Row) × Contains flows.rows row × (row.dp ≡ flows.dp) × (row.stage ≡ stage) × (row.matching ≡ takes_each)

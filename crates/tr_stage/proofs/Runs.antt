-- On rows that the machine runs each packet comes to an outcome.
use Rattle.std.proofs.Common.{◌≡◌, ℕ, true, List, [], ◌∷◌, Option, Some, None, refl, sym, subst}
use Rattle.std.specs.Prelude.{not, is_some, option_map}
use Rattle.std.specs.Bool.{IsTrue}
use Rattle.std.proofs.lemmas.Bool.{false≢true, and_parts}
use Rattle.std.proofs.lemmas.List.Elements.{All-contains}
use Rattle.pkt_core.specs.Packet.{Values}
use Rattle.expr_core.specs.Lookup.{Lookup}
use Rattle.act_core.specs.WellFormed.{is_well_formed}
use Rattle.act_core.specs.declared.action.Action.{Action}
use Rattle.act_core.specs.declared.action.Action.TheVariants as action
use Rattle.act_core.specs.declared.step.Step.{Step}
use Rattle.act_core.specs.declared.step.Step.TheVariants.{Next, Jump, Output, Drop, Set, Copy, SetOutport, Exchange, DecTtl}
use Rattle.sb_model.specs.declared.stage.DatapathKind.{DatapathKind}
use Rattle.sb_model.specs.declared.stage.DatapathKind.TheVariants.{Switch, Router}
use Rattle.sb_model.specs.declared.stage.Pipeline.{Pipeline}
use Rattle.sb_model.specs.declared.stage.Pipeline.TheVariants.{Ingress, Egress}
use Rattle.sb_model.specs.declared.stage.Stage.{Stage}
use Rattle.sb_model.specs.declared.row.Row.{Row}
use Rattle.sb_model.specs.Stage.{stage_table, all_stages, stage_at, next_stage, is_same_kind, is_same_pipeline, is_at, pipeline_of}
use Rattle.net_meaning.specs.declared.answer.Answer.{Answer}
use Rattle.net_meaning.specs.declared.answer.Answer.TheVariants.{Reject, Arp}
use Rattle.net_meaning.specs.declared.cause.Cause.{Cause}
use Rattle.tr_stage.specs.declared.outcome.Outcome.TheVariants as outcomes
use Rattle.tr_stage.specs.Machine.{Flows, StageEnd, Effect, cause_at, number_of, on_to, bound_for, effect, after, after_change, left_for, made_for, end_block, run_block, reset_for, error_for, answer_for, arp_for, answered, run_actions, acting, step}
use Rattle.tr_stage.specs.Machine.StageEnd.{On, Ends}
use Rattle.tr_stage.specs.Machine.Effect.{Changed}
use Rattle.tr_stage.specs.Runnable.{is_change, may_end, may_end_block, is_block, may_answer}
use Rattle.tr_stage.proofs.PacketRuns.{are_run, IsRunnable}
use Rattle.tr_stage.proofs.Found.{find_is, IsFound, IsFound-from_select}

-- a step that leads to the next stage, or to an outcome
abbrev pub LeadsOn : Stage → StageEnd → Type 0
LeadsOn stage (On later packet) = next_stage stage ≡ Some later
LeadsOn stage (Ends (Some outcome)) = Unit {0}
LeadsOn stage (Ends None) = ⊥

module _ (net : Lookup) (stage : Stage) where
  -- where there is a cause to drop, a drop comes to an outcome
  drop_leads : (cause : Option Cause) → is_some cause ≡ true → LeadsOn stage (Ends (option_map outcomes.Drop cause))
  drop_leads (Some cause) may = tt
  drop_leads None may = absurd (false≢true may)

  -- so does a last action without a block
  last_leads : (step : Step) (packet : Values) → may_end stage step ≡ true → LeadsOn stage (after (effect net stage step packet) (run_actions net stage []))
  last_leads Next packet may = by (next_stage stage) refl may
    where
      by : (next : Option Stage) → next_stage stage ≡ next → not (not (is_some next)) ≡ true → LeadsOn stage (on_to next packet)
      by (Some later) is may = is
      by None is may = absurd (false≢true may)
  last_leads Output packet may = tt
  last_leads Drop packet may = drop_leads (cause_at stage) may
  last_leads (Jump true table) packet may = by (pipeline_of stage) may
    where
      by : (pipeline : Pipeline) → is_same_pipeline pipeline Ingress ≡ true → LeadsOn stage (left_for pipeline table packet)
      by Ingress is = tt
      by Egress is = absurd (false≢true is)
  last_leads _ packet may = absurd (false≢true may)

  -- an assignment or an exchange changes the packet
  pub changes : (step : Step) (packet : Values) → is_change net step ≡ true → (changed : Values) × (effect net stage step packet ≡ Changed changed)
  changes (Set field bits constant) packet is = (_, refl)
  changes (Copy field bits from) packet is = (_, refl)
  changes (SetOutport name) packet is = by (number_of net name) is
    where
      by : (number : Option ℕ) → is_some number ≡ true → (changed : Values) × (bound_for number packet ≡ Changed changed)
      by (Some number) is = (_, refl)
      by None is = absurd (false≢true is)
  changes (Exchange one other) packet is = (_, refl)
  changes DecTtl packet is = (_, refl)
  changes _ packet is = absurd (false≢true is)

  -- a block's last action comes to an outcome
  end_leads : (answer : Answer) (step : Step) (packet : Values) → may_end_block stage step ≡ true → LeadsOn stage (end_block stage answer step packet)
  end_leads answer (Jump true table) packet may = tt
  end_leads answer Output packet may = by (pipeline_of stage) may
    where
      by : (pipeline : Pipeline) → is_same_pipeline pipeline Ingress ≡ true → LeadsOn stage (made_for pipeline answer packet)
      by Ingress is = tt
      by Egress is = absurd (false≢true is)
  end_leads answer _ packet may = absurd (false≢true may)

  -- so does a block
  block_leads : (answer : Answer) (block : List Step) (packet : Values) → is_block net stage block ≡ true → LeadsOn stage (run_block net stage answer block packet)
  block_leads answer [] packet is = absurd (false≢true is)
  block_leads answer (last ∷ []) packet is = end_leads answer last packet is
  block_leads answer (step ∷ other ∷ others) packet is =
      let parts = and_parts (is_change net step) (is_block net stage (other ∷ others)) is in
      let change = changes step packet parts.0 in
      subst (λ (e : Effect). LeadsOn stage (after_change e (run_block net stage answer (other ∷ others)))) (sym change.1) (block_leads answer (other ∷ others) change.0 parts.1)

  -- a packet is answered, or dropped
  answered_leads : (block : List Step) (reply : Option Values) → may_answer net stage block ≡ true → LeadsOn stage (answered net stage block reply)
  answered_leads block (Some packet) may = block_leads Reject block packet (and_parts (is_some (cause_at stage)) (is_block net stage block) may).1
  answered_leads block None may = drop_leads (cause_at stage) (and_parts (is_some (cause_at stage)) (is_block net stage block) may).0

  -- so the actions that the machine runs lead on
  pub actions_lead : (actions : List Action) (packet : Values) → are_run net stage actions ≡ true → LeadsOn stage (run_actions net stage actions packet)
  actions_lead [] packet run = absurd (false≢true run)
  actions_lead (action.Step step ∷ []) packet run = last_leads step packet run
  actions_lead (action.TcpReset block ∷ []) packet run = answered_leads block (reset_for packet) run
  actions_lead (action.Icmp4 block ∷ []) packet run = answered_leads block (error_for packet) run
  actions_lead (action.Reject block ∷ []) packet run = answered_leads block (answer_for packet) run
  actions_lead (action.Arp block ∷ []) packet run = block_leads Arp block (arp_for packet) run
  actions_lead (action.Step step ∷ other ∷ others) packet run =
      let parts = and_parts (is_change net step) (are_run net stage (other ∷ others)) run in
      let change = changes step packet parts.0 in
      subst (λ (e : Effect). LeadsOn stage (after e (run_actions net stage (other ∷ others)))) (sym change.1) (actions_lead (other ∷ others) change.0 parts.1)
  actions_lead (action.TcpReset block ∷ other ∷ others) packet run = absurd (false≢true run)
  actions_lead (action.Icmp4 block ∷ other ∷ others) packet run = absurd (false≢true run)
  actions_lead (action.Reject block ∷ other ∷ others) packet run = absurd (false≢true run)
  actions_lead (action.Arp block ∷ other ∷ others) packet run = absurd (false≢true run)

pub same_kinds : (a b c : DatapathKind) → is_same_kind a b ≡ true → is_same_kind a c ≡ true → is_same_kind b c ≡ true
same_kinds Switch Switch Switch ab ac = refl
same_kinds Switch Switch Router ab ac = absurd (false≢true ac)
same_kinds Switch Router c ab ac = absurd (false≢true ab)
same_kinds Router Switch c ab ac = absurd (false≢true ab)
same_kinds Router Router Switch ab ac = absurd (false≢true ac)
same_kinds Router Router Router ab ac = refl

-- the stage at a table is of the kind that was asked for
pub at_is_of_kind : (kind : DatapathKind) (pipeline : Pipeline) (table : ℕ) (stage : Stage) → stage_at kind pipeline table ≡ Some stage → is_same_kind (stage_table stage).kind kind ≡ true
unfolding stage_at
at_is_of_kind kind pipeline table stage found = (and_parts _ _ (and_parts _ _ (find_is (is_at kind pipeline table) all_stages stage found).1).0).0

module _ (flows : Flows) (sound : IsRunnable flows) where
  -- what is asked of each row holds of the one that acts
  module _ (stage : Stage) (packet : Values) (row : Row) (is : acting flows stage packet ≡ Some row) where
    of_row : IsFound flows.rows flows.dp stage row
    of_row = IsFound-from_select flows stage packet row is

    pub acting_formed : IsTrue (is_well_formed row.actions)
    acting_formed = All-contains (λ (r : Row). r.dp ≡ flows.dp → IsTrue (is_well_formed r.actions)) flows.rows row sound.formed of_row.among of_row.of_dp

    pub acting_run : IsTrue (are_run flows.net stage row.actions)
    acting_run =
        let run = All-contains (λ (r : Row). r.dp ≡ flows.dp → IsTrue (are_run flows.net r.stage r.actions)) flows.rows row sound.run of_row.among of_row.of_dp in
        subst (λ s. IsTrue (are_run flows.net s row.actions)) of_row.of_stage run

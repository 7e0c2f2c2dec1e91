-- What is left of a row's actions after one of them, and what the last one may be.
use Rattle.std.proofs.Common.{◌≡◌, Bool, true, false, refl, List, [], ◌∷◌, length, cond, sym, ap, subst, ◌∙◌}
use Rattle.std.specs.Prelude.{◌==◌, not}
use Rattle.std.specs.Bool.{IsTrue}
use Rattle.std.proofs.lemmas.Bool.{false≢true, and_parts}
use Rattle.nv_base.specs.declared.ip4.Ip4.{Ip4}
use Rattle.nv_base.specs.declared.object.ObjId.{ObjId}
use Rattle.expr_core.specs.Lookup.{Lookup}
use Rattle.act_core.specs.WellFormed.{is_action, is_well_formed}
use Rattle.act_core.specs.declared.action.Action.{Action}
use Rattle.act_core.specs.declared.action.Action.TheVariants as action
use Rattle.act_core.specs.declared.step.Step.{Step}
use Rattle.act_core.specs.declared.step.Target.{Target}
use Rattle.act_core.specs.declared.step.Step.TheVariants.{CtNext, CtLb, CtLbTo, CtCommit, CtSnat, CtSnatTo, CtDnat, CtDnatTo, PutArp, GetArp}
use Rattle.sb_model.specs.declared.stage.Stage.{Stage}
use Rattle.sb_model.specs.Stage.{is_last}
use Rattle.tr_stage.specs.Runnable as runs
use Rattle.tr_pipe.specs.Machine.{StageEnd, Effect, after, effect, run_actions}
use Rattle.tr_pipe.specs.Machine.Effect.{Changed, Done}
use Rattle.tr_pipe.specs.Runnable.{is_change, is_tracking, may_be_last, are_run}
use Rattle.tr_pipe.specs.Tracking.{Flight}

-- an action that others follow is a change
pub step_changes : (net : Lookup) (stage : Stage) (step : Step) (others : List Action) → (length others == 0) ≡ false → IsTrue (are_run net stage (action.Step step ∷ others)) → IsTrue (is_change net step)
step_changes net stage step [] some run = absurd (false≢true (sym some))
step_changes net stage step (other ∷ others) some run = (and_parts (is_change net step) (are_run net stage (other ∷ others)) run).0

module _ (net : Lookup) (dp : ObjId) (stage : Stage) (whole : StageEnd) where
  -- the actions that are left do what all of them do, and the machine runs them
  abbrev pub IsLeft : List Action → Flight → Type 0
  IsLeft rest flight = (whole ≡ run_actions net dp stage rest flight) × IsTrue (is_well_formed rest) × IsTrue (are_run net stage rest)

  -- after a change the others are left
  pub goes_on : (step : Step) (others : List Action) (flight changed : Flight) → (length others == 0) ≡ false → effect net dp stage step flight ≡ Changed changed
      → IsLeft (action.Step step ∷ others) flight → IsLeft others changed
  goes_on step [] flight changed some does left = absurd (false≢true (sym some))
  goes_on step (other ∷ others) flight changed some does left =
      let formed = and_parts (is_action (action.Step step)) (is_well_formed (other ∷ others)) left.1 in
      let run = and_parts (is_change net step) (are_run net stage (other ∷ others)) left.2 in
      (left.0 ∙ ap (λ (e : Effect). after e (run_actions net dp stage (other ∷ others))) does, formed.1, run.1)

  -- an action that ends the step ends all
  pub ends_here : (step : Step) (others : List Action) (flight : Flight) (end : StageEnd) → effect net dp stage step flight ≡ Done end
      → IsLeft (action.Step step ∷ others) flight → whole ≡ end
  ends_here step others flight end does left = left.0 ∙ ap (λ (e : Effect). after e (run_actions net dp stage others)) does

-- a change that is neither a commit nor of neighbours changes any packet
pub other_change : (net : Lookup) (step : Step) → ((blocked : Bool) → step ≡ CtCommit blocked → ⊥) → (step ≡ PutArp → ⊥) → (step ≡ GetArp → ⊥) → is_change net step ≡ true → runs.is_change net step ≡ true
other_change net (CtCommit blocked) no_commit no_put no_get is = absurd (no_commit blocked refl)
other_change net PutArp no_commit no_put no_get is = absurd (no_put refl)
other_change net GetArp no_commit no_put no_get is = absurd (no_get refl)
other_change net _ no_commit no_put no_get is = is

-- a last action that asks for a connection has a next stage
pub asks_next : (net : Lookup) (stage : Stage) (last : Action) (step : Step) → last ≡ action.Step step → is_tracking step ≡ true → may_be_last net stage last ≡ true → not (is_last stage) ≡ true
asks_next net stage last step is tracking may = subst (λ b. cond b (not (is_last stage)) (runs.may_end stage step) ≡ true) tracking (subst (λ l. may_be_last net stage l ≡ true) is may)

-- one that is none of those asks for none
pub no_tracking : (step : Step) → (step ≡ CtNext → ⊥) → (step ≡ CtLb → ⊥) → ((targets : List Target) → step ≡ CtLbTo targets → ⊥) → (step ≡ CtSnat → ⊥) → ((external : Ip4) → step ≡ CtSnatTo external → ⊥)
    → (step ≡ CtDnat → ⊥) → ((addr : Ip4) → step ≡ CtDnatTo addr → ⊥) → is_tracking step ≡ false
no_tracking CtNext no_next no_lb no_lb_to no_snat no_snat_to no_dnat no_dnat_to = absurd (no_next refl)
no_tracking CtLb no_next no_lb no_lb_to no_snat no_snat_to no_dnat no_dnat_to = absurd (no_lb refl)
no_tracking (CtLbTo targets) no_next no_lb no_lb_to no_snat no_snat_to no_dnat no_dnat_to = absurd (no_lb_to targets refl)
no_tracking CtSnat no_next no_lb no_lb_to no_snat no_snat_to no_dnat no_dnat_to = absurd (no_snat refl)
no_tracking (CtSnatTo external) no_next no_lb no_lb_to no_snat no_snat_to no_dnat no_dnat_to = absurd (no_snat_to external refl)
no_tracking CtDnat no_next no_lb no_lb_to no_snat no_snat_to no_dnat no_dnat_to = absurd (no_dnat refl)
no_tracking (CtDnatTo addr) no_next no_lb no_lb_to no_snat no_snat_to no_dnat no_dnat_to = absurd (no_dnat_to addr refl)
no_tracking _ no_next no_lb no_lb_to no_snat no_snat_to no_dnat no_dnat_to = refl

abbrev pub tracks : Action → Bool
tracks (action.Step step) = is_tracking step
tracks _ = false

pub block_only : (last : Action) → ((step : Step) → last ≡ action.Step step → ⊥) → tracks last ≡ false
block_only (action.Step step) none = absurd (none step refl)
block_only (action.TcpReset block) none = refl
block_only (action.Icmp4 block) none = refl
block_only (action.Reject block) none = refl
block_only (action.Arp block) none = refl

-- so it may be the last on packets
pub plain_last : (net : Lookup) (stage : Stage) (last : Action) → tracks last ≡ false → may_be_last net stage last ≡ true → runs.may_be_last net stage last ≡ true
plain_last net stage (action.Step step) none may = subst (λ b. cond b (not (is_last stage)) (runs.may_end stage step) ≡ true) none may
plain_last net stage (action.TcpReset block) none may = may
plain_last net stage (action.Icmp4 block) none may = may
plain_last net stage (action.Reject block) none may = may
plain_last net stage (action.Arp block) none may = may

-- Actions that read only fields that are there: those that read none, and what stays of a packet.
use Rattle.std.proofs.Common.{◌≡◌, ℕ, Bool, true, false, List, [], ◌∷◌, ap, refl, ◌∙◌}
use Rattle.std.specs.Prelude.{◌==◌, ◌&&◌}
use Rattle.std.specs.Bool.{IsTrue}
use Rattle.std.specs.List.{AllByRecursion, list_all}
use Rattle.std.proofs.lemmas.Bool.{false≢true, and_from, and_parts}
use Rattle.nv_base.specs.declared.field.Field.{Field}
use Rattle.nv_base.specs.declared.field.Field.TheVariants.{EthType}
use Rattle.pkt_core.specs.Packet.{Values, value}
use Rattle.pkt_core.specs.Prerequisite.{is_there}
use Rattle.expr_core.specs.Formula.{Formula}
use Rattle.expr_core.specs.Lookup.{Lookup}
use Rattle.expr_core.specs.declared.typed.TypedAtom.{TypedAtom}
use Rattle.expr_eval.specs.MatchMeaning.{holds}
use Rattle.act_core.specs.declared.action.Action.{Action}
use Rattle.act_core.specs.declared.action.Action.TheVariants as action
use Rattle.nb_model.specs.Applies.{is_empty}
use Rattle.net_rows.specs.Unit.{rule}
use Rattle.net_rows.specs.declared.rule.Rule.{Rule}
use Rattle.sb_model.specs.declared.stage.Stage.{Stage}
use Rattle.tr_stage.specs.Machine.{Effect}
use Rattle.tr_stage.specs.Machine.Effect.{Changed, Done}
use Rattle.tr_walk.specs.Reads.{actions_find, left_by, once_changed, reads}

-- a packet is of the protocol that it was of before another field changed
pub still_of : (before packet : Values) (protocol : ℕ) → value packet EthType ≡ value before EthType → (value before EthType == protocol) ≡ true → (value packet EthType == protocol) ≡ true
still_of before packet protocol same is = ap (λ n. n == protocol) same ∙ is

-- of each packet that the rule takes, its actions read only fields that are there
pub record Finds (known : Lookup) (says : Rule) : Type 0 where
  pub there : (packet : Values) → IsTrue (holds known packet says.matching) → IsTrue (actions_find known says.stage says.actions packet)

abbrev pub AllFind : Lookup → List Rule → Type 0
AllFind known rules = AllByRecursion (Finds known) rules

module _ (known : Lookup) where
  -- those of any packet
  pub any : (stage : Stage) (priority : ℕ) (matching : Formula TypedAtom) (actions : List Action) → ((packet : Values) → IsTrue (actions_find known stage actions packet)) → Finds known (rule stage priority matching actions)
  any stage priority matching actions find = record { there = λ packet takes. find packet }

  -- actions that read no field
  abbrev pub read_none : List Action → Bool
  read_none [] = true
  read_none (action.Step step ∷ others) = is_empty (reads step) && read_none others
  read_none (_ ∷ others) = false

  finds_none : (stage : Stage) (actions : List Action) (packet : Values) → read_none actions ≡ true → actions_find known stage actions packet ≡ true
  finds_none stage [] packet none = refl
  finds_none stage (action.Step step ∷ others) packet none =
      let parts = and_parts (is_empty (reads step)) (read_none others) none in
      and_from _ _ (of_step (reads step) parts.0) (of_others (left_by known stage step packet) (λ later. finds_none stage others later parts.1))
    where
      of_step : (fields : List Field) → is_empty fields ≡ true → list_all (is_there packet) fields ≡ true
      of_step [] empty = refl
      of_step (field ∷ fields) empty = absurd (false≢true empty)

      of_others : (left : Effect) → ((later : Values) → actions_find known stage others later ≡ true) → once_changed left (actions_find known stage others) ≡ true
      of_others (Changed later) find = find later
      of_others (Done end) find = refl
  finds_none stage (action.TcpReset block ∷ others) packet none = absurd (false≢true none)
  finds_none stage (action.Icmp4 block ∷ others) packet none = absurd (false≢true none)
  finds_none stage (action.Reject block ∷ others) packet none = absurd (false≢true none)
  finds_none stage (action.Arp block ∷ others) packet none = absurd (false≢true none)

  pub all_find : (rules : List Rule) → IsTrue (list_all (λ (says : Rule). read_none says.actions) rules) → AllFind known rules
  all_find [] none = tt
  all_find (says ∷ rules) none =
      let parts = and_parts (read_none says.actions) (list_all (λ (r : Rule). read_none r.actions) rules) none in
      (record { there = λ packet takes. finds_none says.stage says.actions packet parts.0 }, all_find rules parts.1)

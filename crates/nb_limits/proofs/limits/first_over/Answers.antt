use Rattle.std.proofs.Common.{sym, ap, ◌∙◌, get_or, Some}
use Rattle.nb_records.specs.declared.refusal.Kind.TheVariants as kind
use Rattle.nb_records.specs.declared.refusal.Refusal.TheVariants.{Limit}
use Rattle.nb_limits.proofs.Firsts.{none_first, is_first, later_first}
use Rattle.nb_limits.proofs.limits.first_over.Goals as goal

pub loop-kind-preserved : goal.loop-kind-preserved
loop-kind-preserved c = record {
  first = c.loop-kind.invariant.first ∙ later_first c.args.records.now c.args.kinds.now c.loop-kind.kind-index kind.Switch c.loop-kind-test.true (sym c.in_ok-is_over.ensures.over ∙ c.if-branch.false);
  known = c.in_ok-is_over.ensures.known;
}

pub returns-then-branch-clause-first : goal.returns-then-branch-clause-first
returns-then-branch-clause-first c =
    ap (λ n. Some (Limit (get_or c.args.kinds.now c.loop-kind.kind-index kind.Switch) n)) c.bound.ensures
    ∙ sym (c.loop-kind.invariant.first ∙ is_first c.args.records.now c.args.kinds.now c.loop-kind.kind-index kind.Switch c.loop-kind-test.true (sym c.in_ok-is_over.ensures.over ∙ c.if-branch.true))

pub returns-clause-first : goal.returns-clause-first
returns-clause-first c = sym (c.loop-kind.invariant.first ∙ none_first c.args.records.now c.args.kinds.now c.loop-kind.kind-index c.loop-kind-test.false)

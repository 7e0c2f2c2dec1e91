use Rattle.std.proofs.Common.{sym, ap, ◌∙◌}
use Rattle.nb_limits.specs.inner.Within.{up_to}
use Rattle.nb_limits.proofs.AclSums.{by_owner}
use Rattle.nb_limits.proofs.Sums.{first_over, second_over, both_told}
use Rattle.nb_limits.proofs.acl_limits.acl_weight.Goals as goal

pub returns-in_default : goal.returns-in_default
returns-in_default c = sym (first_over _ _ _ (sym c.in_default.is ∙ c.in_ok-first.ensures)) ∙ ap (up_to c.args.bound) (by_owner c.args.records.now c.requires.limitless c.args.measure)

pub returns-in_default-second : goal.returns-in_default-second
returns-in_default-second c = sym (second_over _ _ _ (sym c.in_default-second.is ∙ c.in_ok-second.ensures)) ∙ ap (up_to c.args.bound) (by_owner c.args.records.now c.requires.limitless c.args.measure)

pub returns : goal.returns
returns c =
    c.add.ensures ∙ both_told _ _ _ _ _ (sym c.in-Some.is ∙ c.in_ok-first.ensures) (sym c.in-Some-second.is ∙ c.in_ok-second.ensures)
    ∙ ap (up_to c.args.bound) (by_owner c.args.records.now c.requires.limitless c.args.measure)

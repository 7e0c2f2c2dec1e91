use Rattle.std.proofs.Common.{ap, ◌∙◌}
use Rattle.std.proofs.lemmas.Result.{IfOk-weaker}
use Rattle.nb_limits.specs.declared.acl_limits.Measure.TheVariants.{Count}
use Rattle.nb_limits.specs.inner.Weights.{acl_weight}
use Rattle.nb_limits.specs.inner.Within.{up_to}
use Rattle.nb_limits.proofs.AclSums.{count_weight}
use Rattle.nb_limits.proofs.acl_limits.acl_switches.Goals as goal

pub returns : goal.returns
returns c =
    IfOk-weaker c.acl_weight.result _ _
    (λ sum is. is ∙ ap (λ most. up_to most (acl_weight Count c.args.records.now)) (c.from-most.ensures ∙ c.bound.ensures) ∙ ap (up_to 65536) (count_weight c.args.records.now)) c.acl_weight.ensures

use Rattle.std.proofs.Common.{ap, ◌∙◌}
use Rattle.std.specs.Prelude.{sum_by}
use Rattle.nb_records.specs.Tags.{port_weight}
use Rattle.nb_limits.specs.inner.Within.{up_to}
use Rattle.nb_limits.proofs.Clipped.{security_up_to}
use Rattle.nb_limits.proofs.amounts.security.Goals as goal

pub returns : goal.returns
returns c =
    c.weight_within.ensures ∙ ap (up_to 32768) (c.weights.ensures.second ∙ ap (sum_by (λ port. (port_weight port).1)) c.ports.ensures) ∙ security_up_to c.args.records.now.ports

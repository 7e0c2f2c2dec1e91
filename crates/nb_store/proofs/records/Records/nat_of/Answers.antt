use Rattle.std.proofs.Common.{ap, ◌∙◌}
use Rattle.nb_store.proofs.Owned.{nat_of, nat_of_found}
use Rattle.nb_store.proofs.records.Records.nat_of.Goals as goal

pub returns : goal.returns
returns c = c.tagged.ensures.record ∙ nat_of_found c.args.router c.args.after c.self.inside.nats ∙ ap (λ net. nat_of c.args.router c.args.after net.nats) c.self.view_is

use Rattle.std.proofs.Common.{ap, ◌∙◌}
use Rattle.nb_store.proofs.Owned.{route_of, route_of_found}
use Rattle.nb_store.proofs.records.Records.route_of.Goals as goal

pub returns : goal.returns
returns c = c.tagged.ensures.record ∙ route_of_found c.args.router c.args.after c.self.inside.routes ∙ ap (λ net. route_of c.args.router c.args.after net.routes) c.self.view_is

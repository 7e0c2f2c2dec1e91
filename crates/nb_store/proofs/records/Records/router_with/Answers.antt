use Rattle.std.proofs.Common.{ap, ◌∙◌}
use Rattle.nb_store.proofs.Owned.{router_with, router_with_found}
use Rattle.nb_store.proofs.records.Records.router_with.Goals as goal

pub returns : goal.returns
returns c = c.tagged.ensures.record ∙ router_with_found c.args.lb c.args.after c.self.inside.routers ∙ ap (λ net. router_with c.args.lb c.args.after net.routers) c.self.view_is

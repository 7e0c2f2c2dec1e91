use Rattle.std.proofs.Common.{ap, ◌∙◌}
use Rattle.nb_store.proofs.Found.{peer_named, peer_found}
use Rattle.nb_store.proofs.records.Records.peer_named.Goals as goal

pub returns : goal.returns
returns c = c.tagged.ensures.record ∙ peer_found c.args.name.now c.self.inside.ports ∙ ap (λ net. peer_named c.args.name.now net.ports) c.self.view_is

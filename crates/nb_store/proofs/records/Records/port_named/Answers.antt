use Rattle.std.proofs.Common.{ap, ◌∙◌}
use Rattle.std.specs.Prelude.{find}
use Rattle.std.specs.Str.{bytes_eq}
use Rattle.nb_model.specs.Network.{port_named}
use Rattle.nb_store.proofs.Found.{port_found}
use Rattle.nb_store.proofs.records.Records.port_named.Goals as goal

pub returns : goal.returns
returns c = c.tagged.ensures.record ∙ port_found c.as_slice.result.now c.self.inside.ports ∙ ap (λ name. find (λ r. bytes_eq r.name name) c.self.inside.ports) c.as_slice.ensures ∙ ap (λ net. port_named net c.args.name.now) c.self.view_is

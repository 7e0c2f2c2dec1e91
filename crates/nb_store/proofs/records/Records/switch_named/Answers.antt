use Rattle.std.proofs.Common.{ap, ◌∙◌}
use Rattle.std.specs.Prelude.{find}
use Rattle.std.specs.Str.{bytes_eq}
use Rattle.nb_model.specs.Network.{switch_named}
use Rattle.nb_store.proofs.Found.{switch_found}
use Rattle.nb_store.proofs.records.Records.switch_named.Goals as goal

pub returns : goal.returns
returns c = c.tagged.ensures.record ∙ switch_found c.as_slice.result.now c.self.inside.switches ∙ ap (λ name. find (λ r. bytes_eq r.name name) c.self.inside.switches) c.as_slice.ensures ∙ ap (λ net. switch_named net c.args.name.now) c.self.view_is

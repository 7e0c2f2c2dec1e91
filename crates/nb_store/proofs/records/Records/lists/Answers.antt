use Rattle.std.proofs.Common.{◌&&◌, ap, ◌∙◌}
use Rattle.std.specs.Prelude.{find}
use Rattle.nb_records.specs.declared.sets.Group.{Group}
use Rattle.nb_model.specs.Belongs.{is_among}
use Rattle.nv_table.specs.Table.{is_after}
use Rattle.nb_store.specs.inner.Listed.{is_it}
use Rattle.nb_store.proofs.records.Records.lists.Goals as goal

pub returns : goal.returns
returns c =
    c.is_it.ensures
    ∙ ap (is_it c.args.group) (c.group_with.ensures ∙ ap (λ after. find (λ (x : Group). is_after after x.id && is_among c.args.port x.ports) c.args.self.now.groups) c.before-2.ensures)

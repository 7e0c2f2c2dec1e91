use Rattle.std.proofs.Common.{◌∙◌, ap, sym}
use Rattle.nb_records.specs.Tags.{tag_cmp}
use Rattle.nv_table.specs.Table.{order_at}
use Rattle.nb_records.specs.inner.OneMore.{listed_at}
use Rattle.nb_records.proofs.named.compare_named.Goals as goal

pub returns-else-place-eq0 : goal.returns-else-place-eq0
returns-else-place-eq0 c =
    c.cmp.ensures ∙ ap (λ own. order_at tag_cmp own c.args.tag.now) (sym (listed_at _ _ _ _ c.if-place-eq0.false c.requires))

use Rattle.std.proofs.Common.{Some, ◌∙◌, ap, sym}
use Rattle.nb_records.specs.Tags.{tag_cmp}
use Rattle.nb_records.specs.declared.tag.Tag.TheVariants.{Lists}
use Rattle.nv_table.specs.Table.{order_at}
use Rattle.nb_records.specs.inner.OneMore.{listed_at}
use Rattle.nb_records.proofs.named.GroupRecord.compare_tag.Goals as goal

pub returns-else-place-eq0 : goal.returns-else-place-eq0
returns-else-place-eq0 c =
    c.cmp.ensures
    ∙ ap (λ own. order_at tag_cmp own c.args.tag.now)
    (sym (listed_at _ _ _ c.number_at.result c.if-place-eq0.false c.requires ∙ ap (λ n. Some (Lists n)) (sym c.number_at.ensures.indexed)))

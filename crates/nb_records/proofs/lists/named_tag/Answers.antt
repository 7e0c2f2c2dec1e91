use Rattle.nb_records.specs.inner.OneMore.{listed_at}
use Rattle.nb_records.proofs.lists.named_tag.Goals as goal

pub returns-else-place-eq0 : goal.returns-else-place-eq0
returns-else-place-eq0 c = listed_at _ _ _ _ c.if-place-eq0.false c.requires

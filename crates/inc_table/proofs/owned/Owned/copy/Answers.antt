use Rattle.std.proofs.Common.{◌≡◌, ◌∙◌, sym, subst}
use Rattle.std.specs.Map.Iter.{deref_pair}
use Rattle.std.specs.Result.{IfOk}
use Rattle.std.proofs.lemmas.Map.Iter.{iter_end}
use Rattle.nv_map.specs.Map.{KeysRise}
use Rattle.inc_table.proofs.Gone.{copied_more}
use Rattle.inc_table.proofs.owned.Owned.copy.Goals as goal

pub loop-key-preserved : goal.loop-key-preserved
loop-key-preserved g c = copied_more c.loop-key.copied.items c.push.new.self.items c.loop-key.yielded (c.in-Some.key, c.in-Some.value) c.in_ok-copy.field-0 c.in_ok-copy-2.field-0 c.loop-key.invariant c.in_ok-copy.ensures c.in_ok-copy-2.ensures c.in_ok-push.ensures.items

pub from_rising-requires : goal.from_rising-requires
from_rising-requires g c =
    let end = iter_end deref_pair c.args.self.now c.loop-key.yielded c.into_iter-key-iterator.result c.loop-key.key-iterator c.next.new.self c.next.result (c.into_iter-key-iterator.ensures.into_iter_gives ∙ c.iter-key-items.ensures.entries) c.loop-key.yielded_by c.in-None.is c.next.ensures.steps in
    subst (λ l. KeysRise g.K.Ord.cmp l) (sym (c.loop-key.invariant ∙ end.0)) c.iter-key-items.ensures.rise

pub returns : goal.returns
returns g c =
    let end = iter_end deref_pair c.args.self.now c.loop-key.yielded c.into_iter-key-iterator.result c.loop-key.key-iterator c.next.new.self c.next.result (c.into_iter-key-iterator.ensures.into_iter_gives ∙ c.iter-key-items.ensures.entries) c.loop-key.yielded_by c.in-None.is c.next.ensures.steps in
    subst (λ l. IfOk c.from_rising.result (λ copied. copied ≡ l)) (c.loop-key.invariant ∙ end.0) c.from_rising.ensures

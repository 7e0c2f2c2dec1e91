use Rattle.std.proofs.Common.{◌∙◌, map, ap, refl, sym, subst}
use Rattle.std.specs.Map.Iter.{deref_pair}
use Rattle.std.proofs.lemmas.Map.Iter.{iter_end}
use Rattle.inc_table.specs.Delta.{IsAbove, puts_of}
use Rattle.inc_table.proofs.Changed.{puts_above, puts_more}
use Rattle.inc_table.proofs.Gone.{split_at, above_gone}
use Rattle.inc_table.proofs.owned.Owned.puts.Goals as goal

pub push-requires : goal.push-requires
push-requires g c =
    let split = split_at c.args.self.now c.into_iter-key-iterator.result c.loop-key.key-iterator c.next.new.self c.loop-key.yielded c.next.result (c.in-Some.key, c.in-Some.value) (c.into_iter-key-iterator.ensures.into_iter_gives ∙ c.iter-key-items.ensures.entries) c.loop-key.yielded_by c.in-Some.is c.next.ensures.steps in
    let above = above_gone g.K.Ord.cmp c.args.self.now c.next.new.self (map deref_pair c.loop-key.yielded) c.loop-key.yielded (c.in-Some.key, c.in-Some.value) c.in_ok-copy-2.field-0 c.iter-key-items.ensures.rise split refl c.in_ok-copy-2.ensures in
    subst (λ l. IsAbove g.K.Ord.cmp c.in_ok-copy-2.field-0 l) (sym c.loop-key.invariant) (puts_above g.K.Ord.cmp c.in_ok-copy-2.field-0 (map deref_pair c.loop-key.yielded) above)

pub loop-key-preserved : goal.loop-key-preserved
loop-key-preserved g c = puts_more c.loop-key.delta c.push.new.self c.loop-key.yielded (c.in-Some.key, c.in-Some.value) c.in_ok-copy-2.field-0 c.in_ok-copy.field-0 c.loop-key.invariant c.in_ok-copy-2.ensures c.in_ok-copy.ensures c.in_ok-push.ensures.ok

pub returns-clause-puts : goal.returns-clause-puts
returns-clause-puts g c =
    c.loop-key.invariant
    ∙ ap puts_of (iter_end deref_pair c.args.self.now c.loop-key.yielded c.into_iter-key-iterator.result c.loop-key.key-iterator c.next.new.self c.next.result (c.into_iter-key-iterator.ensures.into_iter_gives ∙ c.iter-key-items.ensures.entries) c.loop-key.yielded_by c.in-None.is c.next.ensures.steps).0

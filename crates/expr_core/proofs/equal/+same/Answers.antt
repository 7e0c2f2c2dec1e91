use Rattle.std.proofs.Common.{◌≡◌, refl, sym, ◌∙◌, arith}
use Rattle.std.proofs.lemmas.List.{length_push}
use Rattle.std.proofs.lemmas.Slice.Zip.{zip_turn, zip_end}
use Rattle.std.specs.Iterator.Adapters.{zip_first, zip_second}
use Rattle.std.specs.Slice.Iter.{iter_rest}
use Rattle.expr_core.proofs.Pairs.{unlike_lengths, one_falls, like_more, unlike_here, like_all}
use Rattle.expr_core.proofs.equal.+same.Goals as goal

pub same_operands-returns-then-ones-others : goal.same_operands-returns-then-ones-others
same_operands-returns-then-ones-others g t c = unlike_lengths g.A.PartialEq.eq _ _ c.if-ones-others.true

pub same_operands-loop-one-init : goal.same_operands-loop-one-init
same_operands-loop-one-init g t c = refl

pub same_operands-same-requires : goal.same_operands-same-requires
same_operands-same-requires g t c =
    let first : iter_rest (zip_first c.into_iter-one-iterator.result) ≡ c.args.ones.now = rw (c.into_iter-one-iterator.ensures.into_iter_gives, c.zip-one-items.ensures.first) c.iter.ensures.rest in
    let turn = zip_turn c.args.ones.now _ c.loop-one.yielded c.into_iter-one-iterator.result c.loop-one.one-iterator c.next.new.self _ first refl c.loop-one.yielded_by _ c.in-Some.is c.next.ensures.steps in
    λ κs lives. (omega (arith, one_falls c.args.ones.now _ c.in-Some.one.now turn.0 (turn.2 c.in-Some.one.now), c.decreases), lives)

pub same_operands-returns-then-not-same : goal.same_operands-returns-then-not-same
same_operands-returns-then-not-same g t c =
    let turn = zip_turn _ _ c.loop-one.yielded c.into_iter-one-iterator.result c.loop-one.one-iterator c.next.new.self _ refl refl c.loop-one.yielded_by _ c.in-Some.is c.next.ensures.steps in
    let first : iter_rest (zip_first c.into_iter-one-iterator.result) ≡ c.args.ones.now = rw (c.into_iter-one-iterator.ensures.into_iter_gives, c.zip-one-items.ensures.first) c.iter.ensures.rest in
    let second : iter_rest (zip_second c.into_iter-one-iterator.result) ≡ c.args.others.now = rw (c.into_iter-one-iterator.ensures.into_iter_gives) c.zip-one-items.ensures.second.0 in
    rw (← first, ← second) (unlike_here g.A.PartialEq.eq _ _ _ c.in-Some.one.now c.in-Some.other.now turn.0 turn.1 (turn.2 _) (turn.3 _) c.loop-one.invariant (sym c.same.ensures ∙ c.if-not-same.true))

pub same_operands-loop-one-preserved : goal.same_operands-loop-one-preserved
same_operands-loop-one-preserved g t c =
    let turn = zip_turn _ _ c.loop-one.yielded c.into_iter-one-iterator.result c.loop-one.one-iterator c.next.new.self _ refl refl c.loop-one.yielded_by _ c.in-Some.is c.next.ensures.steps in
    rw length_push (like_more g.A.PartialEq.eq _ _ _ c.in-Some.one.now c.in-Some.other.now turn.0 turn.1 (turn.2 _) (turn.3 _) c.loop-one.invariant (sym c.same.ensures ∙ c.if-not-same.false))

pub same_operands-returns : goal.same_operands-returns
same_operands-returns g t c =
    let first : iter_rest (zip_first c.into_iter-one-iterator.result) ≡ c.args.ones.now = rw (c.into_iter-one-iterator.ensures.into_iter_gives, c.zip-one-items.ensures.first) c.iter.ensures.rest in
    let second : iter_rest (zip_second c.into_iter-one-iterator.result) ≡ c.args.others.now = rw (c.into_iter-one-iterator.ensures.into_iter_gives) c.zip-one-items.ensures.second.0 in
    let end = zip_end c.args.ones.now c.args.others.now c.loop-one.yielded c.into_iter-one-iterator.result c.loop-one.one-iterator c.next.new.self _ first second c.loop-one.yielded_by c.in-None.is c.next.ensures.steps in
    like_all g.A.PartialEq.eq _ _ _ end c.if-ones-others.false (rw (first, second) at c.loop-one.invariant)

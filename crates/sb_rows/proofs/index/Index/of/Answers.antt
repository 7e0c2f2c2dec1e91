use Rattle.std.proofs.Common.{List, sym, subst, ◌∙◌, arith, map-id}
use Rattle.std.proofs.lemmas.Iterator.Adapters.{YieldsList-from_vec}
use Rattle.std.proofs.lemmas.Iterator.Consumers.{YieldsList-end}
use Rattle.sb_rows.specs.declared.asks.Shape.{Shape}
use Rattle.sb_rows.specs.declared.index.Told.{Told}
use Rattle.sb_rows.specs.inner.Index.{HasShape}
use Rattle.sb_rows.proofs.ToldRows.{AreFiled, covered_by_filed, filed_next}
use Rattle.sb_rows.proofs.index.Index.of.Goals as goal

pub loop-row-init : goal.loop-row-init
loop-row-init c t there = absurd (omega (arith, there.1))

pub loop-row-preserved : goal.loop-row-preserved
loop-row-preserved c =
    rw c.in_ok-push.ensures.items
    (filed_next c.loop-row.yielded c.loop-row.shapes.items c.add_shape.new.shapes.items c.loop-row.own c.bucket_for.new.self c.loop-row.filled.items c.in-Some.row c.chosen-shared.result.0 c.in_ok-bucket.bucket (record { asked = c.chosen-shared.ensures.asked; told = c.chosen-shared.ensures.told })
    c.in_ok-add_shape.ensures.kept (subst (λ (s : Shape). HasShape c.add_shape.new.shapes.items s c.in-Some.row.place) c.shape.ensures c.in_ok-add_shape.ensures.there)
    c.in_ok-bucket.ensures.kept c.in_ok-bucket.ensures.is c.loop-row.invariant)

pub returns : goal.returns
returns c =
    let told = YieldsList-end (YieldsList-from_vec c.in_ok-told.told.items c.into_iter-row-iterator.ensures.into_iter_gives.0 (omega arith)) c.loop-row.yielded c.loop-row.row-iterator c.loop-row.yielded_by c.next.result c.next.new.self c.in-None.is c.next.ensures.steps in
    covered_by_filed c.in_ok-told.told.items c.args.rows.now.entries c.loop-row.filled.items _ c.in_ok-told.ensures
    (subst (λ (l : List Told). AreFiled l c.loop-row.shapes.items c.loop-row.own c.loop-row.filled.items) (sym (map-id c.loop-row.yielded) ∙ told.0) c.loop-row.invariant) c.of.ensures

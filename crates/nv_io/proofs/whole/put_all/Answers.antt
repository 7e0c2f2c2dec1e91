use Rattle.std.proofs.Common.{[], ◌++◌, take, refl, sym, ap, ◌∙◌, append_assoc}
use Rattle.std.proofs.lemmas.List.{take-append-drop}
use Rattle.nv_io.proofs.Writing.{wrote_nothing, wrote_more}
use Rattle.nv_io.proofs.whole.put_all.Goals as goal

pub loop-rest-init : goal.loop-rest-init
loop-rest-init g c = ([], refl, wrote_nothing _ _ c.args.sink.now)

pub loop-rest-preserved : goal.loop-rest-preserved
loop-rest-preserved g c =
    let so_far = c.loop-rest.invariant in
    let rest = c.loop-rest.rest.now in
    let n = c.in_ok-count.count in (
      so_far.0 ++ take n rest,
      so_far.1 ∙ ap (λ r. so_far.0 ++ r) (sym (take-append-drop n rest) ∙ ap (λ r. take n rest ++ r) (sym c.split_at.ensures.back)) ∙ sym (append_assoc so_far.0 (take n rest) c.split_at.result.1.now),
      wrote_more _ _ _ _ _ so_far.0 rest n so_far.2 c.in_ok-count.ensures.step c.in_ok-count.ensures.within c.in_ok-count.ensures.kept c.in_ok-count.ensures.amount c.in_ok-count.ensures.quiet,
    )

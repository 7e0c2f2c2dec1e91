use Rattle.std.proofs.Common.{◌∙◌, ◌∷◌, [], map, sym, subst}
use Rattle.std.specs.Map.Iter.{deref_pair}
use Rattle.std.proofs.lemmas.List.{map-append}
use Rattle.std.proofs.lemmas.Map.Iter.{iter_end}
use Rattle.nv_map.proofs.Values.{exact_order}
use Rattle.inc_join.specs.inner.Index.{Covers}
use Rattle.inc_join.proofs.Rejoined.{covers_self, covers_none, covers_more, covers_last}
use Rattle.inc_join.proofs.joining.add_keys.Goals as goal

pub loop-key-init : goal.loop-key-init
loop-key-init g c = record { kept = covers_self g.K.Ord.cmp c.args.touched.now; covered = covers_none g.K.Ord.cmp c.args.touched.now }

pub loop-key-preserved : goal.loop-key-preserved
loop-key-preserved g c = record {
  kept = covers_more g.met.K.Ord.total (exact_order g.K.PartialEq.eq g.K.Ord.cmp g.met.K.Ord.matches_eq g.met.K.Kept.exact) c.in-Some.key.now c.args.touched.now c.loop-key.touched c.set.new.self c.in_ok-set.ensures.ok c.loop-key.invariant.kept;
  covered = subst (λ l. Covers g.K.Ord.cmp l c.set.new.self) (sym (map-append deref_pair c.loop-key.yielded ((c.in-Some.key, c.in-Some.field-0-1) ∷ [])))
      (covers_last g.met.K.Ord.total (exact_order g.K.PartialEq.eq g.K.Ord.cmp g.met.K.Ord.matches_eq g.met.K.Kept.exact) c.in-Some.key.now (map deref_pair c.loop-key.yielded) c.loop-key.touched c.set.new.self c.in_ok-set.ensures.ok c.loop-key.invariant.covered);
}

pub returns-clause-kept : goal.returns-clause-kept
returns-clause-kept g c = c.loop-key.invariant.kept

pub returns-clause-covered : goal.returns-clause-covered
returns-clause-covered g c =
    subst (λ l. Covers g.K.Ord.cmp l c.loop-key.touched)
    (iter_end deref_pair c.args.keys.now c.loop-key.yielded c.into_iter-key-iterator.result c.loop-key.key-iterator c.next.new.self c.next.result (c.into_iter-key-iterator.ensures.into_iter_gives ∙ c.iter-key-items.ensures.entries) c.loop-key.yielded_by c.in-None.is c.next.ensures.steps).0
    c.loop-key.invariant.covered

use Rattle.std.proofs.Common.{List, subst, sym, arith, ◌∙◌, inl, ◌⊎◌}
use Rattle.std.proofs.lemmas.List.{take_all}
use Rattle.std.specs.Prelude.{Contains}
use Rattle.sb_model.specs.declared.row.Row.{Row}
use Rattle.sb_rows.proofs.Without.{put_next, known_next}
use Rattle.sb_rows.proofs.rows.Rows.put_missing.Goals as goal

pub loop-stored-init : goal.loop-stored-init
loop-stored-init c = record {
  put = λ r none. absurd (omega (arith, none.1));
  kept = λ r at. at;
  known = λ r at. inl at;
}

pub loop-stored-preserved : goal.loop-stored-preserved
loop-stored-preserved c =
    let rows = c.as_stored-rows.result.now in
    let so_far = c.loop-stored.invariant in
    let put = c.in_ok-put_shared.ensures in
    record {
      put = put_next rows c.args.self.now c.loop-stored.self c.put_shared.new.self c.loop-stored.stored-index c.stored-item.result c.loop-stored-test.true c.stored-item.is so_far.put put.kept put.put;
      kept = λ r at. put.kept r (so_far.kept r at);
      known = known_next rows c.args.self.now c.loop-stored.self c.put_shared.new.self c.loop-stored.stored-index c.stored-item.result c.loop-stored-test.true c.stored-item.is so_far.known put.known;
    }

pub returns-in_err-put_shared-clause-kept : goal.returns-in_err-put_shared-clause-kept
returns-in_err-put_shared-clause-kept c r at = c.in_err-put_shared.ensures.kept r (c.loop-stored.invariant.kept r at)

pub returns-in_err-put_shared-clause-known : goal.returns-in_err-put_shared-clause-known
returns-in_err-put_shared-clause-known c r at =
    let rows = c.as_stored-rows.result.now in
    subst (λ (l : List Row). Contains c.args.self.now r ⊎ Contains l r) c.as_stored-rows.ensures
    (known_next rows c.args.self.now c.loop-stored.self c.put_shared.new.self c.loop-stored.stored-index c.stored-item.result c.loop-stored-test.true c.stored-item.is c.loop-stored.invariant.known c.in_err-put_shared.ensures.known r at)

pub returns-clause-put : goal.returns-clause-put
returns-clause-put c r at =
    let rows = c.as_stored-rows.result.now in
    let all = take_all c.loop-stored.stored-index rows c.loop-stored-test.false in
    c.loop-stored.invariant.put r (subst (λ (l : List Row). Contains l r) (sym (all ∙ c.as_stored-rows.ensures)) at)

pub returns-clause-kept : goal.returns-clause-kept
returns-clause-kept c = c.loop-stored.invariant.kept

pub returns-clause-known : goal.returns-clause-known
returns-clause-known c r at = subst (λ (l : List Row). Contains c.args.self.now r ⊎ Contains l r) c.as_stored-rows.ensures (c.loop-stored.invariant.known r at)

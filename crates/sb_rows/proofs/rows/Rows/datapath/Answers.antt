use Rattle.std.proofs.Common.{ℕ, ◌++◌, List, map, ap, sym, subst, ◌∙◌}
use Rattle.std.specs.Map.Iter.{deref_pair}
use Rattle.std.proofs.lemmas.Map.Iter.{iter_end, rest_more, rest_so_far}
use Rattle.sb_model.specs.declared.row.Row.{Row}
use Rattle.sb_rows.specs.Match.{select}
use Rattle.sb_rows.proofs.OfDatapath.{ArePutIn, found_is_selected, gone_is_of, none_put, put_more}
use Rattle.sb_rows.proofs.rows.Rows.datapath.Goals as goal

pub loop-key-init : goal.loop-key-init
loop-key-init c = none_put c.first_key-first.result

pub loop-key-preserved : goal.loop-key-preserved
loop-key-preserved c =
    let split = sym c.into_iter-key-iterator.ensures.into_iter_gives ∙ rest_so_far deref_pair c.loop-key.yielded c.into_iter-key-iterator.result c.loop-key.key-iterator c.loop-key.yielded_by in
    let here = rest_more deref_pair c.loop-key.key-iterator c.next.new.self c.next.result (c.in-Some.key, c.in-Some.table) c.in-Some.is c.next.ensures.steps in
    let within = gone_is_of c.first_key-first.result c.self.inside.tables.entries c.range-key-items.result (map deref_pair c.loop-key.yielded) c.next.new.self (c.in-Some.key.now, c.in-Some.table.now)
    (c.range-key-items.ensures.between tt) (split ∙ ap (λ (l : List (ℕ × List Row)). map deref_pair c.loop-key.yielded ++ l) here) in
    put_more c.first_key-first.result c.loop-key.yielded c.loop-key.tables c.in-Some.key c.in-Some.table within.0 within.1 c.loop-key.invariant

pub invariant_of-result : goal.invariant_of-result
invariant_of-result c =
    let end = iter_end deref_pair c.range-key-items.result c.loop-key.yielded c.into_iter-key-iterator.result c.loop-key.key-iterator c.next.new.self c.next.result c.into_iter-key-iterator.ensures.into_iter_gives c.loop-key.yielded_by c.in-None.is c.next.ensures.steps in
    let put = subst (λ (seen : List (ℕ × List Row)). ArePutIn c.first_key-first.result seen c.loop-key.tables) (end.0 ∙ c.range-key-items.ensures.between tt) c.loop-key.invariant in
    record {
      long = c.loop-key.invariant.long;
      selected = λ stage net packet.
          found_is_selected c.args.dp c.self.inside.tables c.self.invariant.tables c.first_key-first.result c.first_key-first.ensures c.loop-key.tables put stage net packet
          ∙ ap (select c.args.dp stage net packet) c.self.view_is;
    }

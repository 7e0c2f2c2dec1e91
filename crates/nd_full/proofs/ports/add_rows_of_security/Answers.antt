use Rattle.std.proofs.Common.{◌≡◌, [], Result, Ok, Err, OnOk, sym, ◌∙◌}
use Rattle.std.proofs.lemmas.Bool.{eqb-true}
use Rattle.std.proofs.lemmas.List.{nil_from_length}
use Rattle.nd_full.proofs.Unguarded.{no_rows}
use Rattle.nd_full.proofs.ports.add_rows_of_security.Goals as goal

on_ok : {T E P : Type 0} (r : Result T E) → P → OnOk r P
on_ok (Ok t) p = p
on_ok (Err e) p = tt

-- no rows come
pub returns-then-is_empty-clause-rows : goal.returns-then-is_empty-clause-rows
returns-then-is_empty-clause-rows c =
    let none : c.args.port.now.security ≡ [] = sym c.as_slice.ensures ∙ nil_from_length c.as_slice.result.now (eqb-true _ _ (sym c.is_empty.ensures ∙ c.if-is_empty.true)) in
    on_ok c.copy.result (no_rows c.args.port.now c.args.made.now c.if-port.true none)

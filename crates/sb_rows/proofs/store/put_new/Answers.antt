use Rattle.std.proofs.Common.{◌≡◌, List, ◌∙◌, ap, refl, ◌++◌, ◌∷◌, []}
use Rattle.std.specs.List.{All}
use Rattle.std.proofs.lemmas.List.Elements.{All-cons, All-nil}
use Rattle.sb_model.specs.declared.row.Row.{Row}
use Rattle.sb_rows.specs.inner.Tables.{key_of}
use Rattle.sb_rows.proofs.store.put_new.Goals as goal

one : (c : goal.In_ok-push) → c.push.new.self.items ≡ c.args.row ∷ []
one c = c.in_ok-push.ensures.items ∙ ap (λ (rows : List Row). rows ++ c.args.row ∷ []) c.new-rows.ensures.items

pub of-requires-clause-key : goal.of-requires-clause-key
of-requires-clause-key c =
    let own : (r : Row) → key_of r ≡ key_of c.args.row → All (λ (x : Row). key_of x ≡ key_of c.args.row) (r ∷ []) = λ r is. All-cons (λ (x : Row). key_of x ≡ key_of c.args.row) r [] is (All-nil (λ (x : Row). key_of x ≡ key_of c.args.row)) in
    (key_of c.args.row, rw (one c) (own c.args.row refl))

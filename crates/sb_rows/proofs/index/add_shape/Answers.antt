use Rattle.std.proofs.Common.{List, [], ◌∷◌, subst, sym}
use Rattle.std.specs.Prelude.{Contains}
use Rattle.std.proofs.lemmas.List.Elements.{Contains-append_left}
use Rattle.sb_rows.specs.declared.index.Shaped.{Shaped}
use Rattle.sb_rows.proofs.index.add_shape.Goals as goal

pub returns-in_ok-push-clause-kept : goal.returns-in_ok-push-clause-kept
returns-in_ok-push-clause-kept c other there =
    subst (λ (l : List Shaped). Contains l other) (sym c.in_ok-push.ensures.items) (Contains-append_left c.args.shapes.now.items (record { shape = c.args.shape; from = c.args.from } ∷ []) other there)

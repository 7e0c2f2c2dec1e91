use Rattle.std.proofs.Common.{◌≡◌, ℕ, sym, subst, ◌∙◌}
use Rattle.sb_rows.specs.inner.Index.{IsIn}
use Rattle.sb_rows.proofs.AskedSame.{own_is}
use Rattle.sb_rows.proofs.Flat.{none_is_some, some_is}
use Rattle.sb_rows.proofs.index.Index.place_in_own.Goals as goal

pub returns-in-Some-clause-absent : goal.returns-in-Some-clause-absent
returns-in-Some-clause-absent c none bucket p is inside there =
    let same : c.in-Some.bucket ≡ bucket = some_is (c.in-Some.ensures ∙ own_is c.args.self.now.own _ _ _ _ _ _ c.name.ensures c.requires.shared c.numbers.ensures ∙ is) in
    c.place_in.ensures.absent none p (subst (λ (b : ℕ). IsIn c.args.self.now b p) (sym same) inside) there

pub returns-in-None-clause-absent : goal.returns-in-None-clause-absent
returns-in-None-clause-absent c none bucket p is inside there =
    none_is_some (c.in-None.ensures ∙ own_is c.args.self.now.own _ _ _ _ _ _ c.name.ensures c.requires.shared c.numbers.ensures ∙ is)

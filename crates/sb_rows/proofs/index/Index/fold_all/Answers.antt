use Rattle.std.proofs.Common.{ℕ, List, inl, subst, sym}
use Rattle.std.specs.Prelude.{Contains}
use Rattle.sb_rows.proofs.Covered.{covered_more}
use Rattle.sb_rows.proofs.index.Index.fold_all.Goals as goal

pub returns : goal.returns
returns c r p covered =
    covered_more r p c.args.self.now (record c.args.self.now { filled = c.replace.new.dest; more = c.replace-2.new.dest }) (λ s shaped. shaped) (λ name shared numbers bucket is. is)
    (λ b held. inl (subst (λ (l : List (ℕ × ℕ)). Contains l (b, p)) (sym c.replace.ensures.after) (c.in-Ok.ensures (b, p) held))) covered

use Rattle.std.proofs.Common.{inl, inr}
use Rattle.sb_rows.proofs.Covered.{covered_more}
use Rattle.sb_rows.proofs.Probed.{from_either}
use Rattle.sb_rows.proofs.index.Index.clear.Goals as goal

pub returns : goal.returns
returns c r p there covered =
    covered_more r p c.args.self.now (record c.args.self.now { filled = c.clear.new.self; struck = 0 }) (λ s shaped. shaped) (λ name shared numbers bucket is. is)
    (λ b held. from_either held (λ filled. inl (c.clear.ensures b p r there filled)) (λ more. inr more)) covered

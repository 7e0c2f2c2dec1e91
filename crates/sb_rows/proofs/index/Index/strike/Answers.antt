use Rattle.std.proofs.Common.{inl, inr}
use Rattle.sb_rows.proofs.Covered.{covered_more, covered_struck}
use Rattle.sb_rows.proofs.Probed.{from_either}
use Rattle.sb_rows.proofs.index.Index.strike.Goals as goal

pub returns-then-self-len : goal.returns-then-self-len
returns-then-self-len c r p there other covered =
    let first = covered_struck r p c.args.self.now c.strike_asked.new.self c.strike_asked.ensures.same (λ b. c.strike_asked.ensures.others b p other) covered in
    let second = covered_struck r p c.strike_asked.new.self c.strike_asked-2.new.self c.strike_asked-2.ensures.same (λ b. c.strike_asked-2.ensures.others b p other) first in
    covered_more r p c.strike_asked-2.new.self (record c.strike_asked-2.new.self { filled = c.clear.new.self; struck = 0 }) (λ s shaped. shaped) (λ name shared numbers bucket is. is)
    (λ b held. from_either held (λ filled. inl (c.clear.ensures b p r there filled)) (λ more. inr more)) second

pub returns-else-self-len : goal.returns-else-self-len
returns-else-self-len c r p there other covered =
    let first = covered_struck r p c.args.self.now c.strike_asked.new.self c.strike_asked.ensures.same (λ b. c.strike_asked.ensures.others b p other) covered in
    let second = covered_struck r p c.strike_asked.new.self c.strike_asked-2.new.self c.strike_asked-2.ensures.same (λ b. c.strike_asked-2.ensures.others b p other) first in
    covered_more r p c.strike_asked-2.new.self (record c.strike_asked-2.new.self { struck = c.saturating_add-self.result }) (λ s shaped. shaped) (λ name shared numbers bucket is. is) (λ b held. held) second

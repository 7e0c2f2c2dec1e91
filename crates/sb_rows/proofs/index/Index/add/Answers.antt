use Rattle.sb_rows.specs.inner.Index.{IsCovered, IsFiled}
use Rattle.sb_rows.proofs.Covered.{covered_by, covered_more, on_ok}
use Rattle.sb_rows.proofs.index.Index.add.Goals as goal

pub returns-clause-added : goal.returns-clause-added
returns-clause-added c =
    let row = c.args.row.now in
    let asks = c.join-shared.result.0 in
    on_ok c.add_asks.result (IsFiled asks c.args.place c.add_asks.new.self) (IsCovered row c.args.place c.add_asks.new.self)
    (λ filed. covered_by row c.args.place c.add_asks.new.self c.of.result asks (λ net packet takes. c.join-shared.ensures.asked net packet (c.of.ensures.asked net packet takes)) c.of.ensures.told c.join-shared.ensures.told filed)
    c.add_asks.ensures.added

pub returns-clause-kept : goal.returns-clause-kept
returns-clause-kept c r p covered = c.add_asks.ensures.kept r p (covered_more r p c.args.self.now (record c.args.self.now { crowds = c.join-shared.new.self }) (λ s there. there) (λ name shared numbers bucket is. is) (λ b there. there) covered)

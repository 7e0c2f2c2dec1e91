use Rattle.std.proofs.Common.{ap}
use Rattle.sb_rows.proofs.Covered.{key_spared}
use Rattle.sb_rows.proofs.index.Index.strike_asked.Goals as goal

pub returns-in-Some-clause-others : goal.returns-in-Some-clause-others
returns-in-Some-clause-others c b p other there =
    key_spared c.remove.new.self c.remove-in-Some.new.self (c.in-Some.bucket, c.args.place) (b, p) (λ same. other (ap (λ x. x.1) same)) (c.remove-in-Some.ensures.updates.2 (b, p))
    (key_spared c.args.self.now.more c.remove.new.self (c.bucket-shared.result, c.args.place) (b, p) (λ same. other (ap (λ x. x.1) same)) (c.remove.ensures.updates.2 (b, p)) there)

pub returns-in_default-clause-others : goal.returns-in_default-clause-others
returns-in_default-clause-others c b p other there =
    key_spared c.args.self.now.more c.remove.new.self (c.bucket-shared.result, c.args.place) (b, p) (λ same. other (ap (λ x. x.1) same)) (c.remove.ensures.updates.2 (b, p)) there

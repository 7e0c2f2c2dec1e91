use Rattle.std.proofs.Common.{ℕ, List, sym, subst, inl, inr}
use Rattle.std.specs.Prelude.{Contains}
use Rattle.sb_rows.specs.declared.asks.Shape.{Shape}
use Rattle.sb_rows.specs.inner.Index.{HasShape}
use Rattle.sb_rows.proofs.Covered.{covered_more, key_put, key_stays}
use Rattle.sb_rows.proofs.Probed.{from_either}
use Rattle.sb_rows.proofs.index.Index.add_asks.Goals as goal

pub returns-clause-added : goal.returns-clause-added
returns-clause-added c =
    let put : Contains c.insert.new.self.keys (c.in_ok-bucket.bucket, c.args.place) = key_put c.insert.new.self (c.in_ok-bucket.bucket, c.args.place) _ (c.in_ok-insert.ensures.updates.0 (c.in_ok-bucket.bucket, c.args.place)) in
    record {
      shaped = subst (λ (s : Shape). HasShape c.add_shape.new.shapes.items s c.args.place) c.shape.ensures c.in_ok-add_shape.ensures.there;
      there = (c.in_ok-bucket.bucket, (c.in_ok-bucket.ensures.is, inr put));
    }

pub returns-clause-kept : goal.returns-clause-kept
returns-clause-kept c r p =
    covered_more r p c.args.self.now (record c.args.self.now { side = c.or-self.result; shapes = c.add_shape.new.shapes; more = c.insert.new.self; own = c.bucket_for.new.self }) c.in_ok-add_shape.ensures.kept c.in_ok-bucket.ensures.kept
    (λ b held. from_either held (λ filled. inl filled) (λ more. inr (key_stays c.args.self.now.more c.insert.new.self (c.in_ok-bucket.bucket, c.args.place) (b, p) (c.in_ok-insert.ensures.updates.0 (b, p)) more)))

pub returns-in_err-insert-clause-kept : goal.returns-in_err-insert-clause-kept
returns-in_err-insert-clause-kept c r p =
    covered_more r p c.args.self.now (record c.args.self.now { side = c.or-self.result; shapes = c.add_shape.new.shapes; more = c.insert.new.self; own = c.bucket_for.new.self }) c.in_ok-add_shape.ensures.kept c.in_ok-bucket.ensures.kept
    (λ b held. from_either held (λ filled. inl filled) (λ more. inr (subst (λ (l : List (ℕ × ℕ)). Contains l (b, p)) (sym c.in_err-insert.ensures.err) more)))

pub returns-in_err-bucket-clause-kept : goal.returns-in_err-bucket-clause-kept
returns-in_err-bucket-clause-kept c r p =
    covered_more r p c.args.self.now (record c.args.self.now { side = c.or-self.result; shapes = c.add_shape.new.shapes; own = c.bucket_for.new.self }) c.in_ok-add_shape.ensures.kept c.in_err-bucket.ensures.kept (λ b held. held)

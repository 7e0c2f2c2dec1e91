use Rattle.std.proofs.Common.{◌≡◌, ℕ, sym, subst, ◌∙◌}
use Rattle.std.specs.Prelude.{Some}
use Rattle.std.specs.Option.{option_copied}
use Rattle.sb_rows.specs.inner.Asks.{bucket_of, name_of, numbers_of}
use Rattle.sb_rows.specs.inner.Index.{IsIn}
use Rattle.sb_rows.specs.inner.Own.{own_bucket}
use Rattle.sb_rows.proofs.Probed.{from_either}
use Rattle.sb_rows.proofs.index.Index.first_wanted.Goals as goal

pub returns-in-Some-clause-tried : goal.returns-in-Some-clause-tried
returns-in-Some-clause-tried g c asks p wanted held row among takes =
    from_either held.1.0
    (λ shared. c.first_in_bucket.ensures.kept p (c.first_in_bucket-first.ensures.tried p (subst (λ (b : ℕ). IsIn c.args.self.now b p) (shared ∙ wanted.bucket) held.1.1) row among takes))
    (λ own.
    let here : own_bucket c.args.self.now.own (option_copied c.args.wanted.name) c.args.wanted.bucket c.args.wanted.numbers ≡ own_bucket c.args.self.now.own (name_of asks.port) (bucket_of asks) (numbers_of asks) = λ i. own_bucket c.args.self.now.own (sym wanted.name i) (sym wanted.bucket i) (sym wanted.numbers i) in
    let is : Some c.in-Some.bucket ≡ Some held.0 = c.in-Some.ensures ∙ here ∙ own in
    let same : c.in-Some.bucket ≡ held.0 = cc in
    c.first_in_bucket.ensures.tried p (subst (λ (b : ℕ). IsIn c.args.self.now b p) (sym same) held.1.1) row among takes)

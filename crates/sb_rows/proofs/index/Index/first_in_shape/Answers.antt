use Rattle.std.proofs.Common.{◌≡◌, sym, ◌∙◌}
use Rattle.sb_rows.specs.inner.Asks.{bucket_by, bucket_of, name_bucket, numbers_of}
use Rattle.sb_rows.proofs.Probed.{asked_bucket, asked_name, asked_no_name, asked_numbers, from_either}
use Rattle.sb_rows.proofs.index.Index.first_in_shape.Goals as goal

pub returns-in-Some-clause-tried : goal.returns-in-Some-clause-tried
returns-in-Some-clause-tried g c asks p shaped has held row among takes =
    let net = g.E.Env.lookup c.args.env.now in
    let it = asked_name asks c.args.shape c.in-Some.side net c.args.packet.now shaped (sym c.in-Some.ensures) has in
    let numbers : numbers_of asks ≡ c.numbers_at-numbers.result = asked_numbers asks c.args.shape net c.args.packet.now shaped has ∙ sym c.numbers_at-numbers.ensures in
    let bucket : bucket_of asks ≡ bucket_by c.args.shape (name_bucket it.0) c.numbers_at-numbers.result = asked_bucket asks c.args.shape (name_bucket it.0) c.numbers_at-numbers.result shaped it.1.1.1 numbers in
    from_either (c.ports_by-ports.ensures it.0 it.1.0)
    (λ one.
    let w = c.wanted_by-one.ensures it.0 asks one it.1.1.0 bucket numbers in
    c.first_named.ensures.kept p (c.first_named-first.ensures.tried w.0 asks p w.1.0 w.1.1 held row among takes))
    (λ other.
    let w = c.wanted_by-other.ensures it.0 asks other it.1.1.0 bucket numbers in
    c.first_named.ensures.tried w.0 asks p w.1.0 w.1.1 held row among takes)

pub returns-in-None-clause-tried : goal.returns-in-None-clause-tried
returns-in-None-clause-tried g c asks p shaped has held =
    let net = g.E.Env.lookup c.args.env.now in
    let none = asked_no_name asks c.args.shape shaped (sym c.in-None.ensures) in
    let numbers : numbers_of asks ≡ c.numbers_at-numbers.result = asked_numbers asks c.args.shape net c.args.packet.now shaped has ∙ sym c.numbers_at-numbers.ensures in
    let bucket : bucket_of asks ≡ bucket_by c.args.shape 0 c.numbers_at-numbers.result = asked_bucket asks c.args.shape 0 c.numbers_at-numbers.result shaped none.1 numbers in
    c.first_wanted.ensures.tried asks p (record { bucket = bucket ∙ sym c.bucket.ensures; name = none.0; numbers = numbers }) held

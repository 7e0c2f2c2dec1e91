use Rattle.std.proofs.Common.{◌≡◌, ℕ, ap, sym, ◌∙◌}
use Rattle.std.specs.Prelude.{Option, Some}
use Rattle.std.specs.BTreeMap.{get}
use Rattle.std.specs.Option.{option_copied}
use Rattle.sb_rows.specs.inner.Own.{name_number, numbered_bucket, own_key_cmp}
use Rattle.sb_rows.proofs.own.Own.bucket.Goals as goal

pub returns-in_err-get : goal.returns-in_err-get
returns-in_err-get c =
    let named : name_number c.args.self.now (option_copied c.args.name) ≡ Some c.in_ok-number.number = sym c.number.ensures ∙ c.in_ok-number.was in
    c.from_residual-in_err-get.ensures ∙ c.in_err-get.ensures.value ∙ ap (get own_key_cmp c.args.self.now.buckets) c.key_of_numbers.ensures
    ∙ sym (ap (λ (n : Option ℕ). numbered_bucket c.args.self.now n c.args.shared c.args.numbers) named)

pub returns : goal.returns
returns c =
    let named : name_number c.args.self.now (option_copied c.args.name) ≡ Some c.in_ok-number.number = sym c.number.ensures ∙ c.in_ok-number.was in
    c.in_ok-get.ensures.value ∙ ap (get own_key_cmp c.args.self.now.buckets) c.key_of_numbers.ensures
    ∙ sym (ap (λ (n : Option ℕ). numbered_bucket c.args.self.now n c.args.shared c.args.numbers) named)

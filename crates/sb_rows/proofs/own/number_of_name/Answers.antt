use Rattle.std.proofs.Common.{◌≡◌, List, ℕ, sym, subst}
use Rattle.std.specs.Prelude.{None}
use Rattle.std.specs.BTreeMap.{get}
use Rattle.std.specs.Cmp.Lexicographic.{slice_cmp}
use Rattle.std.specs.Ordering.{nat_cmp}
use Rattle.std.proofs.lemmas.Map.Lookups.{exact_bytes}
use Rattle.sb_rows.proofs.OwnBuckets.{entry_stays}
use Rattle.sb_rows.proofs.own.number_of_name.Goals as goal

pub returns-clause-kept : goal.returns-clause-kept
returns-clause-kept c other number was =
    let absent : get (slice_cmp nat_cmp) c.args.names.now c.in_ok-copy.field-0 ≡ None = subst (λ (n : List ℕ). get (slice_cmp nat_cmp) c.args.names.now n ≡ None) (sym c.in_ok-copy.ensures) (sym c.in_default.ensures.value) in
    entry_stays (slice_cmp nat_cmp) exact_bytes c.args.names.now c.insert.new.self c.in_ok-copy.field-0 other _ number absent (c.in_ok-insert.ensures.updates.0 other) was

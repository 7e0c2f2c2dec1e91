-- Buckets that nothing else shares.
use Rattle.std.specs.Prelude.{◌≡◌, ◌⊎◌, ℕ, List, Option, Some, None}
use Rattle.std.specs.BTreeMap.{get}
use Rattle.std.specs.Cmp.Lexicographic.{slice_cmp}
use Rattle.std.specs.Ordering.{nat_cmp, ordering_then}
use Rattle.std.specs.declared.cmp.Ordering.{Ordering}
use Rattle.sb_rows.specs.declared.asks.Asks.{Asks}
use Rattle.sb_rows.specs.declared.own.Own.{Own}
use Rattle.sb_rows.specs.inner.Asks.{bucket_of, name_of, numbers_of}
use Rattle.sb_rows.specs.inner.Filled.{pair_cmp}

-- what tells a bucket: the number of a name, the bucket that would be shared, and numbers
abbrev pub key_of_numbers : ℕ → ℕ → ℕ × ℕ × ℕ → (ℕ × ℕ) × (ℕ × (ℕ × ℕ))
key_of_numbers name shared numbers = ((name, shared), (numbers.0, (numbers.1, numbers.2)))

-- the order of these
abbrev pub own_key_cmp : (ℕ × ℕ) × (ℕ × (ℕ × ℕ)) → (ℕ × ℕ) × (ℕ × (ℕ × ℕ)) → Ordering
own_key_cmp one other = ordering_then (pair_cmp one.0 other.0) (ordering_then (nat_cmp one.1.0 other.1.0) (pair_cmp one.1.1 other.1.1))

-- the number of a name, if it has one; that of none is 0
abbrev pub name_number : Own → Option (List ℕ) → Option ℕ
name_number own None = Some 0
name_number own (Some name) = get (slice_cmp nat_cmp) own.names name

-- the bucket of the number of a name, if it has one, and of numbers, with the bucket that they would share
abbrev pub numbered_bucket : Own → Option ℕ → ℕ → ℕ × ℕ × ℕ → Option ℕ
numbered_bucket own None shared numbers = None
numbered_bucket own (Some name) shared numbers = get own_key_cmp own.buckets (key_of_numbers name shared numbers)

-- the bucket of a name, or of none, and of numbers, with the bucket that they would share
abbrev pub own_bucket : Own → Option (List ℕ) → ℕ → ℕ × ℕ × ℕ → Option ℕ
own_bucket own name shared numbers = numbered_bucket own (name_number own name) shared numbers

-- the bucket is that of what is asked, or the one that this has of its own
abbrev pub IsBucketOf : Own → Asks → ℕ → Type 0
IsBucketOf own asks bucket = (bucket ≡ bucket_of asks) ⊎ (own_bucket own (name_of asks.port) (bucket_of asks) (numbers_of asks) ≡ Some bucket)

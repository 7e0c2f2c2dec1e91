-- A map as the list of its entries, by the order of the keys.
use Rattle.std.specs.Prelude.{◌≡◌, List, [], ◌∷◌, Option, None, Some, false}
use Rattle.std.specs.declared.cmp.Ordering.{Ordering}
use Rattle.std.specs.declared.cmp.Ordering.TheVariants.{Less}
use Rattle.std.specs.Ordering.{is_lt, is_gt}
use Rattle.std.specs.Map.{keys_of, lookup, lookup_entry, remove_entry, set_value}
use Rattle.std.specs.BTreeMap.{insert_entry, is_at}
use Rattle.std.specs.List.Sorted.{IsStrictlySortedBy}

-- the first entry
abbrev pub first_entry : {K V : Type 0} → List (K × V) → Option (K × V)
first_entry [] = None
first_entry (entry ∷ entries) = Some entry

-- what a probe is to keys: below each key that is above one that it is not above
pub record PartsKeys {K : Type 0} (cmp : K → K → Ordering) (order : K → Ordering) : Type 0 where
  pub below : (a b : K) → cmp a b ≡ Less → is_gt (order a) ≡ false → order b ≡ Less

module _ {K V : Type 0} (order : K → Ordering) where
  -- the value at the key that a probe is equal to
  abbrev pub value_by : List (K × V) → Option V
  value_by entries = lookup (is_at order) entries

  -- the entry of that key
  abbrev pub entry_by : List (K × V) → Option (K × V)
  entry_by entries = lookup_entry (is_at order) entries

  -- without the entry of that key
  abbrev pub without_by : List (K × V) → List (K × V)
  without_by entries = remove_entry (is_at order) entries

  -- the entry of the least key that a probe is below
  abbrev pub entry_above : List (K × V) → Option (K × V)
  entry_above entries = lookup_entry (λ key. is_lt (order key)) entries

module _ {K V : Type 0} (cmp : K → K → Ordering) where
  -- the keys rise, so that none is there twice
  abbrev pub KeysRise : List (K × V) → Type 0
  KeysRise entries = IsStrictlySortedBy cmp (keys_of entries)

  -- the value at a key
  abbrev pub value_at : K → List (K × V) → Option V
  value_at key entries = lookup (is_at (cmp key)) entries

  -- the entry of a key
  abbrev pub entry_at : K → List (K × V) → Option (K × V)
  entry_at key entries = lookup_entry (is_at (cmp key)) entries

  -- with an entry more, at its place
  abbrev pub with_entry : K × V → List (K × V) → List (K × V)
  with_entry entry entries = insert_entry cmp entries entry.0 entry.1

  -- without the entry of a key
  abbrev pub without_key : K → List (K × V) → List (K × V)
  without_key key entries = remove_entry (is_at (cmp key)) entries

  -- with another value at a key
  abbrev pub with_value : K → V → List (K × V) → List (K × V)
  with_value key value entries = set_value (is_at (cmp key)) entries value

  -- the entry of the least key above one, or of the least key of all
  abbrev pub entry_after : Option K → List (K × V) → Option (K × V)
  entry_after None entries = first_entry entries
  entry_after (Some key) entries = lookup_entry (λ other. is_lt (cmp key other)) entries

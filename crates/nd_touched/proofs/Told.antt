-- The keys of entries, and those of others.
use Rattle.std.proofs.Common.{◌≡◌, ℕ, ◌≤◌, Bool, true, false, cond, ◌||◌, List, [], ◌∷◌, ◌++◌, Some, map, length, take, refl, ap, ◌∙◌}
use Rattle.std.specs.Prelude.{is_some}
use Rattle.std.proofs.lemmas.List.{take_all}
use Rattle.std.proofs.lemmas.List.Folds.{list_any-append}
use Rattle.std.specs.List.{list_any}
use Rattle.std.specs.Ordering.{is_eq}
use Rattle.std.specs.declared.cmp.Ordering.{Ordering}
use Rattle.nv_map.specs.Map.{value_at}
use Rattle.inc_feed.specs.Feed.{has_key}

module _ {K V : Type 0} (cmp : K → K → Ordering) where
  -- a key is among those of entries where these have a value at it
  pub key_there : (key : K) (entries : List (K × V)) → has_key cmp key (map (λ e. e.0) entries) ≡ is_some (value_at cmp key entries)
  key_there key [] = refl
  key_there key (x ∷ entries) = by (is_eq (cmp key x.0)) (key_there key entries)
    where
      by : (b : Bool) → has_key cmp key (map (λ e. e.0) entries) ≡ is_some (value_at cmp key entries) → (b || has_key cmp key (map (λ e. e.0) entries)) ≡ is_some (cond b (Some x.1) (value_at cmp key entries))
      by true rest = refl
      by false rest = rest

  pub key_of_both : (key : K) (keys all : List K) (entries : List (K × V)) (n : ℕ) → all ≡ keys ++ map (λ e. e.0) (take n entries) → length entries ≤ n
      → has_key cmp key all ≡ (has_key cmp key keys || is_some (value_at cmp key entries))
  key_of_both key keys all entries n is whole =
      ap (has_key cmp key) (is ∙ ap (λ l. keys ++ map (λ e. e.0) l) (take_all n entries whole))
      ∙ list_any-append (λ other. is_eq (cmp key other)) keys (map (λ e. e.0) entries)
      ∙ ap (λ b. has_key cmp key keys || b) (key_there key entries)

-- a key is among the first of pairs where one of these has it
pub first_of : {K V : Type 0} (cmp : K → K → Ordering) (key : K) (pairs : List (K × V)) → has_key cmp key (map (λ e. e.0) pairs) ≡ list_any (λ e. is_eq (cmp key e.0)) pairs
first_of cmp key [] = refl
first_of cmp key (x ∷ pairs) = ap (λ b. is_eq (cmp key x.0) || b) (first_of cmp key pairs)

pub owner_of_both : {K V : Type 0} (cmp : K → K → Ordering) (key : K) (keys all : List K) (pairs : List (K × V)) (n : ℕ) → all ≡ keys ++ map (λ e. e.0) (take n pairs) → length pairs ≤ n
    → has_key cmp key all ≡ (has_key cmp key keys || list_any (λ e. is_eq (cmp key e.0)) pairs)
owner_of_both cmp key keys all pairs n is whole =
    ap (has_key cmp key) (is ∙ ap (λ l. keys ++ map (λ e. e.0) l) (take_all n pairs whole))
    ∙ list_any-append (λ other. is_eq (cmp key other)) keys (map (λ e. e.0) pairs)
    ∙ ap (λ b. has_key cmp key keys || b) (first_of cmp key pairs)

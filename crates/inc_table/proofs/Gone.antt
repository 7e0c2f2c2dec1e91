-- Entries that an iterator goes through by rising key.
use Rattle.std.proofs.Common.{◌≡◌, Bool, true, false, cond, not, ◌&&◌, List, [], ◌∷◌, ◌++◌, map, refl, sym, ap, ◌∙◌, subst, None, Some, Option, Bor}
use Rattle.std.specs.Prelude.{filter}
use Rattle.std.specs.Iterator.{Yields}
use Rattle.std.specs.Map.{lookup_entry}
use Rattle.std.specs.Map.Iter.{TakesFirst, deref_pair}
use Rattle.std.specs.Option.{option_map}
use Rattle.std.specs.declared.cmp.Ordering.{Ordering}
use Rattle.std.proofs.lemmas.List.{map-append}
use Rattle.std.proofs.lemmas.Map.Iter.{rest_more, rest_so_far}
use Rattle.nv_map.specs.Map.{KeysRise}
use Rattle.nv_map.proofs.Parted.{pair_of}
use Rattle.nv_map.proofs.Rising.{rise_below}
use Rattle.inc_table.specs.Delta.{IsAbove}

and_true : (b : Bool) → (b && true) ≡ b
and_true true = refl
and_true false = refl

module _ {K V : Type 0} where
  -- what is gone through, the entry that comes, and what is left are all
  pub split_at : (all s t u : List (K × V)) (xs : List (Bor K × Bor V)) (r : Option (Bor K × Bor V)) (x : Bor K × Bor V) → s ≡ all → Yields (TakesFirst deref_pair) s xs t → r ≡ Some x → TakesFirst deref_pair t r u → all ≡ map deref_pair xs ++ deref_pair x ∷ u
  split_at all s t u xs r x start y is step = sym start ∙ rest_so_far deref_pair xs s t y ∙ ap (λ l. map deref_pair xs ++ l) (rest_more deref_pair t u r x is step)

  -- so the key of the entry that comes is above those gone through
  pub above_gone : (cmp : K → K → Ordering) (all u front : List (K × V)) (xs : List (Bor K × Bor V)) (x : Bor K × Bor V) (key : K) → KeysRise cmp all → all ≡ map deref_pair xs ++ deref_pair x ∷ u → front ≡ map deref_pair xs → key ≡ x.0.now → IsAbove cmp key front
  above_gone cmp all u front xs x key r split same is =
      subst (λ k. IsAbove cmp k front) (sym is) (subst (λ l. IsAbove cmp x.0.now l) (sym same) (rise_below cmp (map deref_pair xs) (deref_pair x) u (subst (KeysRise cmp) split r)))

  -- with a copy of it, they are copied too
  pub copied_more : (old new : List (K × V)) (xs : List (Bor K × Bor V)) (x : Bor K × Bor V) (key : K) (value : V) → old ≡ map deref_pair xs → key ≡ x.0.now → value ≡ x.1.now → new ≡ old ++ (key, value) ∷ [] → new ≡ map deref_pair (xs ++ x ∷ [])
  copied_more old new xs x key value same k v is = is ∙ ap (λ l. l ++ (key, value) ∷ []) same ∙ ap (λ (e : K × V). map deref_pair xs ++ e ∷ []) (pair_of k v) ∙ sym (map-append deref_pair xs (x ∷ []))

  -- the first entry of those whose keys pass
  first_kept : (p q : K → Bool) → ((k : K) → q k ≡ p k) → (l : List (K × V)) (r : Option (Bor K × Bor V)) (t : List (K × V)) → TakesFirst deref_pair (filter (λ e. q e.0) l) r t → option_map deref_pair r ≡ lookup_entry p l
  first_kept p q same [] None t step = refl
  first_kept p q same [] (Some x) t step = absurd (cc)
  first_kept p q same (e ∷ l) r t step = by (p e.0) (q e.0) (same e.0) step (first_kept p q same l r t)
    where
      here : (r : Option (Bor K × Bor V)) → TakesFirst deref_pair (e ∷ filter (λ x. q x.0) l) r t → option_map deref_pair r ≡ Some e
      here None step = let first = step.0 in absurd (cc)
      here (Some x) step = cc

      by : (a b : Bool) → b ≡ a → TakesFirst deref_pair (cond b (e ∷ filter (λ x. q x.0) l) (filter (λ x. q x.0) l)) r t → (TakesFirst deref_pair (filter (λ x. q x.0) l) r t → option_map deref_pair r ≡ lookup_entry p l) → option_map deref_pair r ≡ cond a (Some e) (lookup_entry p l)
      by true true c step rest = here r step
      by false false c step rest = rest step
      by true false c step rest = absurd (cc)
      by false true c step rest = absurd (cc)

  pub first_within : (p : K → Bool) (all s t : List (K × V)) (r : Option (Bor K × Bor V)) → s ≡ filter (λ e. p e.0 && not false) all → TakesFirst deref_pair s r t → option_map deref_pair r ≡ lookup_entry p all
  first_within p all s t r is step = first_kept p (λ k. p k && true) (λ k. and_true (p k)) all r t (subst (λ l. TakesFirst deref_pair l r t) is step)

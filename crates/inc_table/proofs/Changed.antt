-- A change of one key, told.
use Rattle.std.proofs.Common.{◌≡◌, Bool, true, List, [], ◌∷◌, ◌++◌, map, sym, ap, ◌∙◌, subst, Option, Bor, Result, Ok, Err, OnOk}
use Rattle.std.proofs.lemmas.List.{map-append}
use Rattle.std.proofs.lemmas.Map.Lookups.{CmpEqualImpliesEq}
use Rattle.std.specs.Cmp.{IsTotalOrder}
use Rattle.std.specs.Map.Iter.{deref_pair}
use Rattle.std.specs.declared.cmp.Ordering.{Ordering}
use Rattle.std.specs.declared.cmp.Ordering.TheVariants.{Less}
use Rattle.nv_map.specs.Map.{value_at}
use Rattle.nv_map.proofs.Parted.{pair_of}
use Rattle.inc_table.specs.declared.delta.Change.{Change}
use Rattle.inc_table.specs.declared.delta.Change.TheVariants.{Put}
use Rattle.inc_table.specs.Delta.{change_between, change_to, puts_of, told_at, IsAbove, IsApplied, IsDifference}
use Rattle.inc_table.proofs.Ends.{above_append, above_more}
use Rattle.inc_table.proofs.Outputs.{left_to}
use Rattle.inc_table.proofs.Told.{difference_applied, told_above}

module _ {K V : Type 0} {cmp : K → K → Ordering} (o : IsTotalOrder cmp) (eq : V → V → Bool) where
  -- what told all that changed before tells all that changed after
  pub still_told : CmpEqualImpliesEq cmp → ((a b : V) → eq a b ≡ true → a ≡ b) → (old new : List (K × V)) (told more : List (K × Change V)) (q : K) (value : Option V) → IsAbove cmp q told → IsApplied cmp ((q, change_to value) ∷ []) old new
      → more ≡ told ++ told_at q (change_between eq (value_at cmp q old) value) → (first : List (K × V)) → IsDifference cmp eq first old told → IsDifference cmp eq first new more
  still_told exact tells old new told more q value above applied is first so_far =
      subst (λ d. IsDifference cmp eq first new d) (sym is) (difference_applied o eq exact tells told q (change_to value) value first old new (left_to value) above so_far applied)

  -- a key above this one is above all that was told
  pub still_above : (told more : List (K × Change V)) (q : K) (change : Option (Change V)) → IsAbove cmp q told → more ≡ told ++ told_at q change → (next : K) → cmp q next ≡ Less → IsAbove cmp next more
  still_above told more q change above is next less = subst (λ d. IsAbove cmp next d) (sym is) (above_append cmp next told (told_at q change) (above_more cmp o q next told less above) (told_above cmp q next change less))

-- the delta that puts all of some entries, one more
pub puts_above : {K V : Type 0} (cmp : K → K → Ordering) (q : K) (l : List (K × V)) → IsAbove cmp q l → IsAbove cmp q (puts_of l)
puts_above cmp q [] a = tt
puts_above cmp q (x ∷ l) a = (a.0, puts_above cmp q l a.1)

pub puts_more : {K V : Type 0} (old new : List (K × Change V)) (xs : List (Bor K × Bor V)) (x : Bor K × Bor V) (key : K) (value : V) → old ≡ puts_of (map deref_pair xs) → key ≡ x.0.now → value ≡ x.1.now → new ≡ old ++ (key, Put value) ∷ [] → new ≡ puts_of (map deref_pair (xs ++ x ∷ []))
puts_more {K} {V} old new xs x key value same k v is =
    is ∙ ap (λ l. l ++ (key, Put value) ∷ []) same ∙ ap (λ (e : K × V). puts_of (map deref_pair xs) ++ (e.0, Put e.1) ∷ []) (pair_of k v)
    ∙ sym (map-append (λ (e : K × V). (e.0, Put e.1)) (map deref_pair xs) (deref_pair x ∷ [])) ∙ sym (ap puts_of (map-append deref_pair xs (x ∷ [])))

-- the same, where the call that tells it is done
module _ {K V T E : Type 0} {cmp : K → K → Ordering} (o : IsTotalOrder cmp) (eq : V → V → Bool) where
  pub told_where_done : CmpEqualImpliesEq cmp → ((a b : V) → eq a b ≡ true → a ≡ b) → (r : Result T E) (old new : List (K × V)) (told more : List (K × Change V)) (q : K) (value : Option V) → IsAbove cmp q told → OnOk r (IsApplied cmp ((q, change_to value) ∷ []) old new)
      → OnOk r (more ≡ told ++ told_at q (change_between eq (value_at cmp q old) value)) → OnOk r ((first : List (K × V)) → IsDifference cmp eq first old told → IsDifference cmp eq first new more)
  told_where_done exact tells (Ok x) old new told more q value above applied is = still_told o eq exact tells old new told more q value above applied is
  told_where_done exact tells (Err e) old new told more q value above applied is = tt

  pub above_where_done : (r : Result T E) (told more : List (K × Change V)) (q : K) (change : Option (Change V)) → IsAbove cmp q told → OnOk r (more ≡ told ++ told_at q change) → OnOk r ((next : K) → cmp q next ≡ Less → IsAbove cmp next more)
  above_where_done (Ok x) told more q change above is = still_above o eq told more q change above is
  above_where_done (Err e) told more q change above is = tt

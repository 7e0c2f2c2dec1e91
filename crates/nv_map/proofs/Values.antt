-- The value and the entry at a key after each change, where the order's laws hold.
use Rattle.std.proofs.Common.{◌≡◌, Bool, true, false, cond, List, [], ◌∷◌, refl, sym, ap, ◌∙◌, None, Some, Option}
use Rattle.std.proofs.lemmas.Bool.{false≢true}
use Rattle.std.proofs.lemmas.Cmp.{eq_by_cmp_equiv, tied_itself}
use Rattle.std.proofs.lemmas.Map.{lookup-remove_entry, lookup-set_value}
use Rattle.std.proofs.lemmas.Map.Keys.{IsDistinct-from_sorted}
use Rattle.std.proofs.lemmas.Map.Lookups.{CmpEqualImpliesEq}
use Rattle.std.specs.BTreeMap.{is_at}
use Rattle.std.specs.Cmp.{IsTotalOrder, Equal-is}
use Rattle.std.specs.Map.{keys_of}
use Rattle.std.specs.Option.{IsSome, option_map}
use Rattle.std.specs.Ordering.{is_eq, eq_by_cmp, match_ordering}
use Rattle.std.specs.declared.cmp.Ordering.{Ordering}
use Rattle.std.specs.declared.cmp.Ordering.TheVariants.{Less, Equal, Greater}
use Rattle.nv_map.specs.Map.{KeysRise, value_at, entry_at, with_entry, without_key, with_value}
use Rattle.nv_map.proofs.Rising.{turned_back}

-- Keys that compare as equal are one key, where those equal by `==` are, as in `Kept`.
pub exact_order : {K : Type 0} (eq : K → K → Bool) (cmp : K → K → Ordering) → ((x y : K) → eq x y ≡ eq_by_cmp cmp x y) → ((x y : K) → eq x y ≡ true → x ≡ y) → CmpEqualImpliesEq cmp
exact_order eq cmp alike exact x y e = exact x y (alike x y ∙ ap is_eq e)

pub apart_by : {K : Type 0} {cmp : K → K → Ordering} → CmpEqualImpliesEq cmp → (k q : K) → (q ≡ k → ⊥) → is_eq (cmp k q) ≡ false
apart_by {K} {cmp} exact k q apart = by (cmp k q) refl
  where
    by : (r : Ordering) → cmp k q ≡ r → is_eq r ≡ false
    by Less e = refl
    by Equal e = absurd (apart (sym (exact k q e)))
    by Greater e = refl

same_twice : {A : Type 0} (b : Bool) (s t : Option A) (r : Option A) → cond b s r ≡ cond b s (cond b t r)
same_twice true s t r = refl
same_twice false s t r = refl

other_way : {A : Type 0} (a b : Bool) (s t r : Option A) → (a ≡ true → b ≡ true → ⊥) → cond a s (cond b t r) ≡ cond b t (cond a s r)
other_way true true s t r not_both = absurd (not_both refl refl)
other_way true false s t r not_both = refl
other_way false true s t r not_both = refl
other_way false false s t r not_both = refl

module _ {K : Type 0} {cmp : K → K → Ordering} (o : IsTotalOrder cmp) where
  flipped : (x y : K) → is_eq (cmp x y) ≡ is_eq (cmp y x)
  flipped x y = (eq_by_cmp_equiv o).symm x y

  not_both : (k x q : K) → cmp k x ≡ Greater → is_eq (cmp q x) ≡ true → is_eq (cmp k q) ≡ true → ⊥
  not_both k x q c e f =
      let below : cmp q k ≡ Less = o.congr q x k ((Equal-is (cmp q x)).0 e) ∙ turned_back o k x c in
      false≢true (sym (ap is_eq below) ∙ flipped q k ∙ f)

module _ {K V : Type 0} {cmp : K → K → Ordering} (o : IsTotalOrder cmp) where
  put_value : (q : K) (e x : K × V) (l : List (K × V)) (r : Ordering) → cmp e.0 x.0 ≡ r
      → value_at cmp q (with_entry cmp e l) ≡ cond (is_eq (cmp e.0 q)) (Some e.1) (value_at cmp q l)
      → value_at cmp q (match_ordering r (e ∷ x ∷ l) ((x.0, e.1) ∷ l) (x ∷ with_entry cmp e l)) ≡ cond (is_eq (cmp e.0 q)) (Some e.1) (value_at cmp q (x ∷ l))
  put_value q e x l Less c rest = ap (λ b. cond b (Some e.1) (value_at cmp q (x ∷ l))) (flipped o q e.0)
  put_value q e x l Equal c rest =
      let alike : is_eq (cmp q x.0) ≡ is_eq (cmp e.0 q) = flipped o q x.0 ∙ sym (ap is_eq (o.congr e.0 x.0 q c)) in
      same_twice (is_eq (cmp q x.0)) (Some e.1) (Some x.1) (value_at cmp q l) ∙ ap (λ b. cond b (Some e.1) (value_at cmp q (x ∷ l))) alike
  put_value q e x l Greater c rest =
      ap (cond (is_eq (cmp q x.0)) (Some x.1)) rest
      ∙ other_way (is_eq (cmp q x.0)) (is_eq (cmp e.0 q)) (Some x.1) (Some e.1) (value_at cmp q l) (not_both o e.0 x.0 q c)

  pub value_with_entry : (q : K) (e : K × V) (l : List (K × V)) → value_at cmp q (with_entry cmp e l) ≡ cond (is_eq (cmp e.0 q)) (Some e.1) (value_at cmp q l)
  value_with_entry q e [] = ap (λ b. cond b (Some e.1) None) (flipped o q e.0)
  value_with_entry q e (x ∷ l) = put_value q e x l (cmp e.0 x.0) refl (value_with_entry q e l)

  pub value_without_key : (q k : K) (l : List (K × V)) → KeysRise cmp l → value_at cmp q (without_key cmp k l) ≡ cond (is_eq (cmp k q)) None (value_at cmp q l)
  value_without_key q k l r = lookup-remove_entry (eq_by_cmp_equiv o) (is_at (cmp k)) ((eq_by_cmp_equiv o).congr k) q l (IsDistinct-from_sorted cmp (keys_of l) r)

  pub value_with_value : (q k : K) (v : V) (l : List (K × V)) → IsSome (value_at cmp k l) → value_at cmp q (with_value cmp k v l) ≡ cond (is_eq (cmp k q)) (Some v) (value_at cmp q l)
  value_with_value q k v l there = lookup-set_value (eq_by_cmp_equiv o) (is_at (cmp k)) ((eq_by_cmp_equiv o).congr k) q v l there

  -- at that key
  pub value_put : (e : K × V) (l : List (K × V)) → value_at cmp e.0 (with_entry cmp e l) ≡ Some e.1
  value_put e l = value_with_entry e.0 e l ∙ ap (λ q. cond (is_eq q) (Some e.1) (value_at cmp e.0 l)) (tied_itself o e.0)

  pub value_taken : (k : K) (l : List (K × V)) → KeysRise cmp l → value_at cmp k (without_key cmp k l) ≡ None
  value_taken k l r = value_without_key k k l r ∙ ap (λ q. cond (is_eq q) None (value_at cmp k l)) (tied_itself o k)

  pub value_exchanged : (k : K) (v : V) (l : List (K × V)) → IsSome (value_at cmp k l) → value_at cmp k (with_value cmp k v l) ≡ Some v
  value_exchanged k v l there = value_with_value k k v l there ∙ ap (λ q. cond (is_eq q) (Some v) (value_at cmp k l)) (tied_itself o k)

  -- at any other
  module _ (exact : CmpEqualImpliesEq cmp) where
    pub other_value_put : (q : K) (e : K × V) (l : List (K × V)) → (q ≡ e.0 → ⊥) → value_at cmp q (with_entry cmp e l) ≡ value_at cmp q l
    other_value_put q e l apart = value_with_entry q e l ∙ ap (λ b. cond b (Some e.1) (value_at cmp q l)) (apart_by exact e.0 q apart)

    pub other_value_taken : (q k : K) (l : List (K × V)) → KeysRise cmp l → (q ≡ k → ⊥) → value_at cmp q (without_key cmp k l) ≡ value_at cmp q l
    other_value_taken q k l r apart = value_without_key q k l r ∙ ap (λ b. cond b None (value_at cmp q l)) (apart_by exact k q apart)

    pub other_value_exchanged : (q k : K) (v : V) (l : List (K × V)) → IsSome (value_at cmp k l) → (q ≡ k → ⊥) → value_at cmp q (with_value cmp k v l) ≡ value_at cmp q l
    other_value_exchanged q k v l there apart = value_with_value q k v l there ∙ ap (λ b. cond b (Some v) (value_at cmp q l)) (apart_by exact k q apart)

module _ {K V : Type 0} (cmp : K → K → Ordering) where
  -- the entry of a key is the key with its value
  pub value_of_entry : (k : K) (l : List (K × V)) → value_at cmp k l ≡ option_map (λ (e : K × V). e.1) (entry_at cmp k l)
  value_of_entry k [] = refl
  value_of_entry k (x ∷ l) = ap (cond (is_eq (cmp k x.0)) (Some x.1)) (value_of_entry k l) ∙ by (is_eq (cmp k x.0)) (entry_at cmp k l)
    where
      by : (b : Bool) (f : Option (K × V)) → cond b (Some x.1) (option_map (λ (e : K × V). e.1) f) ≡ option_map (λ (e : K × V). e.1) (cond b (Some x) f)
      by true f = refl
      by false f = refl

  pub entry_of_value : CmpEqualImpliesEq cmp → (k : K) (l : List (K × V)) → entry_at cmp k l ≡ option_map (λ (v : V). (k, v)) (value_at cmp k l)
  entry_of_value exact k [] = refl
  entry_of_value exact k (x ∷ l) = by (cmp k x.0) refl (entry_of_value exact k l)
    where
      by : (q : Ordering) → cmp k x.0 ≡ q → entry_at cmp k l ≡ option_map (λ (v : V). (k, v)) (value_at cmp k l) → cond (is_eq q) (Some x) (entry_at cmp k l) ≡ option_map (λ (v : V). (k, v)) (cond (is_eq q) (Some x.1) (value_at cmp k l))
      by Less e rest = rest
      by Equal e rest = ap (λ (y : K). Some (y, x.1)) (sym (exact k x.0 e))
      by Greater e rest = rest

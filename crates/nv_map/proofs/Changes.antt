-- Keys rise after each change.
use Rattle.std.proofs.Common.{◌≡◌, Bool, true, false, cond, List, [], ◌∷◌, refl, sym, ap, subst}
use Rattle.std.proofs.lemmas.Map.{keys-set_value}
use Rattle.std.specs.Cmp.{IsTotalOrder}
use Rattle.std.specs.List.{AllByRecursion}
use Rattle.std.specs.List.Sorted.{IsStrictlySortedBy}
use Rattle.std.specs.Map.{keys_of, remove_entry}
use Rattle.std.specs.BTreeMap.{is_at}
use Rattle.std.specs.Ordering.{is_gt, match_ordering}
use Rattle.std.specs.declared.cmp.Ordering.{Ordering}
use Rattle.std.specs.declared.cmp.Ordering.TheVariants.{Less, Equal, Greater}
use Rattle.nv_map.specs.Map.{KeysRise, with_entry, without_key, with_value, without_by}
use Rattle.nv_map.specs.inner.Keys.{keys_part}
use Rattle.nv_map.proofs.Rising.{turned_back, short}

module _ {K V : Type 0} where
  gone_by : (P : K → Type 0) (b : Bool) (x : K × V) (l m : List (K × V)) → P x.0 → AllByRecursion P (keys_of l) → AllByRecursion P (keys_of m) → AllByRecursion P (keys_of (cond b l (x ∷ m)))
  gone_by P true x l m p a n = a
  gone_by P false x l m p a n = (p, n)

  -- what holds of each key holds of those that are left
  pub all_without : (P : K → Type 0) (test : K → Bool) (l : List (K × V)) → AllByRecursion P (keys_of l) → AllByRecursion P (keys_of (remove_entry test l))
  all_without P test [] a = tt
  all_without P test (x ∷ l) a = gone_by P (test x.0) x l (remove_entry test l) a.0 a.1 (all_without P test l a.1)

  module _ (cmp : K → K → Ordering) where
    rise_gone : (b : Bool) (x : K × V) (l m : List (K × V)) → KeysRise cmp l → AllByRecursion (λ y. cmp x.0 y ≡ Less) (keys_of m) → KeysRise cmp m → KeysRise cmp (cond b l (x ∷ m))
    unfolding IsStrictlySortedBy
    rise_gone true x l m r a n = r
    rise_gone false x l m r a n = (a, n)

    rise_without : (test : K → Bool) (l : List (K × V)) → KeysRise cmp l → KeysRise cmp (remove_entry test l)
    unfolding IsStrictlySortedBy
    rise_without test [] r = tt
    rise_without test (x ∷ l) r = rise_gone (test x.0) x l (remove_entry test l) r.1 (all_without _ test l r.0) (rise_without test l r.1)

    pub rise_without_by : (order : K → Ordering) (l : List (K × V)) → KeysRise cmp l → KeysRise cmp (without_by order l)
    rise_without_by order l r = rise_without (is_at order) l r

    pub rise_without_key : (k : K) (l : List (K × V)) → KeysRise cmp l → KeysRise cmp (without_key cmp k l)
    rise_without_key k l r = rise_without (is_at (cmp k)) l r

    pub rise_with_value : (k : K) (v : V) (l : List (K × V)) → KeysRise cmp l → KeysRise cmp (with_value cmp k v l)
    rise_with_value k v l r = subst (IsStrictlySortedBy cmp) (sym (keys-set_value (is_at (cmp k)) l v)) r

    put_by : (P : K → Type 0) (q : Ordering) (e x : K × V) (l m : List (K × V)) → P e.0 → P x.0 → AllByRecursion P (keys_of l) → AllByRecursion P (keys_of m) → AllByRecursion P (keys_of (match_ordering q (e ∷ x ∷ l) ((x.0, e.1) ∷ l) (x ∷ m)))
    put_by P Less e x l m p q a b = (p, (q, a))
    put_by P Equal e x l m p q a b = (q, a)
    put_by P Greater e x l m p q a b = (q, b)

    -- what holds of each key, and of the new one, holds of all
    pub all_with : (P : K → Type 0) (e : K × V) (l : List (K × V)) → P e.0 → AllByRecursion P (keys_of l) → AllByRecursion P (keys_of (with_entry cmp e l))
    all_with P e [] p a = (p, tt)
    all_with P e (x ∷ l) p a = put_by P (cmp e.0 x.0) e x l (with_entry cmp e l) p a.0 a.1 (all_with P e l p a.1)

  module _ {cmp : K → K → Ordering} (o : IsTotalOrder cmp) where
    rise_put : (q : Ordering) (e x : K × V) (l : List (K × V)) → cmp e.0 x.0 ≡ q → KeysRise cmp (x ∷ l) → KeysRise cmp (with_entry cmp e l) → KeysRise cmp (match_ordering q (e ∷ x ∷ l) ((x.0, e.1) ∷ l) (x ∷ with_entry cmp e l))
    unfolding IsStrictlySortedBy
    rise_put Less e x l c r n = ((c, short (keys_part o e.0) [] x l r (ap is_gt c)), r)
    rise_put Equal e x l c r n = r
    rise_put Greater e x l c r n = (all_with cmp _ e l (turned_back o e.0 x.0 c) r.0, n)

    pub rise_with_entry : (e : K × V) (l : List (K × V)) → KeysRise cmp l → KeysRise cmp (with_entry cmp e l)
    unfolding IsStrictlySortedBy
    rise_with_entry e [] r = (tt, tt)
    rise_with_entry e (x ∷ l) r = rise_put (cmp e.0 x.0) e x l refl r (rise_with_entry e l r.1)

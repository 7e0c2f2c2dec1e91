-- Numbers of records with their owners, as they are kept, found and asked for.
use Rattle.std.proofs.Common.{◌≡◌, Bool, true, false, cond, ◌&&◌, ◌||◌, List, [], ◌∷◌, map, refl, sym, ap, ◌∙◌}
use Rattle.std.specs.Prelude.{◌<◌, Option, None, Some, filter, is_some}
use Rattle.std.specs.Cmp.{nat_cmp_is}
use Rattle.std.specs.List.{AllByRecursion, list_any}
use Rattle.std.specs.List.Sorted.{IsStrictlySortedBy}
use Rattle.std.specs.Map.{keys_of}
use Rattle.std.specs.Option.{option_map}
use Rattle.std.specs.Ordering.{is_eq}
use Rattle.std.specs.declared.cmp.Ordering.TheVariants.{Less}
use Rattle.nv_base.specs.contracts.object.ObjIdPartialEq.TheImpl as number_eq
use Rattle.nv_base.specs.declared.object.ObjId.{ObjId}
use Rattle.nv_base.specs.inner.Exact.{object}
use Rattle.nv_map.specs.Map.{KeysRise, first_entry, value_at}
use Rattle.nv_table.specs.Table.{NumbersRise, record_of}
use Rattle.nv_table.proofs.Undone.{number_total}
use Rattle.inc_table.specs.Delta.{IsDifference}
use Rattle.inc_table.specs.declared.delta.Change.{Change}
use Rattle.inc_table.proofs.Applied.{same_lists}
use Rattle.inc_table.proofs.Told.{same_between}
use Rattle.net_units.specs.Keys.{by_number}
use Rattle.net_units.proofs.Distinct.{number_exact}
use Rattle.nd_inputs.proofs.Any.{any_kept}
use Rattle.nd_touched.proofs.Stay.{passing, passing_rise, record_passing, value_given}
use Rattle.nd_owners.specs.Owners.{HasFirstOfEach, with_owners}
use Rattle.nd_owners.specs.inner.Found.{owner_where}

over_passing : {A B : Type 0} (f : A → B) (b : Bool) (x : A) → option_map f (cond b (Some x) None) ≡ cond b (Some (f x)) None
over_passing f true x = refl
over_passing f false x = refl

first_where : {K V : Type 0} (q : K × V → Bool) (xs : List (K × V)) → is_some (option_map (λ (e : K × V). e.0) (first_entry (filter q xs))) ≡ list_any q xs
first_where q [] = refl
first_where {K} {V} q (x ∷ xs) = by (q x) (first_where q xs)
  where
    by : (b : Bool) → is_some (option_map (λ (e : K × V). e.0) (first_entry (filter q xs))) ≡ list_any q xs
        → is_some (option_map (λ (e : K × V). e.0) (first_entry (cond b (x ∷ filter q xs) (filter q xs)))) ≡ (b || list_any q xs)
    by true rest = refl
    by false rest = rest

any_given : {X Y : Type 0} (f : X → Y) (q : Y → Bool) (xs : List X) → list_any q (map f xs) ≡ list_any (λ x. q (f x)) xs
any_given f q [] = refl
any_given f q (x ∷ xs) = ap (λ b. q (f x) || b) (any_given f q xs)

module _ {R : Type 0} (number owner : R → ObjId) (passes : R → Bool) where
  -- what is kept of a record
  pub owner_at : (rs : List R) → NumbersRise number rs → (n : ObjId) → value_at by_number n (with_owners number owner passes rs) ≡ owner_where owner passes (record_of number n rs)
  owner_at rs rise n = value_given number owner n (filter passes rs) ∙ ap (option_map owner) (record_passing number passes n rs rise) ∙ by (record_of number n rs)
    where
      by : (o : Option R) → option_map owner (passing passes o) ≡ owner_where owner passes o
      by None = refl
      by (Some r) = over_passing owner (passes r) r

  all_less : (low : ObjId) (rs : List R) → AllByRecursion (λ x. low.0 < (number x).0) rs → AllByRecursion (λ x. by_number low x ≡ Less) (keys_of (map (λ r. (number r, owner r)) rs))
  all_less low [] a = tt
  all_less low (r ∷ rs) a = (sym (nat_cmp_is low.0 (number r).0 Less a.0), all_less low rs a.1)

  given_rise : (rs : List R) → NumbersRise number rs → KeysRise by_number (map (λ r. (number r, owner r)) rs)
  unfolding IsStrictlySortedBy
  given_rise [] rise = tt
  given_rise (r ∷ rs) rise = (all_less (number r) rs rise.0, given_rise rs rise.1)

  -- the entries that are kept are those numbers, in their order
  kept_whole : (rs : List R) (entries : List (ObjId × ObjId)) → NumbersRise number rs → KeysRise by_number entries → ((n : ObjId) → value_at by_number n entries ≡ value_at by_number n (with_owners number owner passes rs)) → entries ≡ with_owners number owner passes rs
  kept_whole rs entries rise keys has = same_lists number_total number_exact entries (with_owners number owner passes rs) keys (given_rise (filter passes rs) (passing_rise number passes rs rise)) has

  -- an owner has a record that passes where the table has a first one of it
  pub first_there : (rs : List R) (entries table : List (ObjId × ObjId)) → NumbersRise number rs → HasFirstOfEach (with_owners number owner passes rs) entries table → (n : ObjId)
      → list_any (λ r. passes r && (is_eq (by_number n (owner r)) || false)) rs ≡ is_some (value_at by_number n table)
  first_there rs entries table rise kept n =
      sym (any_kept passes (λ r. is_eq (by_number n (owner r)) || false) rs)
      ∙ sym (any_given (λ r. (number r, owner r)) (λ e. is_eq (by_number n e.1) || false) (filter passes rs))
      ∙ sym (ap (list_any (λ (e : ObjId × ObjId). is_eq (by_number n e.1) || false)) (kept_whole rs entries rise kept.rise kept.units))
      ∙ sym (first_where (λ (e : ObjId × ObjId). is_eq (by_number n e.1) || false) entries)
      ∙ sym (ap is_some (kept.firsts.1 n))

-- ---- what is not among the keys

pub neither : (a b c : Bool) → c ≡ (a || b) → c ≡ false → (a ≡ false) × (b ≡ false)
neither false false c is not = (refl, refl)
neither true b c is not = absurd (cc)
neither false true c is not = absurd (cc)

none_where : {A : Type 0} (o : Option A) → is_some o ≡ false → o ≡ None
none_where None e = refl
none_where (Some a) e = absurd (cc)

-- where no change is told of a number, what is there is as it was
pub first_stays : (was now : List (ObjId × ObjId)) (changed : List (ObjId × Change ObjId)) → IsDifference by_number (number_eq.ghosts).eq was now changed → (n : ObjId) → is_some (value_at by_number n changed) ≡ false
    → value_at by_number n was ≡ value_at by_number n now
first_stays was now changed differs n not =
    same_between (number_eq.ghosts).eq object (value_at by_number n was) (value_at by_number n now) (sym (differs n) ∙ none_where (value_at by_number n changed) not)

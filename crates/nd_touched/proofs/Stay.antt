-- Records that stay where they are not touched, and the lists of those that pass a test.
use Rattle.std.proofs.Common.{◌≡◌, ℕ, Bool, true, false, cond, List, [], ◌∷◌, refl, sym, ap, ◌∙◌}
use Rattle.std.specs.Prelude.{◌<◌, Option, None, Some, filter, map}
use Rattle.std.specs.List.{AllByRecursion}
use Rattle.std.specs.Option.{option_map}
use Rattle.std.proofs.lemmas.Bool.{eqb-true}
use Rattle.std.specs.Cmp.{unsigned_tied}
use Rattle.nv_base.specs.declared.object.ObjId.{ObjId}
use Rattle.nb_store.specs.Touched.{AreAlikeBut}
use Rattle.nv_map.specs.Map.{value_at}
use Rattle.nv_table.specs.Table.{NumbersRise, has_number, record_of, unkeyed}
use Rattle.nv_table.specs.inner.Index.{keyed}
use Rattle.nv_table.proofs.Keyed.{above_apart, keys_rise, unkeyed_keyed, value_keyed}
use Rattle.nv_table.proofs.Undone.{number_total}
use Rattle.inc_table.proofs.Applied.{same_lists}
use Rattle.net_units.specs.Keys.{by_number}
use Rattle.net_units.proofs.Distinct.{number_exact}

over_cond : {A B : Type 0} (f : A → B) (b : Bool) (x : A) (o : Option A) → cond b (Some (f x)) (option_map f o) ≡ option_map f (cond b (Some x) o)
over_cond f true x o = refl
over_cond f false x o = refl

-- what is found, where it passes
abbrev pub passing : {R : Type 0} → (R → Bool) → Option R → Option R
passing p None = None
passing p (Some r) = cond (p r) (Some r) None

module _ {R : Type 0} (number : R → ObjId) where
  -- lists with the same record of each number are one
  pub same_records : (a b : List R) → NumbersRise number a → NumbersRise number b → ((n : ObjId) → record_of number n a ≡ record_of number n b) → a ≡ b
  same_records a b rise rise' same =
      sym (unkeyed_keyed number a)
      ∙ ap unkeyed (same_lists number_total number_exact (keyed number a) (keyed number b) (keys_rise number a rise) (keys_rise number b rise') (λ n. value_keyed number n a ∙ same n ∙ sym (value_keyed number n b)))
      ∙ unkeyed_keyed number b

  none_apart : (n : ObjId) (rs : List R) → AllByRecursion (λ r. has_number number n r ≡ false) rs → record_of number n rs ≡ None
  none_apart n [] apart = refl
  none_apart n (r ∷ rs) apart = ap (λ b. cond b (Some r) (record_of number n rs)) apart.0 ∙ none_apart n rs apart.1

  none_above : (n : ObjId) (r : R) (rs : List R) → has_number number n r ≡ true → AllByRecursion (λ x. (number r).0 < (number x).0) rs → record_of number n rs ≡ None
  none_above n r rs is above = none_apart n rs (above_apart number n (number r).0 (eqb-true n.0 (number r).0 is) rs above)

  -- the record of a number among those that pass
  pub record_passing : (p : R → Bool) (n : ObjId) (rs : List R) → NumbersRise number rs → record_of number n (filter p rs) ≡ passing p (record_of number n rs)
  record_passing p n [] rise = refl
  record_passing p n (r ∷ rs) rise = by (has_number number n r) (p r) refl refl (record_passing p n rs rise.1)
    where
      by : (is passes : Bool) → has_number number n r ≡ is → p r ≡ passes → record_of number n (filter p rs) ≡ passing p (record_of number n rs)
          → record_of number n (cond passes (r ∷ filter p rs) (filter p rs)) ≡ passing p (cond is (Some r) (record_of number n rs))
      by true true here passes rest = ap (λ b. cond b (Some r) (record_of number n (filter p rs))) here ∙ ap (λ b. cond b (Some r) None) (sym passes)
      by false true here passes rest = ap (λ b. cond b (Some r) (record_of number n (filter p rs))) here ∙ rest
      by true false here passes rest = rest ∙ ap (passing p) (none_above n r rs here rise.0) ∙ ap (λ b. cond b (Some r) None) (sym passes)
      by false false here passes rest = rest

  filter_above : (p : R → Bool) (low : ℕ) (rs : List R) → AllByRecursion (λ x. low < (number x).0) rs → AllByRecursion (λ x. low < (number x).0) (filter p rs)
  filter_above p low [] above = tt
  filter_above p low (r ∷ rs) above = by (p r) (filter_above p low rs above.1)
    where
      by : (b : Bool) → AllByRecursion (λ x. low < (number x).0) (filter p rs) → AllByRecursion (λ x. low < (number x).0) (cond b (r ∷ filter p rs) (filter p rs))
      by true rest = (above.0, rest)
      by false rest = rest

  pub passing_rise : (p : R → Bool) (rs : List R) → NumbersRise number rs → NumbersRise number (filter p rs)
  passing_rise p [] rise = tt
  passing_rise p (r ∷ rs) rise = by (p r) (passing_rise p rs rise.1)
    where
      by : (b : Bool) → NumbersRise number (filter p rs) → NumbersRise number (cond b (r ∷ filter p rs) (filter p rs))
      by true rest = (filter_above p (number r).0 rs rise.0, rest)
      by false rest = rest

  -- those that pass are the same in two lists where each record that passes in one of them is in the other too
  pub same_passing : (p : R → Bool) (old new : List R) → NumbersRise number old → NumbersRise number new
      → ((n : ObjId) → passing p (record_of number n old) ≡ passing p (record_of number n new)) → filter p old ≡ filter p new
  same_passing p old new rise rise' same =
      same_records (filter p old) (filter p new) (passing_rise p old rise) (passing_rise p new rise')
      (λ n. record_passing p n old rise ∙ same n ∙ sym (record_passing p n new rise'))

  -- what each record gives, by its number
  pub value_given : {I : Type 0} (give : R → I) (n : ObjId) (rs : List R) → value_at by_number n (map (λ r. (number r, give r)) rs) ≡ option_map give (record_of number n rs)
  value_given give n [] = refl
  value_given give n (r ∷ rs) =
      ap (λ b. cond b (Some (give r)) (value_at by_number n (map (λ x. (number x, give x)) rs))) (unsigned_tied n.0 (number r).0)
      ∙ ap (cond (has_number number n r) (Some (give r))) (value_given give n rs)
      ∙ over_cond give (has_number number n r) r (record_of number n rs)

  -- what a record that stays gives stays
  pub given_stays : {I : Type 0} (give : R → I) (old new : List R) (n : ObjId) → record_of number n old ≡ record_of number n new → value_at by_number n (map (λ r. (number r, give r)) old) ≡ value_at by_number n (map (λ r. (number r, give r)) new)
  given_stays give old new n same = value_given give n old ∙ ap (option_map give) same ∙ sym (value_given give n new)

  -- what the record that is found gives, in the list in which it is looked for
  pub found_gives : {I : Type 0} (give : R → I) (n : ObjId) (rs list : List R) (found : Option R) → found ≡ record_of number n list → list ≡ rs → option_map give found ≡ value_at by_number n (map (λ r. (number r, give r)) rs)
  found_gives give n rs list found is same = ap (option_map give) (is ∙ ap (record_of number n) same) ∙ sym (value_given give n rs)

  -- a record is there, or none is, where two are alike but for what they list
  pub there_stays : {S : Type 0} (moved : ObjId → Type 0) (lists : R → List ObjId) (rest : R → S) (old new : List R) (n : ObjId) → AreAlikeBut moved lists rest (record_of number n old) (record_of number n new)
      → value_at by_number n (map (λ r. (number r, tt {0})) old) ≡ value_at by_number n (map (λ r. (number r, tt {0})) new)
  there_stays {S} moved lists rest old new n alike = value_given (λ r. tt) n old ∙ by (record_of number n old) (record_of number n new) alike ∙ sym (value_given (λ r. tt) n new)
    where
      by : (a b : Option R) → AreAlikeBut moved lists rest a b → option_map (λ (r : R). tt {0}) a ≡ option_map (λ (r : R). tt {0}) b
      by None None alike = refl
      by (Some a) (Some b) alike = refl
      by None (Some b) alike = absurd alike
      by (Some a) None alike = absurd alike

-- How many records have a number that is listed.
use Rattle.std.proofs.Common.{◌≡◌, ℕ, ◌+◌, ◌<◌, ◌==◌, Bool, true, false, cond, not, ◌&&◌, ◌||◌, List, [], ◌∷◌, ◌++◌, map, Option, Some, None, arith, refl, sym, ap, ◌∙◌, subst, length}
use Rattle.std.proofs.lemmas.Bool.{and_parts, false≢true, not-true}
use Rattle.std.proofs.lemmas.Bool.Decides.{nat_tests}
use Rattle.std.specs.Prelude.{filter, IsTrue}
use Rattle.std.specs.List.{list_all, list_any, AllByRecursion}
use Rattle.nv_base.specs.declared.object.ObjId.{ObjId}
use Rattle.nb_model.specs.Belongs.{is_among}
use Rattle.nb_model.specs.Effect.{with_number}
use Rattle.nb_model.specs.Network.{same}
use Rattle.nb_model.specs.Readable.{are_apart}
use Rattle.nb_model.proofs.Alike.{same_sym}
use Rattle.nb_model.proofs.Lists.{same_is}
use Rattle.nv_table.specs.Table.{NumbersRise, record_of}

pub alone : (b : Bool) → (b || false) ≡ b
alone true = refl
alone false = refl

-- any passes one of two tests
pub any_or : {X : Type 0} (p q : X → Bool) (xs : List X) → list_any (λ x. p x || q x) xs ≡ (list_any p xs || list_any q xs)
any_or p q [] = refl
any_or p q (x ∷ xs) = ap (λ b. (p x || q x) || b) (any_or p q xs) ∙ by (p x) (q x) (list_any p xs) (list_any q xs)
  where
    by : (a b c d : Bool) → ((a || b) || (c || d)) ≡ ((a || c) || (b || d))
    by true b c d = refl
    by false true true d = refl
    by false true false d = refl
    by false false c d = refl

pub any_same : {X : Type 0} (p q : X → Bool) (xs : List X) → ((x : X) → p x ≡ q x) → list_any p xs ≡ list_any q xs
any_same p q [] same = refl
any_same p q (x ∷ xs) same = ap (λ b. b || list_any p xs) (same x) ∙ ap (λ b. q x || b) (any_same p q xs same)

-- how many of two kinds there are, where none is of both
pub two_kinds : {X : Type 0} (a b : X → Bool) (xs : List X) → IsTrue (list_all (λ x. not (a x && b x)) xs) → length (filter (λ x. a x || b x) xs) ≡ length (filter a xs) + length (filter b xs)
two_kinds a b [] apart = refl
two_kinds {X} a b (x ∷ xs) apart = let parts = and_parts (not (a x && b x)) (list_all (λ y. not (a y && b y)) xs) apart in by (a x) (b x) parts.0 (two_kinds a b xs parts.1)
  where
    first : (m n : ℕ) (ys zs : List X) → length ys ≡ m + n → length (x ∷ ys) ≡ (m + 1) + n
    first m n ys zs e = omega (arith, e)

    second : (m n : ℕ) (ys zs : List X) → length ys ≡ m + n → length (x ∷ ys) ≡ m + (n + 1)
    second m n ys zs e = omega (arith, e)

    one : (ys : List X) → length (x ∷ ys) ≡ length ys + 1
    one ys = omega arith

    by : (c d : Bool) → IsTrue (not (c && d)) → length (filter (λ y. a y || b y) xs) ≡ length (filter a xs) + length (filter b xs)
        → length (cond (c || d) (x ∷ filter (λ y. a y || b y) xs) (filter (λ y. a y || b y) xs)) ≡ length (cond c (x ∷ filter a xs) (filter a xs)) + length (cond d (x ∷ filter b xs) (filter b xs))
    by true true e more = absurd (false≢true e)
    by true false e more = first (length (filter a xs)) (length (filter b xs)) (filter (λ y. a y || b y) xs) [] more ∙ ap (λ n. n + length (filter b xs)) (sym (one (filter a xs)))
    by false true e more = second (length (filter a xs)) (length (filter b xs)) (filter (λ y. a y || b y) xs) [] more ∙ ap (λ n. length (filter a xs) + n) (sym (one (filter b xs)))
    by false false e more = more

pub none_kept : {X : Type 0} (xs : List X) → length (filter (λ x. false) xs) ≡ 0
none_kept [] = refl
none_kept (x ∷ xs) = none_kept xs

-- what a test says of a record that is there
abbrev pub holds_of : {R : Type 0} → (R → Bool) → Option R → Bool
holds_of q None = false
holds_of q (Some r) = q r

above_differs : (m n : ℕ) → m < n → (n == m) ≡ false
above_differs m n less = grind (arith, nat_tests, less)

module _ {R : Type 0} (number : R → ObjId) (n : ObjId) where
  -- above a number none has it
  pub none_has : (rs : List R) → AllByRecursion (λ r. n.0 < (number r).0) rs → filter (λ r. same (number r) n) rs ≡ []
  none_has [] all = refl
  none_has (r ∷ rs) all = ap (λ b. cond b (r ∷ filter (λ x. same (number x) n) rs) (filter (λ x. same (number x) n) rs)) (above_differs n.0 (number r).0 all.0) ∙ none_has rs all.1

  pub none_any : (q : R → Bool) (rs : List R) → AllByRecursion (λ r. n.0 < (number r).0) rs → list_any (λ r. same (number r) n && q r) rs ≡ false
  none_any q [] all = refl
  none_any q (r ∷ rs) all = ap (λ b. (b && q r) || list_any (λ x. same (number x) n && q x) rs) (above_differs n.0 (number r).0 all.0) ∙ none_any q rs all.1

  moved : (x : R) (rs : List R) → n ≡ number x → AllByRecursion (λ r. (number x).0 < (number r).0) rs → AllByRecursion (λ r. n.0 < (number r).0) rs
  moved x rs is all = subst (λ (m : ObjId). AllByRecursion (λ r. m.0 < (number r).0) rs) (sym is) all

  -- the records of a number: the one that is found, or none
  abbrev pub found_list : Option R → List R
  found_list None = []
  found_list (Some r) = r ∷ []

  pub of_number : (rs : List R) → NumbersRise number rs → filter (λ r. same (number r) n) rs ≡ found_list (record_of number n rs)
  of_number [] rise = refl
  of_number (r ∷ rs) rise = ap (λ b. cond b (r ∷ filter (λ x. same (number x) n) rs) (filter (λ x. same (number x) n) rs)) (same_sym (number r) n) ∙ by (same n (number r)) refl (of_number rs rise.1)
    where
      by : (b : Bool) → same n (number r) ≡ b → filter (λ x. same (number x) n) rs ≡ found_list (record_of number n rs)
          → cond b (r ∷ filter (λ x. same (number x) n) rs) (filter (λ x. same (number x) n) rs) ≡ found_list (cond b (Some r) (record_of number n rs))
      by true is more = ap (λ (l : List R). r ∷ l) (none_has rs (moved r rs (same_is n (number r) is) rise.0))
      by false is more = more

  -- any of a number passes where the one that is found does
  pub any_of_number : (q : R → Bool) (rs : List R) → NumbersRise number rs → list_any (λ r. same (number r) n && q r) rs ≡ holds_of q (record_of number n rs)
  any_of_number q [] rise = refl
  any_of_number q (r ∷ rs) rise = ap (λ b. (b && q r) || list_any (λ x. same (number x) n && q x) rs) (same_sym (number r) n) ∙ by (same n (number r)) refl (any_of_number q rs rise.1)
    where
      by : (b : Bool) → same n (number r) ≡ b → list_any (λ x. same (number x) n && q x) rs ≡ holds_of q (record_of number n rs)
          → ((b && q r) || list_any (λ x. same (number x) n && q x) rs) ≡ holds_of q (cond b (Some r) (record_of number n rs))
      by true is more = ap (λ c. q r || c) (none_any q rs (moved r rs (same_is n (number r) is) rise.0)) ∙ alone (q r)
      by false is more = more

  -- a number that is there is found
  pub is_found : (rs : List R) → IsTrue (is_among n (map number rs)) → length (found_list (record_of number n rs)) ≡ 1
  is_found [] there = absurd (false≢true there)
  is_found (r ∷ rs) there = by (same n (number r)) there (is_found rs)
    where
      by : (b : Bool) → IsTrue (b || is_among n (map number rs)) → (IsTrue (is_among n (map number rs)) → length (found_list (record_of number n rs)) ≡ 1) → length (found_list (cond b (Some r) (record_of number n rs))) ≡ 1
      by true t more = refl
      by false t more = more t

-- as many records have a listed number as numbers are listed
pub listed_count : {R : Type 0} (number : R → ObjId) (rs : List R) (numbers : List ObjId) → NumbersRise number rs → IsTrue (are_apart same numbers) → IsTrue (list_all (λ n. is_among n (map number rs)) numbers)
    → length (filter (λ r. is_among (number r) numbers) rs) ≡ length numbers
listed_count number rs [] rise apart there = none_kept rs
listed_count {R} number rs (n ∷ numbers) rise apart there =
    let differ = and_parts (list_all (λ y. not (same n y)) numbers) (are_apart same numbers) apart in
    let here = and_parts (is_among n (map number rs)) (list_all (λ m. is_among m (map number rs)) numbers) there in
    two_kinds (λ r. same (number r) n) (λ r. is_among (number r) numbers) rs (all_apart rs (λ r. each r (same (number r) n) refl differ.0))
    ∙ ap (λ m. m + length (filter (λ r. is_among (number r) numbers) rs)) (ap length (of_number number n rs rise) ∙ is_found number n rs here.0)
    ∙ ap (λ m. 1 + m) (listed_count number rs numbers rise differ.1 here.1)
    ∙ one_more numbers
  where
    one_more : (l : List ObjId) → 1 + length l ≡ length (n ∷ l)
    one_more l = omega arith

    all_apart : (l : List R) → ((r : R) → IsTrue (not (same (number r) n && is_among (number r) numbers))) → IsTrue (list_all (λ r. not (same (number r) n && is_among (number r) numbers)) l)
    all_apart [] e = refl
    all_apart (r ∷ l) e = ap (λ b. b && list_all (λ r. not (same (number r) n && is_among (number r) numbers)) l) (e r) ∙ all_apart l e

    not_listed : (l : List ObjId) → IsTrue (list_all (λ y. not (same n y)) l) → is_among n l ≡ false
    not_listed [] e = refl
    not_listed (m ∷ l) e = let parts = and_parts (not (same n m)) (list_all (λ y. not (same n y)) l) e in ap (λ b. b || is_among n l) (not-true (same n m) parts.0) ∙ not_listed l parts.1

    each : (r : R) (b : Bool) → same (number r) n ≡ b → IsTrue (list_all (λ y. not (same n y)) numbers) → IsTrue (not (b && is_among (number r) numbers))
    each r true is e = ap not (ap (λ (m : ObjId). is_among m numbers) (same_is (number r) n is) ∙ not_listed numbers e)
    each r false is e = refl

-- one number more, last
pub among_last : (n number : ObjId) (numbers : List ObjId) → is_among n (numbers ++ number ∷ []) ≡ (is_among n numbers || same n number)
among_last n number [] = alone (same n number)
among_last n number (m ∷ numbers) = ap (λ b. same n m || b) (among_last n number numbers) ∙ grouped (same n m) (is_among n numbers) (same n number)
  where
    grouped : (a b c : Bool) → (a || (b || c)) ≡ ((a || b) || c)
    grouped true b c = refl
    grouped false b c = refl

-- where it is not there
pub among_with : (n number : ObjId) (numbers : List ObjId) → is_among n (with_number number numbers) ≡ (is_among n numbers || same n number)
among_with n number numbers = by (is_among number numbers) refl
  where
    there : is_among number numbers ≡ true → (b : Bool) → same n number ≡ b → is_among n numbers ≡ (is_among n numbers || b)
    there is true e = ap (λ (m : ObjId). is_among m numbers) (same_is n number e) ∙ is ∙ sym (whole (is_among n numbers))
      where
        whole : (b : Bool) → (b || true) ≡ true
        whole true = refl
        whole false = refl
    there is false e = sym (alone (is_among n numbers))

    by : (b : Bool) → is_among number numbers ≡ b → is_among n (cond b numbers (numbers ++ number ∷ [])) ≡ (is_among n numbers || same n number)
    by true is = there is (same n number) refl
    by false is = among_last n number numbers

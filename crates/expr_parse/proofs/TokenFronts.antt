-- The longest token of a text, by the byte that it begins with.
use Rattle.std.proofs.Common.{◌≡◌, ℕ, suc, zero, ◌+◌, ◌<◌, ◌≤◌, Bool, true, false, cond, ltb, leb, eqb, ◌&&◌, List, [], ◌∷◌, length, take, drop}
use Rattle.std.proofs.Common.{get_or, Option, Some, None, refl, ap, sym, subst, ◌∙◌, arith, inl, inr, ◌-◌, not, ◌||◌, codes, nat_eq}
use Rattle.std.proofs.lemmas.Bool.{cases_eq, not-false, cases_order}
use Rattle.std.specs.Cmp.Lexicographic.{same_text, as_long}
use Rattle.std.proofs.lemmas.List.Sums.{prefix_len_passes}
use Rattle.nv_base.specs.Name.{is_name_byte, is_object_name}
use Rattle.expr_core.specs.declared.constant.Form.TheVariants as form
use Rattle.expr_const.specs.Constant.{longest as longest_constant}
use Rattle.expr_parse.proofs.Words.{list_all, prefix_len, option_map, and_parts, and_from, or_left, and_left, lt-ltb, ltb-true, leb-true, le-leb}
use Rattle.expr_parse.proofs.Words.{eqb-true, false_from_ne_true, false≢true, length-take-le, prefix_len-le-length, cond_some, mac_of, Const}
use Rattle.expr_parse.proofs.Words.{Letter, begins_name, class_of, Token, Name, Number, or_else, constant, is_in_name, is_name, name_after, spelled}
use Rattle.expr_parse.proofs.Words.{front_name, longest, pointwise, and_right, or_cases, not-true, get_or-take, take-take, list_all_at}
use Rattle.expr_parse.proofs.Words.{prefix_len_stops, Quote, Text, is_quotable, quoted_of, Other, sign_among, signs}
use Rattle.expr_parse.proofs.Words.{Digit, constant_of}
use Rattle.expr_parse.proofs.Longest.{guarded, NoneBetween, cut, found, run_passes, run_ends}
use Rattle.expr_parse.proofs.Shapes.{mac_not_so_long}
use Rattle.expr_parse.proofs.Fronts.{told, fronts}

-- each byte of a name may be in one
pub name_all : (xs : List ℕ) → is_name xs ≡ true → list_all is_in_name xs ≡ true
name_all [] e = absurd cc
name_all (b ∷ bs) e = let parts = and_parts (begins_name b) (list_all is_in_name bs) e in and_from _ _ (or_left _ _ (or_left _ _ parts.0)) parts.1

all_name : (xs : List ℕ) → 0 < length xs → begins_name (get_or xs 0 0) ≡ true → list_all is_in_name xs ≡ true → is_name xs ≡ true
all_name [] some first all = absurd (omega arith)
all_name (b ∷ bs) some first all = and_from _ _ first (and_parts (is_in_name b) (list_all is_in_name bs) all).1

-- beyond the run of a name no front is one
pub no_longer_name : (text : List ℕ) (k : ℕ) → prefix_len is_in_name text < k → k ≤ length text → is_name (take k text) ≡ false
no_longer_name text k past within = false_from_ne_true _ (λ e. false≢true (sym (run_ends is_in_name text k 0 past within) ∙ name_all (take k text) e))

run_some : (text : List ℕ) → 0 < length text → begins_name (get_or text 0 0) ≡ true → 0 < prefix_len is_in_name text
run_some [] some first = absurd (omega arith)
run_some (b ∷ bs) some first = let passes : is_in_name b ≡ true = or_left _ _ (or_left _ _ first) in rw passes (omega arith)

-- the run of a name is one
pub run_is_name : (text : List ℕ) → 0 < length text → begins_name (get_or text 0 0) ≡ true → is_name (take (prefix_len is_in_name text) text) ≡ true
run_is_name [] some first = absurd (omega arith)
run_is_name (b ∷ bs) some first =
    let long = length-take-le (prefix_len is_in_name (b ∷ bs)) (b ∷ bs) (prefix_len-le-length is_in_name (b ∷ bs)) in
    let more = run_some (b ∷ bs) some first in
    all_name (take (prefix_len is_in_name (b ∷ bs)) (b ∷ bs)) (rw long more) (at_first b bs (prefix_len is_in_name (b ∷ bs)) more first) (run_passes is_in_name (b ∷ bs))
  where
    at_first : (b : ℕ) (bs : List ℕ) (k : ℕ) → 0 < k → begins_name b ≡ true → begins_name (get_or (take k (b ∷ bs)) 0 0) ≡ true
    at_first b bs zero low first = absurd (omega arith)
    at_first b bs (suc k) low first = first

-- what a front is that begins as a name does
pub with_name : (b : Bool) (n : Token) (m : Option Const) → b ≡ true → or_else (cond b (Some n) None) (option_map Number m) ≡ Some n
with_name b n m e = rw e refl

pub without_name : (b : Bool) (n : Token) (m : Option Const) → b ≡ false → or_else (cond b (Some n) None) (option_map Number m) ≡ option_map Number m
without_name b n m e = rw e refl

-- the MAC that a text of enough bytes begins with
abbrev pub mac_at_front : List ℕ → Option Const
mac_at_front text = cond (leb 17 (length text)) (option_map (constant form.Mac) (mac_of (take 17 text))) None

other_length : (text : List ℕ) (k : ℕ) → k ≤ length text → (k ≡ 17 → ⊥) → option_map (constant form.Mac) (mac_of (take k text)) ≡ None
other_length text k within other = ap (option_map (constant form.Mac)) (mac_not_so_long (take k text) (λ e. other (sym (length-take-le k text within) ∙ e)))

pub mac_wins : (text : List ℕ) (c : Const) → 0 < length text → class_of (get_or text 0 0) ≡ Letter → prefix_len is_in_name text < 17 → Some c ≡ mac_at_front text → Some (Number c, 17) ≡ longest spelled (length text) text
mac_wins text c some first short e =
    let mac = guarded (leb 17 (length text)) (option_map (constant form.Mac) (mac_of (take 17 text))) c (sym e) in
    let within : 17 ≤ length text = leb-true _ _ mac.0 in
    let here : spelled (take 17 text) ≡ Some (Number c) =
    fronts Letter text 17 some first (omega arith)
    ∙ without_name (is_name (take 17 text)) (Name (take 17 text)) _ (no_longer_name text 17 short within) ∙ ap (option_map Number) mac.1 in
    let beyond : NoneBetween spelled 17 (length text) text = λ k past high.
    fronts Letter text k some first (omega arith) ∙ without_name (is_name (take k text)) (Name (take k text)) _ (no_longer_name text k (omega arith) high)
    ∙ ap (option_map Number) (other_length text k high (λ e. omega arith)) in
    sym (found spelled 17 (length text) text (Number c) (omega arith) within here beyond)

pub name_wins : (text : List ℕ) → 0 < length text → class_of (get_or text 0 0) ≡ Letter → (prefix_len is_in_name text < 17 → None ≡ mac_at_front text) → Some (Name (take (prefix_len is_in_name text) text), prefix_len is_in_name text) ≡ longest spelled (length text) text
name_wins text some first missing =
    let n = prefix_len is_in_name text in
    let begins = told (get_or text 0 0) Letter first in
    let more : 0 < prefix_len is_in_name text = run_some text some begins in
    let here : spelled (take (prefix_len is_in_name text) text) ≡ Some (Name (take (prefix_len is_in_name text) text)) =
    fronts Letter text (prefix_len is_in_name text) some first more
    ∙ with_name (is_name (take (prefix_len is_in_name text) text)) (Name (take (prefix_len is_in_name text) text)) _ (run_is_name text some begins) in
    let mac : (k : ℕ) → prefix_len is_in_name text < k → k ≤ length text → option_map (constant form.Mac) (mac_of (take k text)) ≡ None = λ k past high.
    elim (cases_eq k 17) as (λ _. option_map (constant form.Mac) (mac_of (take k text)) ≡ None) [
      | inl same ↦ subst (λ (j : ℕ). option_map (constant form.Mac) (mac_of (take j text)) ≡ None) (sym same) (absent (leb 17 (length text)) (option_map (constant form.Mac) (mac_of (take 17 text))) (le-leb 17 (length text) (omega arith)) (missing (omega arith)))
      | inr other ↦ other_length text k high other
    ] in
    let beyond : NoneBetween spelled (prefix_len is_in_name text) (length text) text = λ k past high.
    fronts Letter text k some first (omega arith) ∙ without_name (is_name (take k text)) (Name (take k text)) _ (no_longer_name text k past high)
    ∙ ap (option_map Number) (mac k past high) in
    sym (found spelled (prefix_len is_in_name text) (length text) text (Name (take (prefix_len is_in_name text) text)) more (prefix_len-le-length is_in_name text) here beyond)
  where
    absent : (b : Bool) (o : Option Const) → b ≡ true → None ≡ cond b o None → o ≡ None
    absent b o e h = sym (rw e at h)

-- a text that begins as a name does begins with one
pub letter_name : (text : List ℕ) → 0 < length text → class_of (get_or text 0 0) ≡ Letter → front_name text ≡ Some (take (prefix_len is_in_name text) text)
letter_name text some first = rw (lt-ltb 0 (length text) some, told (get_or text 0 0) Letter first) refl

pub name_length : (text name : List ℕ) → name ≡ take (prefix_len is_in_name text) text → length name ≡ prefix_len is_in_name text
name_length text name e = ap length e ∙ length-take-le (prefix_len is_in_name text) text (prefix_len-le-length is_in_name text)

-- no name after the mark
some_none : (t : Bool) (x : List ℕ) → t ≡ true → cond (t && true) (Some x) None ≡ None → ⊥
some_none t x e h = let bad = rw e at h in cc

no_name : (bs : List ℕ) (k : ℕ) → front_name bs ≡ None → is_name (take k bs) ≡ false
no_name bs zero e = refl
no_name [] (suc k) e = refl
no_name (b ∷ bs) (suc k) e = and_left (begins_name b) (list_all is_in_name (take k bs)) (unguarded (begins_name b) _ e)
  where
    unguarded : (t : Bool) (x : List ℕ) → cond (ltb 0 (suc (length bs)) && t) (Some x) None ≡ None → t ≡ false
    unguarded true x e = absurd (some_none (ltb 0 (suc (length bs))) x (lt-ltb 0 (suc (length bs)) (omega arith)) e)
    unguarded false x e = refl

marked : (mark b : ℕ) (bs : List ℕ) → eqb b mark ≡ true → name_after mark (b ∷ bs) ≡ cond (is_name bs) (Some bs) None
marked mark b bs e = rw e refl

-- each front is what a mark and a name spell
abbrev Marked : ℕ → (List ℕ → Token) → List ℕ → Type 0
Marked mark wrap text = (k : ℕ) → 0 < k → spelled (take k text) ≡ option_map wrap (name_after mark (take k text))

front_of : (mark : ℕ) (wrap : List ℕ → Token) (b : ℕ) (bs : List ℕ) → eqb b mark ≡ true → Marked mark wrap (b ∷ bs) → (k : ℕ) (t : Bool)
    → is_name (take k bs) ≡ t
    → spelled (take (suc k) (b ∷ bs)) ≡ option_map wrap (cond t (Some (take k bs)) None)
front_of mark wrap b bs first each k t is =
    each (suc k) (omega arith) ∙ ap (option_map wrap) (marked mark b (take k bs) first)
    ∙ ap (λ (u : Bool). option_map wrap (cond u (Some (take k bs)) None)) is

pub mark_none : (mark : ℕ) (wrap : List ℕ → Token) (text : List ℕ) → 0 < length text → eqb (get_or text 0 0) mark ≡ true → Marked mark wrap text → None ≡ front_name (drop 1 text) → None ≡ longest spelled (length text) text
mark_none mark wrap [] some first each missing = absurd (omega arith)
mark_none mark wrap (b ∷ bs) some first each missing = sym (cut spelled 0 (length (b ∷ bs)) (b ∷ bs) (omega arith) nothing)
  where
    nothing : NoneBetween spelled 0 (length (b ∷ bs)) (b ∷ bs)
    nothing zero low high = absurd (omega arith)
    nothing (suc k) low high = front_of mark wrap b bs first each k false (no_name bs k (sym missing))

some_after : (mark : ℕ) (wrap : List ℕ → Token) (b : ℕ) (bs : List ℕ) → eqb b mark ≡ true → Marked mark wrap (b ∷ bs) → 0 < length bs
    → begins_name (get_or bs 0 0) ≡ true
    → longest spelled (length (b ∷ bs)) (b ∷ bs) ≡ Some (wrap (take (prefix_len is_in_name bs) bs), suc (prefix_len is_in_name bs))
some_after mark wrap b bs first each some begins =
    found spelled (suc (prefix_len is_in_name bs)) (length (b ∷ bs)) (b ∷ bs) (wrap (take (prefix_len is_in_name bs) bs)) (omega arith)
    (omega (arith, prefix_len-le-length is_in_name bs))
    (front_of mark wrap b bs first each (prefix_len is_in_name bs) true (run_is_name bs some begins)) beyond
  where
    beyond : NoneBetween spelled (suc (prefix_len is_in_name bs)) (length (b ∷ bs)) (b ∷ bs)
    beyond zero past high = absurd (omega arith)
    beyond (suc k) past high = front_of mark wrap b bs first each k false (no_longer_name bs k (omega arith) (omega arith))

-- the same of what the code finds after the mark
pub mark_some : (mark : ℕ) (wrap : List ℕ → Token) (text name : List ℕ) → 0 < length text → eqb (get_or text 0 0) mark ≡ true → Marked mark wrap text
    → Some name ≡ front_name (drop 1 text)
    → Some (wrap name, length name + 1) ≡ longest spelled (length text) text
mark_some mark wrap [] name some first each is = absurd (omega arith)
mark_some mark wrap (b ∷ bs) name some first each is =
    let named = cond_some (ltb 0 (length bs) && begins_name (get_or bs 0 0)) (take (prefix_len is_in_name bs) bs) name (sym is) in
    let tests = and_parts (ltb 0 (length bs)) (begins_name (get_or bs 0 0)) named.0 in
    let long : length name + 1 ≡ suc (prefix_len is_in_name bs) = rw (← named.1, length-take-le (prefix_len is_in_name bs) bs (prefix_len-le-length is_in_name bs)) (omega arith) in
    rw (long, ← named.1) (sym (some_after mark wrap b bs first each (ltb-true _ _ tests.0) tests.1))

-- The longest token of a text that begins with a double quote.

-- the bytes of what may is between quotes
pub quotable_bytes : (text : List ℕ) → is_quotable text ≡ true → list_all is_name_byte text ≡ true
quotable_bytes text e = elim (or_cases (is_object_name text || pointwise nat_eq text (codes "_MC_flood")) (pointwise nat_eq text (codes "_MC_unknown")) e) as (λ _. list_all is_name_byte text ≡ true) [
  | inl either ↦ elim (or_cases (is_object_name text) (pointwise nat_eq text (codes "_MC_flood")) either) as (λ _. list_all is_name_byte text ≡ true) [
    | inl name ↦ (and_parts _ (list_all is_name_byte text) (and_parts _ _ (and_parts _ _ name).0).0).1
    | inr flood ↦ subst (λ (xs : List ℕ). list_all is_name_byte xs ≡ true) (sym (same_text text (codes "_MC_flood") (sym flood))) refl
  ]
  | inr unknown ↦ subst (λ (xs : List ℕ). list_all is_name_byte xs ≡ true) (sym (same_text text (codes "_MC_unknown") (sym unknown))) refl
]

-- nothing with a double quote may is between quotes
with_quote : (bs : List ℕ) (i j : ℕ) → i < j → j ≤ length bs → get_or bs i 0 ≡ 34 → is_quotable (take j bs) ≡ false
with_quote bs i j lt within is = false_from_ne_true _ (λ e. false≢true (sym (list_all_at is_name_byte (take j bs) i 0 here byte) ∙ quotable_bytes (take j bs) e))
  where
    here : i < length (take j bs)
    here = rw (length-take-le j bs within) lt

    byte : is_name_byte (get_or (take j bs) i 0) ≡ false
    byte = rw (get_or-take j bs i 0 lt, is) refl

-- what a front that begins with a double quote is
shape : (may : List ℕ → Bool) (b j : ℕ) (xs : List ℕ) → length xs ≡ suc j → eqb b 34 ≡ true
    → cond (((leb 2 (suc (length xs)) && eqb b 34) && eqb (get_or (b ∷ xs) (suc (length xs) - 1) 0) 34) && may (take (suc (length xs) - 2) xs)) (Some (take (suc (length xs) - 2) xs)) None
    ≡ cond (eqb (get_or xs j 0) 34 && may (take j xs)) (Some (take j xs)) None
shape may b j xs long first =
    let last : suc (suc j) - 1 ≡ suc j = omega arith in
    let most : suc (suc j) - 2 ≡ j = omega arith in
    let two : leb 2 (suc (suc j)) ≡ true = le-leb 2 (suc (suc j)) (omega arith) in
    rw (long, last, most, two, first) refl

front : (b j : ℕ) (bs : List ℕ) → j < length bs → eqb b 34 ≡ true → quoted_of (take (suc (suc j)) (b ∷ bs)) ≡ cond (eqb (get_or bs j 0) 34 && is_quotable (take j bs)) (Some (take j bs)) None
front b j bs within first =
    let long : length (take (suc j) bs) ≡ suc j = length-take-le (suc j) bs (omega arith) in
    shape is_quotable b j (take (suc j) bs) long first
    ∙ ap (λ (n : ℕ). cond (eqb n 34 && is_quotable (take j (take (suc j) bs))) (Some (take j (take (suc j) bs))) None) (get_or-take (suc j) bs j 0 (omega arith))
    ∙ ap (λ (xs : List ℕ). cond (eqb (get_or bs j 0) 34 && is_quotable xs) (Some xs) None) (take-take j (suc j) bs (omega arith))

abbrev pub is_plain : ℕ → Bool
is_plain b = not (eqb b 34)

-- a front that ends before the second double quote, or beyond it, is no text
plain_end : (bs : List ℕ) (j : ℕ) → j < prefix_len is_plain bs → eqb (get_or bs j 0) 34 ≡ false
plain_end bs j lt = not-true _ (prefix_len_passes is_plain bs j 0 lt)

quote_at : (bs : List ℕ) → prefix_len is_plain bs < length bs → eqb (get_or bs (prefix_len is_plain bs) 0) 34 ≡ true
quote_at bs lt = not-false _ (prefix_len_stops is_plain bs 0 lt)

refused_end : (t u : Bool) (xs : List ℕ) → t ≡ false → cond (t && u) (Some xs) None ≡ None
refused_end t u xs e = rw e refl

refused_bytes : (t u : Bool) (xs : List ℕ) → u ≡ false → cond (t && u) (Some xs) None ≡ None
refused_bytes t u xs e = rw (e, and_right t false refl) refl

taken : (t u : Bool) (xs : List ℕ) → t ≡ true → u ≡ true → cond (t && u) (Some xs) None ≡ Some xs
taken t u xs e f = rw (e, f) refl

before : (b j : ℕ) (bs : List ℕ) → eqb b 34 ≡ true → j < length bs → j < prefix_len is_plain bs → quoted_of (take (suc (suc j)) (b ∷ bs)) ≡ None
before b j bs first within lt = front b j bs within first ∙ refused_end _ _ (take j bs) (plain_end bs j lt)

beyond_quote : (b j : ℕ) (bs : List ℕ) → eqb b 34 ≡ true → j < length bs → prefix_len is_plain bs < j → quoted_of (take (suc (suc j)) (b ∷ bs)) ≡ None
beyond_quote b j bs first within gt = front b j bs within first
    ∙ refused_bytes (eqb (get_or bs j 0) 34) _ (take j bs)
    (with_quote bs (prefix_len is_plain bs) j gt (omega arith) (eqb-true _ _ (quote_at bs (omega arith))))

lone_quote : (b : ℕ) (bs : List ℕ) → quoted_of (take 1 (b ∷ bs)) ≡ None
lone_quote b bs = refl

-- each front from `"` on
abbrev pub Quoted : List ℕ → Type 0
Quoted text = (k : ℕ) → 0 < k → spelled (take k text) ≡ option_map Text (quoted_of (take k text))

pub some_text : (b : ℕ) (bs : List ℕ) → eqb b 34 ≡ true → Quoted (b ∷ bs) → prefix_len is_plain bs < length bs → is_quotable (take (prefix_len is_plain bs) bs) ≡ true
    → longest spelled (length (b ∷ bs)) (b ∷ bs) ≡ Some (Text (take (prefix_len is_plain bs) bs), suc (suc (prefix_len is_plain bs)))
some_text b bs first each within may =
    let here : spelled (take (suc (suc (prefix_len is_plain bs))) (b ∷ bs)) ≡ Some (Text (take (prefix_len is_plain bs) bs)) =
    each (suc (suc (prefix_len is_plain bs))) (omega arith) ∙ ap (option_map Text) (front b (prefix_len is_plain bs) bs within first ∙ taken _ _ (take (prefix_len is_plain bs) bs) (quote_at bs within) may) in
    found spelled (suc (suc (prefix_len is_plain bs))) (length (b ∷ bs)) (b ∷ bs) (Text (take (prefix_len is_plain bs) bs)) (omega arith) (omega arith) here more
  where
    more : NoneBetween spelled (suc (suc (prefix_len is_plain bs))) (length (b ∷ bs)) (b ∷ bs)
    more zero past high = absurd (omega arith)
    more (suc zero) past high = absurd (omega arith)
    more (suc (suc j)) past high = each (suc (suc j)) (omega arith) ∙ ap (option_map Text) (beyond_quote b j bs first (omega arith) (omega arith))

no_text : (b : ℕ) (bs : List ℕ) → eqb b 34 ≡ true → Quoted (b ∷ bs) → (prefix_len is_plain bs < length bs → is_quotable (take (prefix_len is_plain bs) bs) ≡ false) → longest spelled (length (b ∷ bs)) (b ∷ bs) ≡ None
no_text b bs first each refused = cut spelled 0 (length (b ∷ bs)) (b ∷ bs) (omega arith) nothing
  where
    at : (j : ℕ) → j < length bs → quoted_of (take (suc (suc j)) (b ∷ bs)) ≡ None
    at j within = elim (cases_order j (prefix_len is_plain bs)) as (λ _. quoted_of (take (suc (suc j)) (b ∷ bs)) ≡ None) [
      | inl same ↦ front b j bs within first ∙ refused_bytes (eqb (get_or bs j 0) 34) _ (take j bs) (rw same (refused (omega arith)))
      | inr other ↦ elim other as (λ _. quoted_of (take (suc (suc j)) (b ∷ bs)) ≡ None) [
        | inl lt ↦ before b j bs first within lt
        | inr gt ↦ beyond_quote b j bs first within gt
      ]
    ]

    nothing : NoneBetween spelled 0 (length (b ∷ bs)) (b ∷ bs)
    nothing zero past high = absurd (omega arith)
    nothing (suc zero) past high = each 1 (omega arith) ∙ ap (option_map Text) (lone_quote b bs)
    nothing (suc (suc j)) past high = each (suc (suc j)) (omega arith) ∙ ap (option_map Text) (at j (omega arith))

-- the same of a text
text_found : (text : List ℕ) (last : ℕ) → 0 < length text → class_of (get_or text 0 0) ≡ Quote → last ≡ prefix_len is_plain (drop 1 text) → last < length (drop 1 text) → is_quotable (take last (drop 1 text)) ≡ true
    → Some (Text (take last (drop 1 text)), last + 2) ≡ longest spelled (length text) text
text_found [] last some first is within may = absurd (omega arith)
text_found (b ∷ bs) last some first is within may =
    let two : prefix_len is_plain bs + 2 ≡ suc (suc (prefix_len is_plain bs)) = omega arith in
    let near : prefix_len is_plain bs < length bs = rw (← is) within in
    let P : ℕ → Type 0 = λ n. is_quotable (take n bs) ≡ true in
    rw (is, two) (sym (some_text b bs (told b Quote first) (λ k low. fronts Quote (b ∷ bs) k some first low) near (subst P is may)))

text_missing : (text : List ℕ) (last : ℕ) → 0 < length text → class_of (get_or text 0 0) ≡ Quote → last ≡ prefix_len is_plain (drop 1 text) → (last < length (drop 1 text) → is_quotable (take last (drop 1 text)) ≡ false)
    → None ≡ longest spelled (length text) text
text_missing [] last some first is refused = absurd (omega arith)
text_missing (b ∷ bs) last some first is refused =
    let P : ℕ → Type 0 = λ n. n < length bs → is_quotable (take n bs) ≡ false in
    sym (no_text b bs (told b Quote first) (λ k low. fronts Quote (b ∷ bs) k some first low) (subst P is refused))

-- the same in the words of the code, which holds what follows the first byte
pub rest_found : (text rest : List ℕ) (last : ℕ) → 0 < length text → class_of (get_or text 0 0) ≡ Quote → rest ≡ drop 1 text → last ≡ prefix_len is_plain rest → last < length rest → true ≡ is_quotable (take last rest)
    → Some (Text (take last rest), last + 2) ≡ longest spelled (length text) text
rest_found text rest last some first same is within may =
    let P : List ℕ → Type 0 = λ xs. last ≡ prefix_len is_plain xs → last < length xs → is_quotable (take last xs) ≡ true → Some (Text (take last xs), last + 2) ≡ longest spelled (length text) text in
    subst P (sym same) (text_found text last some first) is within (sym may)

pub rest_missing : (text rest : List ℕ) (last : ℕ) → 0 < length text → class_of (get_or text 0 0) ≡ Quote → rest ≡ drop 1 text → last ≡ prefix_len is_plain rest → (last < length rest → false ≡ is_quotable (take last rest))
    → None ≡ longest spelled (length text) text
rest_missing text rest last some first same is refused =
    let P : List ℕ → Type 0 = λ xs. last ≡ prefix_len is_plain xs → (last < length xs → is_quotable (take last xs) ≡ false) → None ≡ longest spelled (length text) text in
    subst P (sym same) (text_missing text last some first) is (λ within. sym (refused within))

-- The longest token of a text that begins as no name, constant, text or set does.

-- no sign of these is longer than two bytes
too_long : (ss : List (List ℕ × Token)) (text : List ℕ) → list_all (λ s. leb (length s.0) 2) ss ≡ true → 2 < length text → sign_among ss text ≡ None
too_long [] text all long = refl
too_long ((s, t) ∷ ss) text all long =
    let parts = and_parts (leb (length s) 2) (list_all (λ s. leb (length s.0) 2) ss) all in
    let apart : pointwise nat_eq s text ≡ false = false_from_ne_true _ (λ e. omega (arith, leb-true (length s) 2 parts.0, as_long nat_eq s text e, long)) in
    rw apart (too_long ss text parts.1 long)

beyond : (text : List ℕ) (m : ℕ) → 2 ≤ m → 0 < length text → class_of (get_or text 0 0) ≡ Other → NoneBetween spelled m (length text) text
beyond text m two some first =
    λ k past high. fronts Other text k some first (omega arith) ∙ too_long signs (take k text) refl (omega (arith, length-take-le k text high))

two_bytes : (text : List ℕ) → 1 < length text → take 2 text ≡ get_or text 0 0 ∷ get_or text 1 0 ∷ []
two_bytes [] long = absurd (omega arith)
two_bytes (a ∷ []) long = absurd (omega arith)
two_bytes (a ∷ b ∷ bs) long = refl

one_byte : (text : List ℕ) → 0 < length text → take 1 text ≡ get_or text 0 0 ∷ []
one_byte [] long = absurd (omega arith)
one_byte (a ∷ bs) long = refl

pub pair_found : (text : List ℕ) (t : Token) → 1 < length text → class_of (get_or text 0 0) ≡ Other → Some t ≡ sign_among signs (get_or text 0 0 ∷ get_or text 1 0 ∷ []) → Some (t, 2) ≡ longest spelled (length text) text
pair_found text t long first is =
    let some : 0 < length text = omega arith in
    sym (found spelled 2 (length text) text t (omega arith) (omega arith)
    (fronts Other text 2 some first (omega arith) ∙ ap (sign_among signs) (two_bytes text long) ∙ sym is) (beyond text 2 (omega arith) some first))

-- where the first two bytes are no sign, no front beyond the first byte is one
beyond_one : (text : List ℕ) → 0 < length text → class_of (get_or text 0 0) ≡ Other → (1 < length text → None ≡ sign_among signs (get_or text 0 0 ∷ get_or text 1 0 ∷ [])) → NoneBetween spelled 1 (length text) text
beyond_one text some first missing zero past high = absurd (omega arith)
beyond_one text some first missing (suc zero) past high = absurd (omega arith)
beyond_one text some first missing (suc (suc zero)) past high =
    fronts Other text 2 some first (omega arith) ∙ ap (sign_among signs) (two_bytes text (omega arith)) ∙ sym (missing (omega arith))
beyond_one text some first missing (suc (suc (suc k))) past high = beyond text 2 (omega arith) some first (suc (suc (suc k))) (omega arith) high

pub single_found : (text : List ℕ) (t : Token) → 0 < length text → class_of (get_or text 0 0) ≡ Other → (1 < length text → None ≡ sign_among signs (get_or text 0 0 ∷ get_or text 1 0 ∷ [])) → Some t ≡ sign_among signs (get_or text 0 0 ∷ []) → Some (t, 1) ≡ longest spelled (length text) text
single_found text t some first missing is =
    sym (found spelled 1 (length text) text t (omega arith) (omega arith)
    (fronts Other text 1 some first (omega arith) ∙ ap (sign_among signs) (one_byte text some) ∙ sym is) (beyond_one text some first missing))

pub none_found : (text : List ℕ) → 0 < length text → class_of (get_or text 0 0) ≡ Other → (1 < length text → None ≡ sign_among signs (get_or text 0 0 ∷ get_or text 1 0 ∷ [])) → None ≡ sign_among signs (get_or text 0 0 ∷ []) → None ≡ longest spelled (length text) text
none_found text some first missing alone = sym (cut spelled 0 (length text) text (omega arith) nothing)
  where
    nothing : NoneBetween spelled 0 (length text) text
    nothing zero past high = absurd (omega arith)
    nothing (suc zero) past high = fronts Other text 1 some first (omega arith) ∙ ap (sign_among signs) (one_byte text some) ∙ sym alone
    nothing (suc (suc k)) past high = beyond_one text some first missing (suc (suc k)) (omega arith) high

-- The longest token of a text that begins with a digit.

abbrev pub number_token : Const × ℕ → Token × ℕ
number_token x = (Number x.0, x.1)

number_or : (o : Option Const) (others : Option (Const × ℕ)) (tokens : Option (Token × ℕ)) (m : ℕ) → tokens ≡ option_map number_token others
    → or_else (option_map (λ t. (t, m)) (option_map Number o)) tokens ≡ option_map number_token (or_else (option_map (λ c. (c, m)) o) others)
number_or None others tokens m same = same
number_or (Some c) others tokens m same = refl

-- it is the longest constant
pub longest_number : (text : List ℕ) (n : ℕ) → 0 < length text → class_of (get_or text 0 0) ≡ Digit → longest spelled n text ≡ option_map number_token (longest_constant n text)
longest_number text zero some first = refl
longest_number text (suc n) some first =
    rw (fronts Digit text (suc n) some first (omega arith)) (number_or (constant_of (take (suc n) text)) (longest_constant n text) (longest spelled n text) (suc n) (longest_number text n some first))

-- What the first byte of a token says of its kind, and so of each front of a text.
use Rattle.std.proofs.Common.{◌≡◌, ℕ, ◌<◌, ◌≤◌, Bool, true, false, leb, eqb, ◌&&◌, List, [], ◌∷◌, length, Option, Some, None, cond, inl, inr, refl, ap, sym, ◌∙◌, subst, arith, suc, zero, get_or, take}
use Rattle.std.proofs.lemmas.Bool.{lt-leb, ne_eqb}
use Rattle.std.proofs.lemmas.Bool.Decides.{nat_tests}
use Rattle.expr_parse.specs.Spelling.{spelled}
use Rattle.expr_core.specs.declared.constant.Form.TheVariants as form
use Rattle.expr_parse.proofs.Words.{is_digit, digit_value, list_all, option_map, ltb-true, le-leb, and_parts, and_right, cases_lt, false_from_ne_true}
use Rattle.expr_parse.proofs.Words.{mac_of, ip4_of, Ip4, decimal_of, Class, Letter, Digit, Quote, Dollar, At, Other, begins_name, class_of, Token}
use Rattle.expr_parse.proofs.Words.{Name, Number, Text, AddrSet, Group, or_else, constant, constant_of, number_after_0x, is_name, name_after}
use Rattle.expr_parse.proofs.Words.{quoted_of, sign_among, signs}
use Rattle.expr_parse.proofs.Longest.{none_from}
use Rattle.expr_parse.proofs.Shapes.{decimal_digit, decimal_parts, hexadecimal_parts, mac_first, ip4_first}

-- only a sign begins with a byte of the class `Other`
is_other : Class → Bool
is_other Other = true
is_other _ = false

pub apart : (b x : ℕ) → (class_of b ≡ class_of x → ⊥) → eqb b x ≡ false
apart b x other = ne_eqb b x (λ e. other (ap class_of e))

-- what a class says of the byte
abbrev pick : Bool → Bool → Bool → Bool → Bool → Class
pick p q r s t = cond p Letter (cond q Digit (cond r Quote (cond s Dollar (cond t At Other))))

abbrev pub says : Class → Bool → Bool → Bool → Bool → Bool → Bool
says Letter p q r s t = p
says Digit p q r s t = q
says Quote p q r s t = r
says Dollar p q r s t = s
says At p q r s t = t
says Other p q r s t = true

picked : (p q r s t : Bool) → says (pick p q r s t) p q r s t ≡ true
picked true q r s t = refl
picked false true r s t = refl
picked false false true s t = refl
picked false false false true t = refl
picked false false false false true = refl
picked false false false false false = refl

pub told : (b : ℕ) (c : Class) → class_of b ≡ c → says c (begins_name b) (leb 48 b && leb b 57) (eqb b 34) (eqb b 36) (eqb b 64) ≡ true
told b c is =
    let P : Class → Type 0 = λ d. says d (begins_name b) (leb 48 b && leb b 57) (eqb b 34) (eqb b 36) (eqb b 64) ≡ true in
    subst P is (picked (begins_name b) (leb 48 b && leb b 57) (eqb b 34) (eqb b 36) (eqb b 64))

pub other_begins : (b : ℕ) → (class_of b ≡ Letter → ⊥) → begins_name b ≡ false
other_begins b other = false_from_ne_true _ (λ e. other (rw e refl))

digit_class : (b : ℕ) → 48 ≤ b → b ≤ 57 → class_of b ≡ Digit
digit_class b low high = rw (lt-leb 97 b (omega arith), lt-leb 65 b (omega arith), ne_eqb b 95 (λ e. omega arith), le-leb 48 b low, le-leb b 57 high) refl

upper_class : (b : ℕ) → 65 ≤ b → b ≤ 90 → class_of b ≡ Letter
upper_class b low high = rw (lt-leb 97 b (omega arith), le-leb 65 b low, le-leb b 90 high) refl

lower_class : (b : ℕ) → 97 ≤ b → b ≤ 122 → class_of b ≡ Letter
lower_class b low high = rw (le-leb 97 b low, le-leb b 122 high) refl

pub decimal_class : (b : ℕ) → is_digit b 10 ≡ true → class_of b ≡ Digit
decimal_class b is = let digit = decimal_digit b (ltb-true _ _ is) in digit_class b digit.0 digit.1

hexadecimal_class : (b : ℕ) → digit_value b < 16 → (class_of b ≡ Digit → ⊥) → (class_of b ≡ Letter → ⊥) → ⊥
hexadecimal_class b small digit letter =
    elim (cases_lt b 58) [
      | inl lt ↦ elim (cases_lt b 48) [ inl below ↦ grind (arith, nat_tests, small) | inr ge ↦ digit (digit_class b ge (omega arith)) ]
      | inr ge ↦ elim (cases_lt b 91) [
        | inl lt ↦ elim (cases_lt b 65) [ inl below ↦ grind (arith, nat_tests, small) | inr up ↦ letter (upper_class b up (omega arith)) ]
        | inr far ↦ elim (cases_lt b 97) [
          | inl below ↦ grind (arith, nat_tests, small)
          | inr low ↦ elim (cases_lt b 123) [ inl lt ↦ letter (lower_class b low (omega arith)) | inr beyond ↦ grind (arith, nat_tests, small) ]
        ]
      ]
    ]

-- a sign begins with a byte of the class `Other`
begins_other : List ℕ → Bool
unfolding is_other
begins_other [] = false
begins_other (x ∷ xs) = is_other (class_of x)

sign_at : (s : List ℕ) (t : Token) (ss : List (List ℕ × Token)) (b : ℕ) (bs : List ℕ) → begins_other s ≡ true → (class_of b ≡ Other → ⊥) → sign_among ((s, t) ∷ ss) (b ∷ bs) ≡ sign_among ss (b ∷ bs)
unfolding begins_other is_other
sign_at [] t ss b bs starts other = absurd cc
sign_at (x ∷ xs) t ss b bs starts other = rw (ne_eqb x b (λ e. other (class x b e (other_only (class_of x) starts)))) refl
  where
    other_only : (c : Class) → is_other c ≡ true → c ≡ Other
    other_only Other e = refl
    other_only _ e = absurd cc

    class : (x b : ℕ) → x ≡ b → class_of x ≡ Other → class_of b ≡ Other
    class x b e is = subst (λ (n : ℕ). class_of n ≡ Other) e is

sign_none : (ss : List (List ℕ × Token)) (b : ℕ) (bs : List ℕ) → list_all (λ s. begins_other s.0) ss ≡ true → (class_of b ≡ Other → ⊥) → sign_among ss (b ∷ bs) ≡ None
sign_none [] b bs all other = refl
sign_none ((s, t) ∷ ss) b bs all other = let parts = and_parts (begins_other s) (list_all (λ s. begins_other s.0) ss) all in sign_at s t ss b bs parts.0 other ∙ sign_none ss b bs parts.1 other

signs_begin : list_all (λ s. begins_other s.0) signs ≡ true
unfolding begins_other is_other
signs_begin = refl

pub never_sign : (b : ℕ) (bs : List ℕ) → (class_of b ≡ Other → ⊥) → sign_among signs (b ∷ bs) ≡ None
never_sign b bs other = sign_none signs b bs signs_begin other

-- which class a name, a constant and the others begin with
unfoldable pub named : List ℕ → Option Token
named text = cond (is_name text) (Some (Name text)) None

pub never_named : (b : ℕ) (bs : List ℕ) → (class_of b ≡ Letter → ⊥) → named (b ∷ bs) ≡ None
unfolding named
never_named b bs other = rw (other_begins b other) refl

decimal_begins : (b : ℕ) (bs : List ℕ) → (class_of b ≡ Digit → ⊥) → decimal_of (b ∷ bs) ≡ None
decimal_begins b bs other = none_from (decimal_of (b ∷ bs)) (λ v e. other (decimal_class b (and_parts _ _ (decimal_parts (b ∷ bs) v e).1).0))

hexadecimal_begins : (b : ℕ) (bs : List ℕ) → (class_of b ≡ Digit → ⊥) → number_after_0x (b ∷ bs) ≡ None
hexadecimal_begins b bs other = none_from (number_after_0x (b ∷ bs)) (λ v e. let parts = hexadecimal_parts (b ∷ bs) v e in let zero_digit : b ≡ 48 = first b bs parts.0 parts.1 in other (subst (λ (n : ℕ). class_of n ≡ Digit) (sym zero_digit) refl))
  where
    first : (b : ℕ) (bs ds : List ℕ) → b ∷ bs ≡ 48 ∷ 120 ∷ ds → b ≡ 48
    first b bs ds e = cc

mac_begins : (b : ℕ) (bs : List ℕ) → (class_of b ≡ Digit → ⊥) → (class_of b ≡ Letter → ⊥) → mac_of (b ∷ bs) ≡ None
mac_begins b bs digit letter = none_from (mac_of (b ∷ bs)) (λ n e. hexadecimal_class b (ltb-true _ _ (mac_first b bs n e)) digit letter)

ip4_begins : (b : ℕ) (bs : List ℕ) → (class_of b ≡ Digit → ⊥) → ip4_of (b ∷ bs) ≡ None
ip4_begins b bs other = none_from (ip4_of (b ∷ bs)) (λ a e. other (decimal_class b (ip4_first b bs a e)))

pub constant_begins : (b : ℕ) (bs : List ℕ) → (class_of b ≡ Digit → ⊥) → constant_of (b ∷ bs) ≡ option_map (constant form.Mac) (mac_of (b ∷ bs))
constant_begins b bs digit =
    join (decimal_of (b ∷ bs)) (number_after_0x (b ∷ bs)) (mac_of (b ∷ bs)) (ip4_of (b ∷ bs)) (decimal_begins b bs digit) (hexadecimal_begins b bs digit) (ip4_begins b bs digit)
  where
    join : (d h m : Option ℕ) (a : Option Ip4) → d ≡ None → h ≡ None → a ≡ None → or_else (option_map (constant form.Dec) d) (or_else (option_map (constant form.Hex) h) (or_else (option_map (constant form.Mac) m) (option_map (λ a. constant form.Ip4 a.0) a))) ≡ option_map (constant form.Mac) m
    join d h None a e f g = rw (e, f, g) refl
    join d h (Some n) a e f g = rw (e, f) refl

unfoldable pub numbered : List ℕ → Option Token
numbered text = option_map Number (constant_of text)

pub never_numbered : (b : ℕ) (bs : List ℕ) → (class_of b ≡ Digit → ⊥) → (class_of b ≡ Letter → ⊥) → numbered (b ∷ bs) ≡ None
unfolding numbered
never_numbered b bs digit letter = ap (option_map Number) (constant_begins b bs digit) ∙ ap (λ (n : Option ℕ). option_map Number (option_map (constant form.Mac) n)) (mac_begins b bs digit letter)

unfoldable pub quoted : List ℕ → Option Token
quoted text = option_map Text (quoted_of text)

pub never_quoted : (b : ℕ) (bs : List ℕ) → (class_of b ≡ Quote → ⊥) → quoted (b ∷ bs) ≡ None
unfolding quoted
never_quoted b bs other = ap (option_map Text) (not_quoted (apart b 34 other))
  where
    not_quoted : eqb b 34 ≡ false → quoted_of (b ∷ bs) ≡ None
    not_quoted e = rw (e, and_right (leb 2 (length (b ∷ bs))) false refl) refl

unfoldable pub in_set : List ℕ → Option Token
in_set text = option_map AddrSet (name_after 36 text)

pub never_in_set : (b : ℕ) (bs : List ℕ) → (class_of b ≡ Dollar → ⊥) → in_set (b ∷ bs) ≡ None
unfolding in_set
never_in_set b bs other = rw (apart b 36 other) refl

unfoldable pub in_group : List ℕ → Option Token
in_group text = option_map Group (name_after 64 text)

pub never_in_group : (b : ℕ) (bs : List ℕ) → (class_of b ≡ At → ⊥) → in_group (b ∷ bs) ≡ None
unfolding in_group
never_in_group b bs other = rw (apart b 64 other) refl

-- The kind of a token, by the class of its first byte.

skip : {a b x : Option Token} → a ≡ None → b ≡ x → or_else a b ≡ x
skip e f = rw e f

stop : (a : Option Token) {b : Option Token} → b ≡ None → or_else a b ≡ a
stop None e = e
stop (Some t) e = refl

-- what a text spells whose first byte is of this class
abbrev pub kind : Class → List ℕ → Option Token
kind Letter text = or_else (cond (is_name text) (Some (Name text)) None) (option_map Number (option_map (constant form.Mac) (mac_of text)))
kind Digit text = option_map Number (constant_of text)
kind Quote text = option_map Text (quoted_of text)
kind Dollar text = option_map AddrSet (name_after 36 text)
kind At text = option_map Group (name_after 64 text)
kind Other text = sign_among signs text

pub spelled_by : (c : Class) (b : ℕ) (bs : List ℕ) → class_of b ≡ c → spelled (b ∷ bs) ≡ kind c (b ∷ bs)
unfolding spelled named numbered quoted in_set in_group
spelled_by Letter b bs is =
    skip (never_sign b bs (λ e. cc)) (ap (or_else (named (b ∷ bs)))
    (stop (numbered (b ∷ bs)) (skip (never_quoted b bs (λ e. cc)) (skip (never_in_set b bs (λ e. cc)) (never_in_group b bs (λ e. cc))))
    ∙ ap (option_map Number) (constant_begins b bs (λ e. cc))))
spelled_by Digit b bs is =
    skip (never_sign b bs (λ e. cc)) (skip (never_named b bs (λ e. cc))
    (stop (numbered (b ∷ bs)) (skip (never_quoted b bs (λ e. cc)) (skip (never_in_set b bs (λ e. cc)) (never_in_group b bs (λ e. cc))))))
spelled_by Quote b bs is =
    skip (never_sign b bs (λ e. cc)) (skip (never_named b bs (λ e. cc))
    (skip (never_numbered b bs (λ e. cc) (λ e. cc)) (stop (quoted (b ∷ bs)) (skip (never_in_set b bs (λ e. cc)) (never_in_group b bs (λ e. cc))))))
spelled_by Dollar b bs is =
    skip (never_sign b bs (λ e. cc)) (skip (never_named b bs (λ e. cc))
    (skip (never_numbered b bs (λ e. cc) (λ e. cc)) (skip (never_quoted b bs (λ e. cc)) (stop (in_set (b ∷ bs)) (never_in_group b bs (λ e. cc))))))
spelled_by At b bs is =
    skip (never_sign b bs (λ e. cc)) (skip (never_named b bs (λ e. cc))
    (skip (never_numbered b bs (λ e. cc) (λ e. cc)) (skip (never_quoted b bs (λ e. cc)) (skip (never_in_set b bs (λ e. cc)) refl))))
spelled_by Other b bs is =
    stop (sign_among signs (b ∷ bs)) (skip (never_named b bs (λ e. cc))
    (skip (never_numbered b bs (λ e. cc) (λ e. cc))
    (skip (never_quoted b bs (λ e. cc)) (skip (never_in_set b bs (λ e. cc)) (never_in_group b bs (λ e. cc))))))

-- the same of each front of a text
pub fronts : (c : Class) (text : List ℕ) (k : ℕ) → 0 < length text → class_of (get_or text 0 0) ≡ c → 0 < k → spelled (take k text) ≡ kind c (take k text)
fronts c [] k some is low = absurd (omega arith)
fronts c (b ∷ bs) zero some is low = absurd (omega arith)
fronts c (b ∷ bs) (suc k) some is low = spelled_by c b (take k bs) is

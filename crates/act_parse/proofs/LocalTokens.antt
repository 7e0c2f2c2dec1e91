-- The readings of numbers, addresses, names and fields look no further than one byte after them.
use Rattle.std.proofs.Common.{◌≡◌, ℕ, ◌^◌, ◌<◌, ◌≤◌, Bool, true, false, cond, leb, eqb, ◌||◌, not, List, [], ◌∷◌, ◌++◌, length, take, drop, Option, Some, None, codes, decimal as decimal_text, refl, ap, sym, subst, ◌∙◌, arith, inl, inr}
use Rattle.std.specs.Char.{is_digit, digit_value}
use Rattle.std.specs.List.{list_all}
use Rattle.std.specs.Option.{option_map}
use Rattle.std.proofs.lemmas.Bool.{and_parts, and_from, or_left, or_right, or_cases, false≢true, ltb-true, le-leb, eqb-true, cases_lt}
use Rattle.std.proofs.lemmas.Bool.Decides.{nat_tests}
use Rattle.std.proofs.lemmas.Option.{cond_some}
use Rattle.std.proofs.lemmas.List.Folds.{list_all-append}
use Rattle.nv_base.specs.Name.{is_name_byte, is_quotable}
use Rattle.nv_base.specs.Ip4.{address, ip4_text}
use Rattle.nv_base.specs.Field.{field_name, field_width, field_of}
use Rattle.nv_base.specs.declared.field.Field.{Field}
use Rattle.nv_base.specs.declared.field.Field.TheVariants as field
use Rattle.nv_base.specs.declared.ip4.Ip4.{Ip4}
use Rattle.nv_base.proofs.RoundTrips.{decimal_is_read}
use Rattle.nv_base.proofs.ByteTrips.{written_address}
use Rattle.expr_core.specs.declared.constant.Const.{Const}
use Rattle.expr_core.specs.declared.part.Bits.{Bits}
use Rattle.expr_const.specs.Constant.{constant_of}
use Rattle.expr_const.specs.inner.Bytes.{is_in_constant}
use Rattle.expr_const.proofs.Pieces.{weaker}
use Rattle.expr_const.proofs.Shapes.{ip4_digits}
use Rattle.expr_const.proofs.Decimals.{decimal_digit, decimal_parts}
use Rattle.expr_const.proofs.ConstantFronts.{constant_spelt}
use Rattle.act_core.specs.WellFormed as formed
use Rattle.act_core.specs.WellFormed.{fits}
use Rattle.act_core.specs.declared.step.Step.{Step}
use Rattle.act_parse.specs.declared.wanted.Wanted.{Wanted}
use Rattle.act_parse.specs.declared.wanted.Wanted.TheVariants as wanted
use Rattle.act_parse.specs.inner.Token.{run, after_run, word, after_word, is_between, begins_word, is_in_word, is_in_decimal, is_in_address, is_in_value, is_in_name, as_written, constant, decimal_of, address_of, name_of}
use Rattle.act_parse.specs.inner.Wanted.{begins_field, field_value, constant_value, value_of, can_end, begins}
use Rattle.act_parse.specs.inner.Reading as reading
use Rattle.act_parse.specs.inner.Reading.{Reading, found, decimal, ip4, ended}
use Rattle.act_parse.specs.inner.Reading.Reading.{Read, Stuck}
use Rattle.act_parse.proofs.TakesTokens.{name_of_takes}
use Rattle.act_parse.proofs.Values.{field_found, quotable_bytes}
use Rattle.act_parse.proofs.Ends.{decimal_ends, address_ends, quotable_ends, field_ends, value_ends, only_words}
use Rattle.act_parse.proofs.Begins.{Fine, decimal_begins, address_begins, name_begins, field_begins, value_begins}
use Rattle.act_parse.proofs.Local.{Local, pure_local, like, ended_local}
use Rattle.act_parse.proofs.Leaf.{leaf, Leaf, leaf_local, seen, run_leaf}

-- what passes of the whole passes of its front
pub before : (p : ℕ → Bool) (xs end : List ℕ) → list_all p (xs ++ end) ≡ true → list_all p xs ≡ true
before p xs end e = (and_parts (list_all p xs) (list_all p end) (sym (list_all-append p xs end) ∙ e)).0

-- a reading of what was found
pub found_local : {T : Type 0} (w : Wanted) (inside : ℕ → Bool) (done : List ℕ → Option T) → Leaf (seen inside done) (begins w) → Local (λ text. found w text (after_run inside text) (done (run inside text)))
found_local {T} w inside done one =
    like (λ text. found w text (after_run inside text) (done (run inside text))) (λ text. leaf (begins w) (λ v rest. Read v rest) text (seen inside done text)) (λ text. same text (done (run inside text)))
    (leaf_local (seen inside done) (begins w) (λ v rest. Read v rest) one (λ v. pure_local v))
  where
    same : (text : List ℕ) (o : Option T) → found w text (after_run inside text) o ≡ leaf {K = T} (begins w) (λ v rest. Read v rest) text (option_map (λ v. (v, after_run inside text)) o)
    same text None = refl
    same text (Some v) = refl

decimal_byte : (c : ℕ) → is_digit c 10 ≡ true → is_in_decimal c ≡ true
decimal_byte c e = let d = decimal_digit c (ltb-true (digit_value c) 10 e) in and_from (leb 48 c) (leb c 57) (le-leb 48 c d.0) (le-leb c 57 d.1)

pub decimal_inside : (n : ℕ) → n < 2 ^ 128 → list_all is_in_decimal (decimal_text n) ≡ true
decimal_inside n small = weaker (λ c. is_digit c 10) is_in_decimal decimal_byte (decimal_text n) (decimal_parts (decimal_text n) n (decimal_is_read n small)).1

pub decimal_local : (first limit : ℕ) → Fine first limit → Local (decimal first limit)
decimal_local first limit fine =
    found_local (wanted.Decimal first limit) is_in_decimal (decimal_of first limit)
    (run_leaf is_in_decimal (decimal_of first limit) (begins (wanted.Decimal first limit)) (λ w v k e some le. decimal_begins first limit fine w v k e some le)
    (λ w e. let d = decimal_ends first limit w e in before is_in_decimal w d.1 (ap (list_all is_in_decimal) d.2 ∙ decimal_inside d.0 (omega (arith, ltb-true d.0 limit d.4, fine.0)))))

address_byte : (c : ℕ) → (is_digit c 10 || eqb c 46) ≡ true → is_in_address c ≡ true
address_byte c e = elim (or_cases (is_digit c 10) (eqb c 46) e) as (λ _. is_in_address c ≡ true) [ inl digit ↦ or_left (is_in_decimal c) (eqb c 46) (decimal_byte c digit) | inr dot ↦ or_right (is_in_decimal c) (eqb c 46) dot ]

pub address_inside : (a : Ip4) → formed.is_address a ≡ true → list_all is_in_address (ip4_text a) ≡ true
address_inside a good = weaker (λ c. is_digit c 10 || eqb c 46) is_in_address address_byte (ip4_text a) (ip4_digits (ip4_text a) (address a.0) (written_address a.0 (ltb-true a.0 (2 ^ 32) good)))

pub ip4_local : Local ip4
ip4_local =
    found_local wanted.Address is_in_address address_of
    (run_leaf is_in_address address_of (begins wanted.Address) (λ w v k e some le. address_begins w v k e some le)
    (λ w e. let d = address_ends w e in before is_in_address w d.1 (ap (list_all is_in_address) d.2 ∙ address_inside d.0 d.3)))

name_byte : (b : ℕ) → is_name_byte b ≡ true → is_in_name b ≡ true
name_byte b e = go (eqb b 34) refl
  where
    go : (t : Bool) → eqb b 34 ≡ t → is_in_name b ≡ true
    go false is = ap not is
    go true is = absurd (false≢true (subst (λ (n : ℕ). is_name_byte n ≡ true) (eqb-true b 34 is) e))

pub name_inside : (name : List ℕ) → is_quotable name ≡ true → list_all is_in_name name ≡ true
name_inside name good = weaker is_name_byte is_in_name name_byte name (quotable_bytes name good)

pub name_local : Local reading.name
name_local =
    found_local wanted.Name is_in_name name_of
    (run_leaf is_in_name name_of (begins wanted.Name)
    (λ w v k e some le. let took = name_of_takes w v e in name_begins w k (ap is_quotable took.0 ∙ took.1) some le)
    (λ w e. let d = quotable_ends w e in before is_in_name w d.0 (name_inside (w ++ d.0) d.1)))

between : (first last c : ℕ) → first ≤ c → c ≤ last → is_between first last c ≡ true
between first last c low high = and_from (leb first c) (leb c last) (le-leb first c low) (le-leb c last high)

-- a hexadecimal digit may be in a word
hexadecimal_byte : (c : ℕ) → digit_value c < 16 → is_in_word c ≡ true
hexadecimal_byte c h = elim (cases_lt c 58) as (λ _. is_in_word c ≡ true) [
  | inl small ↦ elim (cases_lt c 48) as (λ _. is_in_word c ≡ true) [
    | inl lt ↦ absurd (grind (arith, nat_tests, h, lt))
    | inr ge ↦ or_left _ (eqb c 46) (or_right (begins_word c) (is_between 48 57 c) (between 48 57 c ge (omega (arith, small))))
  ]
  | inr far ↦ elim (cases_lt c 91) as (λ _. is_in_word c ≡ true) [
    | inl upper ↦ elim (cases_lt c 65) as (λ _. is_in_word c ≡ true) [
      | inl lt ↦ absurd (grind (arith, nat_tests, h, lt, far))
      | inr ge ↦ or_left _ (eqb c 46) (or_left (begins_word c) (is_between 48 57 c) (or_left _ (eqb c 95) (or_right (is_between 97 122 c) (is_between 65 90 c) (between 65 90 c ge (omega (arith, upper))))))
    ]
    | inr past ↦ elim (cases_lt c 97) as (λ _. is_in_word c ≡ true) [
      | inl lt ↦ absurd (grind (arith, nat_tests, h, lt, past))
      | inr ge ↦ elim (cases_lt c 123) as (λ _. is_in_word c ≡ true) [
        | inl lower ↦ or_left _ (eqb c 46) (or_left (begins_word c) (is_between 48 57 c) (or_left _ (eqb c 95) (or_left (is_between 97 122 c) (is_between 65 90 c) (between 97 122 c ge (omega (arith, lower))))))
        | inr beyond ↦ absurd (grind (arith, nat_tests, h, beyond))
      ]
    ]
  ]
]

is_x : (c : ℕ) → eqb c 120 ≡ true → is_in_word c ≡ true
is_x c e = ap is_in_word (eqb-true c 120 e)

constant_byte : (c : ℕ) → is_in_constant c ≡ true → is_in_value c ≡ true
constant_byte c e = elim (or_cases ((is_digit c 16 || eqb c 120) || eqb c 46) (eqb c 58) e) as (λ _. is_in_value c ≡ true) [
  | inl other ↦ or_left (is_in_word c) (eqb c 58) (elim (or_cases (is_digit c 16 || eqb c 120) (eqb c 46) other) as (λ _. is_in_word c ≡ true) [
    | inl digit ↦ elim (or_cases (is_digit c 16) (eqb c 120) digit) as (λ _. is_in_word c ≡ true) [ inl hex ↦ hexadecimal_byte c (ltb-true (digit_value c) 16 hex) | inr x ↦ is_x c x ]
    | inr dot ↦ or_right (begins_word c || is_between 48 57 c) (eqb c 46) dot
  ])
  | inr colon ↦ or_right (is_in_word c) (eqb c 58) colon
]

constant_is : (w : List ℕ) (c : Const) → constant w ≡ Some c → constant_of w ≡ Some c
constant_is w c e = go (constant_of w) refl e
  where
    go : (o : Option Const) → constant_of w ≡ o → as_written w o ≡ Some c → constant_of w ≡ Some c
    go None is e = absurd (cc)
    go (Some d) is e = is ∙ ap (λ (x : Const). Some x) (cond_some _ d c e).1

pub field_inside : (f : Field) → list_all is_in_word (field_name f) ≡ true
field_inside field.Inport = refl
field_inside _ = refl

in_word_in_value : (c : ℕ) → is_in_word c ≡ true → is_in_value c ≡ true
in_word_in_value c e = or_left (is_in_word c) (eqb c 58) e

pub constant_inside : (w : List ℕ) (c : Const) → constant w ≡ Some c → list_all is_in_value w ≡ true
constant_inside w c is = weaker is_in_constant is_in_value constant_byte w (constant_spelt w c (constant_is w c is)).0

pub name_is_value : (g : Field) → list_all is_in_value (field_name g) ≡ true
name_is_value g = weaker is_in_word is_in_value in_word_in_value (field_name g) (field_inside g)

value_inside : (f : Field) (b : Bits) (w : List ℕ) (s : Step) → value_of f b w ≡ Some s → list_all is_in_value w ≡ true
value_inside f b w s e = by_constant (constant w) refl e
  where
    by_field : (o : Option Field) → field_of w ≡ o → field_value f b o ≡ Some s → list_all is_in_value w ≡ true
    by_field None is e = absurd (cc)
    by_field (Some g) is e = ap (list_all is_in_value) (field_found w g is) ∙ name_is_value g

    by_constant : (o : Option Const) → constant w ≡ o → constant_value f b w o ≡ Some s → list_all is_in_value w ≡ true
    by_constant None is e = by_field (field_of w) refl e
    by_constant (Some c) is e = constant_inside w c is

pub plain_local : (f : Field) (b : Bits) → Local (reading.plain_value f b)
plain_local f b =
    like (reading.plain_value f b) (λ text. leaf (begins (wanted.Value f b)) (λ s rest. ended s (codes ";" ∷ []) rest) text (seen is_in_value (value_of f b) text)) (λ text. same text (value_of f b (run is_in_value text)))
    (leaf_local (seen is_in_value (value_of f b)) (begins (wanted.Value f b)) (λ s rest. ended s (codes ";" ∷ []) rest)
    (run_leaf is_in_value (value_of f b) (begins (wanted.Value f b)) (λ w v k e some le. value_begins f b w v k e some le)
    (λ w e. let d = value_ends f b w e in before is_in_value w d.1 (value_inside f b (w ++ d.1) d.0 d.2)))
    (λ s. ended_local s (codes ";" ∷ [])))
  where
    same : (text : List ℕ) (o : Option Step) → reading.value_found f b text o ≡ leaf {K = Step} (begins (wanted.Value f b)) (λ s rest. ended s (codes ";" ∷ []) rest) text (option_map (λ s. (s, after_run is_in_value text)) o)
    same text None = refl
    same text (Some s) = refl

-- a field of this width
abbrev narrow : ℕ → Option Field → Option Field
narrow width None = None
narrow width (Some f) = cond (eqb (field_width f) width) (Some f) None

narrow_is : (width : ℕ) (o : Option Field) (f : Field) → narrow width o ≡ Some f → (o ≡ Some f) × (eqb (field_width f) width ≡ true)
narrow_is width None f e = absurd (cc)
narrow_is width (Some g) f e =
    let passed = cond_some (eqb (field_width g) width) g f e in
    (ap (λ (x : Field). Some x) passed.1, ap (λ (x : Field). eqb (field_width x) width) (sym passed.1) ∙ passed.0)

pub field_local : (width : ℕ) → Local (reading.field_of_width width)
field_local width =
    like (reading.field_of_width width) (λ text. leaf (begins (wanted.Field width)) (λ f rest. Read f rest) text (seen is_in_word (λ w. narrow width (field_of w)) text)) (λ text. same text (field_of (word text)))
    (leaf_local (seen is_in_word (λ w. narrow width (field_of w))) (begins (wanted.Field width)) (λ f rest. Read f rest)
    (run_leaf is_in_word (λ w. narrow width (field_of w)) (begins (wanted.Field width))
    (λ w v k e some le. let n = narrow_is width (field_of w) v e in or_left (begins_field width (take k w)) (can_end (wanted.Field width) (take k w)) (field_begins width w v k n.0 n.1))
    (λ w e. let f = field_ends width w (only_words (wanted.Field width) w (λ text. refl) e) in before is_in_word w (drop (length w) (field_name f.0)) (ap (list_all is_in_word) f.1 ∙ field_inside f.0)))
    (λ f. pure_local f))
  where
    test : (text : List ℕ) (f : Field) (p : Bool)
        → cond p (Read f (after_word text)) (reading.lost {T = Field} (wanted.Field width) text) ≡ leaf {K = Field} (begins (wanted.Field width)) (λ f rest. Read f rest) text (option_map (λ f. (f, after_word text)) (cond p (Some f) None))
    test text f true = refl
    test text f false = refl

    same : (text : List ℕ) (o : Option Field) → reading.named_field width text o ≡ leaf {K = Field} (begins (wanted.Field width)) (λ f rest. Read f rest) text (option_map (λ f. (f, after_word text)) (narrow width o))
    same text None = refl
    same text (Some f) = test text f (eqb (field_width f) width)

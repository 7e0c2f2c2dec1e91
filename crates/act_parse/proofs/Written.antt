-- What is written of a well-formed action without a block is read as that action.
use Rattle.std.proofs.Common.{◌≡◌, ℕ, ◌^◌, ◌<◌, Bool, true, false, cond, ltb, leb, eqb, ◌&&◌, List, [], ◌∷◌, ◌++◌, Some, None, codes, refl, ap, sym, ◌∙◌, arith, decimal as decimal_text, append_assoc}
use Rattle.std.specs.List.{list_all}
use Rattle.std.proofs.lemmas.Bool.{and_parts, and_right, false≢true, ltb-true, leb-true, le-leb, lt-ltb, eqb-true}
use Rattle.nv_base.specs.Field.{field_name, field_width, field_of}
use Rattle.nv_base.specs.Ip4.{ip4_text}
use Rattle.nv_base.specs.Name.{is_quotable}
use Rattle.nv_base.specs.declared.ip4.Ip4.{Ip4}
use Rattle.nv_base.proofs.Fields.{name_read as field_name_read}
use Rattle.nv_base.specs.declared.field.Field.{Field}
use Rattle.nv_base.specs.declared.field.Field.TheVariants as field
use Rattle.expr_core.specs.Text.{const_text, bits_text}
use Rattle.expr_core.specs.Width.{part_width, limit}
use Rattle.expr_core.specs.declared.part.Bits.{Bits}
use Rattle.expr_core.specs.declared.part.Bits.TheVariants.{Whole, Bit, Range}
use Rattle.act_core.specs.WellFormed.{fits, are_bits_of, is_address}
use Rattle.act_core.specs.declared.step.Step.{Step}
use Rattle.act_core.specs.declared.step.Step.TheVariants.{Set, Copy}
use Rattle.expr_core.specs.declared.constant.Const.{Const}
use Rattle.act_parse.specs.declared.wanted.Wanted.{Wanted}
use Rattle.act_parse.specs.declared.wanted.Wanted.TheVariants as wanted
use Rattle.act_parse.specs.inner.Token.{is_at, after_run, is_in_word, is_in_decimal, is_in_address, is_in_value, is_in_name, word, after_word, decimal_of, address_of, name_of}
use Rattle.act_parse.specs.inner.Keyword.{keyword_of, keywords, block_of, blocks}
use Rattle.act_parse.specs.inner.Wanted.{value_of}
use Rattle.act_parse.specs.inner.Reading as reading
use Rattle.act_parse.specs.inner.Reading.{found, decimal, ip4}
use Rattle.act_parse.specs.inner.Reading.Reading.{Read}
use Rattle.act_parse.proofs.Leaf.{run_is}
use Rattle.act_parse.proofs.Values.{constant_read, set_value, copy_value, name_of_read}
use Rattle.act_parse.proofs.Begins.{decimal_of_read, address_of_read}
use Rattle.act_parse.proofs.LocalTokens.{decimal_inside, address_inside, name_inside, field_inside, constant_inside, name_is_value}

pub word_is : (w : List ℕ) (b : ℕ) (rest : List ℕ) → list_all is_in_word w ≡ true → is_in_word b ≡ false → word (w ++ b ∷ rest) ≡ w
word_is w b rest all apart = (run_is is_in_word w b rest all apart).0

pub after_is : (w : List ℕ) (b : ℕ) (rest : List ℕ) → list_all is_in_word w ≡ true → is_in_word b ≡ false → after_word (w ++ b ∷ rest) ≡ b ∷ rest
after_is w b rest all apart = (run_is is_in_word w b rest all apart).1

-- numbers, addresses and names before a byte that they do not have
pub decimal_read : (first most n b : ℕ) (rest : List ℕ) → leb first n ≡ true → ltb n most ≡ true → n < 2 ^ 128 → is_in_decimal b ≡ false → decimal first most (decimal_text n ++ b ∷ rest) ≡ Read n (b ∷ rest)
decimal_read first most n b rest low high small apart =
    let text = decimal_text n ++ b ∷ rest in
    let r = run_is is_in_decimal (decimal_text n) b rest (decimal_inside n small) apart in
    ap (λ xs. found (wanted.Decimal first most) text (after_run is_in_decimal text) (decimal_of first most xs)) r.0
    ∙ ap (found (wanted.Decimal first most) text (after_run is_in_decimal text)) (decimal_of_read first most n low high small)
    ∙ ap (λ xs. Read n xs) r.1

pub ip4_read : (a : Ip4) (b : ℕ) (rest : List ℕ) → is_address a ≡ true → is_in_address b ≡ false → ip4 (ip4_text a ++ b ∷ rest) ≡ Read a (b ∷ rest)
ip4_read a b rest good apart =
    let text = ip4_text a ++ b ∷ rest in
    let r = run_is is_in_address (ip4_text a) b rest (address_inside a good) apart in
    ap (λ xs. found wanted.Address text (after_run is_in_address text) (address_of xs)) r.0
    ∙ ap (found wanted.Address text (after_run is_in_address text)) (address_of_read a good)
    ∙ ap (λ xs. Read a xs) r.1

pub name_read : (name rest : List ℕ) → is_quotable name ≡ true → reading.name (name ++ 34 ∷ rest) ≡ Read name (34 ∷ rest)
name_read name rest good =
    let text = name ++ 34 ∷ rest in
    let r = run_is is_in_name name 34 rest (name_inside name good) refl in
    ap (λ xs. found wanted.Name text (after_run is_in_name text) (name_of xs)) r.0
    ∙ ap (found wanted.Name text (after_run is_in_name text)) (name_of_read name good)
    ∙ ap (λ xs. Read name xs) r.1

no_keyword : (f : Field) → keyword_of (field_name f) ≡ None
unfolding keywords
no_keyword field.Inport = refl
no_keyword _ = refl

pub no_block : (f : Field) → block_of (field_name f) ≡ None
unfolding blocks
no_block field.Inport = refl
no_block _ = refl

-- an action that begins with the name of a field
pub step_of_field : (w : Wanted) (f : Field) (b : ℕ) (rest : List ℕ) → is_in_word b ≡ false → reading.step w (field_name f ++ b ∷ rest) ≡ reading.field_step f (b ∷ rest)
step_of_field w f b rest apart =
    let name = word_is (field_name f) b rest (field_inside f) apart in
    let after = after_is (field_name f) b rest (field_inside f) apart in
    ap (λ xs. reading.step_by w (field_name f ++ b ∷ rest) (keyword_of xs)) name
    ∙ ap (reading.step_by w (field_name f ++ b ∷ rest)) (no_keyword f)
    ∙ ap (λ xs. reading.step_by_field w (field_name f ++ b ∷ rest) (field_of xs)) name
    ∙ ap (reading.step_by_field w (field_name f ++ b ∷ rest)) (field_name_read f)
    ∙ ap (reading.field_step f) after

-- fields have at most 48 bits
width_most : (f : Field) → leb (field_width f) 48 ≡ true
width_most field.Inport = refl
width_most _ = refl

-- a bit of a field is at most 47
small : (f : Field) (n : ℕ) → ltb n (field_width f) ≡ true → n < 256
small f n e = omega (arith, ltb-true n (field_width f) e, leb-true (field_width f) 48 (width_most f))

pub zero_first : (n : ℕ) → leb 0 n ≡ true
zero_first n = le-leb 0 n (omega arith)

-- the bits of a part, and a space
bits_read : (f : Field) (b : Bits) (r : List ℕ) → are_bits_of (field_width f) b ≡ true → reading.bits (field_width f) (bits_text b ++ 32 ∷ r) ≡ Read b (32 ∷ r)
bits_read f Whole r good = refl
bits_read f (Bit n) r good =
    let text : (decimal_text n ++ 93 ∷ []) ++ 32 ∷ r ≡ decimal_text n ++ 93 ∷ 32 ∷ r = append_assoc (decimal_text n) (93 ∷ []) (32 ∷ r) in
    let n_read = decimal_read 0 (field_width f) n 93 (32 ∷ r) (zero_first n) good (omega (arith, small f n good)) refl in
    ap (λ xs. reading.bits (field_width f) (91 ∷ xs)) text ∙ ap (λ x. reading.and_then x (reading.last_bit (field_width f))) n_read
bits_read f (Range m n) r good =
    let tests = and_parts (leb m n) (ltb n (field_width f)) good in
    let low : m < 256 = omega (arith, leb-true m n tests.0, small f n tests.1) in
    let below : ltb m (field_width f) ≡ true = lt-ltb m (field_width f) (omega (arith, leb-true m n tests.0, ltb-true n (field_width f) tests.1)) in
    let text : (((decimal_text m ++ 46 ∷ 46 ∷ []) ++ decimal_text n) ++ 93 ∷ []) ++ 32 ∷ r ≡ decimal_text m ++ 46 ∷ 46 ∷ (decimal_text n ++ 93 ∷ 32 ∷ r) = pieces (decimal_text m) (46 ∷ 46 ∷ []) (decimal_text n) (93 ∷ []) (32 ∷ r) in
    let m_read = decimal_read 0 (field_width f) m 46 (46 ∷ (decimal_text n ++ 93 ∷ 32 ∷ r)) (zero_first m) below (omega (arith, low)) refl in
    let n_read = decimal_read m (field_width f) n 93 (32 ∷ r) tests.0 tests.1 (omega (arith, small f n tests.1)) refl in
    ap (λ xs. reading.bits (field_width f) (91 ∷ xs)) text ∙ ap (λ x. reading.and_then x (reading.last_bit (field_width f))) m_read
    ∙ ap (λ x. reading.and_then x (λ last rest. reading.ended (Range m last) (codes "]" ∷ []) rest)) n_read
  where
    pieces : (a b c d e : List ℕ) → (((a ++ b) ++ c) ++ d) ++ e ≡ a ++ (b ++ (c ++ (d ++ e)))
    pieces a b c d e = simp append_assoc refl

-- a part, and a space
part_read : (f : Field) (b : Bits) (r : List ℕ) → are_bits_of (field_width f) b ≡ true → reading.part f (bits_text b ++ 32 ∷ r) ≡ reading.sign_of_part f b r
part_read f b r good = ap (λ x. reading.and_then x (λ b rest. reading.and_then (reading.token (codes " ") rest) (λ _ rest. reading.sign_of_part f b rest))) (bits_read f b r good)

no_ttl : (f : Field) (x : ℕ) (r : List ℕ) → is_at (codes "-") (x ∷ r) ≡ false → reading.field_step f (x ∷ r) ≡ reading.part f (x ∷ r)
no_ttl f x r apart = rw (apart, and_right (reading.is_ttl f) false refl) refl

-- what an action does that begins with a part
pub step_of_part : (w : Wanted) (f : Field) (b : Bits) (r : List ℕ) → are_bits_of (field_width f) b ≡ true → reading.step w ((field_name f ++ bits_text b) ++ 32 ∷ r) ≡ reading.sign_of_part f b r
step_of_part w f b r good = ap (reading.step w) (append_assoc (field_name f) (bits_text b) (32 ∷ r)) ∙ first b good ∙ part_read f b r good
  where
    first : (t : Bits) → are_bits_of (field_width f) t ≡ true → reading.step w (field_name f ++ (bits_text t ++ 32 ∷ r)) ≡ reading.part f (bits_text t ++ 32 ∷ r)
    first Whole e = step_of_field w f 32 r refl ∙ no_ttl f 32 r refl
    first (Bit n) e = step_of_field w f 91 ((decimal_text n ++ 93 ∷ []) ++ 32 ∷ r) refl ∙ no_ttl f 91 ((decimal_text n ++ 93 ∷ []) ++ 32 ∷ r) refl
    first (Range m n) e = step_of_field w f 91 ((((decimal_text m ++ 46 ∷ 46 ∷ []) ++ decimal_text n) ++ 93 ∷ []) ++ 32 ∷ r) refl ∙ no_ttl f 91 ((((decimal_text m ++ 46 ∷ 46 ∷ []) ++ decimal_text n) ++ 93 ∷ []) ++ 32 ∷ r) refl

-- `= ` and a value
pub assigned_read : (f : Field) (b : Bits) (r : List ℕ) → reading.sign_of_part f b (61 ∷ 32 ∷ r) ≡ reading.value f b r
assigned_read f b r = rw (and_right (reading.is_whole b) false refl) refl

-- no value but a name begins with a double quote
no_quote : (w : List ℕ) (b : ℕ) (rest : List ℕ) → list_all is_in_value w ≡ true → eqb b 34 ≡ false → is_at (codes "\"") (w ++ b ∷ rest) ≡ false
no_quote [] b rest all apart = rw apart refl
no_quote (x ∷ xs) b rest all apart = go (eqb x 34) refl
  where
    go : (p : Bool) → eqb x 34 ≡ p → (eqb x 34 && true) ≡ false
    go false is = ap (λ (t : Bool). t && true) is
    go true is = absurd (false≢true (ap is_in_value (sym (eqb-true x 34 is)) ∙ (and_parts (is_in_value x) (list_all is_in_value xs) all).0))

plain_read : (f : Field) (b : Bits) (w : List ℕ) (s : Step) (rest : List ℕ) → value_of f b w ≡ Some s → list_all is_in_value w ≡ true → reading.value f b (w ++ 59 ∷ rest) ≡ Read s rest
plain_read f b w s rest e all =
    let text = w ++ 59 ∷ rest in
    let r = run_is is_in_value w 59 rest all refl in
    ap (λ (p : Bool). cond p (reading.outport_name text) (reading.plain_value f b text)) (ap (λ (p : Bool). reading.takes_name f b && p) (no_quote w 59 rest all refl) ∙ and_right (reading.takes_name f b) false refl)
    ∙ ap (λ xs. reading.value_found f b text (value_of f b xs)) r.0
    ∙ ap (reading.value_found f b text) e
    ∙ ap (λ xs. reading.ended s (codes ";" ∷ []) xs) r.1

pub set_read : (f : Field) (b : Bits) (c : Const) (rest : List ℕ) → fits (part_width b (field_width f)) c ≡ true → reading.value f b (const_text c ++ 59 ∷ rest) ≡ Read (Set f b c) rest
set_read f b c rest good =
    let within = ltb-true c.value (limit c.form) (and_parts (ltb c.value (2 ^ part_width b (field_width f))) (ltb c.value (limit c.form)) good).1 in
    plain_read f b (const_text c) (Set f b c) rest (set_value f b c good) (constant_inside (const_text c) c (constant_read c within))

pub field_read : (width : ℕ) (g : Field) (b : ℕ) (r : List ℕ) → is_in_word b ≡ false → eqb (field_width g) width ≡ true → reading.field_of_width width (field_name g ++ b ∷ r) ≡ Read g (b ∷ r)
field_read width g b r apart same =
    let name = word_is (field_name g) b r (field_inside g) apart in
    ap (λ w. reading.named_field width (field_name g ++ b ∷ r) (field_of w)) name ∙ ap (reading.named_field width (field_name g ++ b ∷ r)) (field_name_read g)
    ∙ rw (same, after_is (field_name g) b r (field_inside g) apart) refl

pub copy_read : (f : Field) (b : Bits) (g : Field) (rest : List ℕ) → eqb (field_width g) (part_width b (field_width f)) ≡ true → reading.value f b (field_name g ++ 59 ∷ rest) ≡ Read (Copy f b g) rest
copy_read f b g rest same = plain_read f b (field_name g) (Copy f b g) rest (copy_value f b g same) (name_is_value g)

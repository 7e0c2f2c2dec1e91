-- What is read after the name of a field is what is written of it, and it is well-formed.
use Rattle.std.proofs.Common.{◌≡◌, ℕ, Bool, true, false, cond, ltb, eqb, ◌&&◌, List, [], ◌∷◌, ◌++◌, drop, Option, Some, None, codes, decimal as decimal_text, refl, ap, sym, subst, ◌∙◌, arith, append_assoc}
use Rattle.std.proofs.lemmas.Bool.{and_parts, and_from, eqb-true}
use Rattle.std.proofs.lemmas.Bool.Decides.{nat_tests}
use Rattle.nv_base.specs.Field.{field_name, field_width, field_of}
use Rattle.nv_base.specs.declared.field.Field.{Field}
use Rattle.nv_base.specs.declared.field.Field.TheVariants as field
use Rattle.expr_core.specs.Text.{bits_text}
use Rattle.expr_core.specs.declared.part.Bits.{Bits}
use Rattle.expr_core.specs.declared.part.Bits.TheVariants.{Whole, Bit, Range}
use Rattle.act_core.specs.Text.{part_text, step_text}
use Rattle.act_core.specs.WellFormed.{are_bits_of, is_step}
use Rattle.act_core.specs.declared.step.Step.{Step}
use Rattle.act_core.specs.declared.step.Step.TheVariants.{SetOutport, Exchange, DecTtl}
use Rattle.act_parse.specs.declared.keyword.Keyword.{Keyword}
use Rattle.act_parse.specs.inner.Token.{is_at, run, after_run, word, after_word, is_in_value, is_in_name, name_of}
use Rattle.act_parse.specs.declared.wanted.Wanted.{Wanted}
use Rattle.act_parse.specs.declared.wanted.Wanted.TheVariants as wanted
use Rattle.act_parse.specs.inner.Wanted.{value_of}
use Rattle.act_parse.specs.inner.Keyword.{keyword_name, keyword_of, keywords, is_keyword}
use Rattle.act_parse.specs.inner.Reading as reading
use Rattle.act_parse.specs.inner.Reading.{Reading, and_then, stuck, token, tokens, ended, decimal, finished}
use Rattle.act_parse.specs.inner.Reading.Reading.{Read, Stuck}
use Rattle.act_parse.proofs.TakesTokens.{same_bytes, and_then_read, tested_read, read_same, at_takes, token_takes, tokens_take, found_read, ended_is, decimal_takes, run_takes, word_takes, find_passes, name_of_takes}
use Rattle.act_parse.proofs.Values.{field_found, value_means}
use Rattle.act_parse.proofs.TakesSteps.{Takes, keyword_takes}

-- pieces in a row, from the first
three_pieces : (a b c d : List ℕ) → ((a ++ b) ++ c) ++ d ≡ a ++ (b ++ (c ++ d))
three_pieces a b c d = simp append_assoc refl

four_pieces : (a b c d e : List ℕ) → (((a ++ b) ++ c) ++ d) ++ e ≡ a ++ (b ++ (c ++ (d ++ e)))
four_pieces a b c d e = simp append_assoc refl

five_pieces : (a b c d e f : List ℕ) → ((((a ++ b) ++ c) ++ d) ++ e) ++ f ≡ a ++ (b ++ (c ++ (d ++ (e ++ f))))
five_pieces a b c d e f = simp append_assoc refl

AreBits : ℕ → List ℕ → List ℕ → Bits → Type 0
AreBits width text rest b = (text ≡ bits_text b ++ rest) × (are_bits_of width b ≡ true)

last_takes : (width first : ℕ) (text whole : List ℕ) (b : Bits) (rest : List ℕ) → ltb first width ≡ true → whole ≡ 91 ∷ (decimal_text first ++ text) → reading.last_bit width first text ≡ Read b rest → AreBits width whole rest b
unfolding AreBits
last_takes width first text whole b rest within is e = go (is_at (codes ".") text) e
  where
    go : (t : Bool) → cond t (reading.range width first text) (ended (Bit first) (codes "]" ∷ []) text) ≡ Read b rest → AreBits width whole rest b
    go true e =
        let dots = and_then_read (token (codes "..") text) (λ _ rest. and_then (decimal first width rest) (λ last rest. ended (Range first last) (codes "]" ∷ []) rest)) b rest e in
        let one = token_takes (codes "..") text dots.1 dots.0 dots.2 in
        let parts = and_then_read (decimal first width dots.1) (λ last rest. ended (Range first last) (codes "]" ∷ []) rest) b rest dots.3 in
        let last = decimal_takes first width dots.1 parts.0 parts.1 parts.2 in
        ended_is (AreBits width whole rest) (Range first parts.0) b (codes "]" ∷ []) parts.1 rest parts.3
        (λ took. (
          is ∙ ap (λ xs. 91 ∷ (decimal_text first ++ xs)) (one ∙ ap (λ xs. codes ".." ++ xs) (last.0 ∙ ap (λ xs. decimal_text parts.0 ++ xs) took))
              ∙ sym (five_pieces (codes "[") (decimal_text first) (codes "..") (decimal_text parts.0) (codes "]") rest),
          and_from _ _ last.1 last.2,
        ))
    go false e =
        ended_is (AreBits width whole rest) (Bit first) b (codes "]" ∷ []) text rest e
        (λ took. (is ∙ ap (λ xs. 91 ∷ (decimal_text first ++ xs)) took ∙ sym (three_pieces (codes "[") (decimal_text first) (codes "]") rest), within))

bits_take : (width : ℕ) (text : List ℕ) (b : Bits) (rest : List ℕ) → reading.bits width text ≡ Read b rest → AreBits width text rest b
unfolding AreBits
bits_take width text b rest e = go (is_at (codes "[") text) refl e
  where
    go : (t : Bool) → is_at (codes "[") text ≡ t → cond t (and_then (decimal 0 width (drop 1 text)) (reading.last_bit width)) (Read Whole text) ≡ Read b rest → AreBits width text rest b
    go true at e =
        let parts = and_then_read (decimal 0 width (drop 1 text)) (reading.last_bit width) b rest e in
        let first = decimal_takes 0 width (drop 1 text) parts.0 parts.1 parts.2 in
        last_takes width parts.0 parts.1 text b rest first.2 (at_takes (codes "[") text at ∙ ap (λ xs. 91 ∷ xs) first.0) parts.3
    go false at e =
        let same = read_same _ _ _ _ e in
        subst (AreBits width text rest) same.0 (same.1, refl)

pub bits_taken : (width : ℕ) (text : List ℕ) (b : Bits) (rest : List ℕ) → reading.bits width text ≡ Read b rest → (text ≡ bits_text b ++ rest) × (are_bits_of width b ≡ true)
unfolding AreBits
bits_taken width text b rest e = bits_take width text b rest e

pub field_takes : (width : ℕ) (text : List ℕ) (f : Field) (rest : List ℕ) → reading.field_of_width width text ≡ Read f rest → (text ≡ field_name f ++ rest) × (eqb (field_width f) width ≡ true)
field_takes width text f rest e = go (field_of (word text)) refl e
  where
    go : (o : Option Field) → field_of (word text) ≡ o → reading.named_field width text o ≡ Read f rest → (text ≡ field_name f ++ rest) × (eqb (field_width f) width ≡ true)
    go None is e = absurd (cc)
    go (Some g) is e =
        let passed = tested_read (eqb (field_width g) width) (Read g (after_word text)) _ f rest e in
        let same = read_same _ _ _ _ passed.1 in
        let P : Field → Type 0 = λ h. (text ≡ field_name h ++ rest) × (eqb (field_width h) width ≡ true) in
        subst P same.0 (word_takes text ∙ ap (λ xs. xs ++ after_word text) (field_found (word text) g is) ∙ ap (λ xs. field_name g ++ xs) same.1, passed.0)

name_takes : (text : List ℕ) (s : Step) (rest : List ℕ) → reading.outport_name text ≡ Read s rest → Takes (codes "outport = ") text rest s
name_takes text s rest e =
    let quote = and_then_read (token (codes "\"") text) (λ _ rest. and_then (reading.name rest) (λ n rest. ended (SetOutport n) (codes "\"" ∷ codes ";" ∷ []) rest)) s rest e in
    let one = token_takes (codes "\"") text quote.1 quote.0 quote.2 in
    let parts = and_then_read (reading.name quote.1) (λ n rest. ended (SetOutport n) (codes "\"" ∷ codes ";" ∷ []) rest) s rest quote.3 in
    let found = found_read wanted.Name quote.1 (after_run is_in_name quote.1) parts.1 (name_of (run is_in_name quote.1)) parts.0 parts.2 in
    let name = name_of_takes (run is_in_name quote.1) parts.0 found.0 in
    let two : quote.1 ≡ parts.0 ++ parts.1 = run_takes is_in_name quote.1 ∙ ap (λ xs. xs ++ after_run is_in_name quote.1) name.0 ∙ ap (λ xs. parts.0 ++ xs) found.1 in
    ended_is (Takes (codes "outport = ") text rest) (SetOutport parts.0) s (codes "\"" ∷ codes ";" ∷ []) parts.1 rest parts.3
    (λ took. (ap (λ xs. codes "outport = " ++ xs) (one ∙ ap (λ xs. 34 ∷ xs) (two ∙ ap (λ xs. parts.0 ++ xs) took)) ∙ sym (three_pieces (codes "outport = \"") parts.0 (codes "\";") rest), name.1))

outport_takes : (f : Field) (b : Bits) (text : List ℕ) (s : Step) (rest : List ℕ) → reading.takes_name f b ≡ true → reading.outport_name text ≡ Read s rest → Takes (part_text f b ++ codes " = ") text rest s
outport_takes field.Outport Whole text s rest may e = name_takes text s rest e
outport_takes _ _ text s rest may e = absurd (cc)

plain_takes : (f : Field) (b : Bits) (text : List ℕ) (s : Step) (rest : List ℕ) → are_bits_of (field_width f) b ≡ true → reading.plain_value f b text ≡ Read s rest → Takes (part_text f b ++ codes " = ") text rest s
plain_takes f b text s rest good e = go (value_of f b (run is_in_value text)) refl e
  where
    go : (o : Option Step) → value_of f b (run is_in_value text) ≡ o → reading.value_found f b text o ≡ Read s rest → Takes (part_text f b ++ codes " = ") text rest s
    go None is e = absurd (cc)
    go (Some t) is e =
        let means = value_means f b (run is_in_value text) t good is in
        ended_is (Takes (part_text f b ++ codes " = ") text rest) t s (codes ";" ∷ []) (after_run is_in_value text) rest e
        (λ took. (
          ap (λ xs. (part_text f b ++ codes " = ") ++ xs) (run_takes is_in_value text ∙ ap (λ xs. run is_in_value text ++ xs) took)
              ∙ sym (three_pieces (part_text f b ++ codes " = ") (run is_in_value text) (codes ";") rest) ∙ ap (λ xs. xs ++ rest) (sym means.text),
          means.good,
        ))

value_takes : (f : Field) (b : Bits) (text : List ℕ) (s : Step) (rest : List ℕ) → are_bits_of (field_width f) b ≡ true → reading.value f b text ≡ Read s rest → Takes (part_text f b ++ codes " = ") text rest s
value_takes f b text s rest good e = go (reading.takes_name f b && is_at (codes "\"") text) refl e
  where
    go : (t : Bool) → (reading.takes_name f b && is_at (codes "\"") text) ≡ t → cond t (reading.outport_name text) (reading.plain_value f b text) ≡ Read s rest → Takes (part_text f b ++ codes " = ") text rest s
    go true at e = outport_takes f b text s rest (and_parts _ _ at).0 e
    go false at e = plain_takes f b text s rest good e

pub same_number : (n : ℕ) → eqb n n ≡ true
same_number n = grind (arith, nat_tests)

pub same_width : (w : ℕ) (g : Field) → eqb (field_width g) w ≡ true → eqb w (field_width g) ≡ true
same_width w g e = let same : field_width g ≡ w = eqb-true _ _ e in subst (λ (n : ℕ). eqb n (field_width g) ≡ true) same (same_number (field_width g))

exchange_takes : (f : Field) (text : List ℕ) (s : Step) (rest : List ℕ) → reading.exchange f text ≡ Read s rest → Takes (field_name f ++ codes " ") text rest s
exchange_takes f text s rest e =
    let sign = and_then_read (tokens (codes "<->" ∷ codes " " ∷ []) text) (λ _ rest. and_then (reading.field_of_width (field_width f) rest) (λ g rest. ended (Exchange f g) (codes ";" ∷ []) rest)) s rest e in
    let one = tokens_take (codes "<->" ∷ codes " " ∷ []) text sign.1 sign.0 sign.2 in
    let parts = and_then_read (reading.field_of_width (field_width f) sign.1) (λ g rest. ended (Exchange f g) (codes ";" ∷ []) rest) s rest sign.3 in
    let other = field_takes (field_width f) sign.1 parts.0 parts.1 parts.2 in
    ended_is (Takes (field_name f ++ codes " ") text rest) (Exchange f parts.0) s (codes ";" ∷ []) parts.1 rest parts.3
    (λ took. (
      ap (λ xs. (field_name f ++ codes " ") ++ xs) (one ∙ ap (λ xs. codes "<-> " ++ xs) (other.0 ∙ ap (λ xs. field_name parts.0 ++ xs) took))
          ∙ append_assoc (field_name f) (codes " ") (codes "<-> " ++ (field_name parts.0 ++ 59 ∷ rest)) ∙ sym (four_pieces (field_name f) (codes " <-> ") (field_name parts.0) (codes ";") rest),
      same_width (field_width f) parts.0 other.1,
    ))

-- what is done with a part, after the space
sign_takes : (f : Field) (b : Bits) (text : List ℕ) (s : Step) (rest : List ℕ) → are_bits_of (field_width f) b ≡ true → reading.sign_of_part f b text ≡ Read s rest → Takes (part_text f b ++ codes " ") text rest s
sign_takes f b text s rest good e = go (reading.is_whole b && is_at (codes "<") text) refl e
  where
    assigned : (t : Bits) → are_bits_of (field_width f) t ≡ true → reading.assigned f t text ≡ Read s rest → Takes (part_text f t ++ codes " ") text rest s
    assigned t good e =
        let parts = and_then_read (tokens (codes "=" ∷ codes " " ∷ []) text) (λ _ rest. reading.value f t rest) s rest e in
        let one = tokens_take (codes "=" ∷ codes " " ∷ []) text parts.1 parts.0 parts.2 in
        let two = value_takes f t parts.1 s rest good parts.3 in
        (ap (λ xs. (part_text f t ++ codes " ") ++ xs) one ∙ append_assoc (part_text f t) (codes " ") (codes "= " ++ parts.1) ∙ sym (append_assoc (part_text f t) (codes " = ") parts.1) ∙ two.0, two.1)

    whole : (t : Bits) → reading.is_whole t ≡ true → reading.exchange f text ≡ Read s rest → Takes (part_text f t ++ codes " ") text rest s
    whole Whole is e =
        let more = exchange_takes f text s rest e in
        let name : part_text f Whole ≡ field_name f = nothing_more (field_name f) in
        (ap (λ xs. (xs ++ codes " ") ++ text) name ∙ more.0, more.1)
      where
        nothing_more : (xs : List ℕ) → xs ++ [] ≡ xs
        nothing_more [] = refl
        nothing_more (x ∷ xs) = ap (λ ys. x ∷ ys) (nothing_more xs)
    whole (Bit n) is e = absurd (cc)
    whole (Range m n) is e = absurd (cc)

    go : (t : Bool) → (reading.is_whole b && is_at (codes "<") text) ≡ t → cond t (reading.exchange f text) (reading.assigned f b text) ≡ Read s rest → Takes (part_text f b ++ codes " ") text rest s
    go true at e = whole b (and_parts _ _ at).0 e
    go false at e = assigned b good e

part_takes : (f : Field) (text : List ℕ) (s : Step) (rest : List ℕ) → reading.part f text ≡ Read s rest → Takes (field_name f) text rest s
unfolding AreBits
part_takes f text s rest e =
    let parts = and_then_read (reading.bits (field_width f) text) (λ b rest. and_then (token (codes " ") rest) (λ _ rest. reading.sign_of_part f b rest)) s rest e in
    let which = bits_take (field_width f) text parts.0 parts.1 parts.2 in
    let space = and_then_read (token (codes " ") parts.1) (λ _ rest. reading.sign_of_part f parts.0 rest) s rest parts.3 in
    let one = token_takes (codes " ") parts.1 space.1 space.0 space.2 in
    let more = sign_takes f parts.0 space.1 s rest which.1 space.3 in
    (ap (λ xs. field_name f ++ xs) (which.0 ∙ ap (λ xs. bits_text parts.0 ++ xs) one) ∙ sym (three_pieces (field_name f) (bits_text parts.0) (codes " ") space.1) ∙ more.0, more.1)

field_step_takes : (f : Field) (text : List ℕ) (s : Step) (rest : List ℕ) → reading.field_step f text ≡ Read s rest → Takes (field_name f) text rest s
field_step_takes f text s rest e = go (reading.is_ttl f && is_at (codes "-") text) refl e
  where
    ttl : (g : Field) → reading.is_ttl g ≡ true → ended DecTtl (codes "--" ∷ codes ";" ∷ []) text ≡ Read s rest → Takes (field_name g) text rest s
    ttl field.IpTtl is e = ended_is (Takes (codes "ip.ttl") text rest) DecTtl s (codes "--" ∷ codes ";" ∷ []) text rest e (λ took. (ap (λ xs. codes "ip.ttl" ++ xs) took, refl))
    ttl _ is e = absurd (cc)

    go : (t : Bool) → (reading.is_ttl f && is_at (codes "-") text) ≡ t → cond t (ended DecTtl (codes "--" ∷ codes ";" ∷ []) text) (reading.part f text) ≡ Read s rest → Takes (field_name f) text rest s
    go true at e = ttl f (and_parts _ _ at).0 e
    go false at e = part_takes f text s rest e

-- an action without a block
pub step_takes : (w : Wanted) (text : List ℕ) (s : Step) (rest : List ℕ) → reading.step w text ≡ Read s rest → (text ≡ step_text s ++ rest) × (is_step s ≡ true)
step_takes w text s rest e = go (keyword_of (word text)) refl e
  where
    by_field : (o : Option Field) → field_of (word text) ≡ o → reading.step_by_field w text o ≡ Read s rest → (text ≡ step_text s ++ rest) × (is_step s ≡ true)
    by_field None is e = absurd (cc)
    by_field (Some f) is e =
        let took = field_step_takes f (after_word text) s rest e in
        (word_takes text ∙ ap (λ xs. xs ++ after_word text) (field_found (word text) f is) ∙ took.0, took.1)

    go : (o : Option Keyword) → keyword_of (word text) ≡ o → reading.step_by w text o ≡ Read s rest → (text ≡ step_text s ++ rest) × (is_step s ≡ true)
    go None is e = by_field (field_of (word text)) refl e
    go (Some k) is e =
        let took = keyword_takes k (after_word text) s rest e in
        let name = sym (same_bytes (keyword_name k) (word text) (find_passes (λ j. is_keyword j (word text)) keywords k is)) in
        (word_takes text ∙ ap (λ xs. xs ++ after_word text) name ∙ took.0, took.1)

-- Where the reading of an action that the name of a field begins stops, what is before the place goes on to an action.
use Rattle.std.proofs.Common.{◌≡◌, ℕ, ◌^◌, Bool, true, false, cond, ltb, leb, eqb, ◌&&◌, List, [], ◌∷◌, ◌++◌, length, drop, Option, Some, None, codes, decimal as decimal_text, refl, ap, sym, subst, ◌∙◌, arith, append_assoc, inl, inr}
use Rattle.std.proofs.lemmas.Bool.{and_parts, and_from, or_cases, lt-ltb, le-leb}
use Rattle.std.specs.List.{list_any}
use Rattle.std.proofs.lemmas.Nat.{pow_pos}
use Rattle.nv_base.specs.Field.{field_name, field_width, field_of, all_fields}
use Rattle.nv_base.specs.declared.field.Field.{Field}
use Rattle.nv_base.specs.declared.field.Field.TheVariants as field
use Rattle.expr_core.specs.Text.{const_text, bits_text}
use Rattle.expr_core.specs.Width.{part_width}
use Rattle.expr_core.specs.declared.constant.Const.{Const}
use Rattle.expr_core.specs.declared.constant.Form.TheVariants.{Dec}
use Rattle.expr_core.specs.declared.part.Bits.{Bits}
use Rattle.expr_core.specs.declared.part.Bits.TheVariants.{Whole, Bit, Range}
use Rattle.act_core.specs.WellFormed.{fits, are_bits_of}
use Rattle.act_core.specs.declared.step.Step.{Step}
use Rattle.act_core.specs.declared.step.Step.TheVariants.{Next, Output, Drop, CtNext, CtLb, CtCommit, CtSnat, CtDnat, PutArp, GetArp, Set, SetOutport, Exchange, DecTtl}
use Rattle.nv_base.specs.Name.{is_quotable}
use Rattle.act_parse.specs.declared.keyword.Keyword.TheVariants as keyword
use Rattle.act_parse.specs.declared.keyword.Keyword.{Keyword}
use Rattle.expr_const.specs.Constant.{constant_in}
use Rattle.act_parse.specs.inner.Token.{is_at, run, after_run, word, after_word, is_in_value, is_in_name, name_of}
use Rattle.act_parse.specs.declared.wanted.Wanted.{Wanted}
use Rattle.act_parse.specs.declared.wanted.Wanted.TheVariants as wanted
use Rattle.act_parse.specs.inner.Wanted.{value_of, begins, begins_step}
use Rattle.act_parse.specs.inner.Keyword.{keyword_name, keyword_of, keywords, is_keyword}
use Rattle.act_parse.specs.inner.Reading as reading
use Rattle.act_parse.specs.inner.Reading.{and_then, stuck, token, ended, decimal}
use Rattle.act_parse.specs.inner.Reading.Reading.{Read, Stuck}
use Rattle.act_parse.proofs.TakesTokens.{same_bytes, at_takes, found_read, run_takes, word_takes, find_passes, name_of_takes}
use Rattle.act_parse.proofs.TakesFields.{bits_taken, field_takes, same_number, same_width}
use Rattle.act_parse.proofs.Viable.{Viable, past, among, also, sequel}
use Rattle.act_parse.proofs.Stops.{lost_stops, found_stops, tokens_stop, ended_stops, token_stops, decimal_stops}
use Rattle.act_parse.proofs.Values.{field_found, value_means}
use Rattle.act_parse.proofs.Ends.{any_some, quotable_ends, name_ends, field_ends, value_ends, only_words}
use Rattle.act_parse.proofs.ViableSteps.{IsStep, keyword_stops}

-- pieces in a row, from the first
three_pieces : (a b c d : List ℕ) → ((a ++ b) ++ c) ++ d ≡ a ++ (b ++ (c ++ d))
three_pieces a b c d = simp append_assoc refl

four_pieces : (a b c d e : List ℕ) → (((a ++ b) ++ c) ++ d) ++ e ≡ a ++ (b ++ (c ++ (d ++ e)))
four_pieces a b c d e = simp append_assoc refl

-- each field has a bit
wide : (f : Field) → ltb 0 (field_width f) ≡ true
wide field.Inport = refl
wide _ = refl

-- this is what is written of bits of a field of this width
abbrev AreBits : ℕ → List ℕ → Type 0
AreBits width xs = (b : Bits) × (xs ≡ bits_text b) × (are_bits_of width b ≡ true)

last_stops : (width first : ℕ) (text : List ℕ) (left : ℕ) → ltb first width ≡ true → reading.last_bit width first text ≡ Stuck left → Viable (λ xs. AreBits width (codes "[" ++ (decimal_text first ++ xs))) text left
last_stops width first text left within e = go (is_at (codes ".") text) e
  where
    range : (last : ℕ) → leb first last ≡ true → ltb last width ≡ true → AreBits width (codes "[" ++ (decimal_text first ++ (codes ".." ++ (decimal_text last ++ codes "]"))))
    range last low high = (Range first last, sym (four_pieces (codes "[") (decimal_text first) (codes "..") (decimal_text last) (codes "]")), and_from _ _ low high)

    go : (t : Bool) → cond t (reading.range width first text) (ended (Bit first) (codes "]" ∷ []) text) ≡ Stuck left → Viable (λ xs. AreBits width (codes "[" ++ (decimal_text first ++ xs))) text left
    go true e =
        token_stops (codes "..") text (decimal_text first ++ codes "]") (λ _ rest. and_then (decimal first width rest) (λ last rest. ended (Range first last) (codes "]" ∷ []) rest)) left e (range first (le-leb first first (omega arith)) within)
        (λ u rest f. decimal_stops first width first rest (codes "]") (λ last rest. ended (Range first last) (codes "]" ∷ []) rest) left f (le-leb first first (omega arith)) within range
        (λ last more low high g. ended_stops (Range first last) (codes "]" ∷ []) more left g (range last low high)))
    go false e = ended_stops (Bit first) (codes "]" ∷ []) text left e (Bit first, refl, within)

bits_stop : (width : ℕ) (text : List ℕ) (left : ℕ) → ltb 0 width ≡ true → reading.bits width text ≡ Stuck left → Viable (AreBits width) text left
bits_stop width text left some e = go (is_at (codes "[") text) refl e
  where
    go : (t : Bool) → is_at (codes "[") text ≡ t → cond t (and_then (decimal 0 width (drop 1 text)) (reading.last_bit width)) (Read Whole text) ≡ Stuck left → Viable (AreBits width) text left
    go true at e = past (codes "[") (drop 1 text) text left (at_takes (codes "[") text at)
        (decimal_stops 0 width 0 (drop 1 text) (codes "]") (reading.last_bit width) left e refl some (λ n low high. (Bit n, refl, high))
        (λ first rest low high f. last_stops width first rest left high f))
    go false at e = absurd (cc)

-- what is written after the name of the field, the bits and a space, before the end
abbrev AfterPart : Field → Bits → List ℕ → Type 0
AfterPart f b xs = IsStep (field_name f ++ (bits_text b ++ (codes " " ++ xs)))

set_step : (f : Field) (b : Bits) (c : Const) → are_bits_of (field_width f) b ≡ true → fits (part_width b (field_width f)) c ≡ true → AfterPart f b (codes "= " ++ (const_text c ++ codes ";"))
set_step f b c good fit = (Set f b c, sym (four_pieces (field_name f) (bits_text b) (codes " = ") (const_text c) (codes ";")), and_from _ _ good fit)

-- zero fits each part
zero_step : (f : Field) (b : Bits) → are_bits_of (field_width f) b ≡ true → AfterPart f b (codes "= " ++ (decimal_text 0 ++ codes ";"))
zero_step f b good = set_step f b (constant_in Dec 0) good (and_from (ltb 0 (2 ^ part_width b (field_width f))) (ltb 0 (2 ^ 128)) (lt-ltb 0 (2 ^ part_width b (field_width f)) (pow_pos (part_width b (field_width f)))) refl)

-- a value for the part
value_step : (f : Field) (b : Bits) (w : List ℕ) (s : Step) → are_bits_of (field_width f) b ≡ true → value_of f b w ≡ Some s → AfterPart f b (codes "= " ++ (w ++ codes ";"))
value_step f b w s good e =
    let means = value_means f b w s good e in
    (s, sym (four_pieces (field_name f) (bits_text b) (codes " = ") w (codes ";")) ∙ sym means.text, means.good)

plain_stops : (f : Field) (b : Bits) (text : List ℕ) (left : ℕ) → are_bits_of (field_width f) b ≡ true → reading.plain_value f b text ≡ Stuck left → Viable (λ xs. AfterPart f b (codes "= " ++ xs)) text left
plain_stops f b text left good e = go (value_of f b (run is_in_value text)) refl e
  where
    go : (o : Option Step) → value_of f b (run is_in_value text) ≡ o → reading.value_found f b text o ≡ Stuck left → Viable (λ xs. AfterPart f b (codes "= " ++ xs)) text left
    go None is e =
        lost_stops (wanted.Value f b) text left
        (λ xs starts. let v = value_ends f b xs starts in (v.1 ++ codes ";", subst (λ (ys : List ℕ). AfterPart f b (codes "= " ++ ys)) (append_assoc xs v.1 (codes ";")) (value_step f b (xs ++ v.1) v.0 good v.2)))
        (decimal_text 0 ++ codes ";", zero_step f b good) e
    go (Some s) is e = past (run is_in_value text) (after_run is_in_value text) text left (run_takes is_in_value text) (ended_stops s (codes ";" ∷ []) (after_run is_in_value text) left e (value_step f b (run is_in_value text) s good is))

-- a name for the whole of `outport`
abbrev AfterOutport : List ℕ → Type 0
AfterOutport xs = AfterPart field.Outport Whole (codes "= " ++ xs)

name_step : (name : List ℕ) → is_quotable name ≡ true → AfterOutport (codes "\"" ++ (name ++ codes "\";"))
name_step name good = (SetOutport name, refl, good)

name_stops : (text : List ℕ) (left : ℕ) → reading.outport_name text ≡ Stuck left → Viable AfterOutport text left
name_stops text left e =
    token_stops (codes "\"") text (codes "_MC_flood" ++ codes "\";") (λ _ rest. and_then (reading.name rest) (λ n rest. ended (SetOutport n) (codes "\"" ∷ codes ";" ∷ []) rest)) left e (name_step (codes "_MC_flood") refl)
    (λ u rest f. sequel (reading.name rest) (λ n rest. ended (SetOutport n) (codes "\"" ∷ codes ";" ∷ []) rest) left f
    (λ g. found_stops wanted.Name rest (after_run is_in_name rest) (name_of (run is_in_name rest)) left
    (λ xs starts. let d = quotable_ends xs starts in (d.0 ++ codes "\";", subst (λ (ys : List ℕ). AfterOutport (codes "\"" ++ ys)) (append_assoc xs d.0 (codes "\";")) (name_step (xs ++ d.0) d.1)))
    (codes "_MC_flood" ++ codes "\";", name_step (codes "_MC_flood") refl) g)
    (λ name more g h.
    let found = found_read wanted.Name rest (after_run is_in_name rest) more (name_of (run is_in_name rest)) name g in
    let took = name_of_takes (run is_in_name rest) name found.0 in
    past name more rest left (run_takes is_in_name rest ∙ ap (λ xs. xs ++ after_run is_in_name rest) took.0 ∙ ap (λ xs. name ++ xs) found.1)
    (ended_stops (SetOutport name) (codes "\"" ∷ codes ";" ∷ []) more left h (name_step name took.1))))

outport_stops : (f : Field) (b : Bits) (text : List ℕ) (left : ℕ) → reading.takes_name f b ≡ true → reading.outport_name text ≡ Stuck left → Viable (λ xs. AfterPart f b (codes "= " ++ xs)) text left
outport_stops field.Outport Whole text left may e = name_stops text left e
outport_stops _ _ text left may e = absurd (cc)

value_stops : (f : Field) (b : Bits) (text : List ℕ) (left : ℕ) → are_bits_of (field_width f) b ≡ true → reading.value f b text ≡ Stuck left → Viable (λ xs. AfterPart f b (codes "= " ++ xs)) text left
value_stops f b text left good e = go (reading.takes_name f b && is_at (codes "\"") text) refl e
  where
    go : (t : Bool) → (reading.takes_name f b && is_at (codes "\"") text) ≡ t → cond t (reading.outport_name text) (reading.plain_value f b text) ≡ Stuck left → Viable (λ xs. AfterPart f b (codes "= " ++ xs)) text left
    go true at e = outport_stops f b text left (and_parts _ _ at).0 e
    go false at e = plain_stops f b text left good e

-- the name of a field of this width, and what may follow it
field_stops : {Kind : List ℕ → Type 0} (width : ℕ) (some : Field) (text more : List ℕ) (left : ℕ) → reading.field_of_width width text ≡ Stuck left → eqb (field_width some) width ≡ true
    → ((f : Field) → eqb (field_width f) width ≡ true → Kind (field_name f ++ more)) → Viable Kind text left
field_stops {Kind} width some text more left e wide good = go (field_of (word text)) e
  where
    nowhere : reading.lost {T = Field} (wanted.Field width) text ≡ Stuck left → Viable Kind text left
    nowhere e =
        lost_stops (wanted.Field width) text left
        (λ xs starts.
        let f = field_ends width xs (only_words (wanted.Field width) xs (λ text. refl) starts) in
        (drop (length xs) (field_name f.0) ++ more, subst Kind (ap (λ ys. ys ++ more) (sym f.1) ∙ append_assoc xs (drop (length xs) (field_name f.0)) more) (good f.0 f.2)))
        (field_name some ++ more, good some wide) e

    test : (b : Bool) (f : Field) → cond b (Read f (after_word text)) (reading.lost (wanted.Field width) text) ≡ Stuck left → Viable Kind text left
    test true f e = absurd (cc)
    test false f e = nowhere e

    go : (o : Option Field) → reading.named_field width text o ≡ Stuck left → Viable Kind text left
    go None e = nowhere e
    go (Some f) e = test (eqb (field_width f) width) f e

exchange_step : (f g : Field) → eqb (field_width f) (field_width g) ≡ true → IsStep (field_name f ++ (codes " <-> " ++ (field_name g ++ codes ";")))
exchange_step f g same = (Exchange f g, sym (three_pieces (field_name f) (codes " <-> ") (field_name g) (codes ";")), same)

exchange_stops : (f : Field) (text : List ℕ) (left : ℕ) → reading.exchange f text ≡ Stuck left → Viable (λ xs. IsStep (field_name f ++ (codes " " ++ xs))) text left
exchange_stops f text left e =
    tokens_stop (codes "<->" ∷ codes " " ∷ []) text (field_name f ++ codes ";") (λ _ rest. and_then (reading.field_of_width (field_width f) rest) (λ g rest. ended (Exchange f g) (codes ";" ∷ []) rest)) left e (exchange_step f f (same_number (field_width f)))
    (λ u rest g. sequel (reading.field_of_width (field_width f) rest) (λ g rest. ended (Exchange f g) (codes ";" ∷ []) rest) left g
    (λ h. field_stops (field_width f) f rest (codes ";") left h (same_number (field_width f)) (λ other same. exchange_step f other (same_width (field_width f) other same)))
    (λ other more h i. let took = field_takes (field_width f) rest other more h in
    past (field_name other) more rest left took.0 (ended_stops (Exchange f other) (codes ";" ∷ []) more left i (exchange_step f other (same_width (field_width f) other took.1)))))

-- what is done with a part, after the space
sign_stops : (f : Field) (b : Bits) (text : List ℕ) (left : ℕ) → are_bits_of (field_width f) b ≡ true → reading.sign_of_part f b text ≡ Stuck left → Viable (AfterPart f b) text left
sign_stops f b text left good e = go (reading.is_whole b && is_at (codes "<") text) refl e
  where
    whole : (t : Bits) → reading.is_whole t ≡ true → reading.exchange f text ≡ Stuck left → Viable (AfterPart f t) text left
    whole Whole is e = exchange_stops f text left e
    whole (Bit n) is e = absurd (cc)
    whole (Range m n) is e = absurd (cc)

    go : (t : Bool) → (reading.is_whole b && is_at (codes "<") text) ≡ t → cond t (reading.exchange f text) (reading.assigned f b text) ≡ Stuck left → Viable (AfterPart f b) text left
    go true at e = whole b (and_parts _ _ at).0 e
    go false at e =
        tokens_stop (codes "=" ∷ codes " " ∷ []) text (decimal_text 0 ++ codes ";") (λ _ rest. reading.value f b rest) left e (zero_step f b good)
        (λ u rest g. value_stops f b rest left good g)

part_stops : (f : Field) (text : List ℕ) (left : ℕ) → reading.part f text ≡ Stuck left → Viable (λ xs. IsStep (field_name f ++ xs)) text left
part_stops f text left e =
    sequel (reading.bits (field_width f) text) (λ b rest. and_then (token (codes " ") rest) (λ _ rest. reading.sign_of_part f b rest)) left e
    (λ g. among (codes " = " ++ (decimal_text 0 ++ codes ";")) text left with_bits (bits_stop (field_width f) text left (wide f) g))
    (λ b rest g h. let took = bits_taken (field_width f) text b rest g in
    past (bits_text b) rest text left took.0
    (token_stops (codes " ") rest (codes "= " ++ (decimal_text 0 ++ codes ";")) (λ _ rest. reading.sign_of_part f b rest) left h (zero_step f b took.1)
    (λ u more i. sign_stops f b more left took.1 i)))
  where
    with_bits : (xs : List ℕ) → AreBits (field_width f) xs → IsStep (field_name f ++ (xs ++ (codes " = " ++ (decimal_text 0 ++ codes ";"))))
    with_bits xs bits = subst (λ (ys : List ℕ). IsStep (field_name f ++ (ys ++ (codes " = " ++ (decimal_text 0 ++ codes ";"))))) (sym bits.1) (zero_step f bits.0 bits.2)

field_step_stops : (f : Field) (text : List ℕ) (left : ℕ) → reading.field_step f text ≡ Stuck left → Viable (λ xs. IsStep (field_name f ++ xs)) text left
field_step_stops f text left e = go (reading.is_ttl f && is_at (codes "-") text) refl e
  where
    ttl : (g : Field) → reading.is_ttl g ≡ true → ended DecTtl (codes "--" ∷ codes ";" ∷ []) text ≡ Stuck left → Viable (λ xs. IsStep (field_name g ++ xs)) text left
    ttl field.IpTtl is e = ended_stops DecTtl (codes "--" ∷ codes ";" ∷ []) text left e (DecTtl, refl, refl)
    ttl _ is e = absurd (cc)

    go : (t : Bool) → (reading.is_ttl f && is_at (codes "-") text) ≡ t → cond t (ended DecTtl (codes "--" ∷ codes ";" ∷ []) text) (reading.part f text) ≡ Stuck left → Viable (λ xs. IsStep (field_name f ++ xs)) text left
    go true at e = ttl f (and_parts _ _ at).0 e
    go false at e = part_stops f text left e

-- what follows a keyword in some action
keyword_goes_on : (k : Keyword) → (more : List ℕ) × IsStep (keyword_name k ++ more)
keyword_goes_on keyword.Next = (codes ";", (Next, refl, refl))
keyword_goes_on keyword.Output = (codes ";", (Output, refl, refl))
keyword_goes_on keyword.Drop = (codes ";", (Drop, refl, refl))
keyword_goes_on keyword.CtNext = (codes ";", (CtNext, refl, refl))
keyword_goes_on keyword.CtLb = (codes ";", (CtLb, refl, refl))
keyword_goes_on keyword.CtCommit = (codes " { ct_mark.blocked = 0; };", (CtCommit false, refl, refl))
keyword_goes_on keyword.CtSnat = (codes ";", (CtSnat, refl, refl))
keyword_goes_on keyword.CtDnat = (codes ";", (CtDnat, refl, refl))
keyword_goes_on keyword.PutArp = (codes "(inport, arp.spa, arp.sha);", (PutArp, refl, refl))
keyword_goes_on keyword.GetArp = (codes "(outport, reg0);", (GetArp, refl, refl))

-- bytes that begin a name go on to an action
named : (xs name more : List ℕ) → is_at xs name ≡ true → IsStep (name ++ more) → (more : List ℕ) × IsStep (xs ++ more)
named xs name more at s = (drop (length xs) name ++ more, subst IsStep (ap (λ ys. ys ++ more) (sym (name_ends xs name at)) ∙ append_assoc xs (drop (length xs) name) more) s)

pub step_goes_on : (xs : List ℕ) → begins_step xs ≡ true → (more : List ℕ) × IsStep (xs ++ more)
step_goes_on xs e = elim (or_cases (list_any (λ k. is_at xs (keyword_name k)) keywords) (list_any (λ f. is_at xs (field_name f)) all_fields) e) as (λ _. (more : List ℕ) × IsStep (xs ++ more)) [
  | inl word ↦ let k = any_some (λ k. is_at xs (keyword_name k)) keywords word in let on = keyword_goes_on k.0 in named xs (keyword_name k.0) on.0 k.1 on.1
  | inr name ↦ let f = any_some (λ f. is_at xs (field_name f)) all_fields name in named xs (field_name f.0) (codes " = " ++ (decimal_text 0 ++ codes ";")) f.1 (zero_step f.0 Whole refl)
]

-- an action without a block, where this is wanted
pub step_stops : {Kind : List ℕ → Type 0} (w : Wanted) (text : List ℕ) (left : ℕ) → ((xs : List ℕ) → begins w xs ≡ true → (more : List ℕ) × Kind (xs ++ more)) → ((xs : List ℕ) → IsStep xs → Kind xs) → reading.step w text ≡ Stuck left → Viable Kind text left
step_stops {Kind} w text left goes_on is_kind e = go (keyword_of (word text)) refl e
  where
    by_field : (o : Option Field) → field_of (word text) ≡ o → reading.step_by_field w text o ≡ Stuck left → Viable Kind text left
    by_field None is e = lost_stops w text left goes_on (codes "drop;", is_kind (codes "drop;") (Drop, refl, refl)) e
    by_field (Some f) is e = also text left is_kind (past (field_name f) (after_word text) text left (word_takes text ∙ ap (λ xs. xs ++ after_word text) (field_found (word text) f is)) (field_step_stops f (after_word text) left e))

    go : (o : Option Keyword) → keyword_of (word text) ≡ o → reading.step_by w text o ≡ Stuck left → Viable Kind text left
    go None is e = by_field (field_of (word text)) refl e
    go (Some k) is e =
        let name = sym (same_bytes (keyword_name k) (word text) (find_passes (λ j. is_keyword j (word text)) keywords k is)) in
        also text left is_kind (past (keyword_name k) (after_word text) text left (word_takes text ∙ ap (λ xs. xs ++ after_word text) name) (keyword_stops k (after_word text) left e))

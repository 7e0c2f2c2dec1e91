-- The readings of actions that the name of a field begins look no further than one byte after what they read.
use Rattle.std.proofs.Common.{◌≡◌, ℕ, ◌≤◌, true, leb, List, [], ◌∷◌, length, take, drop, Option, Some, None, codes, refl, ap, sym, ◌∙◌, arith, inl, inr}
use Rattle.std.specs.List.{list_all, list_any}
use Rattle.std.specs.Option.{option_map}
use Rattle.std.proofs.lemmas.Bool.{leb-true, or_left, or_right, or_cases}
use Rattle.nv_base.specs.Field.{field_name, field_width, field_of, all_fields, is_named}
use Rattle.nv_base.specs.declared.field.Field.{Field}
use Rattle.nv_base.specs.declared.field.Field.TheVariants as field
use Rattle.expr_core.specs.declared.part.Bits.{Bits}
use Rattle.expr_core.specs.declared.part.Bits.TheVariants.{Whole, Bit, Range}
use Rattle.act_core.specs.declared.step.Step.{Step}
use Rattle.act_core.specs.declared.step.Step.TheVariants.{SetOutport, Exchange, DecTtl}
use Rattle.act_parse.specs.declared.keyword.Keyword.{Keyword}
use Rattle.act_parse.specs.declared.keyword.Keyword.TheVariants as keyword
use Rattle.act_parse.specs.declared.wanted.Wanted.TheVariants as wanted
use Rattle.act_parse.specs.inner.Token.{is_at, is_in_word, word, after_word}
use Rattle.act_parse.specs.inner.Keyword.{keyword_name, keyword_of, keywords, is_keyword}
use Rattle.act_parse.specs.inner.Wanted.{begins_step, can_end, begins}
use Rattle.act_parse.specs.inner.Reading as reading
use Rattle.act_parse.specs.inner.Reading.{Reading, and_then, token, tokens, ended, decimal}
use Rattle.act_parse.specs.inner.Reading.Reading.{Read}
use Rattle.act_parse.proofs.TakesTokens.{same_bytes, find_passes}
use Rattle.act_parse.proofs.Values.{field_found}
use Rattle.act_parse.proofs.Ends.{any_some, name_ends, only_words}
use Rattle.act_parse.proofs.Begins.{at_front, any_found}
use Rattle.act_parse.proofs.Local.{Local, pure_local, then_local, like, choice_local, pick_local, token_local, tokens_local, ended_local}
use Rattle.act_parse.proofs.Leaf.{leaf, leaf_local, seen, run_leaf}
use Rattle.act_parse.proofs.LocalTokens.{before, field_inside, decimal_local, name_local, plain_local, field_local}
use Rattle.act_parse.proofs.LocalSteps.{keyword_local}

-- fields have at most 48 bits
width_most : (f : Field) → leb (field_width f) 48 ≡ true
width_most field.Inport = refl
width_most _ = refl

range_local : (width first : ℕ) → width ≤ 100 → Local (reading.range width first)
range_local width first few =
    then_local (token (codes "..")) (λ _ rest. and_then (decimal first width rest) (λ last rest. ended (Range first last) (codes "]" ∷ []) rest)) (token_local (codes ".."))
    (λ u. then_local (decimal first width) (λ last rest. ended (Range first last) (codes "]" ∷ []) rest) (decimal_local first width (omega (arith, few), inr few)) (λ last. ended_local (Range first last) (codes "]" ∷ [])))

last_local : (width first : ℕ) → width ≤ 100 → Local (reading.last_bit width first)
last_local width first few = pick_local 46 (reading.range width first) (ended (Bit first) (codes "]" ∷ [])) (range_local width first few) (ended_local (Bit first) (codes "]" ∷ []))

bits_local : (width : ℕ) → width ≤ 100 → Local (reading.bits width)
bits_local width few =
    choice_local 91 (λ xs. and_then (decimal 0 width xs) (reading.last_bit width)) (λ text. Read Whole text)
    (then_local (decimal 0 width) (reading.last_bit width) (decimal_local 0 width (omega (arith, few), inl refl)) (λ first. last_local width first few)) (pure_local Whole)

outport_local : Local reading.outport_name
outport_local =
    then_local (token (codes "\"")) (λ _ rest. and_then (reading.name rest) (λ n rest. ended (SetOutport n) (codes "\"" ∷ codes ";" ∷ []) rest)) (token_local (codes "\""))
    (λ u. then_local reading.name (λ n rest. ended (SetOutport n) (codes "\"" ∷ codes ";" ∷ []) rest) name_local (λ n. ended_local (SetOutport n) (codes "\"" ∷ codes ";" ∷ [])))

value_local : (f : Field) (b : Bits) → Local (reading.value f b)
value_local field.Outport Whole = pick_local 34 reading.outport_name (reading.plain_value field.Outport Whole) outport_local (plain_local field.Outport Whole)
value_local f b = plain_local f b

exchange_local : (f : Field) → Local (reading.exchange f)
exchange_local f =
    then_local (tokens (codes "<->" ∷ codes " " ∷ [])) (λ _ rest. and_then (reading.field_of_width (field_width f) rest) (λ g rest. ended (Exchange f g) (codes ";" ∷ []) rest)) (tokens_local (codes "<->" ∷ codes " " ∷ []))
    (λ u. then_local (reading.field_of_width (field_width f)) (λ g rest. ended (Exchange f g) (codes ";" ∷ []) rest) (field_local (field_width f)) (λ g. ended_local (Exchange f g) (codes ";" ∷ [])))

assigned_local : (f : Field) (b : Bits) → Local (reading.assigned f b)
assigned_local f b = then_local (tokens (codes "=" ∷ codes " " ∷ [])) (λ _ rest. reading.value f b rest) (tokens_local (codes "=" ∷ codes " " ∷ [])) (λ u. value_local f b)

sign_local : (f : Field) (b : Bits) → Local (reading.sign_of_part f b)
sign_local f Whole = pick_local 60 (reading.exchange f) (reading.assigned f Whole) (exchange_local f) (assigned_local f Whole)
sign_local f (Bit n) = assigned_local f (Bit n)
sign_local f (Range m n) = assigned_local f (Range m n)

part_local : (f : Field) → Local (reading.part f)
part_local f =
    then_local (reading.bits (field_width f)) (λ b rest. and_then (token (codes " ") rest) (λ _ rest. reading.sign_of_part f b rest)) (bits_local (field_width f) (omega (arith, leb-true (field_width f) 48 (width_most f))))
    (λ b. then_local (token (codes " ")) (λ _ rest. reading.sign_of_part f b rest) (token_local (codes " ")) (λ u. sign_local f b))

field_step_local : (f : Field) → Local (reading.field_step f)
field_step_local field.IpTtl = pick_local 45 (ended DecTtl (codes "--" ∷ codes ";" ∷ [])) (reading.part field.IpTtl) (ended_local DecTtl (codes "--" ∷ codes ";" ∷ [])) (part_local field.IpTtl)
field_step_local f = part_local f

-- what an action without a block begins with
pub data Start : Type 0 where
  ByKeyword : Keyword → Start
  ByField : Field → Start

abbrev pub start_from : Option Keyword → Option Field → Option Start
start_from None None = None
start_from None (Some f) = Some (ByField f)
start_from (Some k) o = Some (ByKeyword k)

abbrev pub start_of : List ℕ → Option Start
start_of w = start_from (keyword_of w) (field_of w)

abbrev pub started : Start → List ℕ → Reading Step
started (ByKeyword k) rest = reading.keyword_step k rest
started (ByField f) rest = reading.field_step f rest

pub started_local : (s : Start) → Local (started s)
started_local (ByKeyword k) = keyword_local k
started_local (ByField f) = field_step_local f

pub start_begins : (w : List ℕ) (s : Start) (k : ℕ) → start_of w ≡ Some s → begins_step (take k w) ≡ true
start_begins w s k e = go (keyword_of w) (field_of w) refl refl e
  where
    go : (o : Option Keyword) (p : Option Field) → keyword_of w ≡ o → field_of w ≡ p → start_from o p ≡ Some s → begins_step (take k w) ≡ true
    go None None is also e = absurd (cc)
    go None (Some f) is also e =
        or_right (list_any (λ i. is_at (take k w) (keyword_name i)) keywords) (list_any (λ f. is_at (take k w) (field_name f)) all_fields)
        (any_found (λ g. is_named g w) (λ f. is_at (take k w) (field_name f)) all_fields f also (ap (is_at (take k w)) (sym (field_found w f also)) ∙ at_front k w))
    go (Some j) p is also e =
        or_left (list_any (λ i. is_at (take k w) (keyword_name i)) keywords) (list_any (λ f. is_at (take k w) (field_name f)) all_fields)
        (any_found (λ i. is_keyword i w) (λ i. is_at (take k w) (keyword_name i)) keywords j is (ap (is_at (take k w)) (same_bytes (keyword_name j) w (find_passes (λ i. is_keyword i w) keywords j is)) ∙ at_front k w))

keyword_inside : (k : Keyword) → list_all is_in_word (keyword_name k) ≡ true
keyword_inside keyword.Next = refl
keyword_inside _ = refl

pub name_inside : (xs name : List ℕ) → is_at xs name ≡ true → list_all is_in_word name ≡ true → list_all is_in_word xs ≡ true
name_inside xs name at all = before is_in_word xs (drop (length xs) name) (ap (list_all is_in_word) (name_ends xs name at) ∙ all)

pub step_inside : (xs : List ℕ) → begins_step xs ≡ true → list_all is_in_word xs ≡ true
step_inside xs e = elim (or_cases (list_any (λ k. is_at xs (keyword_name k)) keywords) (list_any (λ f. is_at xs (field_name f)) all_fields) e) as (λ _. list_all is_in_word xs ≡ true) [
  | inl word ↦ let k = any_some (λ k. is_at xs (keyword_name k)) keywords word in name_inside xs (keyword_name k.0) k.1 (keyword_inside k.0)
  | inr name ↦ let f = any_some (λ f. is_at xs (field_name f)) all_fields name in name_inside xs (field_name f.0) f.1 (field_inside f.0)
]

step_same : (text : List ℕ) (o : Option Keyword) (p : Option Field) → field_of (word text) ≡ p → reading.step_by wanted.Step text o ≡ leaf {K = Start} (begins wanted.Step) started text (option_map (λ s. (s, after_word text)) (start_from o p))
step_same text None None is = ap (reading.step_by_field wanted.Step text) is
step_same text None (Some f) is = ap (reading.step_by_field wanted.Step text) is
step_same text (Some k) p is = refl

-- an action without a block, in a block
pub step_local : Local (reading.step wanted.Step)
step_local =
    like (reading.step wanted.Step) (λ text. leaf (begins wanted.Step) started text (seen is_in_word start_of text)) (λ text. step_same text (keyword_of (word text)) (field_of (word text)) refl)
    (leaf_local (seen is_in_word start_of) (begins wanted.Step) started
    (run_leaf is_in_word start_of (begins wanted.Step)
    (λ w s k e some le. or_left (begins_step (take k w)) (can_end wanted.Step (take k w)) (start_begins w s k e))
    (λ xs e. step_inside xs (only_words wanted.Step xs (λ text. refl) e)))
    started_local)

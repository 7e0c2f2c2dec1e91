-- What begins what is wanted goes on to it.
use Rattle.std.proofs.Common.{◌≡◌, ℕ, Bool, true, false, leb, ltb, eqb, List, [], ◌∷◌, ◌++◌, length, drop, Option, Some, None, is_some, decimal as decimal_text, refl, ap, sym, ◌∙◌, inl, inr}
use Rattle.std.specs.List.{list_any}
use Rattle.std.proofs.lemmas.Bool.{and_parts, or_cases, false≢true}
use Rattle.std.proofs.lemmas.List.{append-nil}
use Rattle.nv_base.specs.Field.{field_name, field_width, all_fields}
use Rattle.std.proofs.lemmas.Option.{cond_some}
use Rattle.nv_base.specs.Name.{is_quotable}
use Rattle.nv_base.specs.Ip4.{ip4_text}
use Rattle.nv_base.specs.declared.field.Field.{Field}
use Rattle.nv_base.specs.declared.ip4.Ip4.{Ip4}
use Rattle.expr_core.specs.Width.{part_width}
use Rattle.expr_core.specs.declared.part.Bits.{Bits}
use Rattle.act_core.specs.WellFormed as formed
use Rattle.act_core.specs.declared.step.Step.{Step}
use Rattle.act_core.specs.declared.step.Step.TheVariants.{Copy}
use Rattle.act_parse.specs.declared.wanted.Wanted.{Wanted}
use Rattle.act_parse.specs.declared.wanted.Wanted.TheVariants as wanted
use Rattle.act_parse.specs.inner.Token.{is_at, decimal_of, address_of, name_of}
use Rattle.act_parse.specs.inner.Wanted.{begins_word, begins_field, begins_field_of, value_of, is_whole, endings, ends_with, can_end, begins}
use Rattle.act_parse.proofs.TakesTokens.{at_takes, decimal_of_takes, address_of_takes}
use Rattle.act_parse.proofs.Values.{copy_value}

-- one of them passes
pub any_some : {X : Type 0} (p : X → Bool) (xs : List X) → list_any p xs ≡ true → (x : X) × (p x ≡ true)
any_some p [] e = absurd (cc)
any_some {X} p (x ∷ xs) e = elim (or_cases (p x) (list_any p xs) e) as (λ _. (y : X) × (p y ≡ true)) [
  | inl first ↦ (x, first)
  | inr later ↦ any_some p xs later
]

ended : (w : Wanted) (front text : List ℕ) → ends_with w front text ≡ true → (end : List ℕ) × (is_whole w (front ++ end) ≡ true)
ended w front [] e = ([], ap (is_whole w) (append-nil front) ∙ e)
ended w front (b ∷ bs) e = elim (or_cases (is_whole w (front ++ b ∷ bs)) (ends_with w front bs) e) as (λ _. (end : List ℕ) × (is_whole w (front ++ end) ≡ true)) [
  | inl whole ↦ (b ∷ bs, whole)
  | inr later ↦ ended w front bs later
]

pub can_end_takes : (w : Wanted) (front : List ℕ) → can_end w front ≡ true → (end : List ℕ) × (is_whole w (front ++ end) ≡ true)
can_end_takes w front e = let one = any_some (ends_with w front) endings e in ended w front one.0 one.1

there : {X : Type 0} (o : Option X) → is_some o ≡ true → (x : X) × (o ≡ Some x)
there None e = absurd (cc)
there (Some x) e = (x, refl)

pub decimal_ends : (first limit : ℕ) (xs : List ℕ) → begins (wanted.Decimal first limit) xs ≡ true → (n : ℕ) × (end : List ℕ) × (xs ++ end ≡ decimal_text n) × (leb first n ≡ true) × (ltb n limit ≡ true)
decimal_ends first limit xs e =
    let end = can_end_takes (wanted.Decimal first limit) xs e in
    let number = there (decimal_of first limit (xs ++ end.0)) end.1 in
    let took = decimal_of_takes first limit (xs ++ end.0) number.0 number.1 in
    (number.0, end.0, took.0, took.1, took.2)

pub address_ends : (xs : List ℕ) → begins wanted.Address xs ≡ true → (a : Ip4) × (end : List ℕ) × (xs ++ end ≡ ip4_text a) × (formed.is_address a ≡ true)
address_ends xs e =
    let end = can_end_takes wanted.Address xs e in
    let addr = there (address_of (xs ++ end.0)) end.1 in
    let took = address_of_takes (xs ++ end.0) addr.0 addr.1 in
    (addr.0, end.0, took.0, took.1)

pub quotable_ends : (xs : List ℕ) → begins wanted.Name xs ≡ true → (end : List ℕ) × (is_quotable (xs ++ end) ≡ true)
quotable_ends xs e =
    let end = can_end_takes wanted.Name xs e in
    let name = there (name_of (xs ++ end.0)) end.1 in
    (end.0, (cond_some (is_quotable (xs ++ end.0)) (xs ++ end.0) name.0 name.1).0)

-- the rest of a name
pub name_ends : (xs name : List ℕ) → is_at xs name ≡ true → xs ++ drop (length xs) name ≡ name
name_ends xs name at = sym (at_takes xs name at)

pub field_ends : (width : ℕ) (xs : List ℕ) → begins_field width xs ≡ true → (f : Field) × (xs ++ drop (length xs) (field_name f) ≡ field_name f) × (eqb (field_width f) width ≡ true)
field_ends width xs e =
    let one = any_some (begins_field_of width xs) all_fields e in
    let tests = and_parts (eqb (field_width one.0) width) (is_at xs (field_name one.0)) one.1 in
    (one.0, name_ends xs (field_name one.0) tests.1, tests.0)

pub value_ends : (f : Field) (b : Bits) (xs : List ℕ) → begins (wanted.Value f b) xs ≡ true → (s : Step) × (end : List ℕ) × (value_of f b (xs ++ end) ≡ Some s)
value_ends f b xs e = elim (or_cases (begins_field (part_width b (field_width f)) xs) (can_end (wanted.Value f b) xs) e) as (λ _. (s : Step) × (end : List ℕ) × (value_of f b (xs ++ end) ≡ Some s)) [
  | inl name ↦
      let g = field_ends (part_width b (field_width f)) xs name in
      (Copy f b g.0, drop (length xs) (field_name g.0), ap (value_of f b) g.1 ∙ copy_value f b g.0 g.2)
  | inr other ↦
      let end = can_end_takes (wanted.Value f b) xs other in
      let step = there (value_of f b (xs ++ end.0)) end.1 in
      (step.0, end.0, step.1)
]

-- only words begin what is no number, address, name or value
pub only_words : (w : Wanted) (xs : List ℕ) → ((text : List ℕ) → is_whole w text ≡ false) → begins w xs ≡ true → begins_word w xs ≡ true
only_words w xs none e = elim (or_cases (begins_word w xs) (can_end w xs) e) as (λ _. begins_word w xs ≡ true) [
  | inl word ↦ word
  | inr other ↦ let end = can_end_takes w xs other in absurd (false≢true (sym (none (xs ++ end.0)) ∙ end.1))
]

-- The values that a part of a field may be given, and how they are written.
use Rattle.std.proofs.Common.{◌≡◌, ℕ, ◌<◌, Bool, true, cond, eqb, nat_eq, ◌||◌, List, [], ◌∷◌, ◌++◌, Option, Some, None, codes, refl, ap, sym, subst, ◌∙◌, arith, inl, inr}
use Rattle.std.specs.List.{list_all}
use Rattle.std.specs.Cmp.Lexicographic.{pointwise, same_text}
use Rattle.std.proofs.lemmas.Bool.{and_parts, and_from, or_cases, ltb-true}
use Rattle.std.proofs.lemmas.Bool.Decides.{nat_tests}
use Rattle.std.proofs.lemmas.Option.{cond_some}
use Rattle.nv_base.specs.Name.{is_name_byte, is_object_name, is_quotable}
use Rattle.nv_base.specs.Field.{field_name, field_width, field_of, all_fields, is_named}
use Rattle.nv_base.specs.declared.field.Field.{Field}
use Rattle.nv_base.specs.declared.field.Field.TheVariants as field
use Rattle.nv_base.proofs.Fields.{name_read}
use Rattle.expr_core.specs.Text.{const_text}
use Rattle.expr_core.specs.Width.{part_width, limit}
use Rattle.expr_core.specs.declared.constant.Const.{Const}
use Rattle.expr_core.specs.declared.part.Bits.{Bits}
use Rattle.expr_const.specs.Constant.{constant_of}
use Rattle.expr_const.proofs.Misses.{spells}
use Rattle.act_core.specs.Text.{part_text, step_text}
use Rattle.act_core.specs.WellFormed.{fits, are_bits_of, is_step}
use Rattle.act_core.specs.declared.step.Step.{Step}
use Rattle.act_core.specs.declared.step.Step.TheVariants.{Set, Copy}
use Rattle.act_parse.specs.inner.Token.{as_written, constant, name_of}
use Rattle.act_parse.specs.inner.Wanted.{field_value, constant_value, value_of}
use Rattle.act_parse.proofs.TakesTokens.{same_bytes, constant_takes, find_passes}

-- the field that is found has the name
pub field_found : (w : List ℕ) (f : Field) → field_of w ≡ Some f → w ≡ field_name f
field_found w f e = sym (same_bytes (field_name f) w (find_passes (λ g. is_named g w) all_fields f e))

-- what is written of a value for the part
pub record IsValue (f : Field) (b : Bits) (w : List ℕ) (s : Step) : Type 0 where
  pub text : step_text s ≡ (part_text f b ++ codes " = ") ++ w ++ codes ";"
  pub good : is_step s ≡ true

value_text : (p v w : List ℕ) → w ≡ v → (p ++ codes " = ") ++ v ++ codes ";" ≡ (p ++ codes " = ") ++ w ++ codes ";"
value_text p v w is = ap (λ xs. (p ++ codes " = ") ++ xs ++ codes ";") (sym is)

-- what is found is written so
pub value_means : (f : Field) (b : Bits) (w : List ℕ) (s : Step) → are_bits_of (field_width f) b ≡ true → value_of f b w ≡ Some s → IsValue f b w s
value_means f b w s good e = by_constant (constant w) refl e
  where
    by_field : (o : Option Field) → field_of w ≡ o → field_value f b o ≡ Some s → IsValue f b w s
    by_field None is e = absurd (cc)
    by_field (Some g) is e =
        let passed = cond_some (eqb (field_width g) (part_width b (field_width f))) (Copy f b g) s e in
        let P : Step → Type 0 = λ t. IsValue f b w t in
        subst P passed.1 (record { text = value_text (part_text f b) (field_name g) w (field_found w g is); good = and_from _ _ good passed.0 })

    by_constant : (o : Option Const) → constant w ≡ o → constant_value f b w o ≡ Some s → IsValue f b w s
    by_constant None is e = by_field (field_of w) refl e
    by_constant (Some c) is e =
        let passed = cond_some (fits (part_width b (field_width f)) c) (Set f b c) s e in
        let P : Step → Type 0 = λ t. IsValue f b w t in
        subst P passed.1 (record { text = value_text (part_text f b) (const_text c) w (constant_takes w c is); good = and_from _ _ good passed.0 })

pub same_pointwise : (xs : List ℕ) → pointwise nat_eq xs xs ≡ true
same_pointwise [] = refl
same_pointwise (x ∷ xs) = rw (reflexive x, same_pointwise xs) refl
  where
    reflexive : (n : ℕ) → eqb n n ≡ true
    reflexive n = le_both n
      where
        le_both : (m : ℕ) → eqb m m ≡ true
        le_both m = grind (arith, nat_tests)

-- a written constant is that constant
pub constant_read : (c : Const) → c.value < limit c.form → constant (const_text c) ≡ Some c
constant_read c small = ap (as_written (const_text c)) (spells c.form c.value small) ∙ ap (λ (p : Bool). cond p (Some c) None) (same_pointwise (const_text c))

pub set_value : (f : Field) (b : Bits) (c : Const) → fits (part_width b (field_width f)) c ≡ true → value_of f b (const_text c) ≡ Some (Set f b c)
set_value f b c fit =
    let small : c.value < limit c.form = ltb-true _ _ (and_parts _ _ fit).1 in
    ap (constant_value f b (const_text c)) (constant_read c small) ∙ ap (λ (p : Bool). cond p (Some (Set f b c)) None) fit

-- the name of a field is no constant
no_constant : (g : Field) → constant_of (field_name g) ≡ None
no_constant field.Inport = refl
no_constant _ = refl

pub copy_value : (f : Field) (b : Bits) (g : Field) → eqb (field_width g) (part_width b (field_width f)) ≡ true → value_of f b (field_name g) ≡ Some (Copy f b g)
copy_value f b g wide =
    ap (λ o. constant_value f b (field_name g) (as_written (field_name g) o)) (no_constant g)
    ∙ ap (field_value f b) (name_read g)
    ∙ ap (λ (p : Bool). cond p (Some (Copy f b g)) None) wide

-- the bytes of a name that may be in double quotes
pub quotable_bytes : (text : List ℕ) → is_quotable text ≡ true → list_all is_name_byte text ≡ true
quotable_bytes text e = elim (or_cases (is_object_name text || pointwise nat_eq text (codes "_MC_flood")) (pointwise nat_eq text (codes "_MC_unknown")) e) as (λ _. list_all is_name_byte text ≡ true) [
  | inl either ↦ elim (or_cases (is_object_name text) (pointwise nat_eq text (codes "_MC_flood")) either) as (λ _. list_all is_name_byte text ≡ true) [
    | inl name ↦ (and_parts _ (list_all is_name_byte text) (and_parts _ _ (and_parts _ _ name).0).0).1
    | inr flood ↦ subst (λ (xs : List ℕ). list_all is_name_byte xs ≡ true) (sym (same_text text (codes "_MC_flood") (sym flood))) refl
  ]
  | inr unknown ↦ subst (λ (xs : List ℕ). list_all is_name_byte xs ≡ true) (sym (same_text text (codes "_MC_unknown") (sym unknown))) refl
]

pub name_of_read : (name : List ℕ) → is_quotable name ≡ true → name_of name ≡ Some name
name_of_read name good = ap (λ (p : Bool). cond p (Some name) None) good

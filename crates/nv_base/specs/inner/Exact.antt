-- Values that are equal by `==` are one value.
use Rattle.std.proofs.Common.{◌≡◌, ℕ, Bool, true, false, eqb, [], ◌∷◌, Some, None, refl, ap, ◌∙◌, ◌&&◌}
use Rattle.std.specs.Option.{option_eq}
use Rattle.std.specs.Cmp.Lexicographic.{pointwise}
use Rattle.std.proofs.Math.Bool.{beq}
use Rattle.std.proofs.lemmas.Bool.{eqb-true, false≢true, and_parts}
use denote.Enum.Bare.{sameb, same_true}
use Rattle.nv_base.specs.Block.{Block}
use Rattle.nv_base.specs.contracts.field.Field as fields
use Rattle.nv_base.specs.declared.field.Field.{Field}
use Rattle.nv_base.specs.declared.ip4.Ip4.{Ip4}
use Rattle.nv_base.specs.declared.object.ObjId.{ObjId}

-- a test that tells equality
abbrev pub Tells : {T : Type 0} → (T → T → Bool) → Type 0
Tells {T} eq = (a b : T) → eq a b ≡ true → a ≡ b

pub unit : Tells (λ (a b : Unit {0}). true)
unit a b e = refl

pub boolean : Tells beq
boolean true true e = refl
boolean true false e = absurd (false≢true e)
boolean false true e = absurd (false≢true e)
boolean false false e = refl

pub number : Tells eqb
number = eqb-true

pub option : {T : Type 0} (eq : T → T → Bool) → Tells eq → Tells (option_eq eq)
option eq tells None None e = refl
option eq tells None (Some b) e = absurd (false≢true e)
option eq tells (Some a) None e = absurd (false≢true e)
option eq tells (Some a) (Some b) e = ap Some (tells a b e)

pub pair : {A B : Type 0} (f : A → A → Bool) (g : B → B → Bool) → Tells f → Tells g → Tells (λ (a b : A × B). f a.0 b.0 && g a.1 b.1)
pair f g tells_f tells_g a b e =
    let parts = and_parts _ _ e in
    let first = tells_f _ _ parts.0 in
    let second = tells_g _ _ parts.1 in
    ap (λ x. (x, a.1)) first ∙ ap (λ y. (b.0, y)) second

pub triple : {A B C : Type 0} (f : A → A → Bool) (g : B → B → Bool) (h : C → C → Bool) → Tells f → Tells g → Tells h → Tells (λ (a b : A × B × C). (f a.0 b.0 && g a.1 b.1) && h a.2 b.2)
triple f g h tells_f tells_g tells_h a b e =
    let parts = and_parts _ _ e in
    let front = and_parts _ _ parts.0 in
    ap (λ x. (x, a.1, a.2)) (tells_f _ _ front.0) ∙ ap (λ y. (b.0, y, a.2)) (tells_g _ _ front.1) ∙ ap (λ z. (b.0, b.1, z)) (tells_h _ _ parts.1)

pub list : {T : Type 0} (eq : T → T → Bool) → Tells eq → Tells (pointwise eq)
list eq tells [] [] e = refl
list eq tells [] (y ∷ ys) e = absurd (false≢true e)
list eq tells (x ∷ xs) [] e = absurd (false≢true e)
list eq tells (x ∷ xs) (y ∷ ys) e =
    let parts = and_parts _ _ e in
    ap (λ z. z ∷ xs) (tells x y parts.0) ∙ ap (λ zs. y ∷ zs) (list eq tells xs ys parts.1)

pub object : (a b : ObjId) → eqb a.0 b.0 ≡ true → a ≡ b
object a b e = ap (λ (n : ℕ). record { 0 = n }) (eqb-true _ _ e)

pub address : (a b : Ip4) → eqb a.0 b.0 ≡ true → a ≡ b
address a b e = ap (λ (n : ℕ). record { 0 = n }) (eqb-true _ _ e)

pub block : (a b : Block) → (eqb a.base.0 b.base.0 && eqb a.len b.len) ≡ true → a ≡ b
block a b e =
    let parts = and_parts _ _ e in
    ap (λ (base : Ip4). record { base = base; len = a.len }) (address _ _ parts.0) ∙ ap (λ (len : ℕ). record { base = b.base; len = len }) (eqb-true _ _ parts.1)

pub field : (a b : Field) → sameb fields.the_type a b ≡ true → a ≡ b
field = same_true fields.the_type tt

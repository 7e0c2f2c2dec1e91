-- The packet of a microflow has each number that is said, whatever the order.
use Rattle.std.proofs.Common.{◌≡◌, ◌≢◌, ℕ, zero, suc, ◌+◌, ◌-◌, ◌<◌, Bool, true, false, not, ◌&&◌, if◌then◌else◌, List, [], ◌∷◌, length, map, get_or, set, Option, Some, None, Result, Ok, Err, refl, sym, ap, subst, ◌∙◌, arith}
use Rattle.std.specs.List.{find, list_any, All}
use Rattle.std.proofs.lemmas.Bool.{eqb-true, eqb-false, eq-eqb, or_parts, not-false, true≢false}
use Rattle.std.proofs.lemmas.List.{get_or-set_same, get_or-set_other, length-set}
use Rattle.nv_base.specs.declared.field.Field.{Field}
use Rattle.nv_base.specs.declared.field.Field.TheVariants.{Inport}
use Rattle.nv_base.specs.Field.{field_count, field_number, all_fields}
use Rattle.nv_base.proofs.Fields.{counted}
use Rattle.pkt_core.specs.Packet.{Values, place, value, with_value, with_values, zero_packet}
use Rattle.pkt_core.proofs.Only.{place_within, field_at}
use Rattle.expr_core.specs.Formula.{Formula}
use Rattle.expr_core.specs.declared.typed.TypedAtom.{TypedAtom}
use Rattle.pkt_micro.specs.Microflow.{same_value, is_of, is_given_another, is_contradicted, number_of, numbered, port_said, packet_said, judged, said, microflow, microflow_of}
use Rattle.pkt_micro.specs.declared.equality.Equality.{Equality}
use Rattle.pkt_micro.specs.declared.equality.Value.{Value}
use Rattle.pkt_micro.specs.declared.equality.Value.TheVariants.{Number, Port}
use Rattle.pkt_micro.specs.declared.fault.MicroFault.{MicroFault}
use Rattle.pkt_micro.specs.declared.microflow.Micro.{Micro}

-- a field's number is one above its place
one_above : (field : Field) → field_number field ≡ place field + 1
one_above Inport = refl
one_above _ = refl

-- the number that is told last of a field, or else this one
abbrev last_number : ℕ → Field → List Equality → ℕ
last_number n field [] = n
last_number n field (e ∷ es) = last_number (if is_of field e then number_of e.value else n) field es

set_where : (packet : Values) (field : Field) (e : Equality) (b : Bool) → is_of field e ≡ b → length packet ≡ field_count
    → value (with_value packet e.field (number_of e.value)) field ≡ (if b then number_of e.value else value packet field)
set_where packet field e true is long =
    let same : place e.field ≡ place field = ap (λ n. n - 1) (eqb-true (field_number e.field) (field_number field) is) in
    let inside : place e.field < length packet = rw long (place_within e.field) in
    subst (λ (k : ℕ). get_or (set packet (place e.field) (number_of e.value)) k 0 ≡ number_of e.value) same (get_or-set_same packet (place e.field) (number_of e.value) 0 inside)
set_where packet field e false is long =
    let other : place field ≢ place e.field = λ same. eqb-false (field_number e.field) (field_number field) is (one_above e.field ∙ ap (λ n. n + 1) (sym same) ∙ sym (one_above field)) in
    get_or-set_other packet (place e.field) (place field) (number_of e.value) 0 other

-- which number a field has at the end
at_the_end : (es : List Equality) (packet : Values) (field : Field) → length packet ≡ field_count → value (with_values packet (map numbered es)) field ≡ last_number (value packet field) field es
at_the_end [] packet field long = refl
at_the_end (e ∷ es) packet field long =
    at_the_end es (with_value packet e.field (number_of e.value)) field (length-set packet (place e.field) (number_of e.value) ∙ long)
    ∙ ap (λ n. last_number n field es) (set_where packet field e (is_of field e) refl long)

-- all that is told of the field is this number
abbrev AllGive : Field → ℕ → List Equality → Type 0
AllGive field n [] = Unit {0}
AllGive field n (e ∷ es) = (is_of field e ≡ true → number_of e.value ≡ n) × AllGive field n es

stays : (field : Field) (n : ℕ) (e : Equality) (b : Bool) → is_of field e ≡ b → (is_of field e ≡ true → number_of e.value ≡ n) → (if b then number_of e.value else n) ≡ n
stays field n e true is gives = gives is
stays field n e false is gives = refl

settled : (field : Field) (n : ℕ) (es : List Equality) → AllGive field n es → last_number n field es ≡ n
settled field n [] all = refl
settled field n (e ∷ es) all = ap (λ m. last_number m field es) (stays field n e (is_of field e) refl all.0) ∙ settled field n es all.1

told_where : (field : Field) (n before : ℕ) (e : Equality) (es : List Equality) (first : Equality) (b : Bool) → is_of field e ≡ b
    → (if b then Some e else find (is_of field) es) ≡ Some first → AllGive field n (e ∷ es) → (find (is_of field) es ≡ Some first → last_number before field es ≡ n)
    → last_number (if b then number_of e.value else before) field es ≡ n
told_where field n before e es first true is found all rest = ap (λ m. last_number m field es) (all.0 is) ∙ settled field n es all.1
told_where field n before e es first false is found all rest = rest found

told : (field : Field) (n before : ℕ) (es : List Equality) (first : Equality) → find (is_of field) es ≡ Some first → AllGive field n es → last_number before field es ≡ n
told field n before [] first found all = cc
told field n before (e ∷ es) first found all = told_where field n before e es first (is_of field e) refl found all (λ others. told field n before es first others all.1)

untold_where : (field : Field) (before : ℕ) (e : Equality) (es : List Equality) (b : Bool) → (if b then Some e else find (is_of field) es) ≡ None
    → (find (is_of field) es ≡ None → last_number before field es ≡ before) → last_number (if b then number_of e.value else before) field es ≡ before
untold_where field before e es true none rest = cc
untold_where field before e es false none rest = rest none

untold : (field : Field) (before : ℕ) (es : List Equality) → find (is_of field) es ≡ None → last_number before field es ≡ before
untold field before [] none = refl
untold field before (e ∷ es) none = untold_where field before e es (is_of field e) none (λ others. untold field before es others)

same_number : (v w : Value) → same_value v w ≡ true → number_of w ≡ number_of v
same_number (Number n) (Number m) same = sym (eqb-true n m same)
same_number (Port name) (Port other) same = refl
same_number (Number n) (Port name) same = cc
same_number (Port name) (Number n) same = cc

one_gives : (field : Field) (v : Value) (e : Equality) → (is_of field e && not (same_value v e.value)) ≡ false → is_of field e ≡ true → number_of e.value ≡ number_of v
one_gives field v e none is = same_number v e.value (not-false (same_value v e.value) (rw is at none))

all_give : (field : Field) (v : Value) (es : List Equality) → list_any (λ e. is_of field e && not (same_value v e.value)) es ≡ false → AllGive field (number_of v) es
all_give field v [] none = tt
all_give field v (e ∷ es) none =
    let parts = or_parts (is_of field e && not (same_value v e.value)) (list_any (λ e. is_of field e && not (same_value v e.value)) es) none in
    (one_gives field v e parts.0, all_give field v es parts.1)

give_at : (field : Field) (n : ℕ) (es : List Equality) (k : ℕ) (d : Equality) → AllGive field n es → k < length es → is_of field (get_or es k d) ≡ true → number_of (get_or es k d).value ≡ n
give_at field n [] k d all within is = absurd (omega (arith, within))
give_at field n (e ∷ es) zero d all within is = all.0 is
give_at field n (e ∷ es) (suc k) d all within is = give_at field n es k d all.1 (omega (arith, within)) is

-- where none is found, none is one
none_where : {A : Type 0} (test : A → Bool) (x : A) (xs : List A) (k : ℕ) (d : A) (b : Bool) → test x ≡ b → (if b then Some x else find test xs) ≡ None
    → k < length (x ∷ xs) → ((i : ℕ) → find test xs ≡ None → i < length xs → test (get_or xs i d) ≡ false) → test (get_or (x ∷ xs) k d) ≡ false
none_where test x xs k d true is none within rest = cc
none_where test x xs zero d false is none within rest = is
none_where test x xs (suc k) d false is none within rest = rest k none (omega (arith, within))

none_is : {A : Type 0} (test : A → Bool) (xs : List A) (k : ℕ) (d : A) → find test xs ≡ None → k < length xs → test (get_or xs k d) ≡ false
none_is test [] k d none within = absurd (omega (arith, within))
none_is test (x ∷ xs) k d none within = none_where test x xs k d (test x) refl none within (λ i others inside. none_is test xs i d others inside)

-- no field is given two values
pub none_contradicted : (es : List Equality) (field : Field) → find (is_contradicted es) all_fields ≡ None → is_contradicted es field ≡ false
none_contradicted es field none =
    let inside : place field < length all_fields = rw counted (place_within field) in
    subst (λ (f : Field). is_contradicted es f ≡ false) (field_at field field) (none_is (is_contradicted es) all_fields (place field) field none inside)

module _ (es : List Equality) (sound : find (is_contradicted es) all_fields ≡ None) where
  packet_at : (field : Field) → value (packet_said es) field ≡ last_number 0 field es
  packet_at field = at_the_end es zero_packet field refl ∙ ap (λ n. last_number n field es) (zero_at field)
    where
      zero_at : (field : Field) → value zero_packet field ≡ 0
      zero_at Inport = refl
      zero_at _ = refl

  has_where : (k : ℕ) (d : Equality) → k < length es → (first : Option Equality) → find (is_of (get_or es k d).field) es ≡ first
      → value (packet_said es) (get_or es k d).field ≡ number_of (get_or es k d).value
  has_where k d within None found =
      let field = (get_or es k d).field in
      absurd (true≢false (sym (eq-eqb (field_number field) (field_number field) refl) ∙ none_is (is_of field) es k d found within))
  has_where k d within (Some first) found =
      let field : Field = (get_or es k d).field in
      let all : AllGive field (number_of first.value) es = all_give field first.value es (sym (ap (is_given_another field es) found) ∙ none_contradicted es field sound) in
      let is : is_of field (get_or es k d) ≡ true = eq-eqb (field_number field) (field_number field) refl in
      packet_at field ∙ told field (number_of first.value) 0 es first found all ∙ sym (give_at field (number_of first.value) es k d all within is)

  -- each number that is said is in the packet
  pub has_each : All (λ e. value (packet_said es) e.field ≡ number_of e.value) es
  has_each k d within = has_where k d within (find (is_of (get_or es k d).field) es) refl

  -- and a field of which none is said is zero
  pub has_zero : (field : Field) → find (is_of field) es ≡ None → value (packet_said es) field ≡ 0
  has_zero field none = packet_at field ∙ untold field 0 es none

-- what an accepted microflow is
abbrev packet_in : Result Micro MicroFault → Values
packet_in (Ok m) = m.packet
packet_in (Err f) = []

pub accepted : (es : List Equality) (found : Option Field) (port : Option (List ℕ)) (m : Micro) → judged es found port ≡ Ok m → (found ≡ None) × (packet_said es ≡ m.packet)
accepted es (Some field) port m e = cc
accepted es None None m e = cc
accepted es None (Some name) m e = (refl, ap packet_in e)

module _ (t : Formula TypedAtom) (m : Micro) (es : List Equality) (says : said t ≡ Some es) (made : microflow t ≡ Ok m) where
  pub parts : (find (is_contradicted es) all_fields ≡ None) × (packet_said es ≡ m.packet)
  parts = accepted es (find (is_contradicted es) all_fields) (port_said es) m (sym (ap microflow_of says) ∙ made)

  pub packet_has : All (λ e. value m.packet e.field ≡ number_of e.value) es
  packet_has = subst (λ (p : Values). All (λ e. value p e.field ≡ number_of e.value) es) parts.1 (has_each es parts.0)

  pub packet_lacks : (field : Field) → find (is_of field) es ≡ None → value m.packet field ≡ 0
  packet_lacks field none = subst (λ (p : Values). value p field ≡ 0) parts.1 (has_zero es parts.0 field none)

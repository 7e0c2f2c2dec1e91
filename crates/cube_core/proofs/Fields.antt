-- Tests of all the fields, and packets by their fields.
use Rattle.std.proofs.Common.{◌≡◌, ◌≢◌, ℕ, ◌<◌, ◌+◌, Bool, true, false, List, [], ◌∷◌, length, get_or, set, inl, inr, refl, sym, ap, subst, ◌∙◌, arith}
use Rattle.std.specs.List.{list_all}
use Rattle.std.proofs.lemmas.Bool.{cases_Bool, both_ways, and_from}
use borrow.Author.Count.{below_more}
use Rattle.std.proofs.lemmas.Grind.{same_number_lists}
use Rattle.std.proofs.lemmas.List.{get_or-map, length-map, length-set, get_or-set_same, get_or-set_other, get_or-replicate}
use Rattle.std.proofs.lemmas.List.Folds.{list_all_at}
use Rattle.nv_base.specs.declared.field.Field.{Field}
use Rattle.nv_base.specs.Field.{field_count, all_fields}
use Rattle.nv_base.proofs.Fields.{counted}
use Rattle.pkt_core.specs.Packet.{Values, place, value, with_value, zero_packet}
use Rattle.pkt_core.proofs.Only.{place_at, place_within, field_at}
use Rattle.cube_core.specs.Cube.{packet_of}

-- each field has a place in the list of all
pub inside : (field : Field) → place field < length all_fields
inside field = rw counted (place_within field)

-- what all fields pass, each passes
pub each : (p : Field → Bool) → list_all p all_fields ≡ true → (field : Field) → p field ≡ true
each p all field = elim (cases_Bool (p field)) [
  | inl e ↦ e
  | inr e ↦ absurd (both_ways _ (list_all_at p all_fields (place field) field (inside field) (ap p (field_at field field) ∙ e)) all)
]

-- and what each passes, all of them pass
pub every : (p : Field → Bool) → ((field : Field) → p field ≡ true) → (fields : List Field) → list_all p fields ≡ true
every p one [] = refl
every p one (f ∷ fs) = and_from (p f) (list_all p fs) (one f) (every p one fs)

-- two tests that pass where the other does are one
pub same_tests : (a b : Bool) → (a ≡ true → b ≡ true) → (b ≡ true → a ≡ true) → a ≡ b
same_tests true b f g = sym (f refl)
same_tests false true f g = g refl
same_tests false false f g = refl

-- fields at one place are one
pub one_place : (f g : Field) → place f ≡ place g → f ≡ g
one_place f g e = sym (field_at f f) ∙ ap (λ i. get_or all_fields i f) e ∙ field_at g f

-- the packet of these numbers has them
pub value_of : (number : Field → ℕ) (field : Field) → value (packet_of number) field ≡ number field
value_of number field = get_or-map number all_fields (place field) field 0 (inside field) ∙ ap number (field_at field field)

-- the packet of zeros, and with one number
pub value_zero : (field : Field) → value zero_packet field ≡ 0
value_zero field = get_or-replicate field_count (place field) 0 0 (place_within field)

pub value_one : (f : Field) (n : ℕ) → value (with_value zero_packet f n) f ≡ n
value_one f n = get_or-set_same zero_packet (place f) n 0 (place_within f)

pub value_other : (f g : Field) (n : ℕ) → place g ≢ place f → value (with_value zero_packet f n) g ≡ 0
value_other f g n apart = get_or-set_other zero_packet (place f) (place g) n 0 apart ∙ value_zero g

-- a packet that has these numbers for the fields before one
pub record Made (number : Field → ℕ) (now : Values) (i : ℕ) : Type 0 where
  pub long : length now ≡ field_count
  pub done : (j : ℕ) → j < i → get_or now j 0 ≡ get_or (packet_of number) j 0

pub made_none : (number : Field → ℕ) → Made number zero_packet 0
made_none number = record { long = refl; done = λ j before. absurd (omega (arith, before)) }

pub made_more : (number : Field → ℕ) (now : Values) (i : ℕ) (d : Field) (n : ℕ) → i < field_count → n ≡ number (get_or all_fields i d) → Made number now i
    → Made number (with_value now (get_or all_fields i d) n) (i + 1)
made_more number now i d n within is made =
    let at = place_at i d within in
    let long = made.long in
    let inside_now : i < length now = omega arith in
    let inside_all : i < length all_fields = rw counted within in
    let here : get_or (set now i n) i 0 ≡ get_or (packet_of number) i 0 = get_or-set_same now i n 0 inside_now ∙ is ∙ sym (get_or-map number all_fields i d 0 inside_all) in
    let there : (j : ℕ) → j < i → get_or (set now i n) j 0 ≡ get_or (packet_of number) j 0 = λ j before. get_or-set_other now i j n 0 (omega arith) ∙ made.done j before in
    let all : Made number (set now i n) (i + 1) = record {
      long = length-set now i n ∙ made.long;
      done = below_more (λ j. get_or (set now i n) j 0 ≡ get_or (packet_of number) j 0) i there here;
    } in
    subst (λ (j : ℕ). Made number (set now j n) (i + 1)) (sym at) all

pub made_all : (number : Field → ℕ) (now : Values) → Made number now field_count → now ≡ packet_of number
made_all number now made =
    same_number_lists now (packet_of number) (made.long ∙ sym (length-map all_fields number ∙ counted)) (λ j within. let long = made.long in made.done j (omega arith))

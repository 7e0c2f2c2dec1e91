-- The packet with the fields of a kind alone, field by field.
use Rattle.std.proofs.Common.{◌≡◌, ◌≢◌, ℕ, ◌+◌, ◌<◌, ◌≤◌, lit<, Bool, true, false, not, length, get_or, set, refl, sym, ap, subst, ◌∙◌, arith}
use Rattle.std.proofs.lemmas.List.{get_or-map, length-map, get_or-set_same, get_or-set_other, length-set}
use Rattle.std.proofs.lemmas.Option.{get_or_from_slice_get}
use Rattle.std.proofs.lemmas.Grind.{same_number_lists}
use borrow.Author.Count.{below_more}
use Rattle.nv_base.specs.declared.field.Field.{Field}
use Rattle.nv_base.specs.declared.field.Field.TheVariants.{Inport}
use Rattle.nv_base.specs.Field.{field_count, is_header, all_fields}
use Rattle.nv_base.proofs.Fields.{counted, number_at, at_its_number}
use Rattle.pkt_core.specs.Packet.{Values, place, value, with_value, value_only, only, is_working}

-- the field at a place has that place
pub place_at : (i : ℕ) (d : Field) → i < field_count → place (get_or all_fields i d) ≡ i
place_at i d within = let e = number_at i d within in omega arith

-- the number there, of a kind of fields
pub only_at : (packet : Values) (of_kind : Field → Bool) (i : ℕ) (d : Field) → i < field_count → get_or (only packet of_kind) i 0 ≡ value_only packet of_kind (get_or all_fields i d)
unfolding only
only_at packet of_kind i d within = get_or-map (value_only packet of_kind) all_fields i d 0 (rw counted within)

pub length-only : (packet : Values) (of_kind : Field → Bool) → length (only packet of_kind) ≡ field_count
unfolding only
length-only packet of_kind = length-map all_fields (value_only packet of_kind) ∙ counted

-- the packet is done up to a place
pub record UpTo (packet : Values) (of_kind : Field → Bool) (now : Values) (i : ℕ) : Type 0 where
  pub long : length now ≡ length packet
  pub done : (k : ℕ) → k < i → get_or now k 0 ≡ get_or (only packet of_kind) k 0
  pub left : (k : ℕ) → i ≤ k → get_or now k 0 ≡ get_or packet k 0

-- a field of the kind keeps its number
pub keeps : (packet : Values) (of_kind : Field → Bool) (now : Values) (i : ℕ) (d : Field) → i < field_count → of_kind (get_or all_fields i d) ≡ true → UpTo packet of_kind now i → UpTo packet of_kind now (i + 1)
keeps packet of_kind now i d within there so_far =
    let at = place_at i d within in
    let here : get_or now i 0 ≡ get_or (only packet of_kind) i 0 = so_far.left i (omega arith) ∙ sym (only_at packet of_kind i d within ∙ rw there (ap (λ k. get_or packet k 0) at)) in
    record {
      long = so_far.long;
      done = below_more (λ k. get_or now k 0 ≡ get_or (only packet of_kind) k 0) i so_far.done here;
      left = λ k h. so_far.left k (omega arith);
    }

-- another becomes zero
pub clears : (packet : Values) (of_kind : Field → Bool) (now : Values) (i : ℕ) (d : Field) → i < field_count → length packet ≡ field_count → of_kind (get_or all_fields i d) ≡ false → UpTo packet of_kind now i → UpTo packet of_kind (with_value now (get_or all_fields i d) 0) (i + 1)
clears packet of_kind now i d within long gone so_far =
    let at = place_at i d within in
    let inside : i < length now = rw (so_far.long, long) within in
    let here : get_or (set now i 0) i 0 ≡ get_or (only packet of_kind) i 0 = get_or-set_same now i 0 0 inside ∙ sym (only_at packet of_kind i d within ∙ rw gone refl) in
    let other : (k : ℕ) → k ≢ i → get_or (set now i 0) k 0 ≡ get_or now k 0 = λ k ne. get_or-set_other now i k 0 0 ne in
    let done : UpTo packet of_kind (set now i 0) (i + 1) = record {
      long = length-set now i 0 ∙ so_far.long;
      done = below_more (λ k. get_or (set now i 0) k 0 ≡ get_or (only packet of_kind) k 0) i (λ k h. other k (omega arith) ∙ so_far.done k h) here;
      left = λ k h. other k (omega arith) ∙ so_far.left k (omega arith);
    } in
    subst (λ (k : ℕ). UpTo packet of_kind (set now k 0) (i + 1)) (sym at) done

-- among the working fields alone, a header field becomes zero
pub clears_header : (packet now : Values) (i : ℕ) (d : Field) → i < field_count → length packet ≡ field_count → is_header (get_or all_fields i d) ≡ true → UpTo packet is_working now i → UpTo packet is_working (with_value now (get_or all_fields i d) 0) (i + 1)
clears_header packet now i d within long on_wire so_far = clears packet is_working now i d within long (ap not on_wire) so_far

-- at the end it has the fields of the kind alone
pub ends : (packet : Values) (of_kind : Field → Bool) (now : Values) → length packet ≡ field_count → UpTo packet of_kind now field_count → now ≡ only packet of_kind
ends packet of_kind now long done =
    let lengths : length now ≡ field_count = done.long ∙ long in
    same_number_lists now (only packet of_kind) (lengths ∙ sym (length-only packet of_kind)) (λ k h. done.done k (omega arith))

-- each field has a place
pub place_within : (field : Field) → place field < field_count
place_within Inport = lit< tt
place_within _ = lit< tt

-- and is at it
pub field_at : (field d : Field) → get_or all_fields (place field) d ≡ field
field_at field d = get_or_from_slice_get all_fields (place field) field d (at_its_number field)

-- what stays of a field
pub only_value : (packet : Values) (of_kind : Field → Bool) (field : Field) → value (only packet of_kind) field ≡ value_only packet of_kind field
only_value packet of_kind field = only_at packet of_kind (place field) field (place_within field) ∙ ap (value_only packet of_kind) (field_at field field)

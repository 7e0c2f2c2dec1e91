-- The table of the fields, field by field.
use Rattle.std.proofs.Common.{◌≡◌, ℕ, ◌+◌, ◌-◌, ◌<◌, Some, length, map, get_or, refl, sym, ap, ◌∙◌, arith}
use Rattle.std.proofs.lemmas.List.{get_or-map}
use Rattle.std.proofs.lemmas.List.FromFn.{get_or-range_with_len}
use Rattle.std.specs.List.{slice_get, range_with_len}
use Rattle.nv_base.specs.declared.field.Field.{Field}
use Rattle.nv_base.specs.declared.field.Field.TheVariants.{Inport}
use Rattle.nv_base.specs.Field.{field_count, field_number, field_name, field_of, all_fields}

-- a field's name is read as that field
pub name_read : (field : Field) → field_of (field_name field) ≡ Some field
unfolding all_fields
name_read Inport = refl
name_read _ = refl

-- each field is at the place of its number
pub at_its_number : (field : Field) → slice_get all_fields (field_number field - 1) ≡ Some field
unfolding all_fields
at_its_number Inport = refl
at_its_number _ = refl

-- their numbers are those from 1 on, in order
pub in_order : map field_number all_fields ≡ range_with_len 1 field_count
unfolding all_fields
in_order = refl

-- so they are as many
pub counted : length all_fields ≡ field_count
unfolding all_fields
counted = refl

-- and the field at a place has the number one above it
pub number_at : (i : ℕ) (d : Field) → i < field_count → field_number (get_or all_fields i d) ≡ i + 1
number_at i d within =
    let inside : i < length all_fields = rw counted within in
    sym (get_or-map field_number all_fields i d 0 inside) ∙ ap (λ numbers. get_or numbers i 0) in_order ∙ get_or-range_with_len 1 field_count i 0 within ∙ omega arith

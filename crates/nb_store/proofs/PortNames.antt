-- A record that is found by its name is found by its number too, with that name.
use Rattle.std.proofs.Common.{◌≡◌, ℕ, List, Option, Some, None, ap, sym, ◌∙◌, ◌⊎◌, inl, inr, refl}
use Rattle.std.specs.Prelude.{find, option_map}
use Rattle.std.specs.Str.{bytes_eq}
use Rattle.std.proofs.lemmas.Slice.Eq.{bytes_eq-Decides}
use Rattle.nv_base.specs.declared.object.ObjId.{ObjId}
use Rattle.nb_model.specs.Belongs.{either}
use Rattle.nv_table.specs.Table.{NumbersRise, record_of}
use Rattle.nv_table.proofs.Found.{found_there, own_record}

module _ {R : Type 0} (number : R → ObjId) (name_of : R → List ℕ) where
  -- the record of a number has the name by which the number was found
  pub name_of_number : (name : List ℕ) (n : ObjId) (rs : List R) → NumbersRise number rs → option_map number (find (λ r. bytes_eq (name_of r) name) rs) ≡ Some n
      → option_map name_of (record_of number n rs) ≡ Some name
  name_of_number name n rs rise is = by (find (λ r. bytes_eq (name_of r) name) rs) refl is
    where
      by : (found : Option R) → find (λ r. bytes_eq (name_of r) name) rs ≡ found → option_map number found ≡ Some n → option_map name_of (record_of number n rs) ≡ Some name
      by None e none = absurd (cc)
      by (Some r) e some =
          let there = found_there (λ r. bytes_eq (name_of r) name) r rs e in
          let own : number r ≡ n = cc in
          ap (λ (k : ObjId). option_map name_of (record_of number k rs)) (sym own) ∙ ap (option_map name_of) (own_record number r rs rise there.0) ∙ ap Some ((bytes_eq-Decides (name_of r) name).0 there.1)

-- what is found by either of two is found by one of them
pub found_by_either : {X : Type 0} (one other : Option X) (x : X) → either one other ≡ Some x → (one ≡ Some x) ⊎ (other ≡ Some x)
found_by_either (Some y) other x is = inl is
found_by_either None other x is = inr is

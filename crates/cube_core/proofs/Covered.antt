-- What cubes, and lists of cubes, cover.
use Rattle.std.proofs.Common.{◌≡◌, ◌≢◌, ◌==◌, ℕ, Bool, true, false, ◌&&◌, ◌||◌, cond, List, [], ◌∷◌, map, inl, inr, refl, sym, ap, ◌∙◌}
use Rattle.std.specs.Prelude.{bit_and, bit_or}
use Rattle.std.specs.Int.Bits.{and_zero_r}
use Rattle.std.specs.List.{filter}
use Rattle.std.proofs.lemmas.Bool.{eq-eqb, and_from, and_parts, cases_eq, both_ways, false_from_ne_true}
use Rattle.std.proofs.lemmas.List.Folds.{list_any-append}
use Rattle.nv_base.specs.declared.field.Field.{Field}
use Rattle.nv_base.specs.Field.{all_fields}
use Rattle.pkt_core.specs.Packet.{Values, place, value, with_value, zero_packet}
use Rattle.expr_sets.specs.Members.{agree}
use Rattle.cube_core.specs.declared.cube.Cube.{Cube}
use Rattle.cube_core.specs.Cube.{covers, cover, packet_of, share, asked, meet, everything, of_field}
use Rattle.cube_core.specs.Limit.{meets, products}
use Rattle.cube_core.proofs.Fields.{each, every, same_tests, one_place, value_of, value_zero, value_one, value_other}
use Rattle.cube_core.proofs.Agree.{and_twice, met, shared_by}

-- a cube covers its value
pub corner_covered : (c : Cube) → covers c c.value ≡ true
corner_covered c = every _ (λ f. eq-eqb _ _ refl) all_fields

module _ (k : Values) where
  zero_agrees : (a b : ℕ) → agree 0 a b ≡ true
  zero_agrees a b = eq-eqb _ _ (and_zero_r a ∙ sym (and_zero_r b))

  -- the cube without mask
  pub everything_covers : covers everything k ≡ true
  everything_covers = every _ (λ f. ap (λ m. agree m (value k f) (value zero_packet f)) (value_zero f) ∙ zero_agrees _ _) all_fields

  -- the cube of one field
  module _ (f : Field) (m n : ℕ) where
    abbrev asks : Field → Bool
    asks g = agree (value (with_value zero_packet f m) g) (value k g) (value (with_value zero_packet f (bit_and n m)) g)

    asks_here : asks f ≡ agree m (value k f) n
    asks_here =
        ap (λ x. agree x (value k f) (value (with_value zero_packet f (bit_and n m)) f)) (value_one f m)
        ∙ ap (agree m (value k f)) (value_one f (bit_and n m))
        ∙ ap (λ x. bit_and (value k f) m == x) (and_twice n m)

    asks_there : (g : Field) → place g ≢ place f → asks g ≡ true
    asks_there g apart = ap (λ x. agree x (value k g) (value (with_value zero_packet f (bit_and n m)) g)) (value_other f g m apart) ∙ zero_agrees _ _

    pub of_field_covers : covers (of_field f m n) k ≡ agree m (value k f) n
    of_field_covers = same_tests _ _
        (λ all. sym asks_here ∙ each asks all f)
        (λ here. every asks (λ g. elim (cases_eq (place g) (place f)) [
          | inl e ↦ ap asks (one_place g f e) ∙ asks_here ∙ here
          | inr apart ↦ asks_there g apart
        ]) all_fields)

  -- what two cubes have in common
  module _ (a b : Cube) where
    abbrev masks : Field → ℕ
    masks = λ field. bit_or (value a.mask field) (value b.mask field)

    abbrev values : Field → ℕ
    values = λ field. bit_or (asked a field) (asked b field)

    meets_at : share a b ≡ true → (f : Field) → agree (value (packet_of masks) f) (value k f) (value (packet_of values) f) ≡ (agree (value a.mask f) (value k f) (value a.value f) && agree (value b.mask f) (value k f) (value b.value f))
    meets_at shared f =
        ap (λ m. agree m (value k f) (value (packet_of values) f)) (value_of masks f)
        ∙ ap (agree (masks f) (value k f)) (value_of values f)
        ∙ met (value k f) (value a.value f) (value a.mask f) (value b.value f) (value b.mask f) (each _ shared f)

    abbrev first_at : Field → Bool
    first_at f = agree (value a.mask f) (value k f) (value a.value f)

    abbrev second_at : Field → Bool
    second_at f = agree (value b.mask f) (value k f) (value b.value f)

    abbrev met_at : Field → Bool
    met_at f = agree (value (packet_of masks) f) (value k f) (value (packet_of values) f)

    pub meet_covers : share a b ≡ true → covers (meet a b) k ≡ (covers a k && covers b k)
    meet_covers shared = same_tests (covers (meet a b) k) (covers a k && covers b k)
        (λ met_there. and_from (covers a k) (covers b k)
        (every first_at (λ f. (and_parts (first_at f) (second_at f) (sym (meets_at shared f) ∙ each met_at met_there f)).0) all_fields)
        (every second_at (λ f. (and_parts (first_at f) (second_at f) (sym (meets_at shared f) ∙ each met_at met_there f)).1) all_fields))
        (λ both_there. let parts = and_parts (covers a k) (covers b k) both_there in
        every met_at (λ f. meets_at shared f ∙ and_from (first_at f) (second_at f) (each first_at parts.0 f) (each second_at parts.1 f)) all_fields)

    -- where they share no packet no packet is covered by both
    shared_from : (covers a k && covers b k) ≡ true → share a b ≡ true
    shared_from both_there = let parts = and_parts (covers a k) (covers b k) both_there in
        every _ (λ f. shared_by (value k f) (value a.value f) (value a.mask f) (value b.value f) (value b.mask f) (each first_at parts.0 f) (each second_at parts.1 f)) all_fields

    pub apart_covers : share a b ≡ false → (covers a k && covers b k) ≡ false
    apart_covers apart = false_from_ne_true _ (λ both_there. both_ways _ apart (shared_from both_there))

  -- ---- truth values

  pub and_nothing : (a : Bool) → false ≡ (a && false)
  and_nothing true = refl
  and_nothing false = refl

  spread : (a b r : Bool) → ((a && b) || (a && r)) ≡ (a && (b || r))
  spread true b r = refl
  spread false b r = refl

  left_out : (a b r : Bool) → (a && b) ≡ false → (a && r) ≡ (a && (b || r))
  left_out true false r e = refl
  left_out true true r e = absurd (cc)
  left_out false b r e = refl

  gather : (a s r : Bool) → ((a && r) || (s && r)) ≡ ((a || s) && r)
  gather true true true = refl
  gather true true false = refl
  gather true false true = refl
  gather true false false = refl
  gather false s r = refl

  -- ---- what a cube has in common with those of a list
  met_one : (a b : Cube) (bs : List Cube) (rest : List Cube) (s : Bool) → share a b ≡ s → cover (map (meet a) rest) k ≡ (covers a k && cover bs k)
      → cover (map (meet a) (cond s (b ∷ rest) rest)) k ≡ (covers a k && (covers b k || cover bs k))
  met_one a b bs rest true shared more = ap (λ x. x || cover (map (meet a) rest) k) (meet_covers a b shared) ∙ ap (λ x. (covers a k && covers b k) || x) more ∙ spread (covers a k) (covers b k) (cover bs k)
  met_one a b bs rest false apart more = more ∙ left_out (covers a k) (covers b k) (cover bs k) (apart_covers a b apart)

  pub meets_cover : (a : Cube) (bs : List Cube) → cover (meets bs a) k ≡ (covers a k && cover bs k)
  meets_cover a [] = and_nothing (covers a k)
  meets_cover a (b ∷ bs) = met_one a b bs (filter (share a) bs) (share a b) refl (meets_cover a bs)

  -- those of two lists
  pub products_cover : (ones others : List Cube) → cover (products ones others) k ≡ (cover ones k && cover others k)
  products_cover [] others = refl
  products_cover (a ∷ ones) others =
      list_any-append (λ c. covers c k) (meets others a) (products ones others)
      ∙ ap (λ x. x || cover (products ones others) k) (meets_cover a others) ∙ ap (λ x. (covers a k && cover others k) || x) (products_cover ones others)
      ∙ gather (covers a k) (cover ones k) (cover others k)

-- What the cubes of a comparison with a number cover.
use Rattle.std.proofs.Common.{◌≡◌, ℕ, zero, suc, length, length-append, lit≤, ◌<◌, ◌≤◌, ◌+◌, ◌-◌, ◌/◌, ◌^◌, ◌==◌, nat_lt, nat_le, Bool, true, false, not, ◌&&◌, ◌||◌, cond, List, [], ◌∷◌, ◌++◌, map, refl, sym, ap, ap₂, ◌∙◌, arith}
use Rattle.std.specs.Prelude.{bit_and, bit_xor}
use Rattle.std.specs.List.{list_any, filter}
use Rattle.std.proofs.Math.Bool.{or-false}
use Rattle.std.proofs.Math.Nat.{one-mul}
use Rattle.std.proofs.lemmas.Bool.Decides.{nat_tests}
use Rattle.std.proofs.lemmas.List.{length-map}
use Rattle.std.proofs.lemmas.List.Filters.{length-filter_both}
use Rattle.std.proofs.lemmas.List.Folds.{list_any-append}
use Rattle.std.proofs.lemmas.Nat.{shl-shr, xor_shr}
use Rattle.std.proofs.lemmas.Nat.Bits.{bit_at-zero}
use Rattle.nv_base.specs.declared.field.Field.{Field}
use Rattle.nv_base.specs.declared.field.Field.TheVariants.{Inport}
use Rattle.nv_base.specs.Field.{field_width}
use Rattle.pkt_core.specs.Packet.{Values, value}
use Rattle.expr_core.specs.Width.{part_width}
use Rattle.expr_core.specs.declared.comparison.Rel.{Rel}
use Rattle.expr_core.specs.declared.comparison.Rel.TheVariants.{Eq, Ne, Lt, Le, Gt, Ge}
use Rattle.expr_core.specs.declared.part.Bits.{Bits}
use Rattle.expr_eval.specs.MatchMeaning.{part_of}
use Rattle.expr_eval.specs.Relation.{compares}
use Rattle.expr_sets.specs.Members.{agree}
use Rattle.expr_sets.specs.declared.members.Masked.{Masked}
use Rattle.cube_core.specs.declared.cube.Cube.{Cube}
use Rattle.cube_core.specs.Comparison.{falling, has_bit, from_bit, differs_at, differing, first_bits, holds_of_equals, related, lowest_bit, placed, placed_mask}
use Rattle.cube_core.specs.Cube.{covers, cover, of_field}
use Rattle.cube_core.specs.Cubes.{masked_cubes}
use Rattle.cube_core.specs.Limit.{cube_limit}
use Rattle.cube_core.proofs.Covered.{of_field_covers}
use Rattle.cube_core.proofs.Differing.{differs_here, first_differs, differ, below, above, falling_next}
use Rattle.cube_core.proofs.Placed.{shifted, masked_part, masked_number, equal_scaled, compares_scaled}

-- ---- lists of cubes that bits choose

chosen_one : {X : Type 0} (g : X → Cube) (p : X → Bool) (k : Values) (x : X) (rest : List X) (b t : Bool) → cover (map g rest) k ≡ t
    → cover (map g (cond b (x ∷ rest) rest)) k ≡ ((b && covers (g x) k) || t)
chosen_one g p k x rest true t more = ap (λ c. covers (g x) k || c) more
chosen_one g p k x rest false t more = more

pub chosen_cover : {X : Type 0} (g : X → Cube) (p : X → Bool) (k : Values) (xs : List X) → cover (map g (filter p xs)) k ≡ list_any (λ x. p x && covers (g x) k) xs
chosen_cover g p k [] = refl
chosen_cover g p k (x ∷ xs) = chosen_one g p k x (filter p xs) (p x) (list_any (λ y. p y && covers (g y) k) xs) (chosen_cover g p k xs)

none_pass : {X : Type 0} (p : X → Bool) → ((x : X) → p x ≡ false) → (xs : List X) → list_any p xs ≡ false
none_pass p none [] = refl
none_pass p none (x ∷ xs) = ap₂ ◌||◌ (none x) (none_pass p none xs)

module _ (k : Values) (f : Field) (m n : ℕ) where
  -- the cube of one bit
  opposite_here : (i : ℕ) → bit_xor n (2 ^ i) / 2 ^ i ≡ bit_xor (n / 2 ^ i) 1
  opposite_here i = xor_shr n (2 ^ i) i ∙ ap (bit_xor (n / 2 ^ i)) (ap (λ y. y / 2 ^ i) (sym (one-mul (2 ^ i))) ∙ shl-shr 1 i)

  differs_covers : (i : ℕ) → covers (differs_at f m n i) k ≡ agree (m / 2 ^ i) (value k f / 2 ^ i) (bit_xor (n / 2 ^ i) 1)
  differs_covers i =
      of_field_covers k f (from_bit i m) (bit_xor n (2 ^ i))
      ∙ ap₂ ◌==◌ (shifted (value k f) i (m / 2 ^ i)) (shifted (bit_xor n (2 ^ i)) i (m / 2 ^ i))
      ∙ equal_scaled (bit_and (value k f / 2 ^ i) (m / 2 ^ i)) (bit_and (bit_xor n (2 ^ i) / 2 ^ i) (m / 2 ^ i)) i
      ∙ ap (λ y. bit_and (value k f / 2 ^ i) (m / 2 ^ i) == bit_and y (m / 2 ^ i)) (opposite_here i)

  pub differing_cover : (chosen : ℕ) → cover (differing f m n chosen) k ≡ first_differs (field_width f) m (value k f) n chosen
  differing_cover chosen =
      chosen_cover (differs_at f m n) (has_bit chosen) k (falling (field_width f))
      ∙ ap (λ p. list_any p (falling (field_width f))) (λ i bit. has_bit chosen bit && differs_covers bit i)

  -- no bit is chosen
  nothing_differs : (w x : ℕ) → first_differs w m x n 0 ≡ false
  nothing_differs w x = none_pass (differs_here m x n 0) (λ i. ap (λ y. (y == 1) && agree (m / 2 ^ i) (x / 2 ^ i) (bit_xor (n / 2 ^ i) 1)) (bit_at-zero i)) (falling w)

  alone : cover (of_field f m n ∷ []) k ≡ agree m (value k f) n
  alone = or-false _ ∙ of_field_covers k f m n

  below_or_equal : (x y : ℕ) → (nat_lt x y || (x == y)) ≡ nat_le x y
  below_or_equal x y = grind (arith, nat_tests)

  above_or_equal : (x y : ℕ) → (nat_lt y x || (x == y)) ≡ nat_le y x
  above_or_equal x y = grind (arith, nat_tests)

  both_lists : (rel : Rel) (more : List Cube) (a b : Bool) → cover (differing f m n (first_bits rel m n)) k ≡ a → cover more k ≡ b → cover (differing f m n (first_bits rel m n) ++ more) k ≡ (a || b)
  both_lists rel more a b e g = list_any-append (λ c. covers c k) (differing f m n (first_bits rel m n)) more ∙ ap₂ ◌||◌ e g

  -- the number of the field, in the bits of the mask, is in the relation
  pub related_cover : (rel : Rel) → m < 2 ^ field_width f → cover (related f m rel n) k ≡ compares (bit_and (value k f) m) rel (bit_and n m)
  related_cover Eq fits = both_lists Eq (of_field f m n ∷ []) _ _ (differing_cover 0 ∙ nothing_differs (field_width f) (value k f)) alone
  related_cover Ne fits = both_lists Ne [] _ _ (differing_cover m ∙ differ (field_width f) m (value k f) n fits) refl ∙ or-false _
  related_cover Lt fits = both_lists Lt [] _ _ (differing_cover (bit_and m n) ∙ below (field_width f) m (value k f) n fits) refl ∙ or-false _
  related_cover Le fits =
      both_lists Le (of_field f m n ∷ []) _ _ (differing_cover (bit_and m n) ∙ below (field_width f) m (value k f) n fits) alone
      ∙ below_or_equal (bit_and (value k f) m) (bit_and n m)
  related_cover Gt fits = both_lists Gt [] _ _ (differing_cover (bit_xor m (bit_and m n)) ∙ above (field_width f) m (value k f) n fits) refl ∙ or-false _
  related_cover Ge fits =
      both_lists Ge (of_field f m n ∷ []) _ _ (differing_cover (bit_xor m (bit_and m n)) ∙ above (field_width f) m (value k f) n fits) alone
      ∙ above_or_equal (bit_and (value k f) m) (bit_and n m)

-- a part's number, in the bits that count, is in the relation
pub masked_cover : (k : Values) (f : Field) (bits : Bits) (rel : Rel) (masked : Masked) → value k f < 2 ^ field_width f
    → lowest_bit bits + part_width bits (field_width f) ≤ field_width f → masked.number < 2 ^ part_width bits (field_width f) → placed_mask bits (field_width f) masked.mask < 2 ^ field_width f
    → cover (masked_cubes f bits rel masked) k ≡ compares (bit_and (part_of k f bits) masked.mask) rel (bit_and masked.number masked.mask)
masked_cover k f bits rel masked fits within number_fits mask_fits =
    let width = field_width f in
    let low = lowest_bit bits in
    related_cover k f (placed_mask bits width masked.mask) (placed bits width masked.number) rel mask_fits
    ∙ ap₂ (λ x y. compares x rel y) (masked_part width bits within masked.mask (value k f) fits) (masked_number width bits within masked.mask masked.number number_fits)
    ∙ compares_scaled (bit_and (part_of k f bits) masked.mask) (bit_and masked.number masked.mask) low rel

-- ---- the cubes of the bits that are left

module _ (f : Field) (m n bits : ℕ) where
  -- from the highest of these bits
  abbrev pub rest : ℕ → List Cube
  rest left = map (differs_at f m n) (filter (has_bit bits) (falling left))

  one_left : (i : ℕ) (fs : List ℕ) (b : Bool) → cond b (differs_at f m n i ∷ []) [] ++ map (differs_at f m n) fs ≡ map (differs_at f m n) (cond b (i ∷ fs) fs)
  one_left i fs true = refl
  one_left i fs false = refl

  pub rest_next : (left : ℕ) → 0 < left → cond (has_bit bits (left - 1)) (differs_at f m n (left - 1) ∷ []) [] ++ rest (left - 1) ≡ rest left
  rest_next left some =
      one_left (left - 1) (filter (has_bit bits) (falling (left - 1))) (has_bit bits (left - 1))
      ∙ ap (λ l. map (differs_at f m n) (filter (has_bit bits) l)) (sym (falling_next left some))

-- ---- they are few

falling_long : (w : ℕ) → length (falling w) ≡ w
falling_long zero = refl
falling_long (suc w) = ap suc (falling_long w)

narrow_fields : (f : Field) → field_width f ≤ 48
narrow_fields Inport = lit≤ tt
narrow_fields _ = lit≤ tt

last_few : (b : Bool) (c : Cube) → length (cond b (c ∷ []) []) ≤ 1
last_few true c = lit≤ tt
last_few false c = lit≤ tt

pub few : (f : Field) (bits : Bits) (rel : Rel) (m : Masked) → length (masked_cubes f bits rel m) ≤ cube_limit
few f bits rel m =
    let mask = placed_mask bits (field_width f) m.mask in
    let number = placed bits (field_width f) m.number in
    let chosen = filter (has_bit (first_bits rel mask number)) (falling (field_width f)) in
    let total = length-append (map (differs_at f mask number) chosen) (cond (holds_of_equals rel) (of_field f mask number ∷ []) []) in
    let each = length-map chosen (differs_at f mask number) in
    let fewer = length-filter_both (has_bit (first_bits rel mask number)) (λ bit. not (has_bit (first_bits rel mask number) bit)) (λ bit. refl) (falling (field_width f)) in
    let one = last_few (holds_of_equals rel) (of_field f mask number) in
    let all = falling_long (field_width f) in
    let narrow = narrow_fields f in
    omega (arith, total, each, fewer, one, all, narrow)

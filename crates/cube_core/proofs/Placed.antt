-- Parts at their places in fields.
use Rattle.std.proofs.Common.{◌≡◌, ℕ, ◌<◌, ◌≤◌, ◌+◌, ◌-◌, ◌*◌, ◌/◌, ◌%◌, ◌^◌, ◌==◌, nat_lt, nat_le, true, not, Some, inl, inr, refl, sym, ap, ◌∙◌, arith, add-zero}
use Rattle.std.specs.Prelude.{bit_and}
use Rattle.std.specs.Int.Bits.{and_zero_r}
use Rattle.std.proofs.Math.Nat.{mod-eq_of_lt, div-one}
use Rattle.std.proofs.lemmas.Bool.{eqb-true, eq-eqb, ltb-true, lt-ltb, leb-true, le-leb, and_parts, cases_lt}
use Rattle.std.proofs.lemmas.Nat.{pow_pos, shl-shr, shr_split, and_assoc, and_comm, and_mask, and_block, mod_below, shl_whole, mul-le, row_fits}
use Rattle.expr_core.specs.TypeRules.{bits_fit}
use Rattle.expr_core.specs.Width.{part_width, bits_of}
use Rattle.expr_core.specs.declared.comparison.Rel.{Rel}
use Rattle.expr_core.specs.declared.comparison.Rel.TheVariants.{Eq, Ne, Lt, Le, Gt, Ge}
use Rattle.expr_core.specs.declared.part.Bits.{Bits}
use Rattle.expr_core.specs.declared.part.Bits.TheVariants.{Whole, Bit, Range}
use Rattle.expr_eval.specs.Relation.{compares}
use Rattle.cube_core.specs.Comparison.{lowest_bit, placed, placed_mask, every_bit}
use Rattle.cube_core.proofs.Fields.{same_tests}

-- a part's bits lie in its field
pub lies : (width : ℕ) (bits : Bits) → bits_fit (Some width) bits ≡ true → lowest_bit bits + part_width bits width ≤ width
lies width Whole e = omega arith
lies width (Bit n) e = let below : n < width = ltb-true n width e in omega arith
lies width (Range first last) e =
    let parts = and_parts _ _ e in
    let rises : first ≤ last = leb-true first last parts.0 in
    let below : last < width = ltb-true last width parts.1 in
    omega arith

-- a part's number is so many bits of the field's, from its lowest on
pub part_is : (width : ℕ) (bits : Bits) (x : ℕ) → x < 2 ^ width → bits_of bits x ≡ x / 2 ^ lowest_bit bits % 2 ^ part_width bits width
part_is width Whole x fits = sym (ap (λ y. y % 2 ^ width) (div-one x) ∙ mod-eq_of_lt fits)
part_is width (Bit n) x fits = refl
part_is width (Range first last) x fits = refl

-- a number in the bits of a mask, both at one place
pub shifted : (x low q : ℕ) → bit_and x (q * 2 ^ low) ≡ bit_and (x / 2 ^ low) q * 2 ^ low
shifted x low q =
    let below : x % 2 ^ low < 2 ^ low = mod_below x (2 ^ low) (pow_pos low) in
    let block : bit_and (x / 2 ^ low * 2 ^ low + x % 2 ^ low) (q * 2 ^ low + 0) ≡ bit_and (x / 2 ^ low) q * 2 ^ low + bit_and (x % 2 ^ low) 0 =
    and_block low (x / 2 ^ low) q (x % 2 ^ low) 0 below (pow_pos low) in
    ap (λ y. bit_and y (q * 2 ^ low)) (sym (shr_split x low))
    ∙ ap (bit_and (x / 2 ^ low * 2 ^ low + x % 2 ^ low)) (sym (add-zero (q * 2 ^ low)))
    ∙ block
    ∙ ap (λ y. bit_and (x / 2 ^ low) q * 2 ^ low + y) (and_zero_r (x % 2 ^ low))
    ∙ add-zero (bit_and (x / 2 ^ low) q * 2 ^ low)

-- the bits of a mask that a part has
in_part : (y count m : ℕ) → bit_and y (m % 2 ^ count) ≡ bit_and (y % 2 ^ count) m
in_part y count m =
    ap (bit_and y) (sym (and_mask m count) ∙ and_comm m (2 ^ count - 1))
    ∙ sym (and_assoc m y (2 ^ count - 1))
    ∙ ap (λ z. bit_and z m) (and_mask y count)

module _ (width : ℕ) (bits : Bits) (within : lowest_bit bits + part_width bits width ≤ width) where
  mask_at : (m : ℕ) → placed_mask bits width m ≡ m % 2 ^ part_width bits width * 2 ^ lowest_bit bits
  mask_at m =
      let count = part_width bits width in
      let low = lowest_bit bits in
      shl_whole (m % 2 ^ count) count low width (mod_below m (2 ^ count) (pow_pos count)) (omega arith)

  -- the field's number in the bits of a part's mask is the part's in the bits of the mask
  pub masked_part : (m x : ℕ) → x < 2 ^ width → bit_and x (placed_mask bits width m) ≡ bit_and (bits_of bits x) m * 2 ^ lowest_bit bits
  masked_part m x fits =
      let count = part_width bits width in
      let low = lowest_bit bits in
      ap (bit_and x) (mask_at m)
      ∙ shifted x low (m % 2 ^ count)
      ∙ ap (λ y. y * 2 ^ low) (in_part (x / 2 ^ low) count m ∙ ap (λ y. bit_and y m) (sym (part_is width bits x fits)))

  part_placed : (c : ℕ) → c < 2 ^ part_width bits width → bits_of bits (placed bits width c) ≡ c
  part_placed c fits =
      let count = part_width bits width in
      let low = lowest_bit bits in
      part_is width bits (placed bits width c) (mod_below (c * 2 ^ low) (2 ^ width) (pow_pos width))
      ∙ ap (λ y. y / 2 ^ low % 2 ^ count) (shl_whole c count low width fits (omega arith))
      ∙ ap (λ y. y % 2 ^ count) (shl-shr c low)
      ∙ mod-eq_of_lt fits

  -- and so is a number at the part's place
  pub masked_number : (m c : ℕ) → c < 2 ^ part_width bits width → bit_and (placed bits width c) (placed_mask bits width m) ≡ bit_and c m * 2 ^ lowest_bit bits
  masked_number m c fits =
      masked_part m (placed bits width c) (mod_below (c * 2 ^ lowest_bit bits) (2 ^ width) (pow_pos width))
      ∙ ap (λ y. bit_and y m * 2 ^ lowest_bit bits) (part_placed c fits)

-- numbers at one place are in the relations that they are in
module _ (p q low : ℕ) where
  pub equal_scaled : (p * 2 ^ low == q * 2 ^ low) ≡ (p == q)
  equal_scaled = same_tests _ _
      (λ e. eq-eqb p q (sym (shl-shr p low) ∙ ap (λ y. y / 2 ^ low) (eqb-true _ _ e) ∙ shl-shr q low))
      (λ e. eq-eqb _ _ (ap (λ y. y * 2 ^ low) (eqb-true p q e)))

  lt_scaled : nat_lt (p * 2 ^ low) (q * 2 ^ low) ≡ nat_lt p q
  lt_scaled = same_tests _ _
      (λ e. let below : p * 2 ^ low < q * 2 ^ low = ltb-true _ _ e in
      elim (cases_lt p q) [
        | inl less ↦ lt-ltb p q less
        | inr more ↦ absurd (omega (arith, mul-le q (2 ^ low) p (2 ^ low) more (omega arith)))
      ])
      (λ e. let step = row_fits p (2 ^ low) q (2 ^ low) (ltb-true p q e) (omega arith) in
      let positive = pow_pos low in
      lt-ltb _ _ (omega arith))

  le_scaled : nat_le (p * 2 ^ low) (q * 2 ^ low) ≡ nat_le p q
  le_scaled = same_tests _ _
      (λ e. let under : p * 2 ^ low ≤ q * 2 ^ low = leb-true _ _ e in
      elim (cases_lt q p) [
        | inl more ↦ (let step = row_fits q (2 ^ low) p (2 ^ low) more (omega arith) in
            let positive = pow_pos low in
            absurd (omega arith))
        | inr less ↦ le-leb p q less
      ])
      (λ e. le-leb _ _ (mul-le p (2 ^ low) q (2 ^ low) (leb-true p q e) (omega arith)))

pub compares_scaled : (p q low : ℕ) (rel : Rel) → compares (p * 2 ^ low) rel (q * 2 ^ low) ≡ compares p rel q
compares_scaled p q low Eq = equal_scaled p q low
compares_scaled p q low Ne = ap not (equal_scaled p q low)
compares_scaled p q low Lt = lt_scaled p q low
compares_scaled p q low Le = le_scaled p q low
compares_scaled p q low Gt = lt_scaled q p low
compares_scaled p q low Ge = le_scaled q p low

-- all bits of a number count
pub every_bit_counts : (n : ℕ) → n < 2 ^ 128 → bit_and n every_bit ≡ n
every_bit_counts n fits = and_mask n 128 ∙ mod-eq_of_lt fits

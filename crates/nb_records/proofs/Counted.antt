-- Blocks of numbers that are counted.
use Rattle.std.proofs.Common.{◌≡◌, ℕ, ◌+◌, ◌-◌, ◌<◌, ◌≤◌, suc, zero, true, false, List, [], ◌∷◌, ◌++◌, Some, length, take, drop, get_or, slice_get, leb, refl, ap, sym, ◌∙◌, arith}
use Rattle.std.proofs.Math.Seq.{take-append_seam, take-append-add, drop-append-add}
use Rattle.std.proofs.lemmas.List.{append_assoc, append-nil, length-append, length-take, length-drop, take-append-le, drop-append-le, take_all, take_more, get_or_default}
use Rattle.std.proofs.lemmas.List.Concat.{flat_map-append}
use Rattle.std.proofs.lemmas.Bool.Decides.{nat_tests}
use Rattle.std.specs.List.Sorted.{IsNonDecreasingBy, IsPartitionPoint}
use Rattle.nb_records.specs.declared.numbers.Block.{Block}
use Rattle.nb_records.specs.inner.Blocks.{numbers_of, joined, IsCounted, IsFound}

-- ---- how many there are

abbrev last_end : ℕ → List Block → ℕ
last_end before [] = before
last_end before (b ∷ bs) = last_end b.end bs

counted_length : (before : ℕ) (bs : List Block) → IsCounted before bs → before + length (joined bs) ≡ last_end before bs
counted_length before [] counted = omega arith
counted_length before (b ∷ bs) counted =
    let rest = counted_length b.end bs counted.2 in
    let long = length-append (numbers_of b) (joined bs) in
    omega (arith, rest, long, counted.1)

last_is : (before : ℕ) (bs : List Block) (b : Block) → slice_get bs (length bs - 1) ≡ Some b → last_end before bs ≡ b.end
last_is before [] b e = absurd (cc)
last_is before (x ∷ []) b e = let same : x ≡ b = cc in ap (λ (y : Block). y.end) same
last_is before (x ∷ (y ∷ bs)) b e =
    let next : length (x ∷ (y ∷ bs)) - 1 ≡ suc (length (y ∷ bs) - 1) = omega arith in
    last_is x.end (y ∷ bs) b (sym (ap (slice_get (x ∷ (y ∷ bs))) next) ∙ e)

-- the end of the last block is how many numbers there are
pub last_counts : (bs : List Block) (b : Block) → IsCounted 0 bs → slice_get bs (length bs - 1) ≡ Some b → b.end ≡ length (joined bs)
last_counts bs b counted e =
    let long = counted_length 0 bs counted in
    let end = last_is 0 bs b e in
    omega (arith, long, end)

-- blocks with one more
pub counted_more : (before : ℕ) (bs : List Block) (b : Block) → IsCounted before bs → 0 < length (numbers_of b) → b.end ≡ before + length (joined bs) + length (numbers_of b) → IsCounted before (bs ++ b ∷ [])
counted_more before [] b counted some end = (some, omega (arith, end), tt)
counted_more before (x ∷ bs) b counted some end =
    let long = length-append (numbers_of x) (joined bs) in
    let later : b.end ≡ x.end + length (joined bs) + length (numbers_of b) = omega (arith, end, long, counted.1) in
    (counted.0, counted.1, counted_more x.end bs b counted.2 some later)

-- ---- where a number stands

counted_later : (before : ℕ) (bs : List Block) (j : ℕ) (d : Block) → IsCounted before bs → j < length bs → before ≤ (get_or bs j d).end
counted_later before [] j d counted within = absurd (omega (arith, within))
counted_later before (b ∷ bs) zero d counted within = omega (arith, counted.1)
counted_later before (b ∷ bs) (suc j) d counted within =
    let rest = counted_later b.end bs j d counted.2 (omega (arith, within)) in
    omega (arith, rest, counted.1)

pub counted_rise : (before : ℕ) (bs : List Block) → IsCounted before bs → IsNonDecreasingBy (λ (b : Block). b.end) bs
counted_rise before [] counted i j d le within = absurd (omega (arith, within))
counted_rise before (b ∷ bs) counted zero zero d le within = omega arith
counted_rise before (b ∷ bs) counted zero (suc j) d le within = counted_later b.end bs j d counted.2 (omega (arith, within))
counted_rise before (b ∷ bs) counted (suc i) zero d le within = absurd (omega (arith, le))
counted_rise before (b ∷ bs) counted (suc i) (suc j) d le within = counted_rise b.end bs counted.2 i j d (omega (arith, le)) (omega (arith, within))

-- the numbers before a block, its own and those after it
pub split : (bs : List Block) (k : ℕ) (d : Block) → k < length bs → joined bs ≡ joined (take k bs) ++ (numbers_of (get_or bs k d) ++ joined (drop (suc k) bs))
split [] k d within = absurd (omega (arith, within))
split (b ∷ bs) zero d within = refl
split (b ∷ bs) (suc k) d within =
    ap (λ l. numbers_of b ++ l) (split bs k d (omega (arith, within)))
    ∙ sym (append_assoc (numbers_of b) (joined (take k bs)) (numbers_of (get_or bs k d) ++ joined (drop (suc k) bs)))

starts : (before : ℕ) (bs : List Block) (k : ℕ) (d : Block) → IsCounted before bs → k < length bs → before + length (joined (take k bs)) + length (numbers_of (get_or bs k d)) ≡ (get_or bs k d).end
starts before [] k d counted within = absurd (omega (arith, within))
starts before (b ∷ bs) zero d counted within = omega (arith, counted.1)
starts before (b ∷ bs) (suc k) d counted within =
    let rest = starts b.end bs k d counted.2 (omega (arith, within)) in
    let long = length-append (numbers_of b) (joined (take k bs)) in
    omega (arith, rest, long, counted.1)

reached : (before at : ℕ) (bs : List Block) (k : ℕ) → IsCounted before bs → before ≤ at → ((i : ℕ) (d : Block) → i < k → (get_or bs i d).end ≤ at) → k ≤ length bs → before + length (joined (take k bs)) ≤ at
reached before at bs zero counted from ends within = omega (arith, from)
reached before at [] (suc k) counted from ends within = absurd (omega (arith, within))
reached before at (b ∷ bs) (suc k) counted from ends within =
    let rest = reached b.end at bs k counted.2 (ends 0 b (omega arith)) (λ i d lt. ends (suc i) d (omega (arith, lt))) (omega (arith, within)) in
    let long = length-append (numbers_of b) (joined (take k bs)) in
    omega (arith, rest, long, counted.1)

module _ (bs : List Block) (at place : ℕ) (counted : IsCounted 0 bs) (some : at < length (joined bs)) (bound : place ≤ length bs)
    (parted : IsPartitionPoint (λ (b : Block). leb b.end at ≡ true) (λ (b : Block). leb b.end at ≡ false) bs place) where
  ends_before : (i : ℕ) (d : Block) → i < place → (get_or bs i d).end ≤ at
  ends_before i d lt = let test = parted.0 i d (omega arith) lt in grind (arith, nat_tests, test)

  -- there is such a block
  pub found_within : place < length bs
  found_within =
      let all : length bs ≤ place → length (joined bs) ≤ at =
      (λ le. let most = reached 0 at bs place counted (omega arith) ends_before bound in
      let whole = ap (λ l. length (joined l)) (take_all place bs le) in
      omega (arith, most, whole)) in
      grind (arith, all, some, bound)

  module _ (b : Block) (n : ℕ) (is : b ≡ get_or bs place b) (sized : n ≡ length (numbers_of b)) where
    start : length (joined (take place bs)) + n ≡ b.end
    start =
        let counts = starts 0 bs place b counted found_within in
        let long = ap (λ (x : Block). length (numbers_of x)) is in
        let end = ap (λ (x : Block). x.end) is in
        omega (arith, counts, long, end, sized)

    begins : length (joined (take place bs)) ≤ at
    begins = let most = reached 0 at bs place counted (omega arith) ends_before bound in omega (arith, most)

    ends : at < b.end
    ends =
        let test = parted.1 place b (omega arith) found_within in
        let end = ap (λ (x : Block). x.end) is in
        let later : at < (get_or bs place b).end = grind (arith, nat_tests, test) in
        omega (arith, later, end)

    pub starts_within : n ≤ b.end
    starts_within = omega (arith, start)

    pub starts_before : b.end - n ≤ at
    starts_before = omega (arith, start, begins)

    -- it is the one that has the number
    pub found : IsFound bs at place (at - (b.end - n))
    found = record {
      within = found_within;
      before = omega (arith, start, begins);
      inside = λ d.
          let same = ap (λ (x : Block). length (numbers_of x)) (is ∙ get_or_default bs place b d found_within) in
          omega (arith, same, sized, start, begins, ends);
    }

-- ---- what is read and left out

module _ (bs : List Block) (at block place : ℕ) (b : Block) (f : IsFound bs at block place) (is : b ≡ get_or bs block b) where
  inside : place < length (numbers_of b)
  inside = let same = ap (λ (x : Block). length (numbers_of x)) is in let lt = f.inside b in omega (arith, same, lt)

  whole : joined bs ≡ joined (take block bs) ++ (numbers_of b ++ joined (drop (suc block) bs))
  whole = split bs block b f.within ∙ ap (λ (x : Block). joined (take block bs) ++ (numbers_of x ++ joined (drop (suc block) bs))) (sym is)

  rest : drop at (joined bs) ≡ drop place (numbers_of b) ++ joined (drop (suc block) bs)
  rest =
      ap (λ l. drop at l) whole
      ∙ ap (λ k. drop k (joined (take block bs) ++ (numbers_of b ++ joined (drop (suc block) bs)))) f.before
      ∙ drop-append-add (joined (take block bs)) (numbers_of b ++ joined (drop (suc block) bs)) place
      ∙ drop-append-le place (numbers_of b) (joined (drop (suc block) bs)) (omega (arith, inside))

  -- the rest of a block is a front of the rest of the list
  pub run_is : drop place (numbers_of b) ≡ take (length (drop place (numbers_of b))) (drop at (joined bs))
  run_is = sym (ap (take (length (drop place (numbers_of b)))) rest ∙ take-append_seam (drop place (numbers_of b)) (joined (drop (suc block) bs)))

  next : drop (at + 1) (joined bs) ≡ drop (place + 1) (numbers_of b) ++ joined (drop (suc block) bs)
  next =
      let further : at + 1 ≡ length (joined (take block bs)) + (place + 1) = omega (arith, f.before) in
      ap (λ l. drop (at + 1) l) whole
      ∙ ap (λ k. drop k (joined (take block bs) ++ (numbers_of b ++ joined (drop (suc block) bs)))) further
      ∙ drop-append-add (joined (take block bs)) (numbers_of b ++ joined (drop (suc block) bs)) (place + 1)
      ∙ drop-append-le (place + 1) (numbers_of b) (joined (drop (suc block) bs)) (omega (arith, inside))

  front : take at (joined bs) ≡ joined (take block bs) ++ take place (numbers_of b)
  front =
      ap (λ l. take at l) whole
      ∙ ap (λ k. take k (joined (take block bs) ++ (numbers_of b ++ joined (drop (suc block) bs)))) f.before
      ∙ take-append-add (joined (take block bs)) (numbers_of b ++ joined (drop (suc block) bs)) place
      ∙ ap (λ l. joined (take block bs) ++ l) (take-append-le place (numbers_of b) (joined (drop (suc block) bs)) (omega (arith, inside)))

  -- the blocks around it, and its numbers but one, are the numbers but one
  pub but_one : (joined (take block bs) ++ (take place (numbers_of b) ++ drop (place + 1) (numbers_of b))) ++ joined (drop (suc block) bs) ≡ take at (joined bs) ++ drop (at + 1) (joined bs)
  but_one =
      append_assoc (joined (take block bs)) (take place (numbers_of b) ++ drop (place + 1) (numbers_of b)) (joined (drop (suc block) bs))
      ∙ ap (λ l. joined (take block bs) ++ l) (append_assoc (take place (numbers_of b)) (drop (place + 1) (numbers_of b)) (joined (drop (suc block) bs)))
      ∙ sym (append_assoc (joined (take block bs)) (take place (numbers_of b)) (drop (place + 1) (numbers_of b) ++ joined (drop (suc block) bs)))
      ∙ sym (ap (λ l. l ++ drop (at + 1) (joined bs)) front ∙ ap (λ l. (joined (take block bs) ++ take place (numbers_of b)) ++ l) next)

  -- they are no more than all
  pub parts_within : length (joined (take block bs)) + length (numbers_of b) + length (joined (drop (suc block) bs)) ≡ length (joined bs)
  parts_within =
      let all = ap length whole in
      let first = length-append (joined (take block bs)) (numbers_of b ++ joined (drop (suc block) bs)) in
      let second = length-append (numbers_of b) (joined (drop (suc block) bs)) in
      omega (arith, all, first, second)

  pub but_one_shorter : length (take place (numbers_of b) ++ drop (place + 1) (numbers_of b)) ≤ length (numbers_of b)
  but_one_shorter =
      let both = length-append (take place (numbers_of b)) (drop (place + 1) (numbers_of b)) in
      let first = length-take place (numbers_of b) in
      let second = length-drop (place + 1) (numbers_of b) in
      omega (arith, both, first, second)

-- the blocks before one and its numbers are no more than all
pub more_within : (bs : List Block) (k : ℕ) (b : Block) → k < length bs → b ≡ get_or bs k b → length (joined (take k bs)) + length (numbers_of b) ≤ length (joined bs)
more_within bs k b within is =
    let all = ap length (split bs k b within) in
    let first = length-append (joined (take k bs)) (numbers_of (get_or bs k b) ++ joined (drop (suc k) bs)) in
    let second = length-append (numbers_of (get_or bs k b)) (joined (drop (suc k) bs)) in
    let same = ap (λ (x : Block). length (numbers_of x)) is in
    omega (arith, all, first, second, same)

-- one block more
pub joined_more : (bs : List Block) (k : ℕ) (b : Block) → k < length bs → b ≡ get_or bs k b → joined (take (k + 1) bs) ≡ joined (take k bs) ++ numbers_of b
joined_more bs k b within is =
    ap joined (take_more bs k b within)
    ∙ flat_map-append numbers_of (take k bs) (get_or bs k b ∷ [])
    ∙ ap (λ l. joined (take k bs) ++ l) (append-nil (numbers_of (get_or bs k b)) ∙ sym (ap numbers_of is))

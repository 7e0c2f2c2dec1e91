-- Reading parts one after the other, as a loop does.
use Rattle.std.proofs.Common.{◌≡◌, ℕ, suc, ◌+◌, ◌-◌, ◌*◌, ◌^◌, ◌<◌, ◌≤◌, Bool, true, false, cond, eqb, List, [], ◌∷◌, length, map, take, drop, ltb, Option, Some, None, is_some, unwrap_or, refl, sym, ap, ◌∙◌, arith, add-one, ◌&&◌}
use Rattle.std.specs.List.{list_all, slice_split, position_or_len, count_by}
use Rattle.std.proofs.lemmas.List.Splits.{slice_split_first, length-slice_split}
use Rattle.std.specs.Option.{option_map}
use Rattle.std.specs.Int.Digits.{number_from_digits_after}
use Rattle.std.specs.Bool.{◌==◌}
use Rattle.std.proofs.Math.Nat.{pow-le-pow_right}
use Rattle.std.proofs.lemmas.List.{take_rest}
use Rattle.std.proofs.lemmas.Bool.{ltb-true, ltb-false}
use Rattle.std.proofs.Math.Dec.{eqb-suc-suc, eqb-suc-zero, eqb-zero-suc}
use Rattle.std.proofs.lemmas.Grind.{pow_more}
use Rattle.nv_base.proofs.Choices.{chosen, unchosen}
use Rattle.nv_base.specs.Bytes.{around_first}

-- the number of the bytes before, and then of those that these parts spell
abbrev pub parts_after : (List ℕ → Option ℕ) → ℕ → ℕ → List (List ℕ) → Option ℕ
parts_after byte n count parts = cond (eqb (length parts) count && list_all (λ p. is_some (byte p)) parts) (Some (number_from_digits_after 256 n (map (λ p. unwrap_or (byte p) 0) parts))) None

-- one byte more fits
pub fits : (n seen count byte : ℕ) → seen < count → count ≤ 6 → n < 256 ^ seen → byte < 256 → (n * 256 + byte < 256 ^ (seen + 1)) × (n * 256 + byte < 2 ^ 48)
fits n seen count byte lt six small b =
    let power : 256 ^ (seen + 1) ≡ 256 ^ seen * 256 = pow_more 256 seen in
    let most : 256 ^ (seen + 1) ≤ 256 ^ 6 = pow-le-pow_right {n = 256} (omega arith) {i = seen + 1} {j = 6} (omega arith) in
    let more : n * 256 + byte < 256 ^ (seen + 1) = omega (arith, power) in
    (more, omega (arith, more, most))

counted : (n k : ℕ) → eqb (suc n) (suc k) ≡ eqb n k
counted n k = eqb-suc-suc n k

step : (byte : List ℕ → Option ℕ) (n k b : ℕ) (p : List ℕ) (ps : List (List ℕ)) → byte p ≡ Some b → parts_after byte n (suc k) (p ∷ ps) ≡ parts_after byte (n * 256 + b) k ps
step byte n k b p ps e = rw (e, counted) refl

and_false : (b : Bool) → (b && false) ≡ false
and_false true = refl
and_false false = refl

-- a part that spells no byte ends it
none_at : (byte : List ℕ → Option ℕ) (n k : ℕ) (p : List ℕ) (ps : List (List ℕ)) → byte p ≡ None → parts_after byte n k (p ∷ ps) ≡ None
none_at byte n k p ps e = rw (e, and_false) refl

-- at the separator the first part ends
split_at : (separator : ℕ) (text first rest : List ℕ) → Some (first, rest) ≡ around_first separator text → slice_split (λ b. b == separator) text ≡ first ∷ slice_split (λ b. b == separator) rest
split_at separator text first rest e =
    let found = chosen _ _ _ (sym e) in
    slice_split_first (λ b. b == separator) text 0 (ltb-true _ _ found.0) ∙ ap (λ (parts : List ℕ × List ℕ). parts.0 ∷ slice_split (λ b. b == separator) parts.1) found.1

whole_from : (p : ℕ → Bool) (x : ℕ) (xs : List ℕ) (b : Bool) → p x ≡ b → length (x ∷ xs) ≤ position_or_len p (x ∷ xs) → (length xs ≤ position_or_len p xs → slice_split p xs ≡ xs ∷ []) → slice_split p (x ∷ xs) ≡ (x ∷ xs) ∷ []
whole_from p x xs true e past more = absurd (no_room (rw e at past))
  where
    no_room : length (x ∷ xs) ≤ 0 → ⊥
    no_room h = omega arith
whole_from p x xs false e past more = rw (e, more (omega (arith, rw e at past))) refl

whole : (p : ℕ → Bool) (xs : List ℕ) → length xs ≤ position_or_len p xs → slice_split p xs ≡ xs ∷ []
whole p [] past = refl
whole p (x ∷ xs) past = whole_from p x xs (p x) refl past (whole p xs)

-- without a separator the text is one part
split_none : (separator : ℕ) (text : List ℕ) → None ≡ around_first separator text → slice_split (λ b. b == separator) text ≡ text ∷ []
split_none separator text e = whole (λ b. b == separator) text (ltb-false _ _ (unchosen _ _ (sym e)))

-- the parts of a text, after the bytes before
abbrev pub text_after : (List ℕ → Option ℕ) → ℕ → ℕ → ℕ → List ℕ → Option ℕ
text_after byte separator n count text = parts_after byte n count (slice_split (λ b. b == separator) text)

-- with no separator left, more than one part is missing
pub stops_early : (byte : List ℕ → Option ℕ) (separator n count : ℕ) (text : List ℕ) → 1 < count → None ≡ around_first separator text → text_after byte separator n count text ≡ None
stops_early byte separator n count text more e =
    let left : count ≡ suc (suc (count - 2)) = omega arith in
    rw (split_none separator text e, left, counted, eqb-zero-suc) refl

-- with a separator left, one part is too few
pub stops_late : (byte : List ℕ → Option ℕ) (separator n : ℕ) (text first rest : List ℕ) → Some (first, rest) ≡ around_first separator text → text_after byte separator n 1 text ≡ None
stops_late byte separator n text first rest e =
    let long : eqb (length (slice_split (λ b. b == separator) rest)) 0 ≡ false = rw (length-slice_split (λ b. b == separator) rest, add-one) (eqb-suc-zero (count_by (λ b. b == separator) rest)) in
    rw (split_at separator text first rest e, counted, long) refl

-- a part that spells no byte ends it
pub stops_at : (byte : List ℕ → Option ℕ) (separator n count : ℕ) (text first rest : List ℕ) → Some (first, rest) ≡ around_first separator text → None ≡ byte first → text_after byte separator n count text ≡ None
stops_at byte separator n count text first rest e none = rw (split_at separator text first rest e) (none_at byte n count first _ (sym none))

-- a part that spells a byte goes on
pub goes_on : (byte : List ℕ → Option ℕ) (separator n count next b : ℕ) (text first rest : List ℕ) → count ≡ suc next → Some (first, rest) ≡ around_first separator text → Some b ≡ byte first
    → text_after byte separator (n * 256 + b) next rest ≡ text_after byte separator n count text
goes_on byte separator n count next b text first rest left e is =
    sym (rw (split_at separator text first rest e, left) (step byte n next b first (slice_split (λ b. b == separator) rest) (sym is)))

-- the last part
pub ends : (byte : List ℕ → Option ℕ) (separator n b : ℕ) (text : List ℕ) → None ≡ around_first separator text → Some b ≡ byte text → text_after byte separator n 1 text ≡ Some (n * 256 + b)
ends byte separator n b text e is = rw (split_none separator text e) (step byte n 0 b text [] (sym is))

pub ends_at : (byte : List ℕ → Option ℕ) (separator n : ℕ) (text : List ℕ) → None ≡ around_first separator text → None ≡ byte text → text_after byte separator n 1 text ≡ None
ends_at byte separator n text e none = rw (split_none separator text e) (none_at byte n 1 text [] (sym none))

-- what the place of the separator says of the parts around it
pub around_none : (separator : ℕ) (text : List ℕ) (r : Option ℕ) → r ≡ cond (ltb (position_or_len (λ b. b == separator) text) (length text)) (Some (position_or_len (λ b. b == separator) text)) None → r ≡ None → None ≡ around_first separator text
around_none separator text r found none =
    let off = unchosen (ltb (position_or_len (λ b. b == separator) text) (length text)) (position_or_len (λ b. b == separator) text) (sym found ∙ none) in
    rw off refl

pub around_some : (separator : ℕ) (text : List ℕ) (r : Option ℕ) (at : ℕ) → r ≡ cond (ltb (position_or_len (λ b. b == separator) text) (length text)) (Some (position_or_len (λ b. b == separator) text)) None → r ≡ Some at
    → Some (take at text, take (length text - (at + 1)) (drop (at + 1) text)) ≡ around_first separator text
around_some separator text r at found some =
    let on = chosen (ltb (position_or_len (λ b. b == separator) text) (length text)) (position_or_len (λ b. b == separator) text) at (sym found ∙ some) in
    rw (on.0, on.1, take_rest) refl

-- the same, of a call's result, seen by view
pub around_by_some : {X : Type 0} (view : X → List ℕ × List ℕ) (separator : ℕ) (text : List ℕ) (r : Option X) → option_map view r ≡ around_first separator text → is_some r ≡ true → (parts : List ℕ × List ℕ) × (Some parts ≡ around_first separator text)
around_by_some view separator text (Some x) e is = (view x, e)
around_by_some view separator text None e is = absurd cc

pub around_by_none : {X : Type 0} (view : X → List ℕ × List ℕ) (separator : ℕ) (text : List ℕ) (r : Option X) → option_map view r ≡ around_first separator text → is_some r ≡ false → None ≡ around_first separator text
around_by_none view separator text (Some x) e is = absurd cc
around_by_none view separator text None e is = e

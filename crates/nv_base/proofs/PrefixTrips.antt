-- What is written is read again: prefixes.
use Rattle.std.proofs.Common.{◌≡◌, ℕ, ◌+◌, ◌/◌, ◌%◌, ◌^◌, ◌<◌, ◌≤◌, false, eqb, List, [], ◌∷◌, ◌++◌, length, get_or, drop, Some, refl, sym, ap, ◌∙◌, arith, decimal, append_assoc, length-append}
use Rattle.std.specs.List.{position_or_len}
use Rattle.std.proofs.lemmas.Bool.{lt-ltb, eq-eqb}
use Rattle.std.proofs.lemmas.List.{get_or_append_left, take_at, drop_at}
use Rattle.std.proofs.lemmas.List.Elements.{All-append, All-cons}
use Rattle.std.proofs.lemmas.List.Sums.{position_or_len_is}
use Rattle.std.proofs.Math.Seq.{get_or-append_seam}
use Rattle.nv_base.specs.Bytes.{around_first}
use Rattle.nv_base.specs.Ip4.{address, ip4_text}
use Rattle.nv_base.specs.Prefix.{block, block_of, length_of, prefix_around, prefix_of, prefix_text}
use Rattle.nv_base.proofs.RoundTrips.{decimal_is_read}
use Rattle.nv_base.proofs.ByteTrips.{Clear, decimal_is_clear, written_address}

-- the first separator comes after the bytes that hold none
around_here : (c : ℕ) (front back : List ℕ) → Clear c front → around_first c (front ++ c ∷ back) ≡ Some (front, back)
around_here c front back clear =
    let room : length front < length (front ++ c ∷ back) = omega (arith, length-append front (c ∷ back)) in
    let before : (k : ℕ) → k < length front → eqb (get_or (front ++ c ∷ back) k 0) c ≡ false = λ k lt. rw (get_or_append_left front (c ∷ back) 0 k lt) (clear k 0 lt) in
    let place : position_or_len (λ b. eqb b c) (front ++ c ∷ back) ≡ length front = position_or_len_is (λ b. eqb b c) (front ++ c ∷ back) (length front) 0 (omega arith) before (λ _. rw (get_or-append_seam front c back 0) (eq-eqb c c refl)) in
    let rest : drop (length front + 1) (front ++ c ∷ back) ≡ back = ap (drop (length front + 1)) (sym (append_assoc front (c ∷ []) back)) ∙ drop_at (front ++ c ∷ []) back (length front + 1) (length-append front (c ∷ [])) in
    rw (place, lt-ltb _ _ room, take_at front (c ∷ back) (length front) refl, rest) refl

joined : (xs ys : List ℕ) → Clear 47 xs → Clear 47 ys → Clear 47 (xs ++ 46 ∷ ys)
joined xs ys h k = All-append (λ x. eqb x 47 ≡ false) xs (46 ∷ ys) h (All-cons (λ x. eqb x 47 ≡ false) 46 ys refl k)

octet_is_clear : (b : ℕ) → Clear 47 (decimal (b % 256))
octet_is_clear b = decimal_is_clear 47 (b % 256) (omega arith) (omega arith)

address_is_clear : (n : ℕ) → Clear 47 (ip4_text (address n))
address_is_clear n =
    let fourth = octet_is_clear n in
    let third = joined (decimal (n / 256 % 256)) (decimal (n % 256)) (octet_is_clear (n / 256)) fourth in
    let second = joined (decimal (n / 65536 % 256)) (decimal (n / 256 % 256) ++ 46 ∷ decimal (n % 256)) (octet_is_clear (n / 65536)) third in
    joined (decimal (n / 16777216 % 256)) (decimal (n / 65536 % 256) ++ 46 ∷ (decimal (n / 256 % 256) ++ 46 ∷ decimal (n % 256))) (octet_is_clear (n / 16777216)) second

pub written_prefix : (n len : ℕ) → n < 2 ^ 32 → len ≤ 32 → prefix_of (prefix_text (block (address n) len)) ≡ Some (block (address n) len)
written_prefix n len small short =
    let around = around_here 47 (ip4_text (address n)) (decimal len) (address_is_clear n) in
    let length : length_of (decimal len) ≡ Some len = rw (decimal_is_read len (omega arith), lt-ltb len 33 (omega arith)) refl in
    ap (prefix_around (prefix_text (block (address n) len))) around ∙ ap (λ base. block_of base (length_of (decimal len))) (written_address n small) ∙ ap (block_of (Some (address n))) length

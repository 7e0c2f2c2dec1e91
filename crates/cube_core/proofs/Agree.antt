-- Numbers that agree in the bits of masks.
use Rattle.std.proofs.Common.{◌≡◌, ℕ, min, max, true, ◌&&◌, sym, ap, ◌∙◌, arith}
use Rattle.std.specs.Prelude.{bit_and, bit_or}
use Rattle.std.specs.Int.{bit_at}
use Rattle.std.specs.Int.Bits.{and_self}
use Rattle.std.proofs.lemmas.Bool.{eqb-true, eq-eqb, and_from, and_parts}
use Rattle.std.proofs.lemmas.Nat.{and_assoc, and_comm, or_comm, and_or_self}
use Rattle.std.proofs.lemmas.Nat.Bits.{bit_at_and, bit_at_or, same_from_bits}
use Rattle.expr_sets.specs.Members.{agree}
use Rattle.cube_core.proofs.Fields.{same_tests}

-- the bits outside the mask are gone
pub and_twice : (a m : ℕ) → bit_and (bit_and a m) m ≡ bit_and a m
and_twice a m = and_assoc m a m ∙ ap (bit_and a) (and_self m)

-- in fewer bits they agree too
pub fewer : (a b m n : ℕ) → bit_and a m ≡ bit_and b m → bit_and a (bit_and m n) ≡ bit_and b (bit_and m n)
fewer a b m n e = sym (and_assoc n a m) ∙ ap (λ x. bit_and x n) e ∙ and_assoc n b m

pub fewer_right : (a b m n : ℕ) → bit_and a n ≡ bit_and b n → bit_and a (bit_and m n) ≡ bit_and b (bit_and m n)
fewer_right a b m n e = ap (bit_and a) (and_comm m n) ∙ fewer a b n m e ∙ ap (bit_and b) (and_comm n m)

second_of_either : (a m n : ℕ) → bit_and (bit_and a (bit_or m n)) n ≡ bit_and a n
second_of_either a m n = and_assoc n a (bit_or m n) ∙ ap (bit_and a) (and_or_self n m)

-- who agree in the bits of either mask agree in those of each
pub second : (a b m n : ℕ) → bit_and a (bit_or m n) ≡ bit_and b (bit_or m n) → bit_and a n ≡ bit_and b n
second a b m n e = sym (second_of_either a m n) ∙ ap (λ x. bit_and x n) e ∙ second_of_either b m n

pub first : (a b m n : ℕ) → bit_and a (bit_or m n) ≡ bit_and b (bit_or m n) → bit_and a m ≡ bit_and b m
first a b m n e = second a b n m (ap (bit_and a) (or_comm n m) ∙ e ∙ ap (bit_and b) (or_comm m n))

-- bit by bit
at_bit : (a b m i : ℕ) → bit_and a m ≡ bit_and b m → min (bit_at a i) (bit_at m i) ≡ min (bit_at b i) (bit_at m i)
at_bit a b m i e = sym (bit_at_and a m i) ∙ ap (λ x. bit_at x i) e ∙ bit_at_and b m i

both_bits : (a b m n : ℕ) → min a m ≡ min b m → min a n ≡ min b n → min a (max m n) ≡ min b (max m n)
both_bits a b m n e f = omega arith

-- and who agree in those of each agree in those of either
pub both : (a b m n : ℕ) → bit_and a m ≡ bit_and b m → bit_and a n ≡ bit_and b n → bit_and a (bit_or m n) ≡ bit_and b (bit_or m n)
both a b m n e f = same_from_bits _ _ (λ i.
    bit_at_and a (bit_or m n) i ∙ ap (min (bit_at a i)) (bit_at_or m n i)
    ∙ both_bits (bit_at a i) (bit_at b i) (bit_at m i) (bit_at n i) (at_bit a b m i e) (at_bit a b n i f)
    ∙ sym (bit_at_and b (bit_or m n) i ∙ ap (min (bit_at b i)) (bit_at_or m n i)))

met_bits : (v m u n : ℕ) → min v (min m n) ≡ min u (min m n) → min (max (min v m) (min u n)) m ≡ min v m
met_bits v m u n e = omega arith

-- what two numbers have in their masks has the first in the first mask, where they agree in the bits of both masks
pub met_first : (v m u n : ℕ) → bit_and v (bit_and m n) ≡ bit_and u (bit_and m n) → bit_and (bit_or (bit_and v m) (bit_and u n)) m ≡ bit_and v m
met_first v m u n e = same_from_bits _ _ (λ i.
    let shared : min (bit_at v i) (min (bit_at m i) (bit_at n i)) ≡ min (bit_at u i) (min (bit_at m i) (bit_at n i)) =
    ap (min (bit_at v i)) (sym (bit_at_and m n i)) ∙ at_bit v u (bit_and m n) i e ∙ ap (min (bit_at u i)) (bit_at_and m n i) in
    bit_at_and _ m i
    ∙ ap (λ x. min x (bit_at m i)) (bit_at_or (bit_and v m) (bit_and u n) i ∙ ap (λ x. max x (bit_at (bit_and u n) i)) (bit_at_and v m i) ∙ ap (max (min (bit_at v i) (bit_at m i))) (bit_at_and u n i))
    ∙ met_bits (bit_at v i) (bit_at m i) (bit_at u i) (bit_at n i) shared
    ∙ sym (bit_at_and v m i))

pub met_second : (v m u n : ℕ) → bit_and v (bit_and m n) ≡ bit_and u (bit_and m n) → bit_and (bit_or (bit_and v m) (bit_and u n)) n ≡ bit_and u n
met_second v m u n e =
    ap (λ x. bit_and x n) (or_comm (bit_and v m) (bit_and u n))
    ∙ met_first u n v m (ap (bit_and u) (and_comm n m) ∙ sym e ∙ ap (bit_and v) (and_comm m n))

-- to agree with what two numbers have is to agree with both
pub met : (k v m u n : ℕ) → agree (bit_and m n) v u ≡ true → agree (bit_or m n) k (bit_or (bit_and v m) (bit_and u n)) ≡ (agree m k v && agree n k u)
met k v m u n shared =
    let w = bit_or (bit_and v m) (bit_and u n) in
    let e : bit_and v (bit_and m n) ≡ bit_and u (bit_and m n) = eqb-true _ _ shared in
    same_tests _ _
    (λ both_agree. let f : bit_and k (bit_or m n) ≡ bit_and w (bit_or m n) = eqb-true _ _ both_agree in
    and_from _ _ (eq-eqb _ _ (first k w m n f ∙ met_first v m u n e)) (eq-eqb _ _ (second k w m n f ∙ met_second v m u n e)))
    (λ each_agrees. let parts = and_parts _ _ each_agrees in
    eq-eqb _ _ (both k w m n (eqb-true _ _ parts.0 ∙ sym (met_first v m u n e)) (eqb-true _ _ parts.1 ∙ sym (met_second v m u n e))))

-- who agree with one number agree
pub shared_by : (k v m u n : ℕ) → agree m k v ≡ true → agree n k u ≡ true → agree (bit_and m n) v u ≡ true
shared_by k v m u n one other = eq-eqb _ _ (sym (fewer k v m n (eqb-true _ _ one)) ∙ fewer_right k u m n (eqb-true _ _ other))

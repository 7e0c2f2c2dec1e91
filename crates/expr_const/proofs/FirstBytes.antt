-- The first bytes of MACs and addresses.
use Rattle.std.proofs.Common.{◌≡◌, ℕ, suc, ◌≤◌, Bool, true, false, ltb, eqb, List, [], ◌∷◌, length, Some, refl, subst, arith}
use Rattle.std.specs.Char.{is_digit}
use Rattle.std.specs.List.{list_all, join_with_byte}
use Rattle.std.proofs.lemmas.Bool.{lt-ltb, eqb-true, and_parts, false≢true}
use Rattle.nv_base.specs.Bytes.{octet_of, pair_of}
use Rattle.nv_base.specs.Ip4.{ip4_of}
use Rattle.nv_base.specs.declared.ip4.Ip4.{Ip4}
use Rattle.nv_base.specs.Mac.{mac_of}
use Rattle.expr_const.proofs.Pieces.{weaker}
use Rattle.expr_const.proofs.Shapes.{split_parts, pair_parts, octet_parts, ip4_number}

-- the first byte of pieces that are not empty
joined_first : (q : ℕ → Bool) (c b : ℕ) (bs : List ℕ) (parts : List (List ℕ)) → list_all (λ p. list_all q p) parts ≡ true → list_all (λ p. ltb 0 (length p)) parts ≡ true → join_with_byte c parts ≡ b ∷ bs → q b ≡ true
joined_first q c b bs [] all some is = absurd cc
joined_first q c b bs ([] ∷ ps) all some is = absurd (false≢true (and_parts false (list_all (λ p. ltb 0 (length p)) ps) some).0)
joined_first q c b bs ((d ∷ ds) ∷ []) all some is = let same : d ≡ b = cc in rw (← same) (and_parts _ _ (and_parts (list_all q (d ∷ ds)) _ all).0).0
joined_first q c b bs ((d ∷ ds) ∷ r ∷ ps) all some is = let same : d ≡ b = cc in rw (← same) (and_parts _ _ (and_parts (list_all q (d ∷ ds)) _ all).0).0

pub mac_first : (b : ℕ) (bs : List ℕ) (n : ℕ) → mac_of (b ∷ bs) ≡ Some n → is_digit b 16 ≡ true
mac_first b bs n e =
    let split = split_parts pair_of 6 58 (b ∷ bs) n e in
    joined_first (λ c. is_digit c 16) 58 b bs split.0 (weaker _ _ (λ p h. (pair_parts p h).1) split.0 split.2) (weaker _ _ (λ p h. two_some (length p) (pair_parts p h).0) split.0 split.2) split.3
  where
    two_some : (n : ℕ) → eqb n 2 ≡ true → ltb 0 n ≡ true
    two_some n e = lt-ltb 0 n (omega (arith, eqb-true n 2 e))

pub ip4_first : (b : ℕ) (bs : List ℕ) (a : Ip4) → ip4_of (b ∷ bs) ≡ Some a → is_digit b 10 ≡ true
ip4_first b bs a e =
    let number = ip4_number (b ∷ bs) a e in
    let split = split_parts octet_of 4 46 (b ∷ bs) number.0 number.1 in
    joined_first (λ c. is_digit c 10) 46 b bs split.0 (weaker _ _ (λ p h. (octet_parts p h).2) split.0 split.2) (weaker _ _ (λ p h. (octet_parts p h).0) split.0 split.2) split.3

-- a colon is after two bytes
abbrev pub HasColon : List ℕ → Type 0
HasColon (a ∷ b ∷ c ∷ cs) = eqb c 58 ≡ true
HasColon _ = ⊥

pub mac_third : (text : List ℕ) (n : ℕ) → mac_of text ≡ Some n → HasColon text
mac_third text n e =
    let split = split_parts pair_of 6 58 text n e in
    subst HasColon split.3 (go split.0 (omega (arith, split.1)) (weaker _ _ (λ p h. (pair_parts p h).0) split.0 split.2))
  where
    go : (parts : List (List ℕ)) → 2 ≤ length parts → list_all (λ p. eqb (length p) 2) parts ≡ true → HasColon (join_with_byte 58 parts)
    go [] two all = absurd (omega (arith, two))
    go (p ∷ []) two all = absurd (omega (arith, two))
    go ([] ∷ r ∷ ps) two all = absurd (false≢true (and_parts false (list_all (λ p. eqb (length p) 2) (r ∷ ps)) all).0)
    go ((a ∷ []) ∷ r ∷ ps) two all = absurd (false≢true (and_parts false (list_all (λ p. eqb (length p) 2) (r ∷ ps)) all).0)
    go ((a ∷ b ∷ []) ∷ r ∷ ps) two all = refl
    go ((a ∷ b ∷ c ∷ cs) ∷ r ∷ ps) two all = absurd (long (eqb-true (suc (suc (suc (length cs)))) 2 (and_parts (eqb (length (a ∷ b ∷ c ∷ cs)) 2) (list_all (λ p. eqb (length p) 2) (r ∷ ps)) all).0))
      where
        long : {n : ℕ} → suc (suc (suc n)) ≡ 2 → ⊥
        long e = omega arith

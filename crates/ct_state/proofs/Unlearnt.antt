-- What is kept of neighbours gives those before, after one is learnt.
use Rattle.std.proofs.Common.{◌≡◌, ℕ, zero, suc, ◌≤◌, ◌||◌, nat_lt, Bool, true, false, cond, if◌then◌else◌, List, [], ◌∷◌, ◌++◌, append-nil, length, take, Option, None, Some, refl, sym, ap, subst, ◌∙◌, arith}
use Rattle.std.proofs.lemmas.Bool.{and_from, eq-eqb}
use Rattle.std.proofs.lemmas.Option.{same_Some, none-some}
use Rattle.std.specs.Option.{option_map}
use Rattle.std.specs.Prelude.{Result, Ok, Err, OnOk, OnErr}
use Rattle.ct_core.specs.declared.neighbour.Neighbour.{Neighbour}
use Rattle.ct_core.specs.Neighbours.{is_known, is_of, learnt, neighbour_limit, neighbour_of, noted}
use Rattle.ct_core.proofs.Learnt.{of_is}
use Rattle.ct_nbrs.specs.Back.{put_back}
use Rattle.ct_state.specs.Work.{unlearnt}
use Rattle.ct_state.specs.inner.Noted.{known_as}

-- the last that was noted is put back first
pub unlearnt_last : (olds : List Neighbour) (old : Neighbour) (nbrs : List Neighbour) → unlearnt (olds ++ old ∷ []) nbrs ≡ unlearnt olds (put_back old nbrs)
unlearnt_last [] old nbrs = refl
unlearnt_last (first ∷ olds) old nbrs = ap (put_back first) (unlearnt_last olds old nbrs)

module _ (n : Neighbour) where
  -- the neighbour as it was
  abbrev with_mac : ℕ → Neighbour
  with_mac mac = record n { mac = mac }

  -- its own port and address are its
  own_pair : is_of n.port n.addr n ≡ true
  own_pair = and_from _ _ (eq-eqb n.port.0 n.port.0 refl) (eq-eqb n.addr.0 n.addr.0 refl)

  -- it is the one that its port knew
  is_it : (x : Neighbour) (mac : ℕ) → is_of n.port n.addr x ≡ true → x.mac ≡ mac → with_mac mac ≡ x
  is_it x mac of_it same = let at = of_is n.port n.addr x of_it in λ i. record { port = sym at.0 i; addr = sym at.1 i; mac = sym same i }

  module _ (mac : ℕ) where
    -- what is put back is what was there
    same_step : (b : Bool) (x : Neighbour) (nbrs back : List Neighbour) (rest : Option Neighbour) → is_of n.port n.addr x ≡ b → option_map (λ (y : Neighbour). y.mac) (cond b (Some x) rest) ≡ Some mac
        → (option_map (λ (y : Neighbour). y.mac) rest ≡ Some mac → back ≡ nbrs) → (if b then with_mac mac ∷ nbrs else x ∷ back) ≡ x ∷ nbrs
    same_step true x nbrs back rest of_it found later = ap (λ y. y ∷ nbrs) (is_it x mac of_it (same_Some _ _ found))
    same_step false x nbrs back rest of_it found later = ap (λ l. x ∷ l) (later found)

    none_mac : option_map (λ (y : Neighbour). y.mac) None ≡ Some mac → ⊥
    none_mac e = none-some mac e

    pub back_same : (k : ℕ) (nbrs : List Neighbour) → option_map (λ (y : Neighbour). y.mac) (neighbour_of nbrs n.port n.addr) ≡ Some mac → put_back (with_mac mac) (take k nbrs) ≡ take k nbrs
    back_same zero nbrs found = refl
    back_same (suc k) [] found = refl
    back_same (suc k) (x ∷ nbrs) found = same_step (is_of n.port n.addr x) x (take k nbrs) (put_back (with_mac mac) (take k nbrs)) (neighbour_of nbrs n.port n.addr) refl found (back_same k nbrs)

    -- also in the place of what was learnt
    over_own : (nbrs : List Neighbour) → put_back (with_mac mac) (n ∷ nbrs) ≡ with_mac mac ∷ nbrs
    over_own nbrs = ap (λ (b : Bool). if b then with_mac mac ∷ nbrs else n ∷ put_back (with_mac mac) nbrs) own_pair

    over_step : (b : Bool) (k : ℕ) (x : Neighbour) (nbrs more : List Neighbour) (rest : Option Neighbour) → is_of n.port n.addr x ≡ b → option_map (λ (y : Neighbour). y.mac) (cond b (Some x) rest) ≡ Some mac
        → (option_map (λ (y : Neighbour). y.mac) rest ≡ Some mac → put_back (with_mac mac) (take k more) ≡ take k nbrs) → put_back (with_mac mac) (take (suc k) (if b then n ∷ nbrs else x ∷ more)) ≡ x ∷ take k nbrs
    over_step true k x nbrs more rest of_it found later = over_own (take k nbrs) ∙ ap (λ y. y ∷ take k nbrs) (is_it x mac of_it (same_Some _ _ found))
    over_step false k x nbrs more rest of_it found later =
        ap (λ (b : Bool). if b then with_mac mac ∷ take k more else x ∷ put_back (with_mac mac) (take k more)) of_it ∙ ap (λ l. x ∷ l) (later found)

    pub back_over : (k : ℕ) (nbrs : List Neighbour) → option_map (λ (y : Neighbour). y.mac) (neighbour_of nbrs n.port n.addr) ≡ Some mac → put_back (with_mac mac) (take k (noted n nbrs)) ≡ take k nbrs
    back_over zero nbrs found = refl
    back_over (suc k) [] found = absurd (none_mac found)
    back_over (suc k) (x ∷ nbrs) found = over_step (is_of n.port n.addr x) k x nbrs (noted n nbrs) (neighbour_of nbrs n.port n.addr) refl found (back_over k nbrs)

  -- what was not known comes last
  beyond_step : (b : Bool) (k : ℕ) (x : Neighbour) (nbrs more : List Neighbour) (rest : Option Neighbour) → option_map (λ (y : Neighbour). y.mac) (cond b (Some x) rest) ≡ None
      → (option_map (λ (y : Neighbour). y.mac) rest ≡ None → take k more ≡ take k nbrs) → take (suc k) (if b then n ∷ nbrs else x ∷ more) ≡ x ∷ take k nbrs
  beyond_step true k x nbrs more rest none later = absurd (none-some x.mac (sym none))
  beyond_step false k x nbrs more rest none later = ap (λ l. x ∷ l) (later none)

  pub beyond : (k : ℕ) (nbrs : List Neighbour) → k ≤ length nbrs → option_map (λ (y : Neighbour). y.mac) (neighbour_of nbrs n.port n.addr) ≡ None → take k (noted n nbrs) ≡ take k nbrs
  beyond zero nbrs within none = refl
  beyond (suc k) [] within none = absurd (omega (arith, within))
  beyond (suc k) (x ∷ nbrs) within none = beyond_step (is_of n.port n.addr x) k x nbrs (noted n nbrs) (neighbour_of nbrs n.port n.addr) none (beyond k nbrs (omega (arith, within)))

  -- and there are no fewer
  longer_step : (b : Bool) (x : Neighbour) (nbrs more : List Neighbour) → length nbrs ≤ length more → length (x ∷ nbrs) ≤ length (if b then n ∷ nbrs else x ∷ more)
  longer_step true x nbrs more no_fewer = omega arith
  longer_step false x nbrs more no_fewer = omega (arith, no_fewer)

  no_fewer_noted : (nbrs : List Neighbour) → length nbrs ≤ length (noted n nbrs)
  no_fewer_noted [] = omega arith
  no_fewer_noted (x ∷ nbrs) = longer_step (is_of n.port n.addr x) x nbrs (noted n nbrs) (no_fewer_noted nbrs)

  pub no_fewer : (nbrs : List Neighbour) → length nbrs ≤ length (learnt n nbrs)
  no_fewer nbrs = by (is_known n.port n.addr nbrs || nat_lt (length nbrs) neighbour_limit)
    where
      by : (b : Bool) → length nbrs ≤ length (if b then noted n nbrs else nbrs)
      by true = no_fewer_noted nbrs
      by false = omega arith

  -- whether it was learnt or not
  pub no_fewer_either : {T E : Type 0} (r : Result T E) (old new : List Neighbour) (k : ℕ) → OnOk r (new ≡ learnt n old) → OnErr r (new ≡ old) → k ≤ length old → k ≤ length new
  no_fewer_either (Ok x) old new k ok err within = let longer = no_fewer old in subst (λ (l : List Neighbour). k ≤ length l) (sym ok) (omega (arith, within, longer))
  no_fewer_either (Err e) old new k ok err within = subst (λ (l : List Neighbour). k ≤ length l) (sym err) within

  -- where a neighbour is learnt, or is not for want of memory, and what was known of it is noted, those before stay what they were
  module _ (olds : List Neighbour) (known : ℕ) (nbrs : List Neighbour) where
    abbrev found : Option ℕ
    found = option_map (λ (y : Neighbour). y.mac) (neighbour_of nbrs n.port n.addr)

    pub still_back : unlearnt (olds ++ known_as n found) (take known nbrs) ≡ unlearnt olds (take known nbrs)
    still_back = by found refl
      where
        by : (o : Option ℕ) → found ≡ o → unlearnt (olds ++ known_as n o) (take known nbrs) ≡ unlearnt olds (take known nbrs)
        by None is = ap (λ l. unlearnt l (take known nbrs)) (append-nil olds)
        by (Some mac) is = unlearnt_last olds (with_mac mac) (take known nbrs) ∙ ap (unlearnt olds) (back_same mac known nbrs is)

    pub learnt_back : known ≤ length nbrs → unlearnt (olds ++ known_as n found) (take known (learnt n nbrs)) ≡ unlearnt olds (take known nbrs)
    learnt_back within = by (is_known n.port n.addr nbrs || nat_lt (length nbrs) neighbour_limit) found refl
      where
        by : (b : Bool) (o : Option ℕ) → found ≡ o → unlearnt (olds ++ known_as n o) (take known (if b then noted n nbrs else nbrs)) ≡ unlearnt olds (take known nbrs)
        by true None is = ap (λ l. unlearnt l (take known (noted n nbrs))) (append-nil olds) ∙ ap (unlearnt olds) (beyond known nbrs within is)
        by false None is = ap (λ l. unlearnt l (take known nbrs)) (append-nil olds)
        by true (Some mac) is = unlearnt_last olds (with_mac mac) (take known (noted n nbrs)) ∙ ap (unlearnt olds) (back_over mac known nbrs is)
        by false (Some mac) is = unlearnt_last olds (with_mac mac) (take known nbrs) ∙ ap (unlearnt olds) (back_same mac known nbrs is)

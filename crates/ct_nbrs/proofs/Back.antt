-- What is known after coming back.
use Rattle.std.proofs.Common.{◌≡◌, ℕ, zero, suc, ◌≤◌, ◌||◌, Bool, true, false, if◌then◌else◌, List, [], ◌∷◌, length, take, nat_lt, refl, sym, ap, subst, arith}
use Rattle.std.proofs.lemmas.Bool.{true≢false}
use Rattle.std.specs.List.{AllByRecursion, IsDistinct}
use Rattle.ct_core.specs.declared.neighbour.Neighbour.{Neighbour}
use Rattle.ct_core.specs.Neighbours.{AreNeighbours, IsNeighbour, is_known, is_of, neighbour_limit, noted, same_pair}
use Rattle.ct_core.proofs.Learnt.{keeps_learnt}
use Rattle.ct_nbrs.specs.Back.{put_back}

module _ (old : Neighbour) where
  known_step : (b : Bool) (n : Neighbour) (nbrs xs ys : List Neighbour) (any : Bool) → (b || any) ≡ true → (any ≡ true → xs ≡ ys) → (if b then old ∷ nbrs else n ∷ xs) ≡ (if b then old ∷ nbrs else n ∷ ys)
  known_step true n nbrs xs ys any known rest = refl
  known_step false n nbrs xs ys any known rest = ap (λ l. n ∷ l) (rest known)

  -- what is known is put in its place
  pub back_known : (nbrs : List Neighbour) → is_known old.port old.addr nbrs ≡ true → noted old nbrs ≡ put_back old nbrs
  back_known [] known = absurd (true≢false (sym known))
  back_known (n ∷ nbrs) known = known_step (is_of old.port old.addr n) n nbrs (noted old nbrs) (put_back old nbrs) (is_known old.port old.addr nbrs) known (back_known nbrs)

  unknown_step : (b : Bool) (n : Neighbour) (nbrs xs : List Neighbour) (any : Bool) → (b || any) ≡ false → (any ≡ false → nbrs ≡ xs) → n ∷ nbrs ≡ (if b then old ∷ nbrs else n ∷ xs)
  unknown_step true n nbrs xs any unknown rest = absurd (true≢false unknown)
  unknown_step false n nbrs xs any unknown rest = ap (λ l. n ∷ l) (rest unknown)

  -- and where it is not, nothing changes
  pub back_unknown : (nbrs : List Neighbour) → is_known old.port old.addr nbrs ≡ false → nbrs ≡ put_back old nbrs
  back_unknown [] unknown = refl
  back_unknown (n ∷ nbrs) unknown = unknown_step (is_of old.port old.addr n) n nbrs (put_back old nbrs) (is_known old.port old.addr nbrs) unknown (back_unknown nbrs)

  place_known : (known room : Bool) (nbrs : List Neighbour) → known ≡ true → (if known || room then noted old nbrs else nbrs) ≡ noted old nbrs
  place_known true room nbrs is = refl
  place_known false room nbrs is = absurd (true≢false (sym is))

  -- what is put in for what is known leaves a list of neighbours
  pub keeps_back : (nbrs : List Neighbour) → AreNeighbours nbrs → IsNeighbour old → is_known old.port old.addr nbrs ≡ true → AreNeighbours (noted old nbrs)
  keeps_back nbrs are it known =
      subst AreNeighbours (place_known (is_known old.port old.addr nbrs) (nat_lt (length nbrs) neighbour_limit) nbrs known) (keeps_learnt old nbrs are it)

-- the first of all are apart too
all_take : (P : Neighbour → Type 0) (len : ℕ) (nbrs : List Neighbour) → AllByRecursion P nbrs → AllByRecursion P (take len nbrs)
all_take P zero nbrs all = tt
all_take P (suc len) [] all = tt
all_take P (suc len) (n ∷ nbrs) all = (all.0, all_take P len nbrs all.1)

apart_take : (len : ℕ) (nbrs : List Neighbour) → IsDistinct same_pair nbrs → IsDistinct same_pair (take len nbrs)
unfolding IsDistinct
apart_take zero nbrs apart = tt
apart_take (suc len) [] apart = tt
apart_take (suc len) (n ∷ nbrs) apart = (all_take (λ y. same_pair n y ≡ false) len nbrs apart.0, apart_take len nbrs apart.1)

fewer_taken : (len : ℕ) (nbrs : List Neighbour) → length (take len nbrs) ≤ length nbrs
fewer_taken zero nbrs = omega arith
fewer_taken (suc len) [] = omega arith
fewer_taken (suc len) (n ∷ nbrs) = omega (arith, fewer_taken len nbrs)

pub keeps_take : (len : ℕ) (nbrs : List Neighbour) → AreNeighbours nbrs → AreNeighbours (take len nbrs)
keeps_take len nbrs are =
    let less = fewer_taken len nbrs in
    record { few = omega (arith, less, are.few); apart = apart_take len nbrs are.apart; fit = all_take IsNeighbour len nbrs are.fit }

-- What is known after something is learnt.
use Rattle.std.proofs.Common.{◌≡◌, ◌+◌, ◌<◌, ◌≤◌, nat_lt, ◌==◌, Bool, true, false, not, ◌&&◌, ◌||◌, cond, if◌then◌else◌, List, [], ◌∷◌, length, filter, None, Some, refl, sym, ap, ◌∙◌, arith}
use Rattle.std.proofs.lemmas.Bool.{true≢false, and_parts, and_from, eq-eqb, lt-ltb, ltb-true}
use Rattle.std.specs.List.{AllByRecursion, IsDistinct, find}
use Rattle.std.specs.Option.{option_map_or}
use Rattle.nv_base.specs.declared.ip4.Ip4.{Ip4}
use Rattle.nv_base.specs.declared.object.ObjId.{ObjId}
use Rattle.nv_base.specs.inner.Exact as tells
use Rattle.ct_core.specs.declared.neighbour.Neighbour.{Neighbour}
use Rattle.ct_core.specs.Neighbours.{AreNeighbours, IsNeighbour, is_known, is_of, learnt, mac_of, neighbour_limit, neighbour_of, noted, same_pair, without_port}
use Rattle.ct_core.proofs.Changed.{all_filter, fewer}

-- what is of one port and address
pub of_is : (port : ObjId) (addr : Ip4) (x : Neighbour) → is_of port addr x ≡ true → (x.port ≡ port) × (x.addr ≡ addr)
of_is port addr x e = let parts = and_parts _ _ e in (sym (tells.object port x.port parts.0), sym (tells.address addr x.addr parts.1))

own_pair : (n : Neighbour) → is_of n.port n.addr n ≡ true
own_pair n = and_from _ _ (eq-eqb n.port.0 n.port.0 refl) (eq-eqb n.addr.0 n.addr.0 refl)

-- ---- what is true of all

module _ (P : Neighbour → Type 0) (n : Neighbour) (it : P n) where
  all_step : (b : Bool) (x : Neighbour) (xs ys : List Neighbour) → P x → AllByRecursion P xs → AllByRecursion P ys → AllByRecursion P (if b then n ∷ xs else x ∷ ys)
  all_step true x xs ys first all rest = (it, all)
  all_step false x xs ys first all rest = (first, rest)

  all_noted : (nbrs : List Neighbour) → AllByRecursion P nbrs → AllByRecursion P (noted n nbrs)
  all_noted [] all = (it, tt)
  all_noted (x ∷ xs) all = all_step (is_of n.port n.addr x) x xs (noted n xs) all.0 all.1 (all_noted xs all.1)

all_as : {P Q : Neighbour → Type 0} → ((y : Neighbour) → P y → Q y) → (nbrs : List Neighbour) → AllByRecursion P nbrs → AllByRecursion Q nbrs
all_as gives [] all = tt
all_as gives (x ∷ xs) all = (gives x all.0, all_as gives xs all.1)

-- ---- pairs stay apart

module _ (n : Neighbour) where
  apart_step : (b : Bool) (x : Neighbour) (xs ys : List Neighbour) → is_of n.port n.addr x ≡ b → AllByRecursion (λ y. same_pair x y ≡ false) xs → IsDistinct same_pair xs
      → (is_of n.port n.addr x ≡ false → AllByRecursion (λ y. same_pair x y ≡ false) ys) → IsDistinct same_pair ys → IsDistinct same_pair (if b then n ∷ xs else x ∷ ys)
  unfolding IsDistinct
  apart_step true x xs ys e first apart other rest =
      let same = of_is n.port n.addr x e in
      let port : x.port.0 ≡ n.port.0 = ap (λ (p : ObjId). p.0) same.0 in
      let addr : x.addr.0 ≡ n.addr.0 = ap (λ (a : Ip4). a.0) same.1 in
      (all_as (λ y h. (λ i. (y.port.0 == sym port i) && (y.addr.0 == sym addr i)) ∙ h) xs first, apart)
  apart_step false x xs ys e first apart other rest = (other e, rest)

  apart_noted : (nbrs : List Neighbour) → IsDistinct same_pair nbrs → IsDistinct same_pair (noted n nbrs)
  unfolding IsDistinct
  apart_noted [] apart = (tt, tt)
  apart_noted (x ∷ xs) apart = apart_step (is_of n.port n.addr x) x xs (noted n xs) refl apart.0 apart.1 (λ e. all_noted (λ y. same_pair x y ≡ false) n e xs apart.0) (apart_noted xs apart.1)

apart_filter : (p : Neighbour → Bool) (nbrs : List Neighbour) → IsDistinct same_pair nbrs → IsDistinct same_pair (filter p nbrs)
unfolding IsDistinct
apart_filter p [] apart = tt
apart_filter p (x ∷ xs) apart = by (p x) (filter p xs) (all_filter (λ y. same_pair x y ≡ false) p xs apart.0) (apart_filter p xs apart.1)
  where
    by : (b : Bool) (ys : List Neighbour) → AllByRecursion (λ y. same_pair x y ≡ false) ys → IsDistinct same_pair ys → IsDistinct same_pair (cond b (x ∷ ys) ys)
    by true ys first rest = (first, rest)
    by false ys first rest = rest

-- ---- how many there are

known_length : (b : Bool) (x : Neighbour) (n : Neighbour) (xs ys : List Neighbour) (known : Bool) → (b || known) ≡ true → (known ≡ true → length ys ≡ length xs) → length (if b then n ∷ xs else x ∷ ys) ≡ length (x ∷ xs)
known_length true x n xs ys known e rest = refl
known_length false x n xs ys known e rest = let same = rest e in omega (arith, same)

length_known : (n : Neighbour) (nbrs : List Neighbour) → is_known n.port n.addr nbrs ≡ true → length (noted n nbrs) ≡ length nbrs
length_known n [] e = absurd (true≢false (sym e))
length_known n (x ∷ xs) e = known_length (is_of n.port n.addr x) x n xs (noted n xs) (is_known n.port n.addr xs) e (length_known n xs)

length_step : (b : Bool) (x : Neighbour) (n : Neighbour) (xs ys : List Neighbour) → length ys ≤ length xs + 1 → length (if b then n ∷ xs else x ∷ ys) ≤ length (x ∷ xs) + 1
length_step true x n xs ys few = omega arith
length_step false x n xs ys few = omega (arith, few)

length_noted : (n : Neighbour) (nbrs : List Neighbour) → length (noted n nbrs) ≤ length nbrs + 1
length_noted n [] = omega arith
length_noted n (x ∷ xs) = length_step (is_of n.port n.addr x) x n xs (noted n xs) (length_noted n xs)

few_noted : (n : Neighbour) (nbrs : List Neighbour) (known room : Bool) → is_known n.port n.addr nbrs ≡ known → nat_lt (length nbrs) neighbour_limit ≡ room → length nbrs ≤ neighbour_limit → (known || room) ≡ true → length (noted n nbrs) ≤ neighbour_limit
few_noted n nbrs true room e f few some = omega (arith, length_known n nbrs e, few)
few_noted n nbrs false room e f few some = omega (arith, length_noted n nbrs, ltb-true _ _ (f ∙ some))

pub keeps_learnt : (n : Neighbour) (old : List Neighbour) → AreNeighbours old → IsNeighbour n → AreNeighbours (learnt n old)
keeps_learnt n old are it = by (is_known n.port n.addr old || nat_lt (length old) neighbour_limit) refl
  where
    by : (b : Bool) → (is_known n.port n.addr old || nat_lt (length old) neighbour_limit) ≡ b → AreNeighbours (if b then noted n old else old)
    by true e = record { few = few_noted n old (is_known n.port n.addr old) (nat_lt (length old) neighbour_limit) refl refl are.few e; apart = apart_noted n old are.apart; fit = all_noted IsNeighbour n it old are.fit }
    by false e = are

pub keeps_without : (port : ObjId) (old : List Neighbour) → AreNeighbours old → AreNeighbours (without_port port old)
keeps_without port old are =
    let less = fewer (λ n. not (n.port.0 == port.0)) old in
    record { few = omega (arith, less, are.few); apart = apart_filter (λ n. not (n.port.0 == port.0)) old are.apart; fit = all_filter IsNeighbour (λ n. not (n.port.0 == port.0)) old are.fit }

-- ---- what is known

found_step : (b : Bool) (x n : Neighbour) (xs ys : List Neighbour) → is_of n.port n.addr x ≡ b → find (is_of n.port n.addr) ys ≡ Some n → find (is_of n.port n.addr) (if b then n ∷ xs else x ∷ ys) ≡ Some n
found_step true x n xs ys e rest = ap (λ c. cond c (Some n) (find (is_of n.port n.addr) xs)) (own_pair n)
found_step false x n xs ys e rest = ap (λ c. cond c (Some x) (find (is_of n.port n.addr) ys)) e ∙ rest

found_noted : (n : Neighbour) (nbrs : List Neighbour) → neighbour_of (noted n nbrs) n.port n.addr ≡ Some n
found_noted n [] = ap (λ c. cond c (Some n) None) (own_pair n)
found_noted n (x ∷ xs) = found_step (is_of n.port n.addr x) x n xs (noted n xs) refl (found_noted n xs)

either_true : (a b : Bool) → b ≡ true → (a || b) ≡ true
either_true true b e = refl
either_true false b e = e

pub learnt_room : (n : Neighbour) (old : List Neighbour) → length old < neighbour_limit → neighbour_of (learnt n old) n.port n.addr ≡ Some n
learnt_room n old room =
    let some : (is_known n.port n.addr old || nat_lt (length old) neighbour_limit) ≡ true = either_true _ _ (lt-ltb _ _ room) in
    ap (λ (b : Bool). neighbour_of (if b then noted n old else old) n.port n.addr) some ∙ found_noted n old

pub learnt_mac : (n : Neighbour) (old : List Neighbour) → length old < neighbour_limit → mac_of (learnt n old) n.port n.addr ≡ n.mac
learnt_mac n old room = ap (λ o. option_map_or (λ x. x.mac) o 0) (learnt_room n old room)

pub learnt_again : (n : Neighbour) (old : List Neighbour) → is_known n.port n.addr old ≡ true → neighbour_of (learnt n old) n.port n.addr ≡ Some n
learnt_again n old known =
    ap (λ (b : Bool). neighbour_of (if b || nat_lt (length old) neighbour_limit then noted n old else old) n.port n.addr) known ∙ found_noted n old

module _ (n : Neighbour) (port : ObjId) (addr : Ip4) (other : is_of port addr n ≡ false) where
  passed : (b : Bool) (x : Neighbour) (xs ys : List Neighbour) → is_of n.port n.addr x ≡ b → find (is_of port addr) ys ≡ find (is_of port addr) xs → find (is_of port addr) (if b then n ∷ xs else x ∷ ys) ≡ find (is_of port addr) (x ∷ xs)
  passed true x xs ys e rest =
      let same = of_is n.port n.addr x e in
      let x_is : is_of port addr x ≡ false = (λ i. (port.0 == (same.0 i).0) && (addr.0 == (same.1 i).0)) ∙ other in
      ap (λ c. cond c (Some n) (find (is_of port addr) xs)) other ∙ sym (ap (λ c. cond c (Some x) (find (is_of port addr) xs)) x_is)
  passed false x xs ys e rest = ap (λ o. cond (is_of port addr x) (Some x) o) rest

  other_noted : (nbrs : List Neighbour) → neighbour_of (noted n nbrs) port addr ≡ neighbour_of nbrs port addr
  other_noted [] = ap (λ c. cond c (Some n) None) other
  other_noted (x ∷ xs) = passed (is_of n.port n.addr x) x xs (noted n xs) refl (other_noted xs)

  chosen : (b : Bool) (old : List Neighbour) → neighbour_of (if b then noted n old else old) port addr ≡ neighbour_of old port addr
  chosen true old = other_noted old
  chosen false old = refl

pub learnt_others : (n : Neighbour) (old : List Neighbour) (port : ObjId) (addr : Ip4) → is_of port addr n ≡ false → neighbour_of (learnt n old) port addr ≡ neighbour_of old port addr
learnt_others n old port addr other = chosen n port addr other (is_known n.port n.addr old || nat_lt (length old) neighbour_limit) old

-- none are a list of neighbours
pub none_are : AreNeighbours []
unfolding IsDistinct
none_are = record { few = omega arith; apart = tt; fit = tt }

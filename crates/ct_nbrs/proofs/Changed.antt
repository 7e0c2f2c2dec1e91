-- The neighbours that a map of pairs holds, after each change of it.
use Rattle.std.proofs.Common.{◌≡◌, ℕ, ◌==◌, Bool, true, false, not, ◌||◌, cond, if◌then◌else◌, nat_lt, List, [], ◌∷◌, length, filter, Option, Some, is_some, refl, sym, ap, ◌∙◌}
use Rattle.std.specs.List.{AllZip}
use Rattle.std.specs.Map.{lookup}
use Rattle.std.specs.Option.{option_map}
use Rattle.indexmap.specs.IndexMap.{insert_entry}
use Rattle.nv_base.specs.declared.object.ObjId.{ObjId}
use Rattle.ct_core.specs.declared.neighbour.Neighbour.{Neighbour}
use Rattle.ct_core.specs.Neighbours.{is_known, learnt, neighbour_limit, neighbour_of, noted, without_port}
use Rattle.ct_nbrs.specs.declared.pair.Pair.{Pair}
use Rattle.ct_nbrs.specs.Held.{neighbour_in, neighbours_of}
use Rattle.ct_nbrs.specs.inner.Pair.{pair_exact, pairs_equal}

module _ (pair : Pair) where
  some_step : (b : Bool) (mac : ℕ) (rest : Option ℕ) (any : Bool) → is_some rest ≡ any → is_some (cond b (Some mac) rest) ≡ (b || any)
  some_step true mac rest any e = refl
  some_step false mac rest any e = e

  -- a pair is there where its port knows its address
  pub there : (entries : List (Pair × ℕ)) → is_some (lookup (pairs_equal pair) entries) ≡ is_known pair.port pair.addr (neighbours_of entries)
  there [] = refl
  there (e ∷ entries) = some_step (pairs_equal pair e.0) e.1 (lookup (pairs_equal pair) entries) (is_known pair.port pair.addr (neighbours_of entries)) (there entries)

  mac_step : (b : Bool) (e : Pair × ℕ) (rest : Option ℕ) (found : Option Neighbour) → rest ≡ option_map (λ n. n.mac) found → cond b (Some e.1) rest ≡ option_map (λ n. n.mac) (cond b (Some (neighbour_in e)) found)
  mac_step true e rest found is = refl
  mac_step false e rest found is = is

  -- with the MAC that it knows
  pub found : (entries : List (Pair × ℕ)) → lookup (pairs_equal pair) entries ≡ option_map (λ n. n.mac) (neighbour_of (neighbours_of entries) pair.port pair.addr)
  found [] = refl
  found (e ∷ entries) = mac_step (pairs_equal pair e.0) e (lookup (pairs_equal pair) entries) (neighbour_of (neighbours_of entries) pair.port pair.addr) (found entries)

  put_step : (b : Bool) (e : Pair × ℕ) (mac : ℕ) (rest more : List (Pair × ℕ)) (nbrs : List Neighbour) → pairs_equal pair e.0 ≡ b → neighbours_of more ≡ nbrs
      → neighbours_of (if b then (e.0, mac) ∷ rest else e ∷ more) ≡ (if b then neighbour_in (pair, mac) ∷ neighbours_of rest else neighbour_in e ∷ nbrs)
  put_step true e mac rest more nbrs same is = ap (λ p. neighbour_in (p, mac) ∷ neighbours_of rest) (sym (pair_exact pair e.0 same))
  put_step false e mac rest more nbrs same is = ap (λ l. neighbour_in e ∷ l) is

  -- a MAC that is put in is noted
  pub put : (mac : ℕ) (entries : List (Pair × ℕ)) → neighbours_of (insert_entry pairs_equal entries pair mac) ≡ noted (neighbour_in (pair, mac)) (neighbours_of entries)
  put mac [] = refl
  put mac (e ∷ entries) = put_step (pairs_equal pair e.0) e mac entries (insert_entry pairs_equal entries pair mac) (noted (neighbour_in (pair, mac)) (neighbours_of entries)) refl (put mac entries)

-- what is learnt where there is a place for it
pub learnt_place : (n : Neighbour) (old : List Neighbour) → (is_known n.port n.addr old || nat_lt (length old) neighbour_limit) ≡ true → noted n old ≡ learnt n old
learnt_place n old place = sym (ap (λ (b : Bool). if b then noted n old else old) place)

-- and where there is none
pub learnt_none : (n : Neighbour) (old : List Neighbour) → (is_known n.port n.addr old || nat_lt (length old) neighbour_limit) ≡ false → old ≡ learnt n old
learnt_none n old place = sym (ap (λ (b : Bool). if b then noted n old else old) place)

left_step : (b : Bool) (e : Pair × ℕ) (rest : List (Pair × ℕ)) → neighbours_of (cond b (e ∷ rest) rest) ≡ cond b (neighbour_in e ∷ neighbours_of rest) (neighbours_of rest)
left_step true e rest = refl
left_step false e rest = refl

-- what is left when the pairs of a port go
pub left : (port : ObjId) (entries : List (Pair × ℕ)) → neighbours_of (filter (λ e. not (e.0.port.0 == port.0)) entries) ≡ without_port port (neighbours_of entries)
left port [] = refl
left port (e ∷ entries) =
    left_step (not (e.0.port.0 == port.0)) e (filter (λ x. not (x.0.port.0 == port.0)) entries)
    ∙ ap (λ l. cond (not (e.0.port.0 == port.0)) (neighbour_in e ∷ l) l) (left port entries)

-- entries that are each the same as those of another list are that list
pub copied : {R : Pair × ℕ → Pair × ℕ → Type 0} → ((p q : Pair × ℕ) → R p q → q ≡ p) → (old new : List (Pair × ℕ)) → AllZip R old new → new ≡ old
copied same [] [] all = refl
copied same [] (y ∷ ys) all = absurd all
copied same (x ∷ xs) [] all = absurd all
copied same (x ∷ xs) (y ∷ ys) all = λ i. same x y all.0 i ∷ copied same xs ys all.1 i

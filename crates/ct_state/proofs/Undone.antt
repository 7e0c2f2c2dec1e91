-- What is kept to come back gives the state before, after each change.
use Rattle.std.proofs.Common.{◌≡◌, ℕ, zero, suc, ◌<◌, ◌≤◌, nat_lt, Bool, true, false, if◌then◌else◌, List, [], ◌∷◌, ◌++◌, length, take, slice_get, None, Some, is_some, refl, sym, ap, ◌∙◌, arith}
use Rattle.std.proofs.lemmas.Bool.{true≢false, false≢true, ltb-true, ltb-false}
use Rattle.std.proofs.Math.Bool.{beq}
use Rattle.std.specs.List.{AllByRecursion}
use Rattle.std.specs.Option.{unwrap_or}
use Rattle.nv_base.specs.inner.Exact as tells
use Rattle.ct_core.specs.declared.entry.Entry.{Entry}
use Rattle.ct_core.specs.Changes.{marked}
use Rattle.ct_core.specs.State.{State, with_conns}
use Rattle.ct_core.proofs.Changed.{all_last}
use Rattle.ct_state.specs.declared.work.OldMark.{OldMark}
use Rattle.ct_state.specs.Work.{unmarked}
use Rattle.ct_state.specs.inner.Noted.{IsWithin, noted}

-- ---- of marks

-- a place beyond the end of a list is not marked
pub marked_beyond : (place : ℕ) (blocked : Bool) (conns : List Entry) → length conns ≤ place → marked place blocked conns ≡ conns
marked_beyond place blocked [] beyond = refl
marked_beyond zero blocked (e ∷ conns) beyond = absurd (omega (arith, beyond))
marked_beyond (suc place) blocked (e ∷ conns) beyond = ap (λ rest. e ∷ rest) (marked_beyond place blocked conns (omega (arith, beyond)))

-- nor one that is not there
pub marked_nowhere : (place : ℕ) (blocked : Bool) (conns : List Entry) → slice_get conns place ≡ None → marked place blocked conns ≡ conns
marked_nowhere place blocked [] none = refl
marked_nowhere zero blocked (e ∷ conns) none = absurd (true≢false (ap is_some none))
marked_nowhere (suc place) blocked (e ∷ conns) none = ap (λ rest. e ∷ rest) (marked_nowhere place blocked conns none)

-- its own mark changes no entry
pub marked_own : (place : ℕ) (conns : List Entry) (e : Entry) → slice_get conns place ≡ Some e → marked place e.blocked conns ≡ conns
marked_own place [] e there = refl
marked_own zero (x ∷ conns) e there =
    let with_mark : Entry → Entry = λ y. record x { blocked = y.blocked } in
    let same : x ≡ e = ap (λ o. unwrap_or o x) there in
    ap (λ y. with_mark y ∷ conns) (sym same)
marked_own (suc place) (x ∷ conns) e there = ap (λ rest. x ∷ rest) (marked_own place conns e there)

-- a place with an entry is within the list
pub there_within : (conns : List Entry) (place : ℕ) (e : Entry) → slice_get conns place ≡ Some e → place < length conns
there_within [] place e there = absurd (false≢true (ap is_some there))
there_within (x ∷ conns) zero e there = omega arith
there_within (x ∷ conns) (suc place) e there = omega (arith, there_within conns place e there)

-- a state in which the entry is not there stays
pub stays_nowhere : (place : ℕ) (blocked : Bool) (state : State) → slice_get state.conns place ≡ None → state ≡ with_conns (marked place blocked state.conns) state
stays_nowhere place blocked state none = ap (λ conns. with_conns conns state) (sym (marked_nowhere place blocked state.conns none))

-- and one in which it has the mark
pub stays_own : (place : ℕ) (blocked : Bool) (state : State) (e : Entry) → slice_get state.conns place ≡ Some e → beq e.blocked blocked ≡ true → state ≡ with_conns (marked place blocked state.conns) state
stays_own place blocked state e there same =
    ap (λ conns. with_conns conns state) (sym (ap (λ b. marked place b state.conns) (sym (tells.boolean e.blocked blocked same)) ∙ marked_own place state.conns e there))

-- of two marks of an entry the second stays
marked_twice : (place : ℕ) (a b : Bool) (conns : List Entry) → marked place a (marked place b conns) ≡ marked place a conns
marked_twice place a b [] = refl
marked_twice zero a b (e ∷ conns) = refl
marked_twice (suc place) a b (e ∷ conns) = ap (λ rest. e ∷ rest) (marked_twice place a b conns)

-- the first entries, marked
take_marked : (n place : ℕ) (b : Bool) (conns : List Entry) → take n (marked place b conns) ≡ marked place b (take n conns)
take_marked zero place b conns = refl
take_marked (suc n) place b [] = refl
take_marked (suc n) zero b (e ∷ conns) = refl
take_marked (suc n) (suc place) b (e ∷ conns) = ap (λ rest. e ∷ rest) (take_marked n place b conns)

-- there are no more of them than asked
first_few : {X : Type 0} (n : ℕ) (xs : List X) → length (take n xs) ≤ n
first_few zero xs = omega arith
first_few (suc n) [] = omega arith
first_few (suc n) (x ∷ xs) = omega (arith, first_few n xs)

-- ---- of old marks

-- the last that was noted is given first
pub unmarked_last : (marks : List OldMark) (old : OldMark) (conns : List Entry) → unmarked (marks ++ old ∷ []) conns ≡ unmarked marks (marked old.place old.blocked conns)
unmarked_last [] old conns = refl
unmarked_last (first ∷ marks) old conns = ap (marked first.place first.blocked) (unmarked_last marks old conns)

-- what is true of each is true of each but the last
pub all_first : {X : Type 0} (P : X → Type 0) (xs : List X) (x : X) → AllByRecursion P (xs ++ x ∷ []) → AllByRecursion P xs
all_first P [] x all = tt
all_first P (y ∷ ys) x all = (all.0, all_first P ys x all.1)

-- where an entry is marked and its old mark noted, the connections before stay what they were
pub noted_back : (began : ℕ) (marks : List OldMark) (conns : List Entry) (place : ℕ) (blocked : Bool) (e : Entry) → slice_get conns place ≡ Some e
    → unmarked (noted began (record { place = place; blocked = e.blocked }) marks) (take began (marked place blocked conns)) ≡ unmarked marks (take began conns)
noted_back began marks conns place blocked e there = by (nat_lt place began) refl
  where
    old : OldMark
    old = record { place = place; blocked = e.blocked }

    by : (b : Bool) → nat_lt place began ≡ b → unmarked (if b then marks ++ old ∷ [] else marks) (take began (marked place blocked conns)) ≡ unmarked marks (take began conns)
    by true first =
        unmarked_last marks old (take began (marked place blocked conns))
        ∙ ap (unmarked marks) (sym (take_marked began place e.blocked (marked place blocked conns)) ∙ ap (take began) (marked_twice place e.blocked blocked conns ∙ marked_own place conns e there))
    by false later =
        ap (unmarked marks) (take_marked began place blocked conns ∙ marked_beyond place blocked (take began conns) (omega (arith, first_few began conns, ltb-false _ _ later)))

-- and all that are noted are of entries that were there
pub noted_within : (began : ℕ) (old : OldMark) (marks : List OldMark) → AllByRecursion (IsWithin began) marks → AllByRecursion (IsWithin began) (noted began old marks)
noted_within began old marks all = by (nat_lt old.place began) refl
  where
    by : (b : Bool) → nat_lt old.place began ≡ b → AllByRecursion (IsWithin began) (if b then marks ++ old ∷ [] else marks)
    by true first = all_last (IsWithin began) marks old all (ltb-true _ _ first)
    by false later = all

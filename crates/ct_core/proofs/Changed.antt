-- The changes leave connections.
use Rattle.std.proofs.Common.{◌≡◌, ℕ, zero, suc, ◌+◌, ◌<◌, ◌≤◌, nat_lt, Bool, true, false, not, cond, if◌then◌else◌, List, [], ◌∷◌, ◌++◌, length, filter, None, Some, is_some, refl, sym, ap, subst, arith}
use Rattle.std.proofs.lemmas.Bool.{true≢false, ltb-true, ltb-false}
use Rattle.std.proofs.lemmas.List.{length_push}
use Rattle.std.specs.List.{AllByRecursion}
use Rattle.std.specs.Option.{unwrap_or}
use Rattle.ct_core.specs.declared.entry.Entry.{Entry}
use Rattle.ct_core.specs.declared.zone.Zone.{Zone}
use Rattle.ct_core.specs.Changes.{AreConnections, IsEntry, connection_limit, marked, recorded, without_zone}
use Rattle.ct_core.specs.Entry.{is_in}

module _ {X : Type 0} (P : X → Type 0) where
  -- what is true of each item, with one more
  pub all_last : (xs : List X) (x : X) → AllByRecursion P xs → P x → AllByRecursion P (xs ++ x ∷ [])
  all_last [] x all it = (it, tt)
  all_last (y ∷ ys) x all it = (all.0, all_last ys x all.1 it)

  filter_step : (b : Bool) (x : X) (xs : List X) → P x → AllByRecursion P xs → AllByRecursion P (cond b (x ∷ xs) xs)
  filter_step true x xs it all = (it, all)
  filter_step false x xs it all = all

  -- and of those that pass a test
  pub all_filter : (p : X → Bool) (xs : List X) → AllByRecursion P xs → AllByRecursion P (filter p xs)
  all_filter p [] all = tt
  all_filter p (x ∷ xs) all = filter_step (p x) x (filter p xs) all.0 (all_filter p xs all.1)

length_step : {X : Type 0} (b : Bool) (x : X) (xs : List X) (n : ℕ) → length xs ≤ n → length (cond b (x ∷ xs) xs) ≤ n + 1
length_step true x xs n few = omega (arith, few)
length_step false x xs n few = omega (arith, few)

-- no more pass than there are
pub fewer : {X : Type 0} (p : X → Bool) (xs : List X) → length (filter p xs) ≤ length xs
fewer p [] = omega arith
fewer p (x ∷ xs) =
    let e : length xs + 1 ≡ length (x ∷ xs) = omega arith in
    subst (λ n. length (cond (p x) (x ∷ filter p xs) (filter p xs)) ≤ n) e (length_step (p x) x (filter p xs) (length xs) (fewer p xs))

-- a mark changes no length
pub length-marked : (place : ℕ) (blocked : Bool) (conns : List Entry) → length (marked place blocked conns) ≡ length conns
length-marked place blocked [] = refl
length-marked zero blocked (e ∷ conns) = refl
length-marked (suc place) blocked (e ∷ conns) = ap (λ n. suc n) (length-marked place blocked conns)

-- and no numbers
fit_marked : (place : ℕ) (blocked : Bool) (conns : List Entry) → AllByRecursion IsEntry conns → AllByRecursion IsEntry (marked place blocked conns)
fit_marked place blocked [] all = tt
fit_marked zero blocked (e ∷ conns) all = (record { zone = all.0.zone; orig = all.0.orig; reply = all.0.reply }, all.1)
fit_marked (suc place) blocked (e ∷ conns) all = (all.0, fit_marked place blocked conns all.1)

pub keeps_marked : (place : ℕ) (blocked : Bool) (old : List Entry) → AreConnections old → AreConnections (marked place blocked old)
keeps_marked place blocked old are = record { few = rw (length-marked place blocked old) are.few; fit = fit_marked place blocked old are.fit }

pub keeps_without : (zone : Zone) (old : List Entry) → AreConnections old → AreConnections (without_zone zone old)
keeps_without zone old are =
    let less = fewer (λ e. not (is_in zone e)) old in
    record { few = omega (arith, less, are.few); fit = all_filter IsEntry (λ e. not (is_in zone e)) old are.fit }

-- an entry more, where there is room for it
pub with_one : (e : Entry) (old : List Entry) → AreConnections old → IsEntry e → length old < connection_limit → AreConnections (old ++ e ∷ [])
with_one e old are fits room = record { few = omega (arith, length_push old e, room); fit = all_last IsEntry old e are.fit fits }

pub keeps_recorded : (e : Entry) (old new : List Entry) → AreConnections old → IsEntry e → recorded e old ≡ Some new → AreConnections new
keeps_recorded e old new are fits = by (nat_lt (length old) connection_limit) refl
  where
    by : (b : Bool) → nat_lt (length old) connection_limit ≡ b → (if b then Some (old ++ e ∷ []) else None) ≡ Some new → AreConnections new
    by true room is = subst AreConnections (ap (λ o. unwrap_or o old) is) (with_one e old are fits (ltb-true _ _ room))
    by false full is = absurd (true≢false (sym (ap is_some is)))

pub refused_full : (e : Entry) (old : List Entry) → AreConnections old → recorded e old ≡ None → length old ≡ connection_limit
refused_full e old are = by (nat_lt (length old) connection_limit) refl
  where
    by : (b : Bool) → nat_lt (length old) connection_limit ≡ b → (if b then Some (old ++ e ∷ []) else None) ≡ None → length old ≡ connection_limit
    by true room is = absurd (true≢false (ap is_some is))
    by false full is = omega (arith, ltb-false _ _ full, are.few)

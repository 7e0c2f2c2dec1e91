-- Sums of amounts that are cut off far above a bound.
use Rattle.std.proofs.Common.{◌≡◌, ℕ, ◌+◌, ◌<◌, ◌≤◌, Bool, true, false, nat_lt, min, List, [], ◌∷◌, arith, refl, sym, ap, ◌∙◌}
use Rattle.std.proofs.lemmas.Bool.{ltb-true}
use Rattle.std.proofs.lemmas.Bool.Decides.{nat_tests}
use Rattle.std.proofs.lemmas.List.Sums.{sum_by-cons}
use Rattle.std.specs.Prelude.{sum_by}
use Rattle.nb_records.specs.declared.switch.Port.{Port}
use Rattle.nb_records.specs.Tags.{address_count, guard_count, port_weight, most}
use Rattle.nb_model.specs.Amounts.{total}
use Rattle.nb_model.proofs.Totals.{total_cons}
use Rattle.nb_limits.specs.inner.Within.{up_to}
use Rattle.nb_limits.proofs.Sums.{over}

same_cut : {X : Type 0} (f g : X → ℕ) (cap : ℕ) (xs : List X) → ((x : X) → g x ≡ min (f x) cap) → min (sum_by g xs) cap ≡ min (total f xs) cap
same_cut f g cap [] cut = refl
same_cut f g cap (x ∷ xs) cut =
    step (sum_by g (x ∷ xs)) (g x) (sum_by g xs) (total f (x ∷ xs)) (f x) (total f xs) cap (sum_by-cons g x xs) (total_cons f x xs) (cut x) (same_cut f g cap xs cut)
  where
    step : (s a m t b n cap : ℕ) → s ≡ a + m → t ≡ b + n → a ≡ min b cap → min m cap ≡ min n cap → min s cap ≡ min t cap
    step s a m t b n cap e f g h = omega arith

-- A sum that is cut off only far above the bound is within it where the whole is, and then is the whole.
same_up_to : (bound cap a b : ℕ) → bound < cap → min a cap ≡ min b cap → up_to bound a ≡ up_to bound b
same_up_to bound cap a b low same = by (nat_lt bound b) refl
  where
    more : bound < b → bound < a
    more e = omega (arith, e, low, same)

    less : nat_lt bound b ≡ false → b ≤ bound
    less e = grind (arith, nat_tests, e)

    whole : b ≤ bound → a ≡ b
    whole e = omega (arith, e, low, same)

    by : (t : Bool) → nat_lt bound b ≡ t → up_to bound a ≡ up_to bound b
    by true e = over bound a (more (ltb-true bound b e)) ∙ sym (over bound b (ltb-true bound b e))
    by false e = ap (up_to bound) (whole (less e))

pub addresses_up_to : (ports : List Port) → up_to 32768 (sum_by (λ port. (port_weight port).0) ports) ≡ up_to 32768 (total (λ port. total address_count port.addresses) ports)
addresses_up_to ports =
    same_up_to 32768 most _ _ (omega arith) (same_cut (λ port. total address_count port.addresses) (λ port. (port_weight port).0) most ports (λ port. refl))

pub security_up_to : (ports : List Port) → up_to 32768 (sum_by (λ port. (port_weight port).1) ports) ≡ up_to 32768 (total (λ port. total guard_count port.security) ports)
security_up_to ports = same_up_to 32768 most _ _ (omega arith) (same_cut (λ port. total guard_count port.security) (λ port. (port_weight port).1) most ports (λ port. refl))

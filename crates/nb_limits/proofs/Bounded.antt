-- How much there is in a sound network: of each kind no more than its bound.
use Rattle.std.proofs.Common.{◌≡◌, ℕ, ◌≤◌, false, nat_lt, Option, Some, arith, ap, ◌∙◌}
use Rattle.std.proofs.lemmas.Bool.Decides.{nat_tests}
use Rattle.std.specs.List.{AllByRecursion}
use Rattle.std.specs.Prelude.{IsSome, is_some}
use Rattle.nb_records.specs.declared.refusal.Kind.{Kind}
use Rattle.nb_records.specs.declared.refusal.Kind.TheVariants as kind
use Rattle.nb_model.specs.Amounts.{amount, bound, kinds}
use Rattle.nb_model.specs.Network.{Network}
use Rattle.nb_model.specs.Sound.{IsSound}
use Rattle.nb_limits.specs.inner.Within.{up_to}
use Rattle.nb_limits.proofs.KnownAfter.{all_within}
use Rattle.nb_limits.proofs.Sums.{within}

low : (limit n : ℕ) → nat_lt limit n ≡ false → n ≤ limit
low limit n e = grind (arith, nat_tests, e)

pub amount_low : (net : Network) → IsSound net → (own : Kind) → amount net own ≤ bound own
amount_low net sound own = low (bound own) (amount net own) (pick own (all_within net sound))
  where
    pick : (own : Kind) → AllByRecursion (λ k. nat_lt (bound k) (amount net k) ≡ false) kinds → nat_lt (bound own) (amount net own) ≡ false
    pick kind.Switch all = all.0
    pick kind.Router all = all.1.0
    pick kind.Port all = all.1.1.0
    pick kind.RouterPort all = all.1.1.1.0
    pick kind.Network all = all.1.1.1.1.0
    pick kind.Address all = all.1.1.1.1.1.0
    pick kind.Security all = all.1.1.1.1.1.1.0
    pick kind.Acl all = all.1.1.1.1.1.1.1.0
    pick kind.AclSwitch all = all.1.1.1.1.1.1.1.1.0
    pick kind.Route all = all.1.1.1.1.1.1.1.1.1.0
    pick kind.Nat all = all.1.1.1.1.1.1.1.1.1.1.0
    pick kind.Lb all = all.1.1.1.1.1.1.1.1.1.1.1.0
    pick kind.Vip all = all.1.1.1.1.1.1.1.1.1.1.1.1.0
    pick kind.Backend all = all.1.1.1.1.1.1.1.1.1.1.1.1.1.0
    pick kind.VipDatapath all = all.1.1.1.1.1.1.1.1.1.1.1.1.1.1.0
    pick kind.Neighbour all = all.1.1.1.1.1.1.1.1.1.1.1.1.1.1.1.0
    pick kind.Set all = all.1.1.1.1.1.1.1.1.1.1.1.1.1.1.1.1.0
    pick kind.Member all = all.1.1.1.1.1.1.1.1.1.1.1.1.1.1.1.1.1.0
    pick kind.MatchText all = all.1.1.1.1.1.1.1.1.1.1.1.1.1.1.1.1.1.1.0
    pick kind.Binding all = all.1.1.1.1.1.1.1.1.1.1.1.1.1.1.1.1.1.1.1.0

-- so that it is told
pub is_told : (net : Network) → IsSound net → (own : Kind) (sum : Option ℕ) → sum ≡ up_to (bound own) (amount net own) → sum ≡ Some (amount net own)
is_told net sound own sum is = is ∙ within (bound own) (amount net own) (amount_low net sound own)

pub some_told : (n : ℕ) (sum : Option ℕ) → sum ≡ Some n → IsSome sum
some_told n sum is = ap (λ (o : Option ℕ). is_some o) is

pub the_told : (n s : ℕ) (sum : Option ℕ) → sum ≡ Some n → sum ≡ Some s → s ≡ n
the_told n s sum is own = cc

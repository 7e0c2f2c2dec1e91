-- What is known of how much a network has of the kinds that no table counts.
use Rattle.std.specs.Prelude.{◌≡◌, ℕ, ◌≤◌, true, false, nat_lt, Option, Some, None}
use Rattle.nb_records.specs.declared.refusal.Kind.TheVariants as kind
use Rattle.nb_model.specs.Amounts.{amount, bound}
use Rattle.nb_model.specs.Network.{Network}
use Rattle.nb_limits.specs.declared.ceilings.Ceilings.{Ceilings}

-- an amount is at most what is known of it, which is within the bound, or nothing is known
abbrev pub IsCeiling : ℕ → ℕ → Option ℕ → Type 0
IsCeiling bound amount None = Unit {0}
IsCeiling bound amount (Some most) = (amount ≤ most) × (most ≤ bound)

-- what is known of a network is so
pub record AreCeilings (net : Network) (known : Ceilings) : Type 0 where
  pub acl_switches : IsCeiling (bound kind.AclSwitch) (amount net kind.AclSwitch) known.acl_switches
  pub match_text : IsCeiling (bound kind.MatchText) (amount net kind.MatchText) known.match_text
  pub vips : known.vips_fit ≡ true → nat_lt (bound kind.Vip) (amount net kind.Vip) ≡ false
  pub backends : known.backends_fit ≡ true → nat_lt (bound kind.Backend) (amount net kind.Backend) ≡ false
  pub vip_datapaths : IsCeiling (bound kind.VipDatapath) (amount net kind.VipDatapath) known.vip_datapaths
  pub neighbours : IsCeiling (bound kind.Neighbour) (amount net kind.Neighbour) known.neighbours

-- The kinds that change with one list of records: of the others there is as much afterwards.
use Rattle.std.proofs.Common.{◌≡◌, ℕ, ◌≤◌, Bool, false, List, [], ◌∷◌}
use Rattle.nb_records.specs.declared.refusal.Kind.{Kind}
use Rattle.nb_records.specs.declared.refusal.Kind.TheVariants as kind
use Rattle.nb_model.specs.Amounts.{amount}
use Rattle.nb_model.specs.Network.{Network, Acl, Lb, Binding, Nat, Route, Router, RouterPort, AddrSet, Group, Port, Switch}
use Rattle.nb_model.proofs.Rises.{Falls}
use Rattle.nb_model.proofs.Totals.{le_self}

-- where a kind may not rise, there is no more of it afterwards
abbrev pub FallsOf : Kind → (Kind → Bool) → Network → Network → Type 0
FallsOf own may net after = may own ≡ false → amount after own ≤ amount net own

module _ (may : Kind → Bool) (net : Network) where
  -- no kind rises where none of these does
  abbrev FallsWith : List Kind → Network → Type 0
  FallsWith [] after = Falls may net after
  FallsWith (own ∷ some) after = FallsOf own may net after → FallsWith some after

  pub switches_fall : (xs : List Switch) (next : ℕ) → FallsWith (kind.Switch ∷ kind.AclSwitch ∷ kind.VipDatapath ∷ kind.MatchText ∷ []) (record net { switches = xs; next = next })
  switches_fall xs next a b c d = elim [ kind.Switch ↦ a | kind.AclSwitch ↦ b | kind.VipDatapath ↦ c | kind.MatchText ↦ d | own ↦ λ free. le_self (amount net own) ]

  pub ports_fall : (xs : List Port) (next : ℕ) → FallsWith (kind.Port ∷ kind.Address ∷ kind.Security ∷ kind.AclSwitch ∷ kind.Neighbour ∷ kind.MatchText ∷ []) (record net { ports = xs; next = next })
  ports_fall xs next a b c d e f = elim [ kind.Port ↦ a | kind.Address ↦ b | kind.Security ↦ c | kind.AclSwitch ↦ d | kind.Neighbour ↦ e | kind.MatchText ↦ f | own ↦ λ free. le_self (amount net own) ]

  pub routers_fall : (xs : List Router) (next : ℕ) → FallsWith (kind.Router ∷ kind.VipDatapath ∷ []) (record net { routers = xs; next = next })
  routers_fall xs next a b = elim [ kind.Router ↦ a | kind.VipDatapath ↦ b | own ↦ λ free. le_self (amount net own) ]

  pub router_ports_fall : (xs : List RouterPort) (next : ℕ) → FallsWith (kind.RouterPort ∷ kind.Network ∷ kind.Neighbour ∷ []) (record net { router_ports = xs; next = next })
  router_ports_fall xs next a b c = elim [ kind.RouterPort ↦ a | kind.Network ↦ b | kind.Neighbour ↦ c | own ↦ λ free. le_self (amount net own) ]

  pub routes_fall : (xs : List Route) (next : ℕ) → FallsWith (kind.Route ∷ []) (record net { routes = xs; next = next })
  routes_fall xs next a = elim [ kind.Route ↦ a | own ↦ λ free. le_self (amount net own) ]

  pub nats_fall : (xs : List Nat) (next : ℕ) → FallsWith (kind.Nat ∷ []) (record net { nats = xs; next = next })
  nats_fall xs next a = elim [ kind.Nat ↦ a | own ↦ λ free. le_self (amount net own) ]

  pub bindings_fall : (xs : List Binding) (next : ℕ) → FallsWith (kind.Binding ∷ []) (record net { bindings = xs; next = next })
  bindings_fall xs next a = elim [ kind.Binding ↦ a | own ↦ λ free. le_self (amount net own) ]

  pub lbs_fall : (xs : List Lb) (next : ℕ) → FallsWith (kind.Lb ∷ kind.Vip ∷ kind.Backend ∷ kind.VipDatapath ∷ []) (record net { lbs = xs; next = next })
  lbs_fall xs next a b c d = elim [ kind.Lb ↦ a | kind.Vip ↦ b | kind.Backend ↦ c | kind.VipDatapath ↦ d | own ↦ λ free. le_self (amount net own) ]

  pub acls_fall : (xs : List Acl) (next : ℕ) → FallsWith (kind.Acl ∷ kind.AclSwitch ∷ kind.MatchText ∷ []) (record net { acls = xs; next = next })
  acls_fall xs next a b c = elim [ kind.Acl ↦ a | kind.AclSwitch ↦ b | kind.MatchText ↦ c | own ↦ λ free. le_self (amount net own) ]

  pub sets_fall : (xs : List AddrSet) (next : ℕ) → FallsWith (kind.Set ∷ kind.Member ∷ []) (record net { sets = xs; next = next })
  sets_fall xs next a b = elim [ kind.Set ↦ a | kind.Member ↦ b | own ↦ λ free. le_self (amount net own) ]

  pub groups_fall : (xs : List Group) (next : ℕ) → FallsWith (kind.AclSwitch ∷ kind.Set ∷ kind.Member ∷ kind.MatchText ∷ []) (record net { groups = xs; next = next })
  groups_fall xs next a b c d = elim [ kind.AclSwitch ↦ a | kind.Set ↦ b | kind.Member ↦ c | kind.MatchText ↦ d | own ↦ λ free. le_self (amount net own) ]

-- The members of address sets and port groups (ovn-nb(5), 'Address_Set TABLE' and 'Port_Group TABLE').
use Rattle.std.specs.Prelude.{◌≡◌, ◌==◌, ℕ, ◌<◌, ◌^◌, nat_lt, Bool, true, List, bit_and}
use Rattle.std.specs.List.{list_any, list_all}
use Rattle.std.specs.Option.{IfSome}
use Rattle.nv_base.specs.declared.object.ObjId.{ObjId}
use Rattle.expr_core.specs.Lookup.{Lookup}
use Rattle.expr_sets.specs.declared.members.Masked.{Masked}

-- two numbers agree in the bits of a mask
abbrev pub agree : ℕ → ℕ → ℕ → Bool
agree mask a b = bit_and a mask == bit_and b mask

-- the members of sets and groups, in stored order
pub record Members : Type 0 where
  -- the members of the address set of this name that are numbers of so many bits
  pub of_set : List ℕ → ℕ → List Masked
  -- the ports of the port group of this name
  pub of_group : List ℕ → List ObjId

-- They are the members that a match looks up, and their numbers fit: ports have numbers of 32 bits.
pub record AreOf (net : Lookup) (members : Members) : Type 0 where
  pub sets : (name : List ℕ) (width number : ℕ) → number < 2 ^ width → net.in_set name width number ≡ list_any (λ m. agree m.mask number m.number) (members.of_set name width)
  pub groups : (name : List ℕ) (port : ObjId) → net.in_group name port ≡ list_any (λ p. port.0 == p.0) (members.of_group name)
  pub sets_fit : (name : List ℕ) (width : ℕ) → list_all (λ m. nat_lt m.number (2 ^ width)) (members.of_set name width) ≡ true
  pub groups_fit : (name : List ℕ) → list_all (λ p. nat_lt p.0 (2 ^ 32)) (members.of_group name) ≡ true
  pub ports_fit : (name : List ℕ) → IfSome (net.port name) (λ p. p.0 < 2 ^ 32)

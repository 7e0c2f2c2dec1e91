-- What a match looks up in the network.
use Rattle.std.specs.Prelude.{ℕ, Bool, List, Option}
use Rattle.nv_base.specs.declared.object.ObjId.{ObjId}

-- what names mean, and which values sets and groups have
pub record Lookup : Type 0 where
  -- the port of this name
  pub port : List ℕ → Option ObjId
  -- whether the address set of this name has a value of this width
  pub in_set : List ℕ → ℕ → ℕ → Bool
  -- whether the port group of this name has the port
  pub in_group : List ℕ → ObjId → Bool
  -- whether this datapath is a switch
  pub is_switch : ObjId → Bool

-- Pairs of a port and an address, as keys.
use Rattle.std.specs.Prelude.{◌≡◌, Bool, true, ◌++◌}
use Rattle.std.proofs.Common.{ap}
use Rattle.std.proofs.lemmas.Bool.{and_parts}
use Rattle.std.specs.Hash.{HashWrites, u32}
use Rattle.nv_base.specs.inner.Exact as tells
use Rattle.ct_nbrs.specs.contracts.pair.PairPartialEq.TheImpl as pair_eq
use Rattle.ct_nbrs.specs.declared.pair.Pair.{Pair}

-- the derived `==`
abbrev pub pairs_equal : Pair → Pair → Bool
pairs_equal = (pair_eq.ghosts).eq

-- what a pair feeds a hasher
abbrev pub pair_writes : Pair → HashWrites
pair_writes p = u32 p.port.0 ++ u32 p.addr.0

-- pairs that are equal by `==` are one pair
pub pair_exact : (a b : Pair) → pairs_equal a b ≡ true → a ≡ b
pair_exact a b e =
    let parts = and_parts _ _ e in
    let port_is : a.port ≡ b.port = tells.object _ _ parts.0 in
    let addr_is : a.addr ≡ b.addr = tells.address _ _ parts.1 in
    λ i. record { port = port_is i; addr = addr_is i }

-- and feed it alike
pub pair_alike : (a b : Pair) → pairs_equal a b ≡ true → pair_writes a ≡ pair_writes b
pair_alike a b e = ap pair_writes (pair_exact a b e)

use Rattle.std.specs.Prelude.{ℕ}
use Rattle.nv_base.specs.declared.ip4.Ip4.{Ip4}

-- the addresses that begin as the base does, over so many bits
pub record Block : Type 0 where
  pub base : Ip4
  pub len : ℕ

-- The external addresses of a router, in whatever order and however often.
use Rattle.std.specs.Prelude.{◌≡◌, List}
use Rattle.nv_base.specs.declared.ip4.Ip4.{Ip4}
use Rattle.nv_base.specs.declared.object.ObjId.{ObjId}
use Rattle.nb_model.specs.Network.{Network}
use Rattle.nb_router.specs.Vocabulary.{external_addresses, is_address}

-- what is one of these is an external address of the router, and no other is
pub record AreExternal (net : Network) (router : ObjId) (addrs : List Ip4) : Type 0 where
  pub are : (addr : Ip4) → is_address addr addrs ≡ is_address addr (external_addresses net router)

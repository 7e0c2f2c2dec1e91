-- Hops that tell their ports by number.
use Rattle.net_router.specs.Routing as routing
use Rattle.net_choice.specs.declared.routes.Hop.{Hop}

-- a hop, its port told by number
abbrev pub numbered : routing.Hop → Hop
numbered hop = record { port = hop.port.id; via = hop.via; from = hop.from }

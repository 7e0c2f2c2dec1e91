-- The kinds of objects that commands name, and what a name of a kind is refused for.
use Rattle.std.specs.Prelude.{Bool, false, List, ℕ, Option, is_some}
use Rattle.nb_records.specs.declared.refusal.Refusal.{Refusal}
use Rattle.nb_model.specs.Network.{Network, switch_named, router_named, port_named, router_port_named, lb_named, set_named, group_named}
use Rattle.nb_model.specs.Tests.{wants}
use Rattle.nb_find.specs.declared.names.Wanted.{Wanted}
use Rattle.nb_find.specs.declared.names.Wanted.TheVariants.{Switch, Router, Port, RouterPort, Lb, Set, Group}

-- an object of the kind has the name
abbrev pub is_there : Wanted → Network → List ℕ → Bool
is_there Switch net name = is_some (switch_named net name)
is_there Router net name = is_some (router_named net name)
is_there Port net name = is_some (port_named net name)
is_there RouterPort net name = is_some (router_port_named net name)
is_there Lb net name = is_some (lb_named net name)
is_there Set net name = is_some (set_named net name)
is_there Group net name = is_some (group_named net name)

-- an object of the other kind that shares the names of this one has the name
abbrev pub is_other : Wanted → Network → List ℕ → Bool
is_other Switch net name = is_some (router_named net name)
is_other Router net name = is_some (switch_named net name)
is_other Port net name = is_some (router_port_named net name)
is_other RouterPort net name = is_some (port_named net name)
is_other Lb net name = false
is_other Set net name = false
is_other Group net name = false

-- an object of the kind has the name, else the refusal
abbrev pub wants_of : Wanted → Network → List ℕ → Option Refusal
wants_of kind net name = wants name (is_there kind net name) (is_other kind net name)

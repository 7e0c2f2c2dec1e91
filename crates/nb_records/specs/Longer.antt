-- Records of which one lists a number more than the other.
use Rattle.std.specs.Prelude.{ℕ, ◌+◌, ◌-◌, ◌==◌, ◌&&◌, nat_eq, nat_lt, not, Bool, false, List, length, take, drop, Option, None, Some, slice_get}
use Rattle.std.specs.Cmp.Lexicographic.{pointwise}
use Rattle.std.specs.List.{list_any}
use Rattle.nv_base.specs.declared.object.ObjId.{ObjId}
use Rattle.nb_records.specs.declared.router.Router.{Router}
use Rattle.nb_records.specs.declared.sets.Group.{Group}
use Rattle.nb_records.specs.declared.switch.Switch.{Switch}

-- whether two numbers are one
abbrev pub same_number : ObjId → ObjId → Bool
same_number a b = a.0 == b.0

-- whether a list is another one with this number more, which the other has not, at a place
abbrev pub has_more : Option ObjId → List ObjId → List ObjId → ℕ → Bool
has_more None long short at = false
has_more (Some number) long short at =
    (length long == length short + 1)
    && (pointwise same_number (take at long) (take at short) && (pointwise same_number (drop (at + 1) long) (drop at short) && not (list_any (same_number number) short)))

-- whether a list is another one with one number more, which the other has not, at a place
abbrev pub lists_more : List ObjId → List ObjId → ℕ → Bool
lists_more long short at = has_more (slice_get long at) long short at

-- the same of records with a name, whose tag comes first
abbrev pub named_longer : List ℕ → List ObjId → List ℕ → List ObjId → ℕ → Bool
named_longer name listed other others place = nat_lt 0 place && (pointwise nat_eq name other && lists_more listed others (place - 1))

-- whether a switch has the load balancers of another one of its name, and one more
abbrev pub switch_longer : Switch → Switch → ℕ → Bool
switch_longer a b place = named_longer a.name a.lbs b.name b.lbs place

-- the same of routers
abbrev pub router_longer : Router → Router → ℕ → Bool
router_longer a b place = named_longer a.name a.lbs b.name b.lbs place

-- whether a group has the ports of another one of its name, and one more
abbrev pub group_longer : Group → Group → ℕ → Bool
group_longer a b place = named_longer a.name a.ports b.name b.ports place

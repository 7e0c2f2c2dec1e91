-- A kind of records told once: its list in a network, the numbers of its records, and the network with another list.
use Rattle.std.proofs.Common.{◌≡◌, ℕ, zero, suc, List, [], ◌∷◌, ◌++◌, map, get_or, refl}
use Rattle.nv_base.specs.declared.object.ObjId.{ObjId}
use Rattle.nb_model.specs.Network.{Network, Acl, Lb, Binding, Nat, Route, Router, RouterPort, AddrSet, Group, Port, Switch}
use Rattle.nb_model.specs.Sound.{switch_ids, port_ids, router_ids, router_port_ids, route_ids, nat_ids, lb_ids, acl_ids, set_ids, group_ids, binding_ids}

-- the numbers of each kind, in the order in which `all_ids` has them
abbrev pub kinds : Network → List (List ObjId)
kinds net =
    switch_ids net ∷ port_ids net ∷ router_ids net ∷ router_port_ids net ∷ route_ids net ∷ nat_ids net ∷ lb_ids net ∷ acl_ids net ∷ set_ids net ∷ group_ids net ∷ binding_ids net ∷ []

-- lists one after the other: those of all kinds are `all_ids`
abbrev pub joined : {X : Type 0} → List (List X) → List X
joined [] = []
joined (xs ∷ []) = xs
joined (xs ∷ ys ∷ more) = xs ++ joined (ys ∷ more)

-- another one in this place
abbrev pub put_in : {X : Type 0} → ℕ → X → List X → List X
put_in k y [] = []
put_in zero y (x ∷ xs) = y ∷ xs
put_in (suc k) y (x ∷ xs) = x ∷ put_in k y xs

-- A kind of records: its list, the network with another list and next number, a record's number, and the kind's place among `kinds`.
pub record KindOf (X : Type 0) : Type 0 where
  pub list : Network → List X
  pub with_list : List X → ℕ → Network → Network
  pub number : X → ObjId
  pub place : ℕ
  pub read : (net : Network) → get_or (kinds net) place [] ≡ map number (list net)
  pub put : (xs : List X) (after : ℕ) (net : Network) → kinds (with_list xs after net) ≡ put_in place (map number xs) (kinds net)
  pub draws : (xs : List X) (after : ℕ) (net : Network) → (with_list xs after net).next ≡ after

abbrev pub switches : KindOf Switch
switches = record { list = λ net. net.switches; with_list = λ xs after net. record net { switches = xs; next = after }; number = λ x. x.id; place = 0; read = λ net. refl; put = λ xs after net. refl; draws = λ xs after net. refl }

abbrev pub ports : KindOf Port
ports = record { list = λ net. net.ports; with_list = λ xs after net. record net { ports = xs; next = after }; number = λ x. x.id; place = 1; read = λ net. refl; put = λ xs after net. refl; draws = λ xs after net. refl }

abbrev pub routers : KindOf Router
routers = record { list = λ net. net.routers; with_list = λ xs after net. record net { routers = xs; next = after }; number = λ x. x.id; place = 2; read = λ net. refl; put = λ xs after net. refl; draws = λ xs after net. refl }

abbrev pub router_ports : KindOf RouterPort
router_ports = record { list = λ net. net.router_ports; with_list = λ xs after net. record net { router_ports = xs; next = after }; number = λ x. x.id; place = 3; read = λ net. refl; put = λ xs after net. refl; draws = λ xs after net. refl }

abbrev pub routes : KindOf Route
routes = record { list = λ net. net.routes; with_list = λ xs after net. record net { routes = xs; next = after }; number = λ x. x.id; place = 4; read = λ net. refl; put = λ xs after net. refl; draws = λ xs after net. refl }

abbrev pub nats : KindOf Nat
nats = record { list = λ net. net.nats; with_list = λ xs after net. record net { nats = xs; next = after }; number = λ x. x.id; place = 5; read = λ net. refl; put = λ xs after net. refl; draws = λ xs after net. refl }

abbrev pub lbs : KindOf Lb
lbs = record { list = λ net. net.lbs; with_list = λ xs after net. record net { lbs = xs; next = after }; number = λ x. x.id; place = 6; read = λ net. refl; put = λ xs after net. refl; draws = λ xs after net. refl }

abbrev pub acls : KindOf Acl
acls = record { list = λ net. net.acls; with_list = λ xs after net. record net { acls = xs; next = after }; number = λ x. x.id; place = 7; read = λ net. refl; put = λ xs after net. refl; draws = λ xs after net. refl }

abbrev pub sets : KindOf AddrSet
sets = record { list = λ net. net.sets; with_list = λ xs after net. record net { sets = xs; next = after }; number = λ x. x.id; place = 8; read = λ net. refl; put = λ xs after net. refl; draws = λ xs after net. refl }

abbrev pub groups : KindOf Group
groups = record { list = λ net. net.groups; with_list = λ xs after net. record net { groups = xs; next = after }; number = λ x. x.id; place = 9; read = λ net. refl; put = λ xs after net. refl; draws = λ xs after net. refl }

abbrev pub bindings : KindOf Binding
bindings = record { list = λ net. net.bindings; with_list = λ xs after net. record net { bindings = xs; next = after }; number = λ x. x.id; place = 10; read = λ net. refl; put = λ xs after net. refl; draws = λ xs after net. refl }

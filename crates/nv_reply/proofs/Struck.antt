-- Striking out one by one the objects that are gone is striking out what is gone.
use Rattle.std.proofs.Common.{◌≡◌, ◌==◌, Bool, true, false, cond, not, ◌&&◌, ◌||◌, List, [], ◌∷◌, refl, sym, ap, ◌∙◌}
use Rattle.std.specs.Prelude.{filter}
use Rattle.nv_base.specs.declared.object.ObjId.{ObjId}
use Rattle.ct_core.specs.declared.entry.Entry.{Entry}
use Rattle.ct_core.specs.declared.neighbour.Neighbour.{Neighbour}
use Rattle.ct_core.specs.declared.zone.Zone.{Zone}
use Rattle.ct_core.specs.declared.zone.Zone.TheVariants.{Port, Dnat, Snat}
use Rattle.ct_core.specs.Changes.{without_zone}
use Rattle.ct_core.specs.Entry.{is_in, same_zone}
use Rattle.ct_core.specs.Neighbours.{without_port}
use Rattle.ct_core.specs.State.{State}
use Rattle.nb_model.specs.Belongs.{is_among}
use Rattle.nb_model.specs.Network.{Network}
use Rattle.nb_model.specs.Sound.{port_ids, router_ids, router_port_ids}
use Rattle.nb_check.specs.Gone.{is_gone}
use Rattle.nb_check.specs.declared.changes.GoneObjects.{GoneObjects}
use Rattle.nv_reply.specs.Struck.{is_zone_gone, struck}
use Rattle.nv_reply.specs.inner.StruckObjects.{struck_objects, struck_ports, struck_router_ports, struck_routers}

-- ---- filters

-- a filter after another one
filter_both : {X : Type 0} (p q : X → Bool) (xs : List X) → filter q (filter p xs) ≡ filter (λ x. p x && q x) xs
filter_both p q [] = refl
filter_both {X} p q (x ∷ xs) = by (p x) (filter_both p q xs)
  where
    by : (b : Bool) → filter q (filter p xs) ≡ filter (λ y. p y && q y) xs → filter q (cond b (x ∷ filter p xs) (filter p xs)) ≡ cond (b && q x) (x ∷ filter (λ y. p y && q y) xs) (filter (λ y. p y && q y) xs)
    by true rest = ap (λ others. cond (q x) (x ∷ others) others) rest
    by false rest = rest

-- equal tests
filter_same : {X : Type 0} (p q : X → Bool) → ((x : X) → p x ≡ q x) → (xs : List X) → filter p xs ≡ filter q xs
filter_same p q same [] = refl
filter_same {X} p q same (x ∷ xs) =
    ap (λ b. cond b (x ∷ filter p xs) (filter p xs)) (same x) ∙ ap (λ others. cond (q x) (x ∷ others) others) (filter_same p q same xs)

-- a test that all pass
filter_all : {X : Type 0} (p : X → Bool) → ((x : X) → p x ≡ true) → (xs : List X) → filter p xs ≡ xs
filter_all p passes [] = refl
filter_all p passes (x ∷ xs) = ap (λ b. cond b (x ∷ filter p xs) (filter p xs)) (passes x) ∙ ap (λ others. x ∷ others) (filter_all p passes xs)

-- two filters are a third
filter_twice : {X : Type 0} (p q r : X → Bool) → ((x : X) → (p x && q x) ≡ r x) → (xs : List X) → filter q (filter p xs) ≡ filter r xs
filter_twice p q r is xs = filter_both p q xs ∙ filter_same (λ x. p x && q x) r is xs

neither : (a b : Bool) → (not a && not b) ≡ not (a || b)
neither true b = refl
neither false b = refl

and_true : (a : Bool) → (a && true) ≡ a
and_true true = refl
and_true false = refl

-- ---- ports of switches

-- the zone of one of these ports
abbrev in_ports : List ObjId → Zone → Bool
in_ports ports (Port number) = is_among number ports
in_ports ports (Dnat number) = false
in_ports ports (Snat number) = false

no_ports : (zone : Zone) → not (in_ports [] zone) ≡ true
no_ports (Port number) = refl
no_ports (Dnat number) = refl
no_ports (Snat number) = refl

one_port : (port : ObjId) (ports : List ObjId) (zone : Zone) → (not (same_zone zone (Port port)) && not (in_ports ports zone)) ≡ not (in_ports (port ∷ ports) zone)
one_port port ports (Port number) = neither (number.0 == port.0) (is_among number ports)
one_port port ports (Dnat number) = refl
one_port port ports (Snat number) = refl

-- one by one is all at once
abbrev without_ports : List ObjId → List Entry → List Entry
without_ports ports conns = filter (λ (e : Entry). not (in_ports ports e.zone)) conns

all_ports : (ports : List ObjId) (state : State) → struck_ports ports state ≡ record { conns = without_ports ports state.conns; nbrs = state.nbrs }
all_ports [] state = ap (λ (all : List Entry). record state { conns = all }) (sym (filter_all (λ (e : Entry). not (in_ports [] e.zone)) (λ e. no_ports e.zone) state.conns))
all_ports (port ∷ ports) state =
    all_ports ports (record state { conns = without_zone (Port port) state.conns })
    ∙ ap (λ (all : List Entry). record state { conns = all })
    (filter_twice (λ (e : Entry). not (is_in (Port port) e)) (λ (e : Entry). not (in_ports ports e.zone)) (λ (e : Entry). not (in_ports (port ∷ ports) e.zone)) (λ e. one_port port ports e.zone) state.conns)

-- ---- routers

-- a zone of one of these routers
abbrev in_routers : List ObjId → Zone → Bool
in_routers routers (Port number) = false
in_routers routers (Dnat number) = is_among number routers
in_routers routers (Snat number) = is_among number routers

no_routers : (zone : Zone) → not (in_routers [] zone) ≡ true
no_routers (Port number) = refl
no_routers (Dnat number) = refl
no_routers (Snat number) = refl

-- it is of neither zone of one router, and of none of the others
one_router : (router : ObjId) (routers : List ObjId) (zone : Zone)
    → (not (same_zone zone (Dnat router)) && (not (same_zone zone (Snat router)) && not (in_routers routers zone))) ≡ not (in_routers (router ∷ routers) zone)
one_router router routers (Port number) = refl
one_router router routers (Dnat number) = neither (number.0 == router.0) (is_among number routers)
one_router router routers (Snat number) = neither (number.0 == router.0) (is_among number routers)

abbrev without_routers : List ObjId → List Entry → List Entry
without_routers routers conns = filter (λ (e : Entry). not (in_routers routers e.zone)) conns

all_routers : (routers : List ObjId) (state : State) → struck_routers routers state ≡ record { conns = without_routers routers state.conns; nbrs = state.nbrs }
all_routers [] state = ap (λ (all : List Entry). record state { conns = all }) (sym (filter_all (λ (e : Entry). not (in_routers [] e.zone)) (λ e. no_routers e.zone) state.conns))
all_routers (router ∷ routers) state =
    all_routers routers (record state { conns = without_zone (Snat router) (without_zone (Dnat router) state.conns) })
    ∙ ap (λ (all : List Entry). record state { conns = all })
    (filter_both (λ (e : Entry). not (is_in (Snat router) e)) (λ (e : Entry). not (in_routers routers e.zone)) (without_zone (Dnat router) state.conns)
    ∙ filter_twice (λ (e : Entry). not (is_in (Dnat router) e)) (λ (e : Entry). not (is_in (Snat router) e) && not (in_routers routers e.zone))
    (λ (e : Entry). not (in_routers (router ∷ routers) e.zone)) (λ e. one_router router routers e.zone) state.conns)

-- ---- ports of routers

abbrev unknown : List ObjId → List Neighbour → List Neighbour
unknown ports nbrs = filter (λ (n : Neighbour). not (is_among n.port ports)) nbrs

all_router_ports : (ports : List ObjId) (state : State) → struck_router_ports ports state ≡ record { conns = state.conns; nbrs = unknown ports state.nbrs }
all_router_ports [] state = ap (λ (all : List Neighbour). record state { nbrs = all }) (sym (filter_all (λ (n : Neighbour). not (is_among n.port [])) (λ n. refl) state.nbrs))
all_router_ports (port ∷ ports) state =
    all_router_ports ports (record state { nbrs = without_port port state.nbrs })
    ∙ ap (λ (all : List Neighbour). record state { nbrs = all })
    (filter_twice (λ (n : Neighbour). not (n.port.0 == port.0)) (λ (n : Neighbour). not (is_among n.port ports)) (λ (n : Neighbour). not (is_among n.port (port ∷ ports)))
    (λ n. neither (n.port.0 == port.0) (is_among n.port ports)) state.nbrs)

-- ---- what is struck out

-- all of them, one by one
one_by_one : (gone : GoneObjects) (state : State)
    → struck_objects gone state ≡ record { conns = without_routers gone.routers (without_ports gone.ports state.conns); nbrs = unknown gone.router_ports state.nbrs }
one_by_one gone state =
    ap (λ (one : State). struck_router_ports gone.router_ports (struck_routers gone.routers one)) (all_ports gone.ports state)
    ∙ ap (struck_router_ports gone.router_ports) (all_routers gone.routers (record { conns = without_ports gone.ports state.conns; nbrs = state.nbrs }))
    ∙ all_router_ports gone.router_ports (record { conns = without_routers gone.routers (without_ports gone.ports state.conns); nbrs = state.nbrs })

pub struck_after : (old new : Network) (gone : GoneObjects) (state : State) → ((number : ObjId) → is_among number gone.ports ≡ is_gone (port_ids old) (port_ids new) number)
    → ((number : ObjId) → is_among number gone.router_ports ≡ is_gone (router_port_ids old) (router_port_ids new) number)
    → ((number : ObjId) → is_among number gone.routers ≡ is_gone (router_ids old) (router_ids new) number) → struck_objects gone state ≡ struck old new state
struck_after old new gone state ports router_ports routers =
    one_by_one gone state
    ∙ ap (λ (all : List Entry). record { conns = all; nbrs = unknown gone.router_ports state.nbrs })
    (filter_twice (λ (e : Entry). not (in_ports gone.ports e.zone)) (λ (e : Entry). not (in_routers gone.routers e.zone)) (λ (e : Entry). not (is_zone_gone old new e.zone)) (λ e. zone_is e.zone) state.conns)
    ∙ ap (λ (all : List Neighbour). record { conns = filter (λ (e : Entry). not (is_zone_gone old new e.zone)) state.conns; nbrs = all })
    (filter_same (λ (n : Neighbour). not (is_among n.port gone.router_ports)) (λ (n : Neighbour). not (is_gone (router_port_ids old) (router_port_ids new) n.port))
    (λ n. ap not (router_ports n.port)) state.nbrs)
  where
    zone_is : (zone : Zone) → (not (in_ports gone.ports zone) && not (in_routers gone.routers zone)) ≡ not (is_zone_gone old new zone)
    zone_is (Port number) = and_true (not (is_among number gone.ports)) ∙ ap not (ports number)
    zone_is (Dnat number) = ap not (routers number)
    zone_is (Snat number) = ap not (routers number)

-- By which port a static route leaves: the rows and the meaning find the same one, and the same address of it.
use Rattle.std.proofs.Common.{◌≡◌, ℕ, Bool, true, false, cond, List, [], ◌∷◌, map, sym, ap, refl, ◌∙◌, subst}
use Rattle.std.specs.Prelude.{◌&&◌, not, Option, Some, None, filter, option_map, slice_get}
use Rattle.std.specs.Bool.{IsTrue}
use Rattle.std.specs.List.{find, list_all}
use Rattle.std.specs.Option.{option_map_or}
use Rattle.std.specs.Str.{bytes_eq}
use Rattle.std.proofs.lemmas.Bool.{false≢true, and_parts, not-true}
use Rattle.std.proofs.lemmas.Slice.Eq.{bytes_eq-Decides}
use Rattle.nv_base.specs.Block.{Block}
use Rattle.nv_base.specs.Ip4.{address}
use Rattle.nv_base.specs.declared.ip4.Ip4.{Ip4}
use Rattle.nv_base.specs.declared.object.ObjId.{ObjId}
use Rattle.nb_records.specs.declared.router.Route.{Route}
use Rattle.nb_records.specs.declared.router.RouterPort.{RouterPort}
use Rattle.nb_records.specs.declared.switch.Port.{Port}
use Rattle.nb_model.specs.Belongs.{either}
use Rattle.nb_model.specs.Network.{Network, same}
use Rattle.nb_model.specs.Readable.{are_apart}
use Rattle.nb_model.specs.Sound.{IsSound}
use Rattle.net_router.specs.Input.{first_address, is_in_network}
use Rattle.net_router.specs.Routing as meaning
use Rattle.net_router.specs.Routing.{asking, is_exit}
use Rattle.lr_rows.specs.declared.inputs.Exit.{Exit}
use Rattle.lr_units.specs.Words as words
use Rattle.lr_units.specs.Words.{by_port, exit_by, if_of, port_towards}
use Rattle.lr_laws.proofs.PortRules.{HasNet}
use Rattle.lr_laws.proofs.Ports.{apart_after}

-- the first among those that pass another test
pub find_filter : {X : Type 0} (q p : X → Bool) (xs : List X) → find p (filter q xs) ≡ find (λ x. q x && p x) xs
find_filter q p [] = refl
find_filter {X} q p (x ∷ xs) = by (q x) (find_filter q p xs)
  where
    by : (b : Bool) → find p (filter q xs) ≡ find (λ y. q y && p y) xs → find p (cond b (x ∷ filter q xs) (filter q xs)) ≡ cond (b && p x) (Some x) (find (λ y. q y && p y) xs)
    by true rest = ap (λ o. cond (p x) (Some x) o) rest
    by false rest = rest

-- ---- the port

module _ (router : ObjId) (name : List ℕ) where
  abbrev its : RouterPort → Bool
  its port = same router port.router && bytes_eq port.name name

  abbrev names_of : List RouterPort → List (List ℕ)
  names_of ports = map (λ (p : RouterPort). p.name) ports

  and_false : (a : Bool) → (a && false) ≡ false
  and_false true = refl
  and_false false = refl

  -- where another has the name, none of these has
  none_named : (own : List ℕ) → bytes_eq own name ≡ true → (ports : List RouterPort) → IsTrue (list_all (λ n. not (bytes_eq own n)) (names_of ports)) → find its ports ≡ None
  none_named own is [] others = refl
  none_named own is (p ∷ ports) others =
      let parts = and_parts (not (bytes_eq own p.name)) (list_all (λ n. not (bytes_eq own n)) (names_of ports)) others in
      let unlike : bytes_eq p.name name ≡ false = by (bytes_eq p.name name) refl (not-true (bytes_eq own p.name) parts.0) in
      rw (unlike, and_false (same router p.router)) (none_named own is ports parts.1)
    where
      by : (b : Bool) → bytes_eq p.name name ≡ b → bytes_eq own p.name ≡ false → b ≡ false
      by false e unlike = refl
      by true e unlike =
          absurd (false≢true (sym unlike ∙ (bytes_eq-Decides own p.name).1 ((bytes_eq-Decides own name).0 is ∙ sym ((bytes_eq-Decides p.name name).0 e))))

  named_alike : (ports : List RouterPort) → IsTrue (are_apart bytes_eq (names_of ports)) → if_of router (find (λ (p : RouterPort). bytes_eq p.name name) ports) ≡ find its ports
  named_alike [] apart = refl
  named_alike (p ∷ ports) apart = by (bytes_eq p.name name) refl (same router p.router) refl (named_alike ports parts.1)
    where
      parts : IsTrue (list_all (λ n. not (bytes_eq p.name n)) (names_of ports)) × IsTrue (are_apart bytes_eq (names_of ports))
      parts = and_parts (list_all (λ n. not (bytes_eq p.name n)) (names_of ports)) (are_apart bytes_eq (names_of ports)) apart

      by : (b : Bool) → bytes_eq p.name name ≡ b → (s : Bool) → same router p.router ≡ s → if_of router (find (λ (q : RouterPort). bytes_eq q.name name) ports) ≡ find its ports
          → if_of router (cond b (Some p) (find (λ (q : RouterPort). bytes_eq q.name name) ports)) ≡ cond (s && b) (Some p) (find its ports)
      by true named true own rest = rw own refl
      by true named false own rest = rw own (sym (none_named p.name named ports parts.0))
      by false named true own rest = rest
      by false named false own rest = rest

module _ (net : Network) (sound : IsSound net) (route : Route) where
  pub same_exit : port_towards net route.router route.nexthop route.port ≡ meaning.exit_of net route
  same_exit = by route.port
    where
      apart : IsTrue (are_apart bytes_eq (map (λ (p : RouterPort). p.name) net.router_ports))
      apart = apart_after (map (λ (p : Port). p.name) net.ports) (map (λ (p : RouterPort). p.name) net.router_ports) sound.named.ports

      by : (asked : Option (List ℕ)) → port_towards net route.router route.nexthop asked ≡ find (is_exit route asked) (filter (λ (p : RouterPort). same route.router p.router) net.router_ports)
      by None = sym (find_filter (λ (p : RouterPort). same route.router p.router) (is_exit route None) net.router_ports)
      by (Some name) = named_alike route.router name net.router_ports apart ∙ sym (find_filter (λ (p : RouterPort). same route.router p.router) (is_exit route (Some name)) net.router_ports)

-- ---- its address

-- by which a packet leaves
abbrev pub exit_of : RouterPort → Ip4 → Exit
exit_of port from = record { name = port.name; mac = port.mac; addr = from }

pub exit_is : (port : RouterPort) → HasNet port.nets → (nexthop : Ip4) → exit_by nexthop port ≡ Some (exit_of port (asking port nexthop))
exit_is port nets nexthop = by (find (is_in_network nexthop.0) port.nets)
  where
    of_first : (ns : List Block) → HasNet ns → option_map (λ (own : Block). exit_of port own.base) (slice_get ns 0) ≡ Some (exit_of port (option_map_or (λ (own : Block). own.base) (slice_get ns 0) (address 0)))
    of_first ns has = subst (λ (ms : List Block). option_map (λ (own : Block). exit_of port own.base) (slice_get ms 0) ≡ Some (exit_of port (option_map_or (λ (own : Block). own.base) (slice_get ms 0) (address 0)))) (sym has.are) refl

    by : (found : Option Block) → option_map (λ (own : Block). exit_of port own.base) (either found (slice_get port.nets 0)) ≡ Some (exit_of port (option_map_or (λ (own : Block). own.base) found (first_address port)))
    by (Some own) = refl
    by None = of_first port.nets nets

module _ (net : Network) (sound : IsSound net) (route : Route) where
  -- where the meaning finds a port, the rows leave by it
  pub exit-from : (port : RouterPort) → HasNet port.nets → meaning.exit_of net route ≡ Some port → words.exit_of net route ≡ Some (exit_of port (asking port route.nexthop))
  exit-from port nets found = ap (by_port route.nexthop) (same_exit net sound route ∙ found) ∙ exit_is port nets route.nexthop

  -- and where it finds none, they have none
  pub exit-none : meaning.exit_of net route ≡ None → words.exit_of net route ≡ None
  exit-none none = ap (by_port route.nexthop) (same_exit net sound route ∙ none)

-- Names stay apart.
use Rattle.std.proofs.Common.{◌≡◌, ℕ, ◌&&◌, Bool, not, None, Option, List, [], ◌∷◌, ◌++◌, map, refl, sym, subst, append_assoc}
use Rattle.std.specs.Prelude.{find}
use Rattle.std.specs.Bool.{IsTrue}
use Rattle.std.specs.List.{list_all, list_any}
use Rattle.std.specs.Str.{bytes_eq}
use Rattle.std.proofs.lemmas.List.{map-append}
use Rattle.nv_base.specs.declared.object.ObjId.{ObjId}
use Rattle.nb_model.specs.Effect.{each_where, without, without_ports, without_router_ports, without_lb, delete_switch, set_port, delete_router, set_switch_lbs, set_router_lbs}
use Rattle.nb_model.specs.Belongs.{is_number}
use Rattle.nb_model.specs.Network.{Network, same, switch_id, router_id, Lb, Router, RouterPort, AddrSet, Group, Port, Switch}
use Rattle.nb_model.specs.Readable.{are_apart}
use Rattle.nb_model.specs.Sound.{AreNamed}
use Rattle.nb_model.proofs.Alike.{names_sym}
use Rattle.nb_model.proofs.Lists.{map_changed, map_changed_where}
use Rattle.nb_model.proofs.RecordLists.{all_as, all_keys, all_append, none_found, apart_push, apart_between, apart_filter_first, apart_filter_rest}

-- No name is that one.
abbrev pub IsNew : List ℕ → List (List ℕ) → Type 0
IsNew name names = IsTrue (list_all (λ other. not (bytes_eq other name)) names)

-- a name that is not found is new
pub new_name : {X : Type 0} (name_of : X → List ℕ) (xs : List X) (name : List ℕ) → find (λ x. bytes_eq (name_of x) name) xs ≡ None → IsNew name (map name_of xs)
new_name name_of xs name none = all_keys (λ other. not (bytes_eq other name)) name_of xs (none_found (λ x. bytes_eq (name_of x) name) xs none)

-- one more name, of the first of two kinds
pub push_first : {X : Type 0} (name_of : X → List ℕ) (xs : List X) (others : List (List ℕ)) (x : X)
    → IsTrue (are_apart bytes_eq (map name_of xs ++ others)) → IsNew (name_of x) (map name_of xs) → IsNew (name_of x) others → IsTrue (are_apart bytes_eq (map name_of (xs ++ x ∷ []) ++ others))
push_first name_of xs others x apart new free =
    subst (λ names. IsTrue (are_apart bytes_eq (names ++ others))) (sym (map-append name_of xs (x ∷ [])))
    (apart_between bytes_eq (map name_of xs) others (name_of x) apart new
    (all_as (λ other. not (bytes_eq other (name_of x))) (λ other. not (bytes_eq (name_of x) other)) others (λ other is. subst (λ it. IsTrue (not it)) (names_sym other (name_of x)) is) free))

-- and of the second
pub push_second : {X : Type 0} (name_of : X → List ℕ) (others : List (List ℕ)) (xs : List X) (x : X)
    → IsTrue (are_apart bytes_eq (others ++ map name_of xs)) → IsNew (name_of x) others → IsNew (name_of x) (map name_of xs) → IsTrue (are_apart bytes_eq (others ++ map name_of (xs ++ x ∷ [])))
push_second name_of others xs x apart free new =
    subst (λ names. IsTrue (are_apart bytes_eq (others ++ names))) (sym (map-append name_of xs (x ∷ [])))
    (subst (λ names. IsTrue (are_apart bytes_eq names)) (append_assoc others (map name_of xs) (name_of x ∷ []))
    (apart_push bytes_eq (others ++ map name_of xs) (name_of x) apart (all_append (λ other. not (bytes_eq other (name_of x))) others (map name_of xs) free new)))

-- the names of each kind
abbrev pub of_switch : Switch → List ℕ
of_switch x = x.name

abbrev pub of_router : Router → List ℕ
of_router x = x.name

abbrev pub of_port : Port → List ℕ
of_port x = x.name

abbrev pub of_router_port : RouterPort → List ℕ
of_router_port x = x.name

abbrev pub of_lb : Lb → List ℕ
of_lb x = x.name

abbrev pub of_set : AddrSet → List ℕ
of_set x = x.name

abbrev pub of_group : Group → List ℕ
of_group x = x.name

-- the names of each kind are those of another network
pub record HaveNames (net other : Network) : Type 0 where
  pub switches : map of_switch net.switches ≡ map of_switch other.switches
  pub routers : map of_router net.routers ≡ map of_router other.routers
  pub ports : map of_port net.ports ≡ map of_port other.ports
  pub router_ports : map of_router_port net.router_ports ≡ map of_router_port other.router_ports
  pub lbs : map of_lb net.lbs ≡ map of_lb other.lbs
  pub sets : map of_set net.sets ≡ map of_set other.sets
  pub groups : map of_group net.groups ≡ map of_group other.groups

abbrev AreApart : List (List ℕ) → Type 0
AreApart names = IsTrue (are_apart bytes_eq names)

pub same_names : (net other : Network) → HaveNames net other → AreNamed other → AreNamed net
same_names net other same before = record {
  datapaths = subst AreApart (sym (λ i. same.switches i ++ same.routers i)) before.datapaths;
  ports = subst AreApart (sym (λ i. same.ports i ++ same.router_ports i)) before.ports;
  lbs = subst AreApart (sym same.lbs) before.lbs;
  sets = subst AreApart (sym same.sets) before.sets;
  groups = subst AreApart (sym same.groups) before.groups;
}

-- Some go, or change and keep their names.

module _ (net : Network) (before : AreNamed net) where
  pub without_ports_named : (gone : Port → Bool) → AreNamed (without_ports gone net)
  without_ports_named gone =
      let leave : Group → Group = λ group. record group { ports = without (λ number. list_any (λ port. same port.id number && gone port) net.ports) group.ports } in
      let groups = same_names (record net { groups = map leave net.groups }) net (assumption (map_changed of_group leave net.groups (λ x. refl))) before in
      assumption (apart_filter_first bytes_eq of_port (λ x. not (gone x)) net.ports (map of_router_port net.router_ports) before.ports, groups)

  pub without_router_ports_named : (gone : RouterPort → Bool) → AreNamed (without_router_ports gone net)
  without_router_ports_named gone = assumption (apart_filter_rest bytes_eq of_router_port (λ x. not (gone x)) (map of_port net.ports) net.router_ports before.ports)

  pub without_lb_named : (number : Option ObjId) → AreNamed (without_lb number net)
  without_lb_named number =
      let of_datapaths = same_names (record (without_lb number net) { lbs = net.lbs }) net (assumption (
        map_changed of_switch (λ switch. record switch { lbs = without (is_number number) switch.lbs }) net.switches (λ x. refl),
        map_changed of_router (λ router. record router { lbs = without (is_number number) router.lbs }) net.routers (λ x. refl),
      )) before in
      assumption (apart_filter_rest bytes_eq of_lb (λ lb. not (is_number number lb.id)) [] net.lbs before.lbs, of_datapaths)

  pub delete_switch_named : (name : List ℕ) → AreNamed (delete_switch net name)
  delete_switch_named name =
      let inner = without_ports_named (λ port. is_number (switch_id net name) port.switch) in
      assumption (apart_filter_first bytes_eq of_switch (λ switch. not (is_number (switch_id net name) switch.id)) net.switches (map of_router net.routers) before.datapaths)

  pub delete_router_named : (name : List ℕ) → AreNamed (delete_router net name)
  delete_router_named name =
      let inner = without_router_ports_named (λ port. is_number (router_id net name) port.router) in
      assumption (apart_filter_rest bytes_eq of_router (λ router. not (is_number (router_id net name) router.id)) (map of_switch net.switches) net.routers before.datapaths)

  pub set_port_named : (name : List ℕ) (change : Port → Port) → ((p : Port) → of_port (change p) ≡ of_port p) → AreNamed (set_port net name change)
  set_port_named name change keeps = same_names _ net (assumption (map_changed_where of_port (λ port. bytes_eq port.name name) change net.ports keeps)) before

  pub set_lb_named : (holds : Lb → Bool) (change : Lb → Lb) → ((lb : Lb) → of_lb (change lb) ≡ of_lb lb) → AreNamed (record net { lbs = each_where holds change net.lbs })
  set_lb_named holds change keeps = same_names _ net (assumption (map_changed_where of_lb holds change net.lbs keeps)) before

  pub set_switch_lbs_named : (name : List ℕ) (change : List ObjId → List ObjId) → AreNamed (set_switch_lbs net name change)
  set_switch_lbs_named name change =
      same_names _ net (assumption (map_changed_where of_switch (λ switch. bytes_eq switch.name name) (λ switch. record switch { lbs = change switch.lbs }) net.switches (λ x. refl))) before

  pub set_router_lbs_named : (name : List ℕ) (change : List ObjId → List ObjId) → AreNamed (set_router_lbs net name change)
  set_router_lbs_named name change =
      same_names _ net (assumption (map_changed_where of_router (λ router. bytes_eq router.name name) (λ router. record router { lbs = change router.lbs }) net.routers (λ x. refl))) before

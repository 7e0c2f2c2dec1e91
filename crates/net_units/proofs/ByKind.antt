-- The rows of a network by the kinds of its units are its rows object by object, in another order.
use Rattle.std.proofs.Common.{◌≡◌, Bool, true, false, List, [], ◌∷◌, ◌++◌, map, sym, ap, refl, ◌∙◌, subst, append_assoc}
use Rattle.std.specs.Prelude.{◌↔◌, if◌then◌else◌, ⊤, IsPermutation}
use Rattle.std.specs.List.{Contains, filter, flat_map}
use Rattle.std.proofs.lemmas.List.Sorted.{Contains-permutation, IsPermutation-append, IsPermutation-append_comm, IsPermutation-append_left, IsPermutation-append_right, IsPermutation-refl, IsPermutation-sym, IsPermutation-trans}
use Rattle.nv_base.specs.declared.object.ObjId.{ObjId}
use Rattle.nb_records.specs.declared.acl.Acl.{Acl}
use Rattle.nb_records.specs.declared.balancer.Lb.{Lb}
use Rattle.nb_records.specs.declared.balancer.Vip.{Vip}
use Rattle.nb_records.specs.declared.switch.Port.{Port}
use Rattle.nb_records.specs.declared.switch.Switch.{Switch}
use Rattle.nb_model.specs.Applies.{lbs_on, switches_of_acl}
use Rattle.nb_model.specs.Network.{Network}
use Rattle.sb_model.specs.declared.row.Row.{Row}
use Rattle.net_rows.specs.Acls.{acl_on_rules, port_acl_rules, switch_acl_rules}
use Rattle.net_rows.specs.Build as build
use Rattle.net_rows.specs.LoadBalancers.{switch_lb_rules, vip_switch_rules}
use Rattle.net_rows.specs.Lookup.{port_l2_rules, switch_l2_rules}
use Rattle.net_rows.specs.PortSecurity.{port_sec_rules, switch_sec_rules}
use Rattle.net_rows.specs.Unit.{said_by, unit_of, unit_of_datapath}
use Rattle.net_rows.specs.declared.rule.Rule.{Rule}
use Rattle.net_rows.specs.declared.rule.Unit.{Unit}
use Rattle.lr_units.specs.Build.{router_rows}
use Rattle.lr_units.specs.Network.{rows_of_units}
use Rattle.net_units.specs.Build.{acl_on_rows, port_acl_rows, port_l2_rows, port_sec_rows, rows_by_kind, rows_of_ports, rows_of_switches, switch_acl_rows, switch_l2_rows, switch_lb_rows, switch_sec_rows, vip_switch_rows}

-- ---- lists of the same elements

in_order : {X : Type 0} (xs ys : List X) → xs ≡ ys → IsPermutation xs ys
in_order xs ys same = subst (IsPermutation xs) same (IsPermutation-refl xs)

-- the inner two of four change places
exchanged : {X : Type 0} (a b c d : List X) → IsPermutation ((a ++ b) ++ (c ++ d)) ((a ++ c) ++ (b ++ d))
exchanged a b c d =
    let inner : IsPermutation (b ++ (c ++ d)) (c ++ (b ++ d)) =
    subst (λ l. IsPermutation l (c ++ (b ++ d))) (append_assoc b c d) (subst (IsPermutation ((b ++ c) ++ d)) (append_assoc c b d) (IsPermutation-append_left d (b ++ c) (c ++ b) (IsPermutation-append_comm b c))) in
    subst (λ l. IsPermutation l ((a ++ c) ++ (b ++ d))) (sym (append_assoc a b (c ++ d)))
    (subst (IsPermutation (a ++ (b ++ (c ++ d)))) (sym (append_assoc a c (b ++ d))) (IsPermutation-append_right a (b ++ (c ++ d)) (c ++ (b ++ d)) inner))

-- what the elements of a list give in two parts is given part by part
part_by_part : {X Y : Type 0} (f g : X → List Y) (xs : List X) → IsPermutation (flat_map f xs ++ flat_map g xs) (flat_map (λ x. f x ++ g x) xs)
part_by_part f g [] = IsPermutation-refl []
part_by_part f g (x ∷ xs) =
    IsPermutation-trans ((f x ++ flat_map f xs) ++ (g x ++ flat_map g xs)) ((f x ++ g x) ++ (flat_map f xs ++ flat_map g xs)) ((f x ++ g x) ++ flat_map (λ y. f y ++ g y) xs)
    (exchanged (f x) (flat_map f xs) (g x) (flat_map g xs))
    (IsPermutation-append_right (f x ++ g x) (flat_map f xs ++ flat_map g xs) (flat_map (λ y. f y ++ g y) xs) (part_by_part f g xs))

-- ---- lists of lists, flattened

flat_of_map : {X Y Z : Type 0} (f : Y → List Z) (g : X → Y) (xs : List X) → flat_map f (map g xs) ≡ flat_map (λ x. f (g x)) xs
flat_of_map f g [] = refl
flat_of_map f g (x ∷ xs) = ap (λ rest. f (g x) ++ rest) (flat_of_map f g xs)

flat_append : {X Y : Type 0} (f : X → List Y) (xs ys : List X) → flat_map f (xs ++ ys) ≡ flat_map f xs ++ flat_map f ys
flat_append f [] ys = refl
flat_append f (x ∷ xs) ys = ap (λ rest. f x ++ rest) (flat_append f xs ys) ∙ sym (append_assoc (f x) (flat_map f xs) (flat_map f ys))

flat_of_flat : {X Y Z : Type 0} (f : Y → List Z) (g : X → List Y) (xs : List X) → flat_map f (flat_map g xs) ≡ flat_map (λ x. flat_map f (g x)) xs
flat_of_flat f g [] = refl
flat_of_flat f g (x ∷ xs) = flat_append f (g x) (flat_map g xs) ∙ ap (λ rest. flat_map f (g x) ++ rest) (flat_of_flat f g xs)

module _ {X Y : Type 0} where
  flat_alike : (f g : X → List Y) (xs : List X) → ((x : X) → f x ≡ g x) → flat_map f xs ≡ flat_map g xs
  flat_alike f g [] same = refl
  flat_alike f g (x ∷ xs) same = ap (λ first. first ++ flat_map f xs) (same x) ∙ ap (λ rest. g x ++ rest) (flat_alike f g xs same)

  -- of the elements that a filter keeps
  flat_kept : (test : X → Bool) (f : X → List Y) (xs : List X) → flat_map f (filter test xs) ≡ flat_map (λ x. if test x then f x else []) xs
  flat_kept test f [] = refl
  flat_kept test f (x ∷ xs) = by (test x) (flat_kept test f xs)
    where
      by : (keeps : Bool) → flat_map f (filter test xs) ≡ flat_map (λ x. if test x then f x else []) xs
          → flat_map f (if keeps then x ∷ filter test xs else filter test xs) ≡ (if keeps then f x else []) ++ flat_map (λ x. if test x then f x else []) xs
      by true rest = ap (λ rest. f x ++ rest) rest
      by false rest = rest

map_append : {X Y : Type 0} (f : X → Y) (xs ys : List X) → map f (xs ++ ys) ≡ map f xs ++ map f ys
map_append f [] ys = refl
map_append f (x ∷ xs) ys = ap (λ rest. f x ∷ rest) (map_append f xs ys)

said_append : (unit : Unit) (rules others : List Rule) → said_by unit (rules ++ others) ≡ said_by unit rules ++ said_by unit others
said_append unit rules others = map_append _ rules others

said_if : (unit : Unit) (is : Bool) (rules : List Rule) → said_by unit (if is then rules else []) ≡ (if is then said_by unit rules else [])
said_if unit true rules = refl
said_if unit false rules = refl

-- ---- kind by kind

module _ (net : Network) where
  -- of a switch in each of its four stages
  abbrev sec_of : Switch → List Row
  sec_of switch = said_by (unit_of_datapath switch.id) switch_sec_rules

  abbrev acl_of : Switch → List Row
  acl_of switch = said_by (unit_of_datapath switch.id) (switch_acl_rules (build.switch_acl_input net switch.id))

  abbrev lb_of : Switch → List Row
  lb_of switch = said_by (unit_of_datapath switch.id) switch_lb_rules

  abbrev l2_of : Switch → List Row
  l2_of switch = said_by (unit_of_datapath switch.id) (switch_l2_rules (build.switch_l2_input net switch.id))

  switch_is : (switch : Switch) → build.switch_rows net switch ≡ sec_of switch ++ (acl_of switch ++ (lb_of switch ++ l2_of switch))
  switch_is switch =
      unfold build.switch_rows in
      let unit = unit_of_datapath switch.id in
      let acl = switch_acl_rules (build.switch_acl_input net switch.id) in
      let l2 = switch_l2_rules (build.switch_l2_input net switch.id) in
      said_append unit switch_sec_rules (acl ++ (switch_lb_rules ++ l2))
      ∙ ap (λ rest. sec_of switch ++ rest) (said_append unit acl (switch_lb_rules ++ l2)
      ∙ ap (λ rest. acl_of switch ++ rest) (said_append unit switch_lb_rules l2))

  switches_permuted : IsPermutation (rows_of_switches net) (flat_map (build.switch_rows net) net.switches)
  switches_permuted =
      let one = flat_map (λ switch. lb_of switch ++ l2_of switch) net.switches in
      let two = flat_map (λ switch. acl_of switch ++ (lb_of switch ++ l2_of switch)) net.switches in
      let all = flat_map (λ switch. sec_of switch ++ (acl_of switch ++ (lb_of switch ++ l2_of switch))) net.switches in
      let sec_is : switch_sec_rows net ≡ flat_map sec_of net.switches = flat_of_map (λ (unit : ObjId × ⊤). said_by (unit_of_datapath unit.0) switch_sec_rules) _ net.switches in
      let acl_is : switch_acl_rows net ≡ flat_map acl_of net.switches = flat_of_map _ _ net.switches in
      let lb_is : switch_lb_rows net ≡ flat_map lb_of net.switches = flat_of_map (λ (unit : ObjId × ⊤). said_by (unit_of_datapath unit.0) switch_lb_rules) _ net.switches in
      let l2_is : switch_l2_rows net ≡ flat_map l2_of net.switches = flat_of_map _ _ net.switches in
      let last : IsPermutation (switch_lb_rows net ++ switch_l2_rows net) one =
      IsPermutation-trans (switch_lb_rows net ++ switch_l2_rows net) (flat_map lb_of net.switches ++ flat_map l2_of net.switches) one
      (IsPermutation-append (switch_lb_rows net) (flat_map lb_of net.switches) (switch_l2_rows net) (flat_map l2_of net.switches) (in_order (switch_lb_rows net) (flat_map lb_of net.switches) lb_is) (in_order (switch_l2_rows net) (flat_map l2_of net.switches) l2_is))
      (part_by_part lb_of l2_of net.switches) in
      let middle : IsPermutation (switch_acl_rows net ++ (switch_lb_rows net ++ switch_l2_rows net)) two =
      IsPermutation-trans (switch_acl_rows net ++ (switch_lb_rows net ++ switch_l2_rows net)) (flat_map acl_of net.switches ++ one) two
      (IsPermutation-append (switch_acl_rows net) (flat_map acl_of net.switches) (switch_lb_rows net ++ switch_l2_rows net) one (in_order (switch_acl_rows net) (flat_map acl_of net.switches) acl_is) last)
      (part_by_part acl_of (λ switch. lb_of switch ++ l2_of switch) net.switches) in
      let whole : IsPermutation (rows_of_switches net) all =
      IsPermutation-trans (rows_of_switches net) (flat_map sec_of net.switches ++ two) all
      (IsPermutation-append (switch_sec_rows net) (flat_map sec_of net.switches) (switch_acl_rows net ++ (switch_lb_rows net ++ switch_l2_rows net)) two (in_order (switch_sec_rows net) (flat_map sec_of net.switches) sec_is) middle)
      (part_by_part sec_of (λ switch. acl_of switch ++ (lb_of switch ++ l2_of switch)) net.switches) in
      subst (IsPermutation (rows_of_switches net)) (sym (flat_alike (build.switch_rows net) (λ switch. sec_of switch ++ (acl_of switch ++ (lb_of switch ++ l2_of switch))) net.switches switch_is)) whole

  -- of a port in each of its three
  abbrev port_sec_of : Port → List Row
  port_sec_of port = said_by (unit_of port.switch port.id) (port_sec_rules (build.port_sec_input port))

  abbrev port_acl_of : Port → List Row
  port_acl_of port = if build.is_untracked net port then said_by (unit_of port.switch port.id) (port_acl_rules (build.port_acl_input port)) else []

  abbrev port_l2_of : Port → List Row
  port_l2_of port = said_by (unit_of port.switch port.id) (port_l2_rules (build.port_l2_input net port))

  port_is : (port : Port) → build.port_rows net port ≡ port_sec_of port ++ (port_acl_of port ++ port_l2_of port)
  port_is port =
      unfold build.port_rows in
      let unit = unit_of port.switch port.id in
      let acl = build.acl_rules_of_port net port in
      let l2 = port_l2_rules (build.port_l2_input net port) in
      said_append unit (port_sec_rules (build.port_sec_input port)) (acl ++ l2)
      ∙ ap (λ rest. port_sec_of port ++ rest) (said_append unit acl l2
      ∙ ap (λ first. first ++ port_l2_of port) (said_if unit (build.is_untracked net port) (port_acl_rules (build.port_acl_input port))))

  ports_permuted : IsPermutation (rows_of_ports net) (flat_map (build.port_rows net) net.ports)
  ports_permuted =
      let one = flat_map (λ port. port_acl_of port ++ port_l2_of port) net.ports in
      let all = flat_map (λ port. port_sec_of port ++ (port_acl_of port ++ port_l2_of port)) net.ports in
      let sec_is : port_sec_rows net ≡ flat_map port_sec_of net.ports = flat_of_map _ _ net.ports in
      let acl_is : port_acl_rows net ≡ flat_map port_acl_of net.ports = flat_of_map _ _ (filter (build.is_untracked net) net.ports) ∙ flat_kept (build.is_untracked net) _ net.ports in
      let l2_is : port_l2_rows net ≡ flat_map port_l2_of net.ports = flat_of_map _ _ net.ports in
      let last : IsPermutation (port_acl_rows net ++ port_l2_rows net) one =
      IsPermutation-trans (port_acl_rows net ++ port_l2_rows net) (flat_map port_acl_of net.ports ++ flat_map port_l2_of net.ports) one
      (IsPermutation-append (port_acl_rows net) (flat_map port_acl_of net.ports) (port_l2_rows net) (flat_map port_l2_of net.ports) (in_order (port_acl_rows net) (flat_map port_acl_of net.ports) acl_is) (in_order (port_l2_rows net) (flat_map port_l2_of net.ports) l2_is))
      (part_by_part port_acl_of port_l2_of net.ports) in
      let whole : IsPermutation (rows_of_ports net) all =
      IsPermutation-trans (rows_of_ports net) (flat_map port_sec_of net.ports ++ one) all
      (IsPermutation-append (port_sec_rows net) (flat_map port_sec_of net.ports) (port_acl_rows net ++ port_l2_rows net) one (in_order (port_sec_rows net) (flat_map port_sec_of net.ports) sec_is) last)
      (part_by_part port_sec_of (λ port. port_acl_of port ++ port_l2_of port) net.ports) in
      subst (IsPermutation (rows_of_ports net)) (sym (flat_alike (build.port_rows net) (λ port. port_sec_of port ++ (port_acl_of port ++ port_l2_of port)) net.ports port_is)) whole

  acl_is : (acl : Acl) (switch : Switch) → build.acl_on_rows net acl switch ≡ said_by (unit_of switch.id acl.id) (acl_on_rules (build.acl_on_input net acl switch.id))
  acl_is acl switch = unfold build.acl_on_rows in refl

  acls_same : acl_on_rows net ≡ flat_map (build.acl_rows net) net.acls
  acls_same =
      flat_of_flat _ _ net.acls
      ∙ flat_alike _ (build.acl_rows net) net.acls (λ acl. flat_of_map _ _ (switches_of_acl net acl) ∙ flat_alike _ (build.acl_on_rows net acl) (switches_of_acl net acl) (λ switch. sym (acl_is acl switch)))

  vip_is : (switch : Switch) (lb : Lb) (vip : Vip) → build.vip_on_rows switch lb vip ≡ said_by (unit_of switch.id lb.id) (vip_switch_rules (build.vip_input lb vip))
  vip_is switch lb vip = unfold build.vip_on_rows in refl

  vips_same : vip_switch_rows net ≡ flat_map (build.lb_rows net) net.switches
  vips_same =
      flat_of_flat _ _ net.switches
      ∙ flat_alike _ (build.lb_rows net) net.switches (λ switch.
      flat_of_flat _ _ (lbs_on net switch.id)
      ∙ flat_alike _ (build.lb_on_rows switch) (lbs_on net switch.id) (λ lb. flat_of_map _ _ lb.vips ∙ flat_alike _ (build.vip_on_rows switch lb) lb.vips (λ vip. sym (vip_is switch lb vip))))

  pub units_permuted : IsPermutation (rows_by_kind net) (rows_of_units net)
  units_permuted =
      let others = acl_on_rows net ++ vip_switch_rows net in
      let theirs = flat_map (build.acl_rows net) net.acls ++ flat_map (build.lb_rows net) net.switches in
      let tail : IsPermutation others theirs =
      IsPermutation-append (acl_on_rows net) (flat_map (build.acl_rows net) net.acls) (vip_switch_rows net) (flat_map (build.lb_rows net) net.switches)
      (in_order (acl_on_rows net) (flat_map (build.acl_rows net) net.acls) acls_same) (in_order (vip_switch_rows net) (flat_map (build.lb_rows net) net.switches) vips_same) in
      let ports : IsPermutation (rows_of_ports net ++ others) (flat_map (build.port_rows net) net.ports ++ theirs) =
      IsPermutation-append (rows_of_ports net) (flat_map (build.port_rows net) net.ports) others theirs ports_permuted tail in
      let switches : IsPermutation (rows_of_switches net ++ (rows_of_ports net ++ others)) (build.all_rows net) =
      IsPermutation-append (rows_of_switches net) (flat_map (build.switch_rows net) net.switches) (rows_of_ports net ++ others) (flat_map (build.port_rows net) net.ports ++ theirs) switches_permuted ports in
      IsPermutation-append (rows_of_switches net ++ (rows_of_ports net ++ others)) (build.all_rows net) (router_rows net) (router_rows net) switches (IsPermutation-refl (router_rows net))

pub rows_alike : (net : Network) (row : Row) → (Contains (rows_by_kind net) row) ↔ (Contains (rows_of_units net) row)
rows_alike net row =
    let both = units_permuted net in
    (Contains-permutation (rows_by_kind net) (rows_of_units net) row both, Contains-permutation (rows_of_units net) (rows_by_kind net) row (IsPermutation-sym (rows_by_kind net) (rows_of_units net) both))

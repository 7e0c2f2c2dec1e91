-- Static bindings, as they are found and asked for.
use Rattle.std.proofs.Common.{◌≡◌, Bool, true, false, ◌||◌, List, [], ◌++◌, map, refl, sym, ap, subst, ◌∙◌}
use Rattle.std.specs.Prelude.{Option, None, Some}
use Rattle.std.specs.List.{Contains, flat_map}
use Rattle.std.specs.Option.{option_map}
use Rattle.std.specs.Ordering.{is_eq}
use Rattle.std.proofs.lemmas.Bool.{eq-eqb, false≢true}
use Rattle.std.proofs.lemmas.List.Folds.{list_any-append}
use Rattle.std.specs.Cmp.{unsigned_tied}
use Rattle.nv_base.specs.declared.object.ObjId.{ObjId}
use Rattle.nv_map.specs.Map.{value_at}
use Rattle.nv_table.specs.Table.{has_number, record_of}
use Rattle.nv_table.proofs.Found.{found_there, own_record}
use Rattle.nv_table.proofs.Tagged.{any_is, any_there}
use Rattle.nv_table.proofs.Undone.{found_number, number_total}
use Rattle.nb_records.specs.declared.router.Binding.{Binding}
use Rattle.nb_records.specs.declared.router.RouterPort.{RouterPort}
use Rattle.nb_model.specs.Network.{Network, same}
use Rattle.nb_model.specs.Sound.{IsSound}
use Rattle.lr_rows.specs.declared.inputs.BindingInput.{BindingInput}
use Rattle.lr_units.specs.Units.{binding_input, binding_units, bindings_of}
use Rattle.inc_feed.specs.Feed.{has_key}
use Rattle.net_rows.proofs.Elements.{Contains-filter, Contains-flat_map, Contains-from_filter, Contains-from_flat_map, Contains-from_map, Contains-map, one_first}
use Rattle.net_units.specs.Keys.{by_number}
use Rattle.net_units.proofs.Distinct.{number_exact}
use Rattle.net_units.proofs.OnRouters.{binding_once}
use Rattle.nd_inputs.proofs.Any.{is_that, kept_passes}
use Rattle.nd_inputs.proofs.Sound.{bindings_rise, router_ports_rise}
use Rattle.nd_touched.specs.Touched.{AgreeBut}
use Rattle.nd_routes.specs.inner.Bindings.{binding_where, bindings_at, number_of, numbers_at}
use Rattle.nd_routes.proofs.Once.{found_once, none_once}

module _ (net : Network) (sound : IsSound net) where
  abbrev unit : RouterPort → Binding → ObjId × BindingInput
  unit port binding = (binding.id, binding_input port binding)

  abbrev piece : RouterPort → List (ObjId × BindingInput)
  piece port = map (unit port) (bindings_of net port)

  -- where a unit is, its binding and its port are
  from_unit : (n : ObjId) (v : BindingInput) → Contains (binding_units net) (n, v)
      → (b : Binding) × (port : RouterPort) × (record_of (λ x. x.id) n net.bindings ≡ Some b) × (record_of (λ x. x.id) b.port net.router_ports ≡ Some port)
  from_unit n v there =
      let at = Contains-from_flat_map piece net.router_ports (n, v) there in
      let own = Contains-from_map (unit at.0) (bindings_of net at.0) (n, v) at.2 in
      let b = own.0 in
      let is_n : b.id ≡ n = ap (λ (e : ObjId × BindingInput). e.0) own.2 in
      let is_port : at.0.id ≡ b.port = is_that at.0.id b.port (kept_passes (λ (x : Binding). same at.0.id x.port) net.bindings b own.1) in (
        b,
        at.0,
        ap (λ (m : ObjId). record_of (λ (x : Binding). x.id) m net.bindings) (sym is_n) ∙ own_record (λ (x : Binding). x.id) b net.bindings (bindings_rise net sound) (Contains-from_filter (λ (x : Binding). same at.0.id x.port) net.bindings b own.1),
        ap (λ (m : ObjId). record_of (λ (x : RouterPort). x.id) m net.router_ports) (sym is_port) ∙ own_record (λ (x : RouterPort). x.id) at.0 net.router_ports (router_ports_rise net sound) at.1,
      )

  -- and where these are it is
  to_unit : (n : ObjId) (b : Binding) (port : RouterPort) → record_of (λ x. x.id) n net.bindings ≡ Some b → record_of (λ x. x.id) b.port net.router_ports ≡ Some port → Contains (binding_units net) (n, binding_input port b)
  to_unit n b port is is_port =
      let own = found_there (has_number (λ (x : Binding). x.id) n) b net.bindings is in
      let its = found_there (has_number (λ (x : RouterPort). x.id) b.port) port net.router_ports is_port in
      let number : b.port ≡ port.id = found_number (λ (x : RouterPort). x.id) b.port port net.router_ports is_port in
      subst (λ (m : ObjId). Contains (binding_units net) (m, binding_input port b)) (sym (found_number (λ (x : Binding). x.id) n b net.bindings is))
      (Contains-flat_map piece net.router_ports port (unit port b) its.0
      (Contains-map (unit port) (bindings_of net port) b
      (Contains-filter (λ (x : Binding). same port.id x.port) net.bindings b own.0 (eq-eqb port.id.0 b.port.0 (ap (λ (m : ObjId). m.0) (sym number))))))

  -- what the unit of a binding has
  pub binding_at : (n : ObjId) → value_at by_number n (binding_units net) ≡ binding_where net.router_ports (record_of (λ x. x.id) n net.bindings)
  binding_at n = by (record_of (λ (x : Binding). x.id) n net.bindings) refl
    where
      by : (o : Option Binding) → record_of (λ (x : Binding). x.id) n net.bindings ≡ o → value_at by_number n (binding_units net) ≡ binding_where net.router_ports o
      by None is = none_once number_total number_exact (binding_units net) n (λ v there. let from = from_unit n v there in none_some (sym is ∙ from.2))
        where
          none_some : {x : Binding} → None ≡ Some x → ⊥
          none_some e = absurd (cc)
      by (Some b) is = at (record_of (λ (x : RouterPort). x.id) b.port net.router_ports) refl
        where
          at : (p : Option RouterPort) → record_of (λ (x : RouterPort). x.id) b.port net.router_ports ≡ p → value_at by_number n (binding_units net) ≡ option_map (λ port. binding_input port b) p
          at (Some port) is_port = found_once number_total number_exact (binding_units net) (n, binding_input port b) (binding_once net sound) (to_unit n b port is is_port)
          at None is_port = none_once number_total number_exact (binding_units net) n (λ v there.
              let from = from_unit n v there in
              let same_one : b ≡ from.0 = some_is (sym is ∙ from.2) in
              none_some (sym is_port ∙ ap (λ (x : Binding). record_of (λ (y : RouterPort). y.id) x.port net.router_ports) same_one ∙ from.3))
            where
              some_is : {x y : Binding} → Some x ≡ Some y → x ≡ y
              some_is e = cc

              none_some : {x : RouterPort} → None ≡ Some x → ⊥
              none_some e = absurd (cc)

-- ---- what is not among the keys

neither_part : (a b : Bool) → (a || b) ≡ false → (a ≡ false) × (b ≡ false)
neither_part false false e = (refl, refl)
neither_part true b e = absurd (cc)
neither_part false true e = absurd (cc)

-- a number that is among these is one of them
one_of_these : (n : ObjId) (numbers : List ObjId) → has_key by_number n numbers ≡ true → Contains numbers n
one_of_these n numbers is =
    let found = any_is (λ other. is_eq (by_number n other)) numbers is in
    subst (λ (m : ObjId). Contains numbers m) (sym (is_that n found.0 (sym (unsigned_tied n.0 found.0.0) ∙ found.2))) found.1

these_have : (n : ObjId) (numbers : List ObjId) → Contains numbers n → has_key by_number n numbers ≡ true
these_have n numbers there = any_there (λ other. is_eq (by_number n other)) numbers n there (unsigned_tied n.0 n.0 ∙ eq-eqb n.0 n.0 refl)

-- the unit of a binding stays where neither it nor its port is touched
pub binding_stays : (old new : Network) → IsSound old → IsSound new → (bindings ports keys : List ObjId) → AgreeBut bindings (λ x. x.id) old.bindings new.bindings → AgreeBut ports (λ x. x.id) old.router_ports new.router_ports
    → (n : ObjId) → has_key by_number n keys ≡ has_key by_number n (bindings ++ flat_map (numbers_at new) ports) → has_key by_number n keys ≡ false → value_at by_number n (binding_units old) ≡ value_at by_number n (binding_units new)
binding_stays old new sound sound' bindings ports keys agree agree_ports n are not =
    binding_at old sound n
    ∙ ap (binding_where old.router_ports) (agree n parts.0)
    ∙ by (record_of (λ (x : Binding). x.id) n new.bindings) refl
    ∙ sym (binding_at new sound' n)
  where
    parts : (has_key by_number n bindings ≡ false) × (has_key by_number n (flat_map (numbers_at new) ports) ≡ false)
    parts =
        neither_part (has_key by_number n bindings) (has_key by_number n (flat_map (numbers_at new) ports))
        (sym (list_any-append (λ other. is_eq (by_number n other)) bindings (flat_map (numbers_at new) ports)) ∙ sym are ∙ not)

    apart : (b : Binding) → record_of (λ (x : Binding). x.id) n new.bindings ≡ Some b → (has : Bool) → has_key by_number b.port ports ≡ has → has_key by_number b.port ports ≡ false
    apart b is false e = e
    apart b is true e =
        let own = found_there (has_number (λ (x : Binding). x.id) n) b new.bindings is in
        let among = Contains-filter (λ (x : Binding). same b.port x.port) new.bindings b own.0 (eq-eqb b.port.0 b.port.0 refl) in
        let number = Contains-flat_map number_of (bindings_at new b.port) b b.id among (one_first b.id [] b.id refl) in
        let all = Contains-flat_map (numbers_at new) ports b.port b.id (one_of_these b.port ports e) number in
        absurd (false≢true (sym parts.1 ∙ these_have n (flat_map (numbers_at new) ports) (subst (λ (m : ObjId). Contains (flat_map (numbers_at new) ports) m) (sym (found_number (λ (x : Binding). x.id) n b new.bindings is)) all)))

    by : (o : Option Binding) → record_of (λ (x : Binding). x.id) n new.bindings ≡ o → binding_where old.router_ports o ≡ binding_where new.router_ports o
    by None is = refl
    by (Some b) is = ap (option_map (λ port. binding_input port b)) (agree_ports b.port (apart b is (has_key by_number b.port ports) refl))

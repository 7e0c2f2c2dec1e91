-- The datapaths of a sound network: what they are, and the tables by which packets leave them late.
use Rattle.std.proofs.Common.{◌≡◌, Bool, true, false, cond, List, [], ◌∷◌, sym, ap, refl, subst, ◌∙◌, inl, inr, ◌⊎◌}
use Rattle.std.specs.Prelude.{Option, Some, is_some}
use Rattle.std.specs.List.{Contains, find}
use Rattle.nv_base.specs.declared.object.ObjId.{ObjId}
use Rattle.nb_records.specs.declared.router.RouterPort.{RouterPort}
use Rattle.nb_records.specs.declared.switch.Port.{Port}
use Rattle.nb_records.specs.declared.switch.Switch.{Switch}
use Rattle.nb_model.specs.Belongs.{is_among}
use Rattle.nb_model.specs.Network.{Network, same}
use Rattle.nb_model.specs.Sound.{IsSound, switch_ids}
use Rattle.nb_model.proofs.Lists.{same_is, same_self}
use Rattle.sb_model.specs.Stage.{last_table}
use Rattle.sb_model.specs.declared.stage.DatapathKind.TheVariants as kinds
use Rattle.net_rows.proofs.Elements.{one_of, one_of_none, any_gives, Contains-from_map}
use Rattle.net_rows.proofs.Sound.{each_passes}
use Rattle.ls_laws.specs.Steps.{flows_at}
use Rattle.tr_stage.specs.Machine.{kind_of}
use Rattle.tr_router.proofs.Networks.{of_router, router_there}
use Rattle.tr_walk.specs.Machine.{late_table}

-- each switch is one by its number
pub numbered_switch : (switches : List Switch) (switch : Switch) → Contains switches switch → is_some (find (λ (s : Switch). same switch.id s.id) switches) ≡ true
numbered_switch [] switch there = absurd (one_of_none switch there)
numbered_switch (s ∷ switches) switch there = by (one_of s switches switch there) (numbered_switch switches switch)
  where
    rest_of : Option Switch
    rest_of = find (λ (x : Switch). same switch.id x.id) switches

    found : (b : Bool) (rest : Option Switch) → is_some rest ≡ true → is_some (cond b (Some s) rest) ≡ true
    found true rest some = refl
    found false rest some = some

    by : (s ≡ switch) ⊎ Contains switches switch → (Contains switches switch → is_some rest_of ≡ true) → is_some (cond (same switch.id s.id) (Some s) rest_of) ≡ true
    by (inl one) rest = ap (λ b. is_some (cond b (Some s) rest_of)) (ap (λ (x : Switch). same switch.id x.id) one ∙ same_self switch.id)
    by (inr later) rest = found (same switch.id s.id) rest_of (rest later)

-- each port's switch is one of the switches
pub switch_there : (net : Network) (port : Port) → IsSound net → Contains net.ports port → (switch : Switch) × Contains net.switches switch × (switch.id ≡ port.switch)
switch_there net port sound there =
    let among = each_passes (λ (p : Port). is_among p.switch (switch_ids net)) net.ports port sound.refers.ports there in
    let number = any_gives (same port.switch) (switch_ids net) among in
    let at = Contains-from_map (λ (s : Switch). s.id) net.switches number.0 number.1 in
    (at.0, at.1, at.2 ∙ sym (same_is port.switch number.0 number.2))

module _ (net : Network) (sound : IsSound net) where
  -- ---- switches

  -- the number of a switch, and of the switch of a port
  pub is_switch : (switch : Switch) → Contains net.switches switch → kind_of (flows_at net switch.id) ≡ kinds.Switch
  is_switch switch there = rw (numbered_switch net.switches switch there) refl

  pub port_on_switch : (port : Port) → Contains net.ports port → kind_of (flows_at net port.switch) ≡ kinds.Switch
  port_on_switch port there =
      let own = switch_there net port sound there in
      subst (λ (d : ObjId). kind_of (flows_at net d) ≡ kinds.Switch) own.2 (is_switch own.0 own.1)

  -- ---- the tables by which packets leave late

  pub late_of_switch : (port : Port) → Contains net.ports port → late_table net port.switch ≡ last_table kinds.Switch
  late_of_switch port there = ap last_table (port_on_switch port there)

  pub late_of_router : (port : RouterPort) → Contains net.router_ports port → late_table net port.router ≡ last_table kinds.Router
  late_of_router port there =
      let own = router_there net sound port there in
      subst (λ (d : ObjId). late_table net d ≡ last_table kinds.Router) (sym own.2) (ap last_table (of_router net sound own.0 own.1))

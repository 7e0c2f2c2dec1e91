-- What soundness says of routers and their ports, for the pipelines of these.
use Rattle.std.proofs.Common.{◌≡◌, ◌<◌, ◌^◌, Bool, true, false, nat_lt, List, [], ◌∷◌, sym, refl, ◌∙◌, arith, subst}
use Rattle.std.specs.Prelude.{is_some}
use Rattle.std.specs.List.{Contains, find}
use Rattle.std.proofs.lemmas.Bool.{and_parts, eqb-true, ltb-true}
use Rattle.nv_base.specs.declared.object.ObjId.{ObjId}
use Rattle.pkt_core.specs.Packet.{Values, IsPacket}
use Rattle.nb_records.specs.declared.router.Router.{Router}
use Rattle.nb_records.specs.declared.router.RouterPort.{RouterPort}
use Rattle.nb_records.specs.declared.switch.Switch.{Switch}
use Rattle.nb_model.specs.Belongs.{is_among}
use Rattle.nb_model.specs.Network.{Network, same}
use Rattle.nb_model.specs.Sound.{IsSound, router_ids, router_port_ids}
use Rattle.nb_model.proofs.Kept.{is_used}
use Rattle.nb_model.proofs.Lists.{same_is}
use Rattle.nb_model.proofs.Numbered.{are_used}
use Rattle.sb_model.specs.declared.stage.DatapathKind.TheVariants as kinds
use Rattle.net_rows.proofs.Elements.{any_gives, one_first, one_later, Contains-from_map, Contains-map}
use Rattle.net_rows.proofs.Sound.{each_passes}
use Rattle.lr_units.proofs.Numbers.{switch_is_no_router}
use Rattle.lr_units.proofs.SoundRouters.{router_port_is_sound}
use Rattle.tr_stage.specs.Machine.{kind_of}
use Rattle.lr_laws.specs.Steps.{IsOnRouter, flows_at}

-- a number that none has is that of no switch
none_numbered : (number : ObjId) (switches : List Switch) → ((s : Switch) → Contains switches s → same number s.id ≡ false) → is_some (find (λ (s : Switch). same number s.id) switches) ≡ false
none_numbered number [] none = refl
none_numbered number (s ∷ switches) none = rw (none s (one_first s switches s refl)) (none_numbered number switches (λ t there. none t (one_later s switches t there)))

module _ (net : Network) (sound : IsSound net) where
  -- each port's router is one of the routers
  pub router_there : (port : RouterPort) → Contains net.router_ports port → (router : Router) × Contains net.routers router × (port.router ≡ router.id)
  router_there port there =
      let among = each_passes (λ (p : RouterPort). is_among p.router (router_ids net)) net.router_ports port sound.refers.router_ports there in
      let number = any_gives (same port.router) (router_ids net) among in
      let at = Contains-from_map (λ (r : Router). r.id) net.routers number.0 number.1 in
      (at.0, at.1, same_is port.router number.0 number.2 ∙ sym at.2)

  -- the datapath of a router is a router
  pub of_router : (router : Router) → Contains net.routers router → kind_of (flows_at net router.id) ≡ kinds.Router
  of_router router there = rw (none_numbered router.id net.switches (λ s at. apart s at (same router.id s.id) refl)) refl
    where
      apart : (s : Switch) → Contains net.switches s → (b : Bool) → same router.id s.id ≡ b → b ≡ false
      apart s at false is = refl
      apart s at true is =
          absurd (switch_is_no_router net sound s.id router.id (Contains-map (λ (x : Switch). x.id) net.switches s at) (Contains-map (λ (x : Router). x.id) net.routers router there) (sym (eqb-true router.id.0 s.id.0 is)))

  -- the MAC of a port fits, and so does its number
  pub mac_fits : (port : RouterPort) → Contains net.router_ports port → port.mac < 2 ^ 48
  mac_fits port there = (router_port_is_sound net sound port there).is.low

  pub number_fits : (port : RouterPort) → Contains net.router_ports port → port.id.0 < 2 ^ 32
  number_fits port there =
      let used = each_passes (is_used net.next) (router_port_ids net) port.id (are_used net sound.numbered.below).router_ports (Contains-map (λ (p : RouterPort). p.id) net.router_ports port there) in
      let below = ltb-true port.id.0 net.next (and_parts (nat_lt 0 port.id.0) (nat_lt port.id.0 net.next) used).1 in
      omega (arith, below, sound.numbered.room)

  -- and so does the number of a router
  pub router_number_fits : (router : Router) → Contains net.routers router → router.id.0 < 2 ^ 32
  router_number_fits router there =
      let used = each_passes (is_used net.next) (router_ids net) router.id (are_used net sound.numbered.below).routers (Contains-map (λ (r : Router). r.id) net.routers router there) in
      let below = ltb-true router.id.0 net.next (and_parts (nat_lt 0 router.id.0) (nat_lt router.id.0 net.next) used).1 in
      omega (arith, below, sound.numbered.room)

  pub its_router_fits : (port : RouterPort) → Contains net.router_ports port → port.router.0 < 2 ^ 32
  its_router_fits port there = let of = router_there port there in subst (λ (d : ObjId). d.0 < 2 ^ 32) (sym of.2) (router_number_fits of.0 of.1)

  -- what the laws of the stages ask
  pub on_router : (router : Router) → Contains net.routers router → (packet : Values) → IsPacket packet → IsOnRouter net router packet
  on_router router there packet formed = record { sound = sound; among = there; formed = formed }

-- What soundness says of load balancers and of their VIPs, in the forms that the proofs of rows use.
use Rattle.std.proofs.Common.{ℕ, ◌^◌, ◌<◌, nat_lt, ◌&&◌, length}
use Rattle.std.specs.Prelude.{Option, Some, None}
use Rattle.std.specs.Bool.{IsTrue}
use Rattle.std.specs.List.{AllByRecursion, Contains, list_all, list_any}
use Rattle.std.proofs.lemmas.Bool.{and_parts, ltb-true}
use Rattle.nv_base.specs.Name.{is_object_name}
use Rattle.nv_base.specs.declared.object.ObjId.{ObjId}
use Rattle.nb_records.specs.declared.balancer.Lb.{Lb}
use Rattle.nb_records.specs.declared.balancer.Vip.{Vip}
use Rattle.nb_records.specs.declared.switch.Switch.{Switch}
use Rattle.nb_model.specs.Applies.{lbs_on}
use Rattle.nb_model.specs.Belongs.{is_among, same_frontend}
use Rattle.nb_model.specs.Network.{Network, same}
use Rattle.nb_model.specs.Readable.{are_apart, is_frontend, is_ip4, is_service, is_vip}
use Rattle.nb_model.specs.Sound.{IsSound}
use Rattle.nb_model.proofs.Readable.{of_lb}
use Rattle.net_rows.proofs.Elements.{Contains-from_filter}
use Rattle.net_rows.proofs.Pairs.{OfPairs, every_weaker}
use Rattle.net_rows.proofs.Sound.{each_passes}
use Rattle.net_rows.proofs.SoundObjects.{Unlike, every, unlike_pairs}
use Rattle.net_rows.proofs.VipRules.{IsService}

-- an address, and a port where there is one
pub record IsSoundVip (vip : Vip) : Type 0 where
  pub low : vip.at.addr.0 < 2 ^ 32
  pub service : IsService vip.at.port

service_is : (port : Option ℕ) → IsTrue (is_service port) → IsService port
service_is None is = tt
service_is (Some port) is = ltb-true port (2 ^ 16) (and_parts (nat_lt 0 port) (nat_lt port 65536) is).1

one_vip : (vip : Vip) → IsTrue (is_vip vip) → IsSoundVip vip
one_vip vip all =
    let last = and_parts (is_frontend vip.at && nat_lt 0 (length vip.backends)) _ all in
    let first = and_parts (is_frontend vip.at) (nat_lt 0 (length vip.backends)) last.0 in
    let at = and_parts (is_ip4 vip.at.addr) (is_service vip.at.port) first.0 in
    record { low = ltb-true vip.at.addr.0 (2 ^ 32) at.0; service = service_is vip.at.port at.1 }

-- what is attached to a switch is a load balancer
pub balancer_on : (net : Network) (switch : ObjId) (lb : Lb) → Contains (lbs_on net switch) lb → Contains net.lbs lb
balancer_on net switch lb there = Contains-from_filter (λ (b : Lb). list_any (λ (own : Switch). same own.id switch && is_among b.id own.lbs) net.switches) net.lbs lb there

module _ (net : Network) (sound : IsSound net) where
  -- two VIPs of a load balancer are at two addresses or ports
  abbrev pub OtherVips : Vip → Vip → Type 0
  OtherVips = Unlike (λ a b. same_frontend a.at b.at)

  pub vips_are_sound : (lb : Lb) → Contains net.lbs lb → AllByRecursion IsSoundVip lb.vips
  vips_are_sound lb there =
      let all = each_passes of_lb net.lbs lb sound.readable.lbs there in
      let last = and_parts (is_object_name lb.name && nat_lt 0 (length lb.vips)) (list_all is_vip lb.vips) all in
      every_weaker (λ vip. IsTrue (is_vip vip)) IsSoundVip lb.vips one_vip (every is_vip lb.vips last.1)

  pub vips_apart : (lb : Lb) → Contains net.lbs lb → OfPairs OtherVips lb.vips
  vips_apart lb there = unlike_pairs (λ (a b : Vip). same_frontend a.at b.at) lb.vips (each_passes (λ (x : Lb). are_apart (λ (a b : Vip). same_frontend a.at b.at) x.vips) net.lbs lb sound.apart.vips there)

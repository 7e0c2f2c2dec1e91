-- What soundness says of switches and of ports, in the forms that the proofs of rows use.
use Rattle.std.proofs.Common.{◌≡◌, ℕ, ◌<◌, Bool, nat_lt, ◌&&◌, List, [], ◌∷◌, map, ◌⊎◌, inl, inr, subst}
use Rattle.std.specs.Bool.{IsTrue}
use Rattle.std.specs.List.{AllByRecursion, Contains, flat_map, list_all}
use Rattle.std.proofs.lemmas.Bool.{and_parts, ltb-true}
use Rattle.nv_base.specs.Name.{is_object_name}
use Rattle.nv_base.specs.declared.object.ObjId.{ObjId}
use Rattle.nb_records.specs.declared.switch.Port.{Port}
use Rattle.nb_records.specs.declared.switch.Switch.{Switch}
use Rattle.nb_model.specs.Addresses.{macs}
use Rattle.nb_model.specs.Network.{Network}
use Rattle.nb_model.specs.Readable.{are_addresses, are_apart, are_guards, ips_of, is_ip4, is_mac, may_name, same_number}
use Rattle.nb_model.specs.Sound.{IsSound}
use Rattle.nb_model.proofs.Numbered.{are_used}
use Rattle.nb_model.proofs.Readable.{of_port}
pub use Rattle.nb_model.proofs.Rising.{rises}
use Rattle.nv_table.specs.Table.{NumbersRise}
use Rattle.net_rows.proofs.Elements.{one_of, one_of_none}

-- of elements that all pass each one does
pub each_passes : {X : Type 0} (p : X → Bool) (xs : List X) (x : X) → IsTrue (list_all p xs) → Contains xs x → IsTrue (p x)
each_passes p [] x all there = absurd (one_of_none x there)
each_passes {X} p (y ∷ xs) x all there = by (and_parts (p y) (list_all p xs) all) (one_of y xs x there) (each_passes p xs x)
  where
    by : IsTrue (p y) × IsTrue (list_all p xs) → (y ≡ x) ⊎ Contains xs x → (IsTrue (list_all p xs) → Contains xs x → IsTrue (p x)) → IsTrue (p x)
    by parts (inl same) rest = subst (λ z. IsTrue (p z)) same parts.0
    by parts (inr later) rest = rest parts.1 later

module _ {R : Type 0} (number : R → ObjId) where
  -- numbers that are from 1 on
  pub from_one : (next : ℕ) (rs : List R) → IsTrue (list_all (λ n. nat_lt 0 n.0 && nat_lt n.0 next) (map number rs)) → AllByRecursion (λ r. 0 < (number r).0) rs
  from_one next [] all = tt
  from_one next (r ∷ rs) all =
      let parts = and_parts (nat_lt 0 (number r).0 && nat_lt (number r).0 next) (list_all (λ n. nat_lt 0 n.0 && nat_lt n.0 next) (map number rs)) all in
      (ltb-true 0 (number r).0 (and_parts (nat_lt 0 (number r).0) (nat_lt (number r).0 next) parts.0).0, from_one next rs parts.1)

-- a port has the name of an object, and unicast MACs, none of them twice
pub record IsOfSound (port : Port) : Type 0 where
  pub named : IsTrue (is_object_name port.name)
  pub unicast : IsTrue (list_all is_mac (macs port))
  pub apart : IsTrue (are_apart same_number (macs port))

one_port : (port : Port) → IsTrue (of_port port) → IsOfSound port
one_port port all =
    let last = and_parts (is_object_name port.name && may_name port.router_port && are_addresses port.addresses) (are_guards port.security) all in
    let third = and_parts (is_object_name port.name && may_name port.router_port) (are_addresses port.addresses) last.0 in
    let ips = flat_map ips_of port.addresses in
    let all_ips = and_parts (list_all is_mac (macs port) && are_apart same_number (macs port) && list_all is_ip4 ips) _ third.1 in
    let some_ips = and_parts (list_all is_mac (macs port) && are_apart same_number (macs port)) (list_all is_ip4 ips) all_ips.0 in
    let own = and_parts (list_all is_mac (macs port)) (are_apart same_number (macs port)) some_ips.0 in
    record { named = (and_parts (is_object_name port.name) (may_name port.router_port) third.0).0; unicast = own.0; apart = own.1 }

-- the numbers of switches rise, and those of ports
abbrev pub SwitchesRise : List Switch → Type 0
SwitchesRise switches = NumbersRise (λ s. s.id) switches

abbrev pub PortsRise : List Port → Type 0
PortsRise ports = NumbersRise (λ p. p.id) ports

module _ (net : Network) (sound : IsSound net) where
  pub switches_rise : SwitchesRise net.switches
  switches_rise = rises (λ (s : Switch). s.id) net.switches sound.numbered.order.switches

  pub ports_rise : PortsRise net.ports
  ports_rise = rises (λ (p : Port). p.id) net.ports sound.numbered.order.ports

  pub ports_from_one : AllByRecursion (λ (p : Port). 0 < p.id.0) net.ports
  ports_from_one = from_one (λ (p : Port). p.id) net.next net.ports (are_used net sound.numbered.below).ports

  -- each port
  pub port_of_sound : (port : Port) → Contains net.ports port → IsOfSound port
  port_of_sound port there = one_port port (each_passes of_port net.ports port sound.readable.ports there)

  pub ports_of_sound : AllByRecursion IsOfSound net.ports
  ports_of_sound = all_of net.ports sound.readable.ports
    where
      all_of : (ports : List Port) → IsTrue (list_all of_port ports) → AllByRecursion IsOfSound ports
      all_of [] all = tt
      all_of (port ∷ ports) all = let parts = and_parts (of_port port) (list_all of_port ports) all in (one_port port parts.0, all_of ports parts.1)

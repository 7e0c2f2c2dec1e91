-- The ports of a sound network: each is found by its number, whose it is is told by it, and at its other side is a port.
use Rattle.std.proofs.Common.{◌≡◌, ℕ, ◌<◌, ◌^◌, Bool, true, false, cond, nat_lt, List, [], ◌∷◌, sym, ap, refl, subst, ◌∙◌, arith, inl, inr, ◌⊎◌, ◌≢◌}
use Rattle.std.specs.Prelude.{Option, Some, None, option_map, ◌&&◌, ◌==◌}
use Rattle.std.specs.Bool.{IsTrue}
use Rattle.std.specs.List.{Contains, find, list_all}
use Rattle.std.proofs.lemmas.Bool.{and_parts, eqb-true, ltb-true}
use Rattle.std.proofs.lemmas.List.Elements.{Contains-append_cases, Contains-append_left, Contains-append_right}
use Rattle.nv_base.specs.declared.object.ObjId.{ObjId}
use Rattle.nv_base.specs.Object.{flood_number, number_limit, unknown_number}
use Rattle.nb_records.specs.declared.router.RouterPort.{RouterPort}
use Rattle.nb_records.specs.declared.switch.Port.{Port}
use Rattle.nb_records.specs.declared.switch.PortKind.{PortKind}
use Rattle.nb_records.specs.declared.switch.PortKind.TheVariants as kind
use Rattle.nb_model.specs.Belongs.{is_name, is_port, is_to_router, peer_port, peer_router_port}
use Rattle.nb_model.specs.Network.{Network, same}
use Rattle.nb_model.specs.Sound.{IsSound, port_ids, router_port_ids}
use Rattle.nb_model.proofs.Lists.{same_self}
use Rattle.nb_model.proofs.Numbered.{are_used}
use Rattle.net_meaning.specs.Places.{datapath_at, peer_side, router_port, side_of, side_of_port, side_of_router_port, side_of_switch_port, switch_port}
use Rattle.net_meaning.specs.Places.Side.{Host, NoPeer, Peer}
use Rattle.net_meaning.specs.Walk.Target.{OnePort}
use Rattle.net_walks.specs.Alike.{IsPort}
use Rattle.net_rows.proofs.Elements.{one_first, one_later, one_of, one_of_none, Contains-from_map, Contains-map}
use Rattle.net_rows.proofs.Pairs.{OfPairs, every_member}
use Rattle.net_rows.proofs.Sound.{each_passes}
use Rattle.lr_units.proofs.Numbers.{Before, port_is_no_router_port, ports_rise, router_ports_rise}
use Rattle.tr_walk.specs.Machine.{target_of}

-- ---- what is found

module _ {X : Type 0} (p : X → Bool) where
  -- what is found is there, and passes
  pub find_gives : (xs : List X) (x : X) → find p xs ≡ Some x → Contains xs x × (p x ≡ true)
  find_gives [] x found = cc
  find_gives (y ∷ xs) x found = by (p y) refl found (find_gives xs x)
    where
      same_one : (a b : X) → Some a ≡ Some b → a ≡ b
      same_one a b e = cc

      by : (b : Bool) → p y ≡ b → cond b (Some y) (find p xs) ≡ Some x → (find p xs ≡ Some x → Contains xs x × (p x ≡ true)) → Contains (y ∷ xs) x × (p x ≡ true)
      by true is at rest = let one = same_one y x at in (one_first y xs x one, sym (ap p one) ∙ is)
      by false is at rest = let later = rest at in (one_later y xs x later.0, later.1)

  -- where none passes, none is found
  pub none_passes : (xs : List X) → ((x : X) → Contains xs x → p x ≡ false) → find p xs ≡ None
  none_passes [] fails = refl
  none_passes (x ∷ xs) fails = rw (fails x (one_first x xs x refl)) (none_passes xs (λ y at. fails y (one_later x xs y at)))

-- numbers that differ are not the same
pub not_same : (a b : ObjId) → a.0 ≢ b.0 → same a b ≡ false
not_same a b differ = by (same a b) refl
  where
    by : (t : Bool) → same a b ≡ t → same a b ≡ false
    by true is = absurd (differ (eqb-true a.0 b.0 is))
    by false is = is

-- of records whose numbers rise each is found by its number
module _ {R : Type 0} (number : R → ObjId) where
  pub found_by_number : (rs : List R) (r : R) → OfPairs (Before number) rs → Contains rs r → find (λ x. same (number x) (number r)) rs ≡ Some r
  found_by_number [] r rise there = absurd (one_of_none r there)
  found_by_number (x ∷ rs) r rise there = by (one_of x rs r there) (found_by_number rs r rise.1)
    where
      by : (x ≡ r) ⊎ Contains rs r → (Contains rs r → find (λ y. same (number y) (number r)) rs ≡ Some r) → cond (same (number x) (number r)) (Some x) (find (λ y. same (number y) (number r)) rs) ≡ Some r
      by (inl one) rest = rw (ap (λ y. same (number y) (number r)) one ∙ same_self (number r)) (ap Some one)
      by (inr later) rest =
          let below = every_member (Before number x) rs r rise.0 later in
          rw (not_same (number x) (number r) (λ e. omega (arith, below, e))) (rest later)

-- ---- the ports of a network

module _ (net : Network) where
  -- the numbers of ports
  pub its_port : (port : Port) → Contains net.ports port → IsPort net port.id
  its_port port there = Contains-append_left (port_ids net) (router_port_ids net) port.id (Contains-map (λ (p : Port). p.id) net.ports port there)

  pub its_router_port : (port : RouterPort) → Contains net.router_ports port → IsPort net port.id
  its_router_port port there = Contains-append_right (port_ids net) (router_port_ids net) port.id (Contains-map (λ (p : RouterPort). p.id) net.router_ports port there)

  -- a port of this number, of one kind
  pub record OfSwitch (number : ObjId) : Type 0 where
    pub port : Port
    pub among : Contains net.ports port
    pub is : port.id ≡ number

  pub record OfRouter (number : ObjId) : Type 0 where
    pub port : RouterPort
    pub among : Contains net.router_ports port
    pub is : port.id ≡ number

  -- of either kind
  pub whose : (number : ObjId) → IsPort net number → OfSwitch number ⊎ OfRouter number
  whose number is = by (Contains-append_cases (port_ids net) (router_port_ids net) number is)
    where
      by : Contains (port_ids net) number ⊎ Contains (router_port_ids net) number → OfSwitch number ⊎ OfRouter number
      by (inl at) = let own = Contains-from_map (λ (p : Port). p.id) net.ports number at in inl (record { port = own.0; among = own.1; is = own.2 })
      by (inr at) = let own = Contains-from_map (λ (p : RouterPort). p.id) net.router_ports number at in inr (record { port = own.0; among = own.1; is = own.2 })

  -- ---- the other side

  -- a peer is a port
  pub other_side : (port peer : ObjId) → side_of net port ≡ Peer peer → IsPort net peer
  other_side port peer is = by (switch_port net port) is
    where
      is_peer : (at : Option ObjId) → ((number : ObjId) → at ≡ Some number → IsPort net number) → peer_side at ≡ Peer peer → IsPort net peer
      is_peer None each at = absurd (no_peer at)
        where
          no_peer : NoPeer ≡ Peer peer → ⊥
          no_peer e = cc
      is_peer (Some number) each at = subst (IsPort net) (same_peer at) (each number refl)
        where
          same_peer : Peer number ≡ Peer peer → number ≡ peer
          same_peer e = cc

      of_found : (found : Option RouterPort) → ((p : RouterPort) → found ≡ Some p → Contains net.router_ports p) → (number : ObjId) → option_map (λ (p : RouterPort). p.id) found ≡ Some number → IsPort net number
      of_found None there number at = absurd (none_some at)
        where
          none_some : None ≡ Some number → ⊥
          none_some e = cc
      of_found (Some p) there number at = subst (IsPort net) (one at) (its_router_port p (there p refl))
        where
          one : Some p.id ≡ Some number → p.id ≡ number
          one e = cc

      found_of : (found : Option Port) → ((p : Port) → found ≡ Some p → Contains net.ports p) → (number : ObjId) → option_map (λ (p : Port). p.id) found ≡ Some number → IsPort net number
      found_of None there number at = absurd (none_some at)
        where
          none_some : None ≡ Some number → ⊥
          none_some e = cc
      found_of (Some p) there number at = subst (IsPort net) (one at) (its_port p (there p refl))
        where
          one : Some p.id ≡ Some number → p.id ≡ number
          one e = cc

      host_or_peer : Host ≡ Peer peer → ⊥
      host_or_peer e = cc

      by_kind : (own : Port) (k : PortKind) → side_of_switch_port net own k ≡ Peer peer → IsPort net peer
      by_kind own kind.Host at = absurd (host_or_peer at)
      by_kind own kind.Router at =
          is_peer (option_map (λ (p : RouterPort). p.id) (peer_router_port net own))
          (of_found (peer_router_port net own) (λ p found. (find_gives (λ (other : RouterPort). is_port own (peer_port net other)) net.router_ports p found).0)) at

      by_router : (own : Option RouterPort) → side_of_router_port net own ≡ Peer peer → IsPort net peer
      by_router None at = is_peer None (λ number none. absurd (none_some number none)) at
        where
          none_some : (number : ObjId) → None ≡ Some number → ⊥
          none_some number e = cc
      by_router (Some own) at =
          is_peer (option_map (λ (p : Port). p.id) (peer_port net own))
          (found_of (peer_port net own) (λ p found. (find_gives (λ (other : Port). is_to_router other && is_name other.router_port own.name) net.ports p found).0)) at

      by : (own : Option Port) → side_of_port net port own ≡ Peer peer → IsPort net peer
      by None at = by_router (router_port net port) at
      by (Some own) at = by_kind own own.kind at

module _ (net : Network) (sound : IsSound net) where
  -- ---- by their numbers

  pub switch_port_at : (port : Port) → Contains net.ports port → switch_port net port.id ≡ Some port
  switch_port_at port there = found_by_number (λ (p : Port). p.id) net.ports port (ports_rise net sound) there

  pub no_switch_port_at : (port : RouterPort) → Contains net.router_ports port → switch_port net port.id ≡ None
  no_switch_port_at port there =
      none_passes (λ (p : Port). same p.id port.id) net.ports
      (λ p at. not_same p.id port.id (port_is_no_router_port net sound p.id port.id (Contains-map (λ (q : Port). q.id) net.ports p at) (Contains-map (λ (q : RouterPort). q.id) net.router_ports port there)))

  pub router_port_at : (port : RouterPort) → Contains net.router_ports port → router_port net port.id ≡ Some port
  router_port_at port there = found_by_number (λ (p : RouterPort). p.id) net.router_ports port (router_ports_rise net sound) there

  -- a port's datapath
  pub on_switch : (port : Port) → Contains net.ports port → datapath_at net port.id ≡ port.switch
  on_switch port there = rw (switch_port_at port there) refl

  pub on_router : (port : RouterPort) → Contains net.router_ports port → datapath_at net port.id ≡ port.router
  on_router port there = rw (no_switch_port_at port there, router_port_at port there) refl

  -- ---- numbers

  below : (numbers : List ObjId) (number : ObjId) → IsTrue (list_all (λ n. nat_lt 0 n.0 && nat_lt n.0 net.next) numbers) → Contains numbers number → number.0 < number_limit
  below numbers number all there =
      let used = each_passes (λ (n : ObjId). nat_lt 0 n.0 && nat_lt n.0 net.next) numbers number all there in
      let less = ltb-true number.0 net.next (and_parts (nat_lt 0 number.0) (nat_lt number.0 net.next) used).1 in
      omega (arith, less, sound.numbered.room)

  -- numbers of ports are below those of multicast groups
  pub number_below : (number : ObjId) → IsPort net number → number.0 < number_limit
  number_below number is = by (Contains-append_cases (port_ids net) (router_port_ids net) number is)
    where
      by : Contains (port_ids net) number ⊎ Contains (router_port_ids net) number → number.0 < number_limit
      by (inl at) = below (port_ids net) number (are_used net sound.numbered.below).ports at
      by (inr at) = below (router_port_ids net) number (are_used net sound.numbered.below).router_ports at

  -- and fit
  pub number_fits : (number : ObjId) → IsPort net number → number.0 < 2 ^ 32
  number_fits number is = let less = number_below number is in omega (arith, less)

  -- what goes to such a number goes to that port
  pub goes_to_port : (dp number : ObjId) → IsPort net number → target_of net dp number.0 ≡ OnePort number
  goes_to_port dp number is = rw (apart flood_number (λ e. let less = number_below number is in omega (arith, less, e)), apart unknown_number (λ e. let less = number_below number is in omega (arith, less, e))) refl
    where
      apart : (group : ℕ) → (number.0 ≡ group → ⊥) → (number.0 == group) ≡ false
      apart group differ = by (number.0 == group) refl
        where
          by : (b : Bool) → (number.0 == group) ≡ b → (number.0 == group) ≡ false
          by true same_number = absurd (differ (eqb-true number.0 group same_number))
          by false same_number = same_number

-- What is known of a network after an edit is so.
use Rattle.std.proofs.Common.{◌≡◌, ℕ, ◌+◌, ◌*◌, ◌-◌, ◌≤◌, ◌++◌, map, Bool, true, false, cond, not, nat_lt, min, List, [], ◌∷◌, Option, Some, None, arith, refl, sym, ap, ◌∙◌, subst, length}
use Rattle.std.proofs.lemmas.Bool.Decides.{nat_tests}
use Rattle.std.specs.Prelude.{IsTrue, filter, find, is_some, option_map, unwrap_or}
use Rattle.std.specs.List.{AllByRecursion}
use Rattle.std.specs.Str.{bytes_eq}
use Rattle.expr_core.specs.Formula.{Formula}
use Rattle.expr_core.specs.Text.{typed_text}
use Rattle.expr_core.specs.declared.typed.TypedAtom.{TypedAtom}
use Rattle.nv_base.specs.declared.object.ObjId.{ObjId}
use Rattle.nb_records.specs.declared.acl.Acl.{Acl}
use Rattle.nb_records.specs.declared.balancer.Lb.{Lb}
use Rattle.nb_records.specs.declared.balancer.Proto.TheVariants.{Tcp}
use Rattle.nb_records.specs.declared.router.Router.{Router}
use Rattle.nb_records.specs.declared.router.RouterPort.{RouterPort}
use Rattle.nb_records.specs.declared.switch.Port.{Port}
use Rattle.nb_records.specs.declared.switch.Switch.{Switch}
use Rattle.nb_records.specs.declared.edit.Edit.{Edit}
use Rattle.nb_records.specs.declared.edit.Edit.TheVariants as edit
use Rattle.nb_records.specs.declared.refusal.Kind.{Kind}
use Rattle.nb_records.specs.declared.refusal.Kind.TheVariants as kind
use Rattle.nb_records.specs.declared.refusal.Refusal.TheVariants.{Limit}
use Rattle.nb_records.specs.declared.sets.Group.{Group}
use Rattle.nb_model.specs.Amounts.{amount, bound, kinds}
use Rattle.nb_model.specs.Applies.{switches_of_acl}
use Rattle.nb_model.specs.Belongs.{owner_id}
use Rattle.nb_model.specs.Effect.{effect, each_where, where_there, add_acl, named_port_ids, new_vip, set_router_lbs, set_switch_lbs, with_number}
use Rattle.nb_model.specs.Network.{Network, group_named, lb_id, lb_named, next_number, port_named, same as is_same, switch_id}
use Rattle.nb_model.specs.Readable.{are_apart}
use Rattle.nb_model.specs.Sound.{AreNumbered, IsSound, Refer}
use Rattle.nb_model.proofs.RisesEdits.{edit_falls}
use Rattle.nb_model.proofs.Totals.{le_self}
use Rattle.nb_store.proofs.PlacedRecords.{apart_first, rises}
use Rattle.nv_table.specs.Table.{record_of}
use Rattle.nb_limits.specs.declared.ceilings.Ceilings.{Ceilings}
use Rattle.nb_limits.specs.Ceilings.{IsCeiling, AreCeilings}
use Rattle.nb_limits.specs.inner.Attached.{attached}
use Rattle.nb_limits.specs.inner.KnownAfter.{with_acl, on_more, with_ports, reach, own_vips, vips_after, with_lb, known_after}
use Rattle.nb_limits.specs.inner.NeighboursAfter.{peer_named, with_router_port, without_port, without_switch, with_addresses, with_enabled, with_kind, with_option}
use Rattle.nb_limits.specs.inner.GroupSwitches.{switch_count}
use Rattle.nb_limits.specs.inner.Weights.{of_owner, weight}
use Rattle.nb_limits.specs.inner.Within.{raised}
use Rattle.nb_limits.specs.Limitless.{IsSoundButLimits}
use Rattle.nb_limits.specs.declared.acl_limits.Measure.{Measure}
use Rattle.nb_limits.specs.declared.acl_limits.Measure.TheVariants.{Count, Text}
use Rattle.nb_limits.proofs.Every.{every_fails}
use Rattle.nb_limits.proofs.Fitting.{only_named, vip_fits, backends_fit}
use Rattle.nb_limits.proofs.NewMembers.{named_on, none_changed, set_switches, set_text, with_members}
use Rattle.nb_limits.proofs.NewPorts.{port_fits}
use Rattle.nb_limits.proofs.NewVips.{apart_last, new_alone, switch_more, router_more, vip_more}
use Rattle.nb_limits.proofs.PortsKnown.{one_addressed, one_enabled, one_kind, one_less, one_option, switch_less}
use Rattle.nb_limits.proofs.Raised.{falls, more_switches, more_text, reached, raised_by_ceiling, raised_ceiling}
use Rattle.nb_limits.proofs.Swapped.{total_none, total_same}

pub but_limits : (net : Network) → IsSound net → IsSoundButLimits net
but_limits net sound = record { numbered = sound.numbered; named = sound.named; refers = sound.refers; apart = sound.apart; readable = sound.readable }

none_over : (found : Option Kind) → option_map (λ own. Limit own (bound own)) found ≡ None → found ≡ None
none_over None none = refl
none_over (Some own) none = absurd (cc)

-- each kind of a sound network is within its bound
pub all_within : (net : Network) → IsSound net → AllByRecursion (λ own. nat_lt (bound own) (amount net own) ≡ false) kinds
all_within net sound = every_fails (λ own. nat_lt (bound own) (amount net own)) kinds (none_over (find (λ own. nat_lt (bound own) (amount net own)) kinds) sound.within)

vips_within : (net : Network) → IsSound net → nat_lt 64 (amount net kind.Vip) ≡ false
vips_within net sound = (all_within net sound).1.1.1.1.1.1.1.1.1.1.1.1.0

backends_within : (net : Network) → IsSound net → nat_lt 64 (amount net kind.Backend) ≡ false
backends_within net sound = (all_within net sound).1.1.1.1.1.1.1.1.1.1.1.1.1.0

fits : (limit before after : ℕ) → after ≤ before → nat_lt limit before ≡ false → nat_lt limit after ≡ false
fits limit before after less low = grind (arith, nat_tests, less, low)

-- the weight of an owner's ACLs, each no time
none_owned : (measure : Measure) (net : Network) (owner : ObjId) (times : ℕ) → times ≡ 0 → of_owner measure net owner times ≡ 0
none_owned measure net owner times is =
    total_same (λ (acl : Acl). weight measure acl * times) (λ acl. 0) (filter (λ acl. is_same owner acl.owner) net.acls) (λ acl. ap (λ n. weight measure acl * n) is ∙ nothing (weight measure acl))
    ∙ total_none (filter (λ (acl : Acl). is_same owner acl.owner) net.acls)
  where
    nothing : (n : ℕ) → n * 0 ≡ 0
    nothing n = omega arith

module _ (net : Network) (known : Ceilings) (are : AreCeilings net known) where
  -- where none of the kinds rises
  kept : (after : Network) → amount after kind.AclSwitch ≤ amount net kind.AclSwitch → amount after kind.MatchText ≤ amount net kind.MatchText → amount after kind.Vip ≤ amount net kind.Vip
      → amount after kind.Backend ≤ amount net kind.Backend → amount after kind.Neighbour ≤ amount net kind.Neighbour
      → amount after kind.VipDatapath ≤ amount net kind.VipDatapath → AreCeilings after known
  kept after a b c d e f = record {
    acl_switches = falls 65536 (amount net kind.AclSwitch) (amount after kind.AclSwitch) known.acl_switches a are.acl_switches;
    match_text = falls 67108864 (amount net kind.MatchText) (amount after kind.MatchText) known.match_text b are.match_text;
    vips = λ is. fits 64 (amount net kind.Vip) (amount after kind.Vip) c (are.vips is);
    backends = λ is. fits 64 (amount net kind.Backend) (amount after kind.Backend) d (are.backends is);
    neighbours = falls 262144 (amount net kind.Neighbour) (amount after kind.Neighbour) known.neighbours e are.neighbours;
    vip_datapaths = falls 16384 (amount net kind.VipDatapath) (amount after kind.VipDatapath) known.vip_datapaths f are.vip_datapaths;
  }

  -- where there may be more neighbours
  kept_but : (after : Network) (most : Option ℕ) → IsCeiling 262144 (amount after kind.Neighbour) most → amount after kind.AclSwitch ≤ amount net kind.AclSwitch
      → amount after kind.MatchText ≤ amount net kind.MatchText → amount after kind.Vip ≤ amount net kind.Vip → amount after kind.Backend ≤ amount net kind.Backend
      → amount after kind.VipDatapath ≤ amount net kind.VipDatapath → AreCeilings after (record known { neighbours = most })
  kept_but after most within a b c d f = record {
    acl_switches = falls 65536 (amount net kind.AclSwitch) (amount after kind.AclSwitch) known.acl_switches a are.acl_switches;
    match_text = falls 67108864 (amount net kind.MatchText) (amount after kind.MatchText) known.match_text b are.match_text;
    vips = λ is. fits 64 (amount net kind.Vip) (amount after kind.Vip) c (are.vips is);
    backends = λ is. fits 64 (amount net kind.Backend) (amount after kind.Backend) d (are.backends is);
    neighbours = within;
    vip_datapaths = falls 16384 (amount net kind.VipDatapath) (amount after kind.VipDatapath) known.vip_datapaths f are.vip_datapaths;
  }

  -- where a load balancer is attached to one datapath more
  one_attached : (after : ObjId → Network) (found : Option ObjId)
      → ((n : ObjId) → amount (after n) kind.VipDatapath ≤ amount net kind.VipDatapath + own_vips (record_of (λ (lb : Lb). lb.id) n net.lbs) * 1)
      → amount (where_there found after net) kind.AclSwitch ≤ amount net kind.AclSwitch → amount (where_there found after net) kind.MatchText ≤ amount net kind.MatchText
      → amount (where_there found after net) kind.Vip ≤ amount net kind.Vip → amount (where_there found after net) kind.Backend ≤ amount net kind.Backend
      → amount (where_there found after net) kind.Neighbour ≤ amount net kind.Neighbour → AreCeilings (where_there found after net) (with_lb net known found)
  one_attached after None rise a b c d e = are
  one_attached after (Some n) rise a b c d e = record {
    acl_switches = falls 65536 (amount net kind.AclSwitch) (amount (after n) kind.AclSwitch) known.acl_switches a are.acl_switches;
    match_text = falls 67108864 (amount net kind.MatchText) (amount (after n) kind.MatchText) known.match_text b are.match_text;
    vips = λ is. fits 64 (amount net kind.Vip) (amount (after n) kind.Vip) c (are.vips is);
    backends = λ is. fits 64 (amount net kind.Backend) (amount (after n) kind.Backend) d (are.backends is);
    neighbours = falls 262144 (amount net kind.Neighbour) (amount (after n) kind.Neighbour) known.neighbours e are.neighbours;
    vip_datapaths = raised_ceiling 16384 (amount net kind.VipDatapath) (amount (after n) kind.VipDatapath) known.vip_datapaths (own_vips (record_of (λ (lb : Lb). lb.id) n net.lbs)) 1 1
        are.vip_datapaths (rise n) (le_self 1);
  }

  -- where there is a VIP more
  one_vip : AreNumbered net → Refer net → (changed : Network) (new : Lb) → new.id ≡ next_number net → (found : Option Lb)
      → ((lb : Lb) → found ≡ Some lb → amount changed kind.VipDatapath ≤ amount net kind.VipDatapath + attached net lb.id 1 * 1)
      → IsCeiling 16384 (amount (cond (is_some found) changed (record net { lbs = net.lbs ++ new ∷ []; next = net.next + 1 })) kind.VipDatapath) (vips_after net found known.vip_datapaths)
  one_vip numbered refers changed new is_new None rise =
      falls 16384 (amount net kind.VipDatapath) (amount (record net { lbs = net.lbs ++ new ∷ []; next = net.next + 1 }) kind.VipDatapath) known.vip_datapaths (new_alone net numbered refers new is_new) are.vip_datapaths
  one_vip numbered refers changed new is_new (Some lb) rise =
      raised_by_ceiling 16384 (amount net kind.VipDatapath) (amount changed kind.VipDatapath) known.vip_datapaths (attached net lb.id 1) 1 are.vip_datapaths (rise lb refl)

  -- where there is an ACL more
  one_acl : IsSoundButLimits net → (acl : ObjId → Acl) (matching : Formula TypedAtom) → ((owner : ObjId) → (acl owner).owner ≡ owner) → ((owner : ObjId) → (acl owner).matching ≡ matching) → (found : Option ObjId)
      → amount (where_there found (λ owner. add_acl net (acl owner)) net) kind.Vip ≤ amount net kind.Vip → amount (where_there found (λ owner. add_acl net (acl owner)) net) kind.Backend ≤ amount net kind.Backend
      → amount (where_there found (λ owner. add_acl net (acl owner)) net) kind.Neighbour ≤ amount net kind.Neighbour
      → amount (where_there found (λ owner. add_acl net (acl owner)) net) kind.VipDatapath ≤ amount net kind.VipDatapath → AreCeilings (where_there found (λ owner. add_acl net (acl owner)) net) (with_acl net known found matching)
  one_acl limitless acl matching owns says None c d e f = are
  one_acl limitless acl matching owns says (Some owner) c d e f =
      let low = subst (λ (n : ObjId). length (switches_of_acl net (acl owner)) ≤ reach net n) (owns owner) (reached net limitless (acl owner)) in
      record {
        acl_switches = raised_ceiling 65536 (amount net kind.AclSwitch) (amount (add_acl net (acl owner)) kind.AclSwitch) known.acl_switches 1 (length (switches_of_acl net (acl owner))) (reach net owner)
            are.acl_switches (more_switches net (acl owner)) low;
        match_text = subst (λ (m : Formula TypedAtom). IsCeiling 67108864 (amount (add_acl net (acl owner)) kind.MatchText) (raised 67108864 known.match_text (length (typed_text m)) (reach net owner))) (says owner)
            (raised_ceiling 67108864 (amount net kind.MatchText) (amount (add_acl net (acl owner)) kind.MatchText) known.match_text (length (typed_text (acl owner).matching)) (length (switches_of_acl net (acl owner))) (reach net owner)
            are.match_text (more_text net (acl owner)) low);
        vips = λ is. fits 64 (amount net kind.Vip) (amount (add_acl net (acl owner)) kind.Vip) c (are.vips is);
        backends = λ is. fits 64 (amount net kind.Backend) (amount (add_acl net (acl owner)) kind.Backend) d (are.backends is);
        neighbours = falls 262144 (amount net kind.Neighbour) (amount (add_acl net (acl owner)) kind.Neighbour) known.neighbours e are.neighbours;
        vip_datapaths = falls 16384 (amount net kind.VipDatapath) (amount (add_acl net (acl owner)) kind.VipDatapath) known.vip_datapaths f are.vip_datapaths;
      }

  -- where a group, if it is there, has other ports
  other_members : IsSound net → (name : List ℕ) (ports : List (List ℕ)) → AreCeilings (effect net (edit.PgSetPorts name ports)) (with_ports net known (group_named net name) (min (length ports) (length net.switches)))
  other_members sound name ports = by (group_named net name) refl
    where
      given : Edit
      given = edit.PgSetPorts name ports

      after : Network
      after = effect net given

      most : ℕ
      most = min (length ports) (length net.switches)

      only : (group : Group) → group_named net name ≡ Some group → AllByRecursion (λ (g : Group). IsTrue (bytes_eq g.name name) → g ≡ group) net.groups
      only group is = only_named (λ (g : Group). g.name) net.groups name group sound.named.groups is

      switches : (group : Group) → group_named net name ≡ Some group → amount after kind.AclSwitch ≤ amount net kind.AclSwitch + of_owner Count net group.id (most - switch_count net group) * 1
      switches group is = set_switches net (but_limits net sound) name group is (only group is) (named_port_ids net ports) most (named_on net (but_limits net sound) ports)

      text : (group : Group) → group_named net name ≡ Some group → amount after kind.MatchText ≤ amount net kind.MatchText + of_owner Text net group.id (most - switch_count net group) * 1
      text group is = set_text net (but_limits net sound) name group is (only group is) (named_port_ids net ports) most (named_on net (but_limits net sound) ports)

      none : (a b n : ℕ) → a ≤ b + n * 1 → n ≡ 0 → a ≤ b
      none a b n low e = omega (arith, low, e)

      no_more : (a b : ℕ) → nat_lt a b ≡ false → b - a ≡ 0
      no_more a b e = grind (arith, nat_tests, e)

      by_more : (group : Group) → group_named net name ≡ Some group → (b : Bool) → nat_lt (switch_count net group) most ≡ b → AreCeilings after (cond b (on_more net known group.id (most - switch_count net group)) known)
      by_more group found true e = record {
        acl_switches = raised_by_ceiling 65536 (amount net kind.AclSwitch) (amount after kind.AclSwitch) known.acl_switches (of_owner Count net group.id (most - switch_count net group)) 1 are.acl_switches (switches group found);
        match_text = raised_by_ceiling 67108864 (amount net kind.MatchText) (amount after kind.MatchText) known.match_text (of_owner Text net group.id (most - switch_count net group)) 1 are.match_text (text group found);
        vips = λ is. fits 64 (amount net kind.Vip) (amount after kind.Vip) (edit_falls net given sound kind.Vip refl) (are.vips is);
        backends = λ is. fits 64 (amount net kind.Backend) (amount after kind.Backend) (edit_falls net given sound kind.Backend refl) (are.backends is);
        neighbours = falls 262144 (amount net kind.Neighbour) (amount after kind.Neighbour) known.neighbours (edit_falls net given sound kind.Neighbour refl) are.neighbours;
        vip_datapaths = falls 16384 (amount net kind.VipDatapath) (amount after kind.VipDatapath) known.vip_datapaths (edit_falls net given sound kind.VipDatapath refl) are.vip_datapaths;
      }
      by_more group found false e =
          kept after
          (none (amount after kind.AclSwitch) (amount net kind.AclSwitch) (of_owner Count net group.id (most - switch_count net group)) (switches group found) (none_owned Count net group.id (most - switch_count net group) (no_more (switch_count net group) most e)))
          (none (amount after kind.MatchText) (amount net kind.MatchText) (of_owner Text net group.id (most - switch_count net group)) (text group found) (none_owned Text net group.id (most - switch_count net group) (no_more (switch_count net group) most e)))
          (edit_falls net given sound kind.Vip refl) (edit_falls net given sound kind.Backend refl) (edit_falls net given sound kind.Neighbour refl) (edit_falls net given sound kind.VipDatapath refl)

      by : (found : Option Group) → group_named net name ≡ found → AreCeilings after (with_ports net known found most)
      by None is =
          subst (λ (groups : List Group). AreCeilings (record net { groups = groups }) known)
          (sym (none_changed (λ (g : Group). bytes_eq g.name name) (with_members (named_port_ids net ports)) net.groups is)) are
      by (Some group) is = by_more group is (nat_lt (switch_count net group) most) refl

-- no two ports have one name
ports_apart : (net : Network) → IsSound net → IsTrue (are_apart bytes_eq (map (λ (p : Port). p.name) net.ports))
ports_apart net sound = apart_first bytes_eq (map (λ (p : Port). p.name) net.ports) (map (λ (p : RouterPort). p.name) net.router_ports) sound.named.ports

few : (limit n : ℕ) → not (nat_lt limit n) ≡ true → nat_lt limit n ≡ false
few limit n is = by (nat_lt limit n) is
  where
    by : (b : Bool) → not b ≡ true → b ≡ false
    by true e = absurd (cc)
    by false e = refl

pub known_holds : (net : Network) (known : Ceilings) (given : Edit) → IsSound net → AreCeilings net known → AreCeilings (effect net given) (known_after net known given)
known_holds net known (edit.AclAdd name way priority matching verdict may of) sound are =
    let given = edit.AclAdd name way priority matching verdict may of in
    one_acl net known are (but_limits net sound) (λ owner. record { id = next_number net; owner = owner; way = way; priority = priority; matching = matching; verdict = verdict }) matching (λ owner. refl) (λ owner. refl)
    (owner_id net of name) (edit_falls net given sound kind.Vip refl) (edit_falls net given sound kind.Backend refl) (edit_falls net given sound kind.Neighbour refl) (edit_falls net given sound kind.VipDatapath refl)
known_holds net known (edit.PgSetPorts name ports) sound are = other_members net known are sound name ports
known_holds net known (edit.LbAdd name at backends proto) sound are =
    let given = edit.LbAdd name at backends proto in
    record {
      acl_switches = falls 65536 (amount net kind.AclSwitch) (amount (effect net given) kind.AclSwitch) known.acl_switches (edit_falls net given sound kind.AclSwitch refl) are.acl_switches;
      match_text = falls 67108864 (amount net kind.MatchText) (amount (effect net given) kind.MatchText) known.match_text (edit_falls net given sound kind.MatchText refl) are.match_text;
      vips = λ is. vip_fits net name (new_vip at backends) proto sound.named (vips_within net sound) is;
      backends = λ is. backends_fit net name (new_vip at backends) proto (backends_within net sound) (few 64 (length backends) is);
      neighbours = falls 262144 (amount net kind.Neighbour) (amount (effect net given) kind.Neighbour) known.neighbours (edit_falls net given sound kind.Neighbour refl) are.neighbours;
      vip_datapaths = one_vip net known are sound.numbered sound.refers (record net { lbs = each_where (λ lb. bytes_eq lb.name name) (λ lb. record lb { vips = lb.vips ++ new_vip at backends ∷ [] }) net.lbs })
          (record { id = next_number net; name = name; proto = unwrap_or proto Tcp; vips = new_vip at backends ∷ [] }) refl (lb_named net name)
          (λ lb found. vip_more net name lb (new_vip at backends) sound.named.lbs (only_named (λ (own : Lb). own.name) net.lbs name lb sound.named.lbs found));
    }
known_holds net known (edit.LsLbAdd owner name may) sound are =
    let given = edit.LsLbAdd owner name may in
    one_attached net known are (λ number. set_switch_lbs net owner (with_number number)) (lb_id net name)
    (λ n. switch_more net (rises (λ (lb : Lb). lb.id) net.lbs sound.numbered.order.lbs) owner n (apart_first bytes_eq (map (λ (x : Switch). x.name) net.switches) (map (λ (x : Router). x.name) net.routers) sound.named.datapaths))
    (edit_falls net given sound kind.AclSwitch refl) (edit_falls net given sound kind.MatchText refl) (edit_falls net given sound kind.Vip refl) (edit_falls net given sound kind.Backend refl) (edit_falls net given sound kind.Neighbour refl)
known_holds net known (edit.LrLbAdd owner name may) sound are =
    let given = edit.LrLbAdd owner name may in
    one_attached net known are (λ number. set_router_lbs net owner (with_number number)) (lb_id net name)
    (λ n. router_more net (rises (λ (lb : Lb). lb.id) net.lbs sound.numbered.order.lbs) owner n (apart_last bytes_eq (map (λ (x : Switch). x.name) net.switches) (map (λ (x : Router). x.name) net.routers) sound.named.datapaths))
    (edit_falls net given sound kind.AclSwitch refl) (edit_falls net given sound kind.MatchText refl) (edit_falls net given sound kind.Vip refl) (edit_falls net given sound kind.Backend refl) (edit_falls net given sound kind.Neighbour refl)
known_holds net known (edit.LrpAdd router port mac nets may) sound are =
    let given = edit.LrpAdd router port mac nets may in
    kept_but net known are (effect net given) (with_router_port net (peer_named net port) (length nets) known.neighbours) (port_fits net (but_limits net sound) router port mac nets may known.neighbours are.neighbours)
    (edit_falls net given sound kind.AclSwitch refl) (edit_falls net given sound kind.MatchText refl) (edit_falls net given sound kind.Vip refl) (edit_falls net given sound kind.Backend refl) (edit_falls net given sound kind.VipDatapath refl)
known_holds net known (edit.LsDel name may) sound are =
    let given = edit.LsDel name may in
    kept_but net known are (effect net given) (without_switch net (switch_id net name) known.neighbours) (switch_less net known.neighbours are.neighbours (but_limits net sound) name)
    (edit_falls net given sound kind.AclSwitch refl) (edit_falls net given sound kind.MatchText refl) (edit_falls net given sound kind.Vip refl) (edit_falls net given sound kind.Backend refl) (edit_falls net given sound kind.VipDatapath refl)
known_holds net known (edit.LspDel port may) sound are =
    let given = edit.LspDel port may in
    kept_but net known are (effect net given) (without_port net (port_named net port) known.neighbours)
    (one_less net known.neighbours are.neighbours (but_limits net sound) port (ports_apart net sound))
    (edit_falls net given sound kind.AclSwitch refl) (edit_falls net given sound kind.MatchText refl) (edit_falls net given sound kind.Vip refl) (edit_falls net given sound kind.Backend refl) (edit_falls net given sound kind.VipDatapath refl)
known_holds net known (edit.LspSetAddresses port list) sound are =
    let given = edit.LspSetAddresses port list in
    kept_but net known are (effect net given) (with_addresses net list known.neighbours)
    (one_addressed net known.neighbours are.neighbours port list (ports_apart net sound))
    (edit_falls net given sound kind.AclSwitch refl) (edit_falls net given sound kind.MatchText refl) (edit_falls net given sound kind.Vip refl) (edit_falls net given sound kind.Backend refl) (edit_falls net given sound kind.VipDatapath refl)
known_holds net known (edit.LspSetType port own) sound are =
    let given = edit.LspSetType port own in
    kept_but net known are (effect net given) (with_kind net (port_named net port) own known.neighbours) (one_kind net known.neighbours are.neighbours (but_limits net sound) (ports_apart net sound) port own)
    (edit_falls net given sound kind.AclSwitch refl) (edit_falls net given sound kind.MatchText refl) (edit_falls net given sound kind.Vip refl) (edit_falls net given sound kind.Backend refl) (edit_falls net given sound kind.VipDatapath refl)
known_holds net known (edit.LspSetOptions port name) sound are =
    let given = edit.LspSetOptions port name in
    kept_but net known are (effect net given) (with_option net (port_named net port) name known.neighbours) (one_option net known.neighbours are.neighbours (but_limits net sound) (ports_apart net sound) port name)
    (edit_falls net given sound kind.AclSwitch refl) (edit_falls net given sound kind.MatchText refl) (edit_falls net given sound kind.Vip refl) (edit_falls net given sound kind.Backend refl) (edit_falls net given sound kind.VipDatapath refl)
known_holds net known (edit.LspSetEnabled port true) sound are =
    let given = edit.LspSetEnabled port true in
    kept_but net known are (effect net given) (with_enabled net (port_named net port) known.neighbours) (one_enabled net known.neighbours are.neighbours (but_limits net sound) (ports_apart net sound) port)
    (edit_falls net given sound kind.AclSwitch refl) (edit_falls net given sound kind.MatchText refl) (edit_falls net given sound kind.Vip refl) (edit_falls net given sound kind.Backend refl) (edit_falls net given sound kind.VipDatapath refl)
known_holds net known (edit.LspSetEnabled port false) sound are =
    let given = edit.LspSetEnabled port false in
    kept net known are (effect net given) (edit_falls net given sound kind.AclSwitch refl) (edit_falls net given sound kind.MatchText refl) (edit_falls net given sound kind.Vip refl) (edit_falls net given sound kind.Backend refl) (edit_falls net given sound kind.Neighbour refl) (edit_falls net given sound kind.VipDatapath refl)
known_holds net known other sound are =
    kept net known are (effect net other) (edit_falls net other sound kind.AclSwitch refl) (edit_falls net other sound kind.MatchText refl) (edit_falls net other sound kind.Vip refl) (edit_falls net other sound kind.Backend refl) (edit_falls net other sound kind.Neighbour refl) (edit_falls net other sound kind.VipDatapath refl)

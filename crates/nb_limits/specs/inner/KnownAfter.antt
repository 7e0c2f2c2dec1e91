-- What is known after an edit, by what is known before it.
use Rattle.std.specs.Prelude.{ℕ, ◌-◌, Bool, true, not, nat_lt, if◌then◌else◌, min, length, Option, Some, None}
use Rattle.expr_core.specs.Formula.{Formula}
use Rattle.expr_core.specs.Text.{typed_text}
use Rattle.expr_core.specs.declared.typed.TypedAtom.{TypedAtom}
use Rattle.nv_base.specs.declared.object.ObjId.{ObjId}
use Rattle.nb_records.specs.declared.balancer.Lb.{Lb}
use Rattle.nb_records.specs.declared.edit.Edit.{Edit}
use Rattle.nb_records.specs.declared.edit.Edit.TheVariants as edit
use Rattle.nb_records.specs.declared.refusal.Kind.TheVariants as kind
use Rattle.nb_records.specs.declared.sets.Group.{Group}
use Rattle.nb_model.specs.Amounts.{bound}
use Rattle.nb_model.specs.Belongs.{owner_id}
use Rattle.nb_model.specs.Network.{Network, group_named, lb_named, lb_id}
use Rattle.nv_table.specs.Table.{record_of}
use Rattle.nb_limits.specs.declared.acl_limits.Measure.TheVariants.{Count, Text}
use Rattle.nb_limits.specs.declared.ceilings.Ceilings.{Ceilings}
use Rattle.nb_limits.specs.inner.Attached.{attached}
use Rattle.nb_limits.specs.inner.GroupSwitches.{switch_count}
use Rattle.nb_limits.specs.inner.NeighboursAfter.{neighbours_after}
use Rattle.nb_limits.specs.inner.Weights.{of_owner}
use Rattle.nb_limits.specs.inner.Within.{up_to, raised, raised_by}

-- to how many switches an ACL of an owner may apply: of a group to no more than it has ports, and than there are; of a switch to one
abbrev pub owner_reach : Network → Option Group → ℕ
owner_reach net None = 1
owner_reach net (Some group) = min (length group.ports) (length net.switches)

-- the same of the number of an owner
abbrev pub reach : Network → ObjId → ℕ
reach net owner = owner_reach net (record_of (λ group. group.id) owner net.groups)

-- after one more ACL with this match, if its owner is there
abbrev pub with_acl : Network → Ceilings → Option ObjId → Formula TypedAtom → Ceilings
with_acl net known None matching = known
with_acl net known (Some owner) matching = record known {
  acl_switches = raised (bound kind.AclSwitch) known.acl_switches 1 (reach net owner);
  match_text = raised (bound kind.MatchText) known.match_text (length (typed_text matching)) (reach net owner);
}

-- once each ACL of a group applies to at most so many more switches
abbrev pub on_more : Network → Ceilings → ObjId → ℕ → Ceilings
on_more net known group more = record known {
  acl_switches = raised_by (bound kind.AclSwitch) known.acl_switches (up_to (bound kind.AclSwitch) (of_owner Count net group more)) 1;
  match_text = raised_by (bound kind.MatchText) known.match_text (up_to (bound kind.MatchText) (of_owner Text net group more)) 1;
}

-- once this group, if there is one, has other ports, which are on at most so many switches: where it was on as many, nothing comes
abbrev pub with_ports : Network → Ceilings → Option Group → ℕ → Ceilings
with_ports net known None most = known
with_ports net known (Some group) most = if nat_lt (switch_count net group) most then on_more net known group.id (most - switch_count net group) else known

-- a load balancer may have one VIP more
abbrev pub has_vip_room : Option Lb → Bool
has_vip_room None = true
has_vip_room (Some lb) = nat_lt (length lb.vips) (bound kind.Vip)

-- the VIPs of a load balancer, if it is there
abbrev pub own_vips : Option Lb → ℕ
own_vips None = 0
own_vips (Some lb) = length lb.vips

-- after a VIP more of this load balancer, once for each datapath that has it, or of a new one, which none has
abbrev pub vips_after : Network → Option Lb → Option ℕ → Option ℕ
vips_after net None most = most
vips_after net (Some lb) most = raised_by (bound kind.VipDatapath) most (up_to (bound kind.VipDatapath) (attached net lb.id 1)) 1

-- once the load balancer of this number, if there is one, is attached to one datapath more
abbrev pub with_lb : Network → Ceilings → Option ObjId → Ceilings
with_lb net known None = known
with_lb net known (Some number) = record known { vip_datapaths = raised (bound kind.VipDatapath) known.vip_datapaths (own_vips (record_of (λ lb. lb.id) number net.lbs)) 1 }

-- what is known after an edit
abbrev pub known_after : Network → Ceilings → Edit → Ceilings
known_after net known (edit.AclAdd name way priority matching verdict may of) = with_acl net known (owner_id net of name) matching
known_after net known (edit.PgSetPorts name ports) = with_ports net known (group_named net name) (min (length ports) (length net.switches))
known_after net known (edit.LbAdd name at backends proto) =
    record known {
      vips_fit = has_vip_room (lb_named net name);
      backends_fit = not (nat_lt (bound kind.Backend) (length backends));
      vip_datapaths = vips_after net (lb_named net name) known.vip_datapaths;
    }
known_after net known (edit.LsLbAdd switch name may) = with_lb net known (lb_id net name)
known_after net known (edit.LrLbAdd router name may) = with_lb net known (lb_id net name)
known_after net known other = record known { neighbours = neighbours_after net other known.neighbours }

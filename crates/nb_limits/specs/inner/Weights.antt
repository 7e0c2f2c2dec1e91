-- What an ACL counts for.
use Rattle.std.specs.Prelude.{ℕ, ◌*◌, length, filter, Option, Some, None}
use Rattle.expr_core.specs.Text.{typed_text}
use Rattle.nv_base.specs.declared.object.ObjId.{ObjId}
use Rattle.nb_records.specs.declared.acl.Acl.{Acl}
use Rattle.nb_records.specs.declared.sets.Group.{Group}
use Rattle.nb_model.specs.Amounts.{total}
use Rattle.nb_model.specs.Applies.{switches_of_acl}
use Rattle.nb_model.specs.Network.{Network, same}
use Rattle.nv_table.specs.Table.{record_of}
use Rattle.nb_limits.specs.inner.GroupSwitches.{switch_count}
use Rattle.nb_limits.specs.declared.acl_limits.Measure.{Measure}
use Rattle.nb_limits.specs.declared.acl_limits.Measure.TheVariants.{Count, Text}

-- one, or the bytes of its match
abbrev pub weight : Measure → Acl → ℕ
weight Count acl = 1
weight Text acl = length (typed_text acl.matching)

-- the weight of all ACLs, each once for each switch that it applies to
abbrev pub acl_weight : Measure → Network → ℕ
acl_weight measure net = total (λ acl. weight measure acl * length (switches_of_acl net acl)) net.acls

-- how many there are, none or one
abbrev pub found_count : {R : Type 0} → Option R → ℕ
found_count None = 0
found_count (Some r) = 1

-- the weight of an ACL, if a switch owns it
abbrev pub on_switch : Measure → Network → Acl → ℕ
on_switch measure net acl = weight measure acl * found_count (record_of (λ switch. switch.id) acl.owner net.switches)

-- the weight of the ACLs that switches own
abbrev pub on_switches : Measure → Network → ℕ
on_switches measure net = total (on_switch measure net) net.acls

-- the weight of the ACLs of an owner, each so many times
abbrev pub of_owner : Measure → Network → ObjId → ℕ → ℕ
of_owner measure net owner times = total (λ acl. weight measure acl * times) (filter (λ acl. same owner acl.owner) net.acls)

-- the weight of the ACLs that a group owns, each once for each switch of the group
abbrev pub on_group : Measure → Network → Group → ℕ
on_group measure net group = of_owner measure net group.id (switch_count net group)

-- that of the ACLs that groups own
abbrev pub on_groups : Measure → Network → ℕ
on_groups measure net = total (on_group measure net) net.groups

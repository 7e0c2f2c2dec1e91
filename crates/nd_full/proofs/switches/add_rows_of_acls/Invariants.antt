use Rattle.std.proofs.Common.{◌≡◌, ◌++◌, length}
use Rattle.std.specs.List.{flat_map}
use Rattle.nb_model.specs.Network.{same}
use Rattle.nd_full.specs.inner.Made.{acl_unit, acl_units}
use Rattle.nv_table.proofs.Through.{these_after}
use Rattle.nd_full.proofs.switches.add_rows_of_acls.Given as goal

-- the rows so far, and then those of the ACLs that are left, are all
abbrev pub invariant-loop-acl : goal.invariant-loop-acl
invariant-loop-acl l =
    l.made ++ flat_map (acl_unit l.switch l.tracks) (these_after (λ x. x.id) (λ x. same l.owner x.owner) l.last l.records.acls) ≡ l.fn.made ++ acl_units l.records l.switch l.tracks l.owner

abbrev pub decreases-loop-acl : goal.decreases-loop-acl
decreases-loop-acl l = length (these_after (λ x. x.id) (λ x. same l.owner x.owner) l.last l.records.acls)

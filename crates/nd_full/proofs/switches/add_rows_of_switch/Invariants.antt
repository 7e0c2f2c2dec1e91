use Rattle.std.proofs.Common.{◌≡◌, ◌++◌, take}
use Rattle.std.specs.List.{flat_map}
use Rattle.nd_full.specs.inner.Made.{acl_units}
use Rattle.nd_full.proofs.switches.add_rows_of_switch.Given as goal

-- the rows of the ACLs of the owners so far come after those of the switch
abbrev pub invariant-loop-owner : goal.invariant-loop-owner
invariant-loop-owner l = l.made ≡ l.initial.made ++ flat_map (acl_units l.records l.switch.id l.acl.tracks) (take l.owner-index l.owners)

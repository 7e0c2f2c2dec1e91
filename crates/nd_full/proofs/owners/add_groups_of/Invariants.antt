use Rattle.std.proofs.Common.{◌≡◌, ◌++◌, [], ◌∷◌, length}
use Rattle.std.specs.List.{flat_map}
use Rattle.nb_model.specs.Belongs.{is_among}
use Rattle.nd_full.specs.inner.Owners.{groups_of_port}
use Rattle.nv_table.proofs.Through.{these_after}
use Rattle.nd_full.proofs.owners.add_groups_of.Given as goal

-- the numbers so far, and then those of the groups that are left, are all
abbrev pub invariant-loop-group : goal.invariant-loop-group
invariant-loop-group l = l.owners.items ++ flat_map (λ group. group.id ∷ []) (these_after (λ x. x.id) (λ x. is_among l.port x.ports) l.last l.records.groups) ≡ l.fn.owners.items ++ groups_of_port l.records l.port

abbrev pub decreases-loop-group : goal.decreases-loop-group
decreases-loop-group l = length (these_after (λ x. x.id) (λ x. is_among l.port x.ports) l.last l.records.groups)

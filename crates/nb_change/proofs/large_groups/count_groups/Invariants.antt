use Rattle.std.proofs.Common.{length}
use Rattle.nb_model.specs.Belongs.{is_among}
use Rattle.nv_table.proofs.Through.{these_after}
use Rattle.nb_change.proofs.large_groups.count_groups.Given as goal

-- the groups that are left
abbrev pub decreases-loop-group : goal.decreases-loop-group
decreases-loop-group l = length (these_after (λ x. x.id) (λ x. is_among l.port x.ports) l.after l.records.groups)

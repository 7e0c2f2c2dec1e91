use Rattle.std.proofs.Common.{length}
use Rattle.nb_model.specs.Network.{same}
use Rattle.nv_table.proofs.Through.{these_after}
use Rattle.nb_change.proofs.large_groups.counts_of.Given as goal

-- the ports that are left
abbrev pub decreases-loop-port : goal.decreases-loop-port
decreases-loop-port l = length (these_after (λ x. x.id) (λ x. same l.switch x.switch) l.after l.records.ports)

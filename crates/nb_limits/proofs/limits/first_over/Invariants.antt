use Rattle.std.proofs.Common.{◌≡◌, drop}
use Rattle.nb_model.specs.Amounts.{first_over}
use Rattle.nb_limits.specs.Ceilings.{AreCeilings}
use Rattle.nb_limits.proofs.limits.first_over.Given as goal

-- the first of all is the first of those that are left
abbrev pub invariant-loop-kind : goal.invariant-loop-kind
invariant-loop-kind l = record {
  first : first_over l.kinds l.records ≡ first_over (drop l.kind-index l.kinds) l.records;
  known : AreCeilings l.records l.known;
}

use Rattle.ct_core.proofs.Changed.{keeps_marked, keeps_recorded, keeps_without, refused_full}
use Rattle.ct_core.proofs.laws.changes_keep_connections.Goals as goal

pub returns : goal.returns
returns c = record { recorded = keeps_recorded; refused = refused_full; marked = keeps_marked; without = keeps_without }

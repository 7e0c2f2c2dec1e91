use Rattle.std.proofs.Common.{◌≡◌, ◌+◌, ◌<◌, length}
use Rattle.std.specs.List.{AllByRecursion}
use Rattle.std.specs.Vec.Iter.{into_iter_items, into_iter_len}
use Rattle.nb_model.specs.Readable.{IsReadable}
use Rattle.nb_model.specs.Sound.{IsSound}
use Rattle.nb_model.specs.Transactions.{edited}
use Rattle.nb_limits.specs.Ceilings.{AreCeilings}
use Rattle.nb_check.specs.inner.Going.{AreSince}
use Rattle.nb_check.specs.Undone.{back_all}
use Rattle.nb_check.proofs.apply.apply_each.Given as goal
use Rattle.nv_base.specs.Object.{number_limit}

-- the edits that are left ask of this network what all asked of the first
abbrev pub invariant-loop-edit : goal.invariant-loop-edit
invariant-loop-edit l = record {
  left : into_iter_len l.edit-iterator ≡ length (into_iter_items l.edit-iterator);
  sound : IsSound l.records;
  known : AreCeilings l.records l.known;
  readable : AllByRecursion IsReadable (into_iter_items l.edit-iterator);
  room : l.records.next + length (into_iter_items l.edit-iterator) < number_limit;
  same : edited l.fn.records l.fn.edits.items ≡ edited l.records (into_iter_items l.edit-iterator);
  back : back_all l.undos.items l.records ≡ back_all l.fn.undos.items l.fn.records;
  first : l.gone.first ≡ l.fn.records.next;
  gone : AreSince l.fn.records l.records l.gone.objects;
}

use Rattle.std.proofs.Common.{◌≡◌, ◌&&◌, length}
use Rattle.std.specs.Bool.{IsTrue}
use Rattle.std.specs.List.{list_all}
use Rattle.nb_model.specs.Effect.{without}
use Rattle.nb_model.specs.Network.{same}
use Rattle.nv_table.specs.Table.{NumbersRise}
use Rattle.nb_store.specs.Undo.{back_steps}
use Rattle.nb_change.proofs.OneByOne.{passed, to_see}
use Rattle.nb_change.proofs.owned.drop_each.Given as goal

-- without these records the network is now what it would have been before, and they all stand after the one that was looked at last
abbrev pub invariant-loop-held : goal.invariant-loop-held
invariant-loop-held g l = record {
  rise : NumbersRise g.R.Record.number (g.R.Owned.list l.work.records);
  done : IsTrue (list_all (passed g.R.Record.number (λ r. same l.owner (g.R.Owned.owner_of r) && g.T.Test.holds l.test r) l.after) (g.R.Owned.list l.work.records));
  same : g.R.Owned.with_list (without (λ r. same l.owner (g.R.Owned.owner_of r) && g.T.Test.holds l.test r) (g.R.Owned.list l.work.records)) l.work.records
      ≡ g.R.Owned.with_list (without (λ r. same l.owner (g.R.Owned.owner_of r) && g.T.Test.holds l.test r) (g.R.Owned.list l.fn.work.records)) l.fn.work.records;
  back : back_steps l.work.steps.items l.work.records ≡ back_steps l.fn.work.steps.items l.fn.work.records;
}

abbrev pub decreases-loop-held : goal.decreases-loop-held
decreases-loop-held g l = length (to_see g.R.Record.number l.after (g.R.Owned.list l.work.records))

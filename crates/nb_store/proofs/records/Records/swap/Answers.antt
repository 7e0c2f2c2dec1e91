use Rattle.std.proofs.Common.{refl, ap}
use Rattle.std.specs.Option.{option_map}
use Rattle.nb_store.specs.declared.step.LeanObject.TheVariants as lean
use Rattle.nb_store.proofs.records.Records.swap.Goals as goal
use Rattle.nb_store.proofs.records.Records.swap.Goals.{in-Switch+in_ok-swap-in-Switch, in-Router+in_ok-swap-in-Router, in-Group+in_ok-swap-in-Group}

-- kind by kind
pub returns-clause-old : goal.returns-clause-old
returns-clause-old c =
    elim c.match-lean.branch [
      | in-Switch+in_ok-swap-in-Switch w ↦ rw (w.result-is, w.in-Switch.is, ← c.self.view_is) (ap (option_map lean.Switch) w.in_ok-swap-in-Switch.ensures.old)
      | in-Router+in_ok-swap-in-Router w ↦ rw (w.result-is, w.in-Router.is, ← c.self.view_is) (ap (option_map lean.Router) w.in_ok-swap-in-Router.ensures.old)
      | in-Group+in_ok-swap-in-Group w ↦ rw (w.result-is, w.in-Group.is, ← c.self.view_is) (ap (option_map lean.Group) w.in_ok-swap-in-Group.ensures.old)
    ]

pub returns-clause-new : goal.returns-clause-new
returns-clause-new c =
    elim c.match-lean.branch [
      | in-Switch+in_ok-swap-in-Switch w ↦ rw (w.self-is, w.in-Switch.is, ← c.self.view_is, w.in_ok-swap-in-Switch.ensures.records) refl
      | in-Router+in_ok-swap-in-Router w ↦ rw (w.self-is, w.in-Router.is, ← c.self.view_is, w.in_ok-swap-in-Router.ensures.records) refl
      | in-Group+in_ok-swap-in-Group w ↦ rw (w.self-is, w.in-Group.is, ← c.self.view_is, w.in_ok-swap-in-Group.ensures.records) refl
    ]

pub returns-clause-rise : goal.returns-clause-rise
returns-clause-rise c =
    elim c.match-lean.branch [
      | in-Switch+in_ok-swap-in-Switch w ↦ rw (w.in-Switch.is, ← c.self.view_is) w.in_ok-swap-in-Switch.ensures.rise
      | in-Router+in_ok-swap-in-Router w ↦ rw (w.in-Router.is, ← c.self.view_is) w.in_ok-swap-in-Router.ensures.rise
      | in-Group+in_ok-swap-in-Group w ↦ rw (w.in-Group.is, ← c.self.view_is) w.in_ok-swap-in-Group.ensures.rise
    ]

use Rattle.std.proofs.Common.{refl, ap}
use Rattle.std.specs.Option.{option_map}
use Rattle.nb_store.specs.declared.step.Object.TheVariants as object
use Rattle.nb_store.proofs.records.Records.take.Goals as goal
use Rattle.nb_store.proofs.records.Records.take.Goals.{in-Switch+in_ok-take-in-Switch, in-Port+in_ok-take-in-Port, in-Router+in_ok-take-in-Router, in-RouterPort+in_ok-take-in-RouterPort, in-Route+in_ok-take-in-Route, in-Nat+in_ok-take-in-Nat, in-Lb+in_ok-take-in-Lb, in-Acl+in_ok-take-in-Acl, in-Set+in_ok-take-in-Set, in-Group+in_ok-take-in-Group, in-Binding+in_ok-take-in-Binding}

-- kind by kind
pub returns-clause-old : goal.returns-clause-old
returns-clause-old c =
    elim c.match-place.branch [
      | in-Switch+in_ok-take-in-Switch w ↦ rw (w.result-is, w.in-Switch.is, ← c.self.view_is) (ap (option_map object.Switch) w.in_ok-take-in-Switch.ensures.record)
      | in-Port+in_ok-take-in-Port w ↦ rw (w.result-is, w.in-Port.is, ← c.self.view_is) (ap (option_map object.Port) w.in_ok-take-in-Port.ensures.record)
      | in-Router+in_ok-take-in-Router w ↦ rw (w.result-is, w.in-Router.is, ← c.self.view_is) (ap (option_map object.Router) w.in_ok-take-in-Router.ensures.record)
      | in-RouterPort+in_ok-take-in-RouterPort w ↦ rw (w.result-is, w.in-RouterPort.is, ← c.self.view_is) (ap (option_map object.RouterPort) w.in_ok-take-in-RouterPort.ensures.record)
      | in-Route+in_ok-take-in-Route w ↦ rw (w.result-is, w.in-Route.is, ← c.self.view_is) (ap (option_map object.Route) w.in_ok-take-in-Route.ensures.record)
      | in-Nat+in_ok-take-in-Nat w ↦ rw (w.result-is, w.in-Nat.is, ← c.self.view_is) (ap (option_map object.Nat) w.in_ok-take-in-Nat.ensures.record)
      | in-Lb+in_ok-take-in-Lb w ↦ rw (w.result-is, w.in-Lb.is, ← c.self.view_is) (ap (option_map object.Lb) w.in_ok-take-in-Lb.ensures.record)
      | in-Acl+in_ok-take-in-Acl w ↦ rw (w.result-is, w.in-Acl.is, ← c.self.view_is) (ap (option_map object.Acl) w.in_ok-take-in-Acl.ensures.record)
      | in-Set+in_ok-take-in-Set w ↦ rw (w.result-is, w.in-Set.is, ← c.self.view_is) (ap (option_map object.Set) w.in_ok-take-in-Set.ensures.record)
      | in-Group+in_ok-take-in-Group w ↦ rw (w.result-is, w.in-Group.is, ← c.self.view_is) (ap (option_map object.Group) w.in_ok-take-in-Group.ensures.record)
      | in-Binding+in_ok-take-in-Binding w ↦ rw (w.result-is, w.in-Binding.is, ← c.self.view_is) (ap (option_map object.Binding) w.in_ok-take-in-Binding.ensures.record)
    ]

pub returns-clause-new : goal.returns-clause-new
returns-clause-new c =
    elim c.match-place.branch [
      | in-Switch+in_ok-take-in-Switch w ↦ rw (w.self-is, w.in-Switch.is, ← c.self.view_is, w.in_ok-take-in-Switch.ensures.records) refl
      | in-Port+in_ok-take-in-Port w ↦ rw (w.self-is, w.in-Port.is, ← c.self.view_is, w.in_ok-take-in-Port.ensures.records) refl
      | in-Router+in_ok-take-in-Router w ↦ rw (w.self-is, w.in-Router.is, ← c.self.view_is, w.in_ok-take-in-Router.ensures.records) refl
      | in-RouterPort+in_ok-take-in-RouterPort w ↦ rw (w.self-is, w.in-RouterPort.is, ← c.self.view_is, w.in_ok-take-in-RouterPort.ensures.records) refl
      | in-Route+in_ok-take-in-Route w ↦ rw (w.self-is, w.in-Route.is, ← c.self.view_is, w.in_ok-take-in-Route.ensures.records) refl
      | in-Nat+in_ok-take-in-Nat w ↦ rw (w.self-is, w.in-Nat.is, ← c.self.view_is, w.in_ok-take-in-Nat.ensures.records) refl
      | in-Lb+in_ok-take-in-Lb w ↦ rw (w.self-is, w.in-Lb.is, ← c.self.view_is, w.in_ok-take-in-Lb.ensures.records) refl
      | in-Acl+in_ok-take-in-Acl w ↦ rw (w.self-is, w.in-Acl.is, ← c.self.view_is, w.in_ok-take-in-Acl.ensures.records) refl
      | in-Set+in_ok-take-in-Set w ↦ rw (w.self-is, w.in-Set.is, ← c.self.view_is, w.in_ok-take-in-Set.ensures.records) refl
      | in-Group+in_ok-take-in-Group w ↦ rw (w.self-is, w.in-Group.is, ← c.self.view_is, w.in_ok-take-in-Group.ensures.records) refl
      | in-Binding+in_ok-take-in-Binding w ↦ rw (w.self-is, w.in-Binding.is, ← c.self.view_is, w.in_ok-take-in-Binding.ensures.records) refl
    ]

pub returns-clause-rise : goal.returns-clause-rise
returns-clause-rise c =
    elim c.match-place.branch [
      | in-Switch+in_ok-take-in-Switch w ↦ rw (w.in-Switch.is, ← c.self.view_is) w.in_ok-take-in-Switch.ensures.rise
      | in-Port+in_ok-take-in-Port w ↦ rw (w.in-Port.is, ← c.self.view_is) w.in_ok-take-in-Port.ensures.rise
      | in-Router+in_ok-take-in-Router w ↦ rw (w.in-Router.is, ← c.self.view_is) w.in_ok-take-in-Router.ensures.rise
      | in-RouterPort+in_ok-take-in-RouterPort w ↦ rw (w.in-RouterPort.is, ← c.self.view_is) w.in_ok-take-in-RouterPort.ensures.rise
      | in-Route+in_ok-take-in-Route w ↦ rw (w.in-Route.is, ← c.self.view_is) w.in_ok-take-in-Route.ensures.rise
      | in-Nat+in_ok-take-in-Nat w ↦ rw (w.in-Nat.is, ← c.self.view_is) w.in_ok-take-in-Nat.ensures.rise
      | in-Lb+in_ok-take-in-Lb w ↦ rw (w.in-Lb.is, ← c.self.view_is) w.in_ok-take-in-Lb.ensures.rise
      | in-Acl+in_ok-take-in-Acl w ↦ rw (w.in-Acl.is, ← c.self.view_is) w.in_ok-take-in-Acl.ensures.rise
      | in-Set+in_ok-take-in-Set w ↦ rw (w.in-Set.is, ← c.self.view_is) w.in_ok-take-in-Set.ensures.rise
      | in-Group+in_ok-take-in-Group w ↦ rw (w.in-Group.is, ← c.self.view_is) w.in_ok-take-in-Group.ensures.rise
      | in-Binding+in_ok-take-in-Binding w ↦ rw (w.in-Binding.is, ← c.self.view_is) w.in_ok-take-in-Binding.ensures.rise
    ]

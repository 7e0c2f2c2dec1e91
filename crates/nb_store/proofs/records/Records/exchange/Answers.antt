use Rattle.std.proofs.Common.{refl, ap}
use Rattle.std.specs.Option.{option_map}
use Rattle.nb_store.specs.declared.step.Object.TheVariants as object
use Rattle.nb_store.proofs.records.Records.exchange.Goals as goal
use Rattle.nb_store.proofs.records.Records.exchange.Goals.{in-Switch+in_ok-exchange-in-Switch, in-Port+in_ok-exchange-in-Port, in-Router+in_ok-exchange-in-Router, in-RouterPort+in_ok-exchange-in-RouterPort, in-Route+in_ok-exchange-in-Route, in-Nat+in_ok-exchange-in-Nat, in-Lb+in_ok-exchange-in-Lb, in-Acl+in_ok-exchange-in-Acl, in-Set+in_ok-exchange-in-Set, in-Group+in_ok-exchange-in-Group, in-Binding+in_ok-exchange-in-Binding}

-- kind by kind
pub returns-clause-old : goal.returns-clause-old
returns-clause-old c =
    elim c.match-object.branch [
      | in-Switch+in_ok-exchange-in-Switch w ↦ rw (w.result-is, w.in-Switch.is, ← c.self.view_is) (ap (option_map object.Switch) w.in_ok-exchange-in-Switch.ensures.record)
      | in-Port+in_ok-exchange-in-Port w ↦ rw (w.result-is, w.in-Port.is, ← c.self.view_is) (ap (option_map object.Port) w.in_ok-exchange-in-Port.ensures.record)
      | in-Router+in_ok-exchange-in-Router w ↦ rw (w.result-is, w.in-Router.is, ← c.self.view_is) (ap (option_map object.Router) w.in_ok-exchange-in-Router.ensures.record)
      | in-RouterPort+in_ok-exchange-in-RouterPort w ↦ rw (w.result-is, w.in-RouterPort.is, ← c.self.view_is) (ap (option_map object.RouterPort) w.in_ok-exchange-in-RouterPort.ensures.record)
      | in-Route+in_ok-exchange-in-Route w ↦ rw (w.result-is, w.in-Route.is, ← c.self.view_is) (ap (option_map object.Route) w.in_ok-exchange-in-Route.ensures.record)
      | in-Nat+in_ok-exchange-in-Nat w ↦ rw (w.result-is, w.in-Nat.is, ← c.self.view_is) (ap (option_map object.Nat) w.in_ok-exchange-in-Nat.ensures.record)
      | in-Lb+in_ok-exchange-in-Lb w ↦ rw (w.result-is, w.in-Lb.is, ← c.self.view_is) (ap (option_map object.Lb) w.in_ok-exchange-in-Lb.ensures.record)
      | in-Acl+in_ok-exchange-in-Acl w ↦ rw (w.result-is, w.in-Acl.is, ← c.self.view_is) (ap (option_map object.Acl) w.in_ok-exchange-in-Acl.ensures.record)
      | in-Set+in_ok-exchange-in-Set w ↦ rw (w.result-is, w.in-Set.is, ← c.self.view_is) (ap (option_map object.Set) w.in_ok-exchange-in-Set.ensures.record)
      | in-Group+in_ok-exchange-in-Group w ↦ rw (w.result-is, w.in-Group.is, ← c.self.view_is) (ap (option_map object.Group) w.in_ok-exchange-in-Group.ensures.record)
      | in-Binding+in_ok-exchange-in-Binding w ↦ rw (w.result-is, w.in-Binding.is, ← c.self.view_is) (ap (option_map object.Binding) w.in_ok-exchange-in-Binding.ensures.record)
    ]

pub returns-clause-new : goal.returns-clause-new
returns-clause-new c =
    elim c.match-object.branch [
      | in-Switch+in_ok-exchange-in-Switch w ↦ rw (w.self-is, w.in-Switch.is, ← c.self.view_is, w.in_ok-exchange-in-Switch.ensures.records) refl
      | in-Port+in_ok-exchange-in-Port w ↦ rw (w.self-is, w.in-Port.is, ← c.self.view_is, w.in_ok-exchange-in-Port.ensures.records) refl
      | in-Router+in_ok-exchange-in-Router w ↦ rw (w.self-is, w.in-Router.is, ← c.self.view_is, w.in_ok-exchange-in-Router.ensures.records) refl
      | in-RouterPort+in_ok-exchange-in-RouterPort w ↦ rw (w.self-is, w.in-RouterPort.is, ← c.self.view_is, w.in_ok-exchange-in-RouterPort.ensures.records) refl
      | in-Route+in_ok-exchange-in-Route w ↦ rw (w.self-is, w.in-Route.is, ← c.self.view_is, w.in_ok-exchange-in-Route.ensures.records) refl
      | in-Nat+in_ok-exchange-in-Nat w ↦ rw (w.self-is, w.in-Nat.is, ← c.self.view_is, w.in_ok-exchange-in-Nat.ensures.records) refl
      | in-Lb+in_ok-exchange-in-Lb w ↦ rw (w.self-is, w.in-Lb.is, ← c.self.view_is, w.in_ok-exchange-in-Lb.ensures.records) refl
      | in-Acl+in_ok-exchange-in-Acl w ↦ rw (w.self-is, w.in-Acl.is, ← c.self.view_is, w.in_ok-exchange-in-Acl.ensures.records) refl
      | in-Set+in_ok-exchange-in-Set w ↦ rw (w.self-is, w.in-Set.is, ← c.self.view_is, w.in_ok-exchange-in-Set.ensures.records) refl
      | in-Group+in_ok-exchange-in-Group w ↦ rw (w.self-is, w.in-Group.is, ← c.self.view_is, w.in_ok-exchange-in-Group.ensures.records) refl
      | in-Binding+in_ok-exchange-in-Binding w ↦ rw (w.self-is, w.in-Binding.is, ← c.self.view_is, w.in_ok-exchange-in-Binding.ensures.records) refl
    ]

pub returns-clause-rise : goal.returns-clause-rise
returns-clause-rise c =
    elim c.match-object.branch [
      | in-Switch+in_ok-exchange-in-Switch w ↦ rw (w.in-Switch.is, ← c.self.view_is) w.in_ok-exchange-in-Switch.ensures.rise
      | in-Port+in_ok-exchange-in-Port w ↦ rw (w.in-Port.is, ← c.self.view_is) w.in_ok-exchange-in-Port.ensures.rise
      | in-Router+in_ok-exchange-in-Router w ↦ rw (w.in-Router.is, ← c.self.view_is) w.in_ok-exchange-in-Router.ensures.rise
      | in-RouterPort+in_ok-exchange-in-RouterPort w ↦ rw (w.in-RouterPort.is, ← c.self.view_is) w.in_ok-exchange-in-RouterPort.ensures.rise
      | in-Route+in_ok-exchange-in-Route w ↦ rw (w.in-Route.is, ← c.self.view_is) w.in_ok-exchange-in-Route.ensures.rise
      | in-Nat+in_ok-exchange-in-Nat w ↦ rw (w.in-Nat.is, ← c.self.view_is) w.in_ok-exchange-in-Nat.ensures.rise
      | in-Lb+in_ok-exchange-in-Lb w ↦ rw (w.in-Lb.is, ← c.self.view_is) w.in_ok-exchange-in-Lb.ensures.rise
      | in-Acl+in_ok-exchange-in-Acl w ↦ rw (w.in-Acl.is, ← c.self.view_is) w.in_ok-exchange-in-Acl.ensures.rise
      | in-Set+in_ok-exchange-in-Set w ↦ rw (w.in-Set.is, ← c.self.view_is) w.in_ok-exchange-in-Set.ensures.rise
      | in-Group+in_ok-exchange-in-Group w ↦ rw (w.in-Group.is, ← c.self.view_is) w.in_ok-exchange-in-Group.ensures.rise
      | in-Binding+in_ok-exchange-in-Binding w ↦ rw (w.in-Binding.is, ← c.self.view_is) w.in_ok-exchange-in-Binding.ensures.rise
    ]

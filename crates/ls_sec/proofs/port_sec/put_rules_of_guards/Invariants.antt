use Rattle.std.proofs.Common.{◌≡◌, ◌++◌, take}
use Rattle.std.specs.List.{flat_map}
use Rattle.net_rows.specs.PortSecurity.{guard_rules}
use Rattle.net_rows.specs.Unit.{said_by}
use Rattle.ls_sec.proofs.port_sec.put_rules_of_guards.Given as goal

-- the rows for the guards so far are after what was there
abbrev pub invariant-loop-guard : goal.invariant-loop-guard
invariant-loop-guard l = l.rows ≡ l.initial.rows ++ flat_map (λ guard. said_by l.unit (guard_rules l.name guard)) (take l.guard-index l.guards)

use Rattle.std.proofs.Common.{◌≡◌, ◌-◌}
use Rattle.std.specs.List.{find}
use Rattle.ct_core.specs.Translation.{is_free, ports}
use Rattle.ct_table.proofs.conns.Conns.least_free.Given as goal

-- none of the ports before this one is free
abbrev pub invariant-loop-port : goal.invariant-loop-port
invariant-loop-port l = find (is_free l.self l.zone l.external l.tuple) (ports 1024 (65536 - 1024)) ≡ find (is_free l.self l.zone l.external l.tuple) (ports l.port (65536 - l.port))

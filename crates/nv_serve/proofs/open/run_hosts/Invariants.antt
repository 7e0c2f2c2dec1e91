use Rattle.std.proofs.Common.{◌-◌}
use Rattle.nv_serve.proofs.Opened.{IsRun, host_lines}
use Rattle.nv_serve.proofs.open.run_hosts.Given as goal

-- the lines of the hosts from this one on are left
abbrev pub invariant-loop-host : goal.invariant-loop-host
invariant-loop-host l = IsRun l.initial.session l.session (host_lines 0 l.count) (host_lines l.host (l.count - l.host))

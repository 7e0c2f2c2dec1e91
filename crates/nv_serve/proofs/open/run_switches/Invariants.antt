use Rattle.std.proofs.Common.{◌-◌}
use Rattle.nv_serve.proofs.Opened.{IsRun, switch_lines}
use Rattle.nv_serve.proofs.open.run_switches.Given as goal

-- the lines of the switches from this one on are left
abbrev pub invariant-loop-switch : goal.invariant-loop-switch
invariant-loop-switch l = IsRun l.initial.session l.session (switch_lines 0 l.count) (switch_lines l.switch (l.count - l.switch))

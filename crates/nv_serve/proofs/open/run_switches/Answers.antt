use Rattle.std.proofs.Common.{◌+◌, ◌-◌, arith, refl, map}
use Rattle.nv_generate.specs.Generated.{line_text, lines_of_switch}
use Rattle.nv_serve.proofs.Opened.{next_switch, room_for, run_more, run_end, run_start, switch_lines}
use Rattle.nv_serve.proofs.open.run_switches.Goals as goal

pub loop-switch-init : goal.loop-switch-init
loop-switch-init c = run_start c.args.session.now (switch_lines 0) c.args.count c.requires

pub run_switch-requires : goal.run_switch-requires
run_switch-requires c =
    let first = c.args.session.now in
    let all = switch_lines 0 c.args.count in
    let k = c.loop-switch.switch in
    room_for first c.loop-switch.session all (map line_text (lines_of_switch k)) (switch_lines (k + 1) (c.args.count - (k + 1))) (next_switch first c.loop-switch.session all k c.args.count (omega arith) c.loop-switch.invariant)

pub loop-switch-preserved : goal.loop-switch-preserved
loop-switch-preserved c =
    let first = c.args.session.now in
    let all = switch_lines 0 c.args.count in
    let k = c.loop-switch.switch in
    run_more first c.loop-switch.session c.run_switch.new.session all (map line_text (lines_of_switch k)) (switch_lines (k + 1) (c.args.count - (k + 1))) c.in_ok-run_switch.ensures
    (next_switch first c.loop-switch.session all k c.args.count (omega arith) c.loop-switch.invariant)

pub returns : goal.returns
returns c =
    let k = c.loop-switch.switch in
    run_end c.args.session.now c.loop-switch.session (switch_lines 0 c.args.count) (switch_lines k) (c.args.count - k) (omega arith) refl c.loop-switch.invariant

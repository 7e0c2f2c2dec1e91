use Rattle.std.proofs.Common.{◌++◌, ◌∙◌}
use Rattle.std.proofs.lemmas.Result.{on_ok_weaker}
use Rattle.nv_generate.specs.Generated.{generated, line_text, switch_count}
use Rattle.nv_generate.specs.declared.line.Line.TheVariants.{Router}
use Rattle.nv_serve.proofs.Opened.{generated_room, host_lines, one_more, one_room, room_for, run_more, switch_lines}
use Rattle.nv_serve.proofs.open.run_generated.Goals as goal

pub run_one-requires : goal.run_one-requires
run_one-requires c =
    let s = c.args.session.now in
    let ports = c.args.ports in
    one_room s s (generated ports) (line_text Router) (switch_lines 0 (switch_count ports) ++ host_lines 0 ports) (generated_room ports s c.requires.few c.requires.first)

pub run_switches-requires : goal.run_switches-requires
run_switches-requires c =
    let s = c.args.session.now in
    let ports = c.args.ports in
    let switches = switch_lines 0 (switch_count ports) in
    let hosts = host_lines 0 ports in
    let one = one_more s s c.run_one.new.session (generated ports) (line_text Router) (switches ++ hosts) c.in_ok-run_one.ensures (generated_room ports s c.requires.few c.requires.first) in
    rw c.switch_count.ensures (room_for s c.run_one.new.session (generated ports) switches hosts one)

pub run_hosts-requires : goal.run_hosts-requires
run_hosts-requires c =
    let s = c.args.session.now in
    let ports = c.args.ports in
    let switches = switch_lines 0 (switch_count ports) in
    let hosts = host_lines 0 ports in
    let one = one_more s s c.run_one.new.session (generated ports) (line_text Router) (switches ++ hosts) c.in_ok-run_one.ensures (generated_room ports s c.requires.few c.requires.first) in
    (run_more s c.run_one.new.session c.run_switches.new.session (generated ports) switches hosts (rw c.switch_count.ensures at c.in_ok-run_switches.ensures) one).room

pub returns : goal.returns
returns c =
    let s = c.args.session.now in
    let ports = c.args.ports in
    let switches = switch_lines 0 (switch_count ports) in
    let hosts = host_lines 0 ports in
    let one = one_more s s c.run_one.new.session (generated ports) (line_text Router) (switches ++ hosts) c.in_ok-run_one.ensures (generated_room ports s c.requires.few c.requires.first) in
    let two = run_more s c.run_one.new.session c.run_switches.new.session (generated ports) switches hosts (rw c.switch_count.ensures at c.in_ok-run_switches.ensures) one in
    on_ok_weaker c.run_hosts.result (λ is. is ∙ two.same) c.run_hosts.ensures

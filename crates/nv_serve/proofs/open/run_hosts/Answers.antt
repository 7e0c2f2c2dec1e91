use Rattle.std.proofs.Common.{◌+◌, ◌-◌, arith, refl}
use Rattle.nv_generate.specs.Generated.{line_text}
use Rattle.nv_generate.specs.declared.line.Line.TheVariants.{Host}
use Rattle.nv_serve.proofs.Opened.{host_lines, next_host, one_more, one_room, run_end, run_start}
use Rattle.nv_serve.proofs.open.run_hosts.Goals as goal

pub loop-host-init : goal.loop-host-init
loop-host-init c = run_start c.args.session.now (host_lines 0) c.args.count c.requires

pub run_one-requires : goal.run_one-requires
run_one-requires c =
    let first = c.args.session.now in
    let all = host_lines 0 c.args.count in
    let k = c.loop-host.host in
    one_room first c.loop-host.session all (line_text (Host k)) (host_lines (k + 1) (c.args.count - (k + 1))) (next_host first c.loop-host.session all k c.args.count (omega arith) c.loop-host.invariant)

pub loop-host-preserved : goal.loop-host-preserved
loop-host-preserved c =
    let first = c.args.session.now in
    let all = host_lines 0 c.args.count in
    let k = c.loop-host.host in
    one_more first c.loop-host.session c.run_one.new.session all (line_text (Host k)) (host_lines (k + 1) (c.args.count - (k + 1))) c.in_ok-run_one.ensures
    (next_host first c.loop-host.session all k c.args.count (omega arith) c.loop-host.invariant)

pub returns : goal.returns
returns c =
    let k = c.loop-host.host in
    run_end c.args.session.now c.loop-host.session (host_lines 0 c.args.count) (host_lines k) (c.args.count - k) (omega arith) refl c.loop-host.invariant

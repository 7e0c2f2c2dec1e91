use Rattle.std.proofs.Common.{arith, sym}
use Rattle.net_choice.proofs.Said.{all_fit, best_is_left, best_stays, found_is_longest, none_so_long}
use Rattle.net_choice.proofs.routes.longest_static.Goals as goal

pub loop-above-init : goal.loop-above-init
loop-above-init c = record { shorter = all_fit c.args.records.now c.args.router c.args.by c.args.ip c.requires; within = omega arith }

pub loop-above-preserved : goal.loop-above-preserved
loop-above-preserved c = record {
  shorter =
      none_so_long c.args.records.now c.args.router c.args.by c.args.ip c.requires c.args.best c.loop-above.above c.loop-above.invariant.shorter
      c.network_of.result c.loop-above-test.true c.network_of.ensures c.in_default.ensures;
  within = let within = c.loop-above.invariant.within in omega (arith, within);
}

pub returns-then-not-is_shorter : goal.returns-then-not-is_shorter
returns-then-not-is_shorter c =
    best_stays c.args.records.now c.args.router c.args.by c.args.ip c.requires c.args.best c.loop-above.above c.loop-above.invariant.shorter
    c.loop-above-test.true (sym c.if-not-is_shorter.ensures)

pub returns-in-Some : goal.returns-in-Some
returns-in-Some c =
    found_is_longest c.args.records.now c.args.router c.args.by c.args.ip c.requires c.args.best c.loop-above.above c.loop-above.invariant.shorter
    c.network_of.result c.loop-above-test.true c.network_of.ensures c.in-Some.way (sym c.if-not-is_shorter.ensures) c.in-Some.ensures

pub returns : goal.returns
returns c =
    best_is_left c.args.records.now c.args.router c.args.by c.args.ip c.requires c.args.best c.loop-above.above c.loop-above.invariant.shorter
    c.loop-above-test.false

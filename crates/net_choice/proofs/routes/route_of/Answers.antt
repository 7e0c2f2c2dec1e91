use Rattle.std.proofs.Common.{Some, None, ◌∙◌}
use Rattle.net_choice.proofs.Direct.{hop_is}
use Rattle.net_choice.proofs.routes.route_of.Goals as goal

pub returns-in_err-longest : goal.returns-in_err-longest
returns-in_err-longest c =
    c.from_residual.ensures
    ∙ hop_is c.args.records.now c.args.router c.args.src c.args.dst c.longest_direct-direct.result c.longest_static-by_destination.result None
    c.longest_direct-direct.ensures c.longest_static-by_destination.ensures c.in_err-longest.ensures

pub returns : goal.returns
returns c =
    hop_is c.args.records.now c.args.router c.args.src c.args.dst c.longest_direct-direct.result c.longest_static-by_destination.result (Some c.in_ok-longest.field-0)
    c.longest_direct-direct.ensures c.longest_static-by_destination.ensures c.in_ok-longest.ensures

use Rattle.std.proofs.Common.{ap, ◌∙◌}
use Rattle.std.specs.Option.{option_copied}
use Rattle.net_choice.proofs.NamedPorts.{not_named, of_other, of_router}
use Rattle.net_choice.proofs.exits.named_exit.Goals as goal

pub returns-in_err-port : goal.returns-in_err-port
returns-in_err-port c = ap option_copied c.from_residual.ensures ∙ not_named c.args.records.now c.requires c.args.router c.args.name.now c.in_err-port.ensures

pub returns-then-router-port : goal.returns-then-router-port
returns-then-router-port c = of_other c.args.records.now c.requires c.args.router c.args.name.now c.in_ok-port.port.now c.in_ok-port.ensures c.if-router-port.true

pub returns : goal.returns
returns c = of_router c.args.records.now c.requires c.args.router c.args.name.now c.in_ok-port.port.now c.in_ok-port.ensures c.if-router-port.false

use Rattle.std.proofs.Common.{◌∙◌}
use Rattle.nb_find.proofs.There.{no_nat, nat_there}
use Rattle.nb_find.proofs.routes.has_nat_of.Goals as goal

pub returns-in-None : goal.returns-in-None
returns-in-None c = no_nat c.args.router c.args.kind c.args.at c.args.records.now.nats c.in-None.ensures

pub returns-in-Some : goal.returns-in-Some
returns-in-Some c = c.same_nat_kind.ensures ∙ nat_there c.args.router c.args.kind c.args.at c.args.records.now.nats c.requires.apart.nats c.in-Some.nat.now c.in-Some.ensures

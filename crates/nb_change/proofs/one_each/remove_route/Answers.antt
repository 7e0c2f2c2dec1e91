use Rattle.std.proofs.Common.{◌∙◌}
use Rattle.std.proofs.lemmas.Result.{on_ok_weaker}
use Rattle.nb_change.proofs.OneEach.{no_route, the_route}
use Rattle.nb_change.proofs.one_each.remove_route.Goals as goal

pub returns-in_default-clause-ok : goal.returns-in_default-clause-ok
returns-in_default-clause-ok c = no_route c.args.router c.args.prefix c.args.by c.args.work.now.records c.in_default.ensures

pub returns-clause-ok : goal.returns-clause-ok
returns-clause-ok c =
    on_ok_weaker c.remove.result (λ e. e ∙ the_route c.args.router c.args.prefix c.args.by c.args.work.now.records c.in-Some.route.now c.in-Some.ensures c.requires.rise c.requires.apart) c.remove.ensures.ok

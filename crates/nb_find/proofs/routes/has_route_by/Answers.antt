use Rattle.std.proofs.Common.{◌≡◌, ◌∙◌, rules}
use Rattle.std.specs.Prelude.{find, is_some}
use Rattle.nb_find.proofs.There.{route_there, saying}
use Rattle.nb_find.proofs.routes.has_route_by.Goals as goal

pub returns : goal.returns
returns c =
    let found : c.is_some.result ≡ is_some (find (saying c.args.router c.args.prefix c.args.records.now.routes c.args.by) c.args.records.now.routes) = search rules in
    found ∙ route_there c.args.router c.args.prefix c.args.records.now.routes c.args.by

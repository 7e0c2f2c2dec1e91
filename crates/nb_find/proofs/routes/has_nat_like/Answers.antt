use Rattle.std.proofs.Common.{◌≡◌, ◌∙◌, rules}
use Rattle.std.specs.Prelude.{find, is_some}
use Rattle.nb_find.proofs.There.{like, like_there}
use Rattle.nb_find.proofs.routes.has_nat_like.Goals as goal

pub returns : goal.returns
returns c =
    let found : c.is_some.result ≡ is_some (find (like c.args.router c.args.kind c.args.at) c.args.records.now.nats) = search rules in
    found ∙ like_there c.args.router c.args.kind c.args.at c.args.records.now.nats

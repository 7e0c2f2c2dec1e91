use Rattle.std.proofs.Common.{◌∙◌, sym}
use Rattle.std.proofs.lemmas.Result.{on_ok_weaker}
use Rattle.nb_model.specs.Effect.{without}
use Rattle.nb_model.specs.Network.{same}
use Rattle.nb_change.proofs.Goes.{and_true}
use Rattle.nb_change.proofs.owned.drop_all.Goals as goal

pub returns-clause-ok : goal.returns-clause-ok
returns-clause-ok g c =
    let net = c.args.work.now.records in
    on_ok_weaker c.drop_each.result
    (λ e. e ∙ sym (λ i. g.R.Owned.with_list (without (λ r. and_true (same c.args.owner (g.R.Owned.owner_of r)) i) (g.R.Owned.list net)) net)) c.drop_each.ensures.ok

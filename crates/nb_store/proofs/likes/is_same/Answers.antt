use Rattle.std.proofs.Common.{ap, sym, ◌∙◌}
use Rattle.nb_store.proofs.likes.is_same.Goals as goal

pub returns : goal.returns
returns g c = (λ is. g.met.T.Kept.exact c.args.a.now c.args.b.now (sym c.eq.ensures ∙ is), λ e. c.eq.ensures ∙ ap (g.T.PartialEq.eq c.args.a.now) (sym e) ∙ g.met.T.Eq.laws.refl c.args.a.now)

use Rattle.std.proofs.Common.{◌∙◌, ◌&&◌, Option, sym, ap}
use Rattle.std.specs.List.{list_any}
use Rattle.nb_records.specs.declared.router.NatKind.{NatKind}
use Rattle.nb_model.specs.Belongs.{same_nat_kind}
use Rattle.nb_model.specs.Effect.{is_asked, is_nat_at}
use Rattle.nb_model.specs.Network.{same}
use Rattle.nb_find.proofs.There.{first_kind, other_kind}
use Rattle.nb_find.proofs.routes.has_nat_for.Goals as goal

pub returns-then-has_nat_like : goal.returns-then-has_nat_like
returns-then-has_nat_like c =
    first_kind c.args.router c.args.at c.args.records.now.nats c.has_nat_like.result c.has_nat_like.ensures c.if-has_nat_like.true
    ∙ ap (λ (kind : Option NatKind). list_any (λ nat. same c.args.router nat.router && (is_asked same_nat_kind kind nat.kind && is_nat_at nat c.args.at)) c.args.records.now.nats) (sym c.in-None.is)

pub returns-else-has_nat_like : goal.returns-else-has_nat_like
returns-else-has_nat_like c =
    other_kind c.args.router c.args.at c.args.records.now.nats c.has_nat_like.result c.has_nat_like-else-has_nat_like.result c.has_nat_like.ensures c.if-has_nat_like.false c.has_nat_like-else-has_nat_like.ensures
    ∙ ap (λ (kind : Option NatKind). list_any (λ nat. same c.args.router nat.router && (is_asked same_nat_kind kind nat.kind && is_nat_at nat c.args.at)) c.args.records.now.nats) (sym c.in-None.is)

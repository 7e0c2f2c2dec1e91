use Rattle.std.proofs.Common.{◌&&◌, ◌==◌, not, if◌then◌else◌, ap, ◌∙◌}
use Rattle.std.proofs.lemmas.Result.{on_ok_weaker}
use Rattle.std.specs.Prelude.{find}
use Rattle.nv_base.specs.Block.{Block}
use Rattle.nv_base.specs.declared.ip4.Ip4.{Ip4}
use Rattle.nb_records.specs.declared.router.Nat.{Nat}
use Rattle.nb_model.specs.Belongs.{is_snat, same_block}
use Rattle.nb_model.specs.Network.{same}
use Rattle.nb_change.proofs.OneEach.{no_nat, the_nat}
use Rattle.nb_change.proofs.one_each.remove_nat.Goals as goal

pub returns-in_default-clause-ok : goal.returns-in_default-clause-ok
returns-in_default-clause-ok c =
    no_nat c.args.router c.args.at c.args.like c.args.asked c.args.work.now.records
    (c.in_default.ensures
    ∙ ap (λ (external : Ip4). find (λ (nat : Nat). same c.args.router nat.router && (if is_snat c.args.like then is_snat nat.kind && same_block c.args.at nat.logical else not (is_snat nat.kind) && (external.0 == nat.external.0))) c.args.work.now.records.nats)
    (ap (λ (at : Block). at.base) c.at.view_is))

pub returns-clause-ok : goal.returns-clause-ok
returns-clause-ok c =
    on_ok_weaker c.remove_if.result (λ e. e
    ∙ the_nat c.args.router c.args.at c.args.like c.args.asked c.args.work.now.records c.in-Some.nat.now
    (c.in-Some.ensures
    ∙ ap (λ (external : Ip4). find (λ (nat : Nat). same c.args.router nat.router && (if is_snat c.args.like then is_snat nat.kind && same_block c.args.at nat.logical else not (is_snat nat.kind) && (external.0 == nat.external.0))) c.args.work.now.records.nats)
    (ap (λ (at : Block). at.base) c.at.view_is))
    c.requires.rise c.requires.apart c.holds-goes.result c.holds-goes.ensures)
    c.remove_if.ensures.ok

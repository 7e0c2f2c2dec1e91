use Rattle.std.proofs.Common.{ap, ◌∙◌, subst, sym, not}
use Rattle.std.proofs.lemmas.Result.{on_ok_weaker}
use Rattle.std.specs.Bool.{IsTrue}
use Rattle.nb_model.proofs.RecordLists.{apart_filter}
use Rattle.nb_model.specs.Belongs.{same_nat}
use Rattle.nb_model.specs.Effect.{without}
use Rattle.nb_model.specs.Network.{Network}
use Rattle.nb_model.specs.Readable.{are_apart}
use Rattle.nb_records.specs.declared.router.Nat.{Nat}
use Rattle.nb_records.specs.declared.router.NatKind.TheVariants.{Snat, Dnat}
use Rattle.nv_table.specs.Table.{NumbersRise}
use Rattle.nb_change.proofs.Goes.{rise_left}
use Rattle.nb_change.proofs.OneEach.{leaves, both_nats}
use Rattle.nb_change.proofs.one_each.remove_nats_at.Goals as goal

pub remove_nat-requires-in-None-2-clause-rise : goal.remove_nat-requires-in-None-2-clause-rise
remove_nat-requires-in-None-2-clause-rise c =
    subst (λ (net : Network). NumbersRise (λ (n : Nat). n.id) net.nats) (sym c.in_ok-remove_nat-in-None.ensures.ok)
    (rise_left (λ (n : Nat). n.id) (leaves c.args.router c.args.at Snat c.args.kind) c.args.work.now.records.nats c.requires.rise)

pub remove_nat-requires-in-None-2-clause-apart : goal.remove_nat-requires-in-None-2-clause-apart
remove_nat-requires-in-None-2-clause-apart c =
    subst (λ (net : Network). IsTrue (are_apart same_nat net.nats)) (sym c.in_ok-remove_nat-in-None.ensures.ok)
    (apart_filter same_nat (λ n. not (leaves c.args.router c.args.at Snat c.args.kind n)) c.args.work.now.records.nats c.requires.apart)

pub returns-in_ok-remove_nat-in-None-clause-ok : goal.returns-in_ok-remove_nat-in-None-clause-ok
returns-in_ok-remove_nat-in-None-clause-ok c =
    on_ok_weaker c.remove_nat-in-None-2.result (λ e. e
    ∙ ap (λ (net : Network). record net { nats = without (leaves c.args.router c.args.at Dnat c.args.kind) net.nats }) c.in_ok-remove_nat-in-None.ensures.ok
    ∙ ap (λ all. record c.args.work.now.records { nats = all }) (both_nats c.args.router c.args.at c.args.kind (sym c.in-None.is) c.args.work.now.records)) c.remove_nat-in-None-2.ensures.ok

use Rattle.std.proofs.Common.{map, sym, ap, ◌∙◌, subst}
use Rattle.std.proofs.lemmas.Result.{on_ok_weaker, IfErr-weaker}
use Rattle.nb_model.specs.Tests.{first_refusal, wants_port}
use Rattle.nb_valid.specs.inner.Refused.{IsFaultFor}
use Rattle.nb_valid.proofs.Members.{first_wanted, refusal_of}
use Rattle.nb_valid.proofs.tests_sets.want_ports.Goals as goal

pub returns-in-None-clause-ok : goal.returns-in-None-clause-ok
returns-in-None-clause-ok c = first_wanted c.args.records.now c.args.names.now ∙ sym (ap (refusal_of c.args.records.now) c.in-None.ensures)

pub returns-in_ok-copy-in-Some-clause-ok : goal.returns-in_ok-copy-in-Some-clause-ok
returns-in_ok-copy-in-Some-clause-ok c =
    let net = c.args.records.now in
    let own = first_wanted net c.args.names.now ∙ sym (ap (refusal_of net) c.in-Some.ensures) ∙ sym (ap (wants_port net) c.in_ok-copy-in-Some.ensures) in
    on_ok_weaker c.want_port.result (λ e. own ∙ e) c.want_port.ensures.ok

pub returns-in_ok-copy-in-Some-clause-refused : goal.returns-in_ok-copy-in-Some-clause-refused
returns-in_ok-copy-in-Some-clause-refused c =
    let net = c.args.records.now in
    let own = first_wanted net c.args.names.now ∙ sym (ap (refusal_of net) c.in-Some.ensures) ∙ sym (ap (wants_port net) c.in_ok-copy-in-Some.ensures) in
    IfErr-weaker c.want_port.result (IsFaultFor (wants_port net c.in_ok-copy-in-Some.field-0)) (IsFaultFor (first_refusal (map (wants_port net) c.args.names.now)))
    (λ fault it. subst (λ test. IsFaultFor test fault) (sym own) it) c.want_port.ensures.refused

use Rattle.std.proofs.Common.{map, sym, ap, ◌∙◌}
use Rattle.std.proofs.lemmas.List.{at_drop_all}
use Rattle.std.proofs.lemmas.Result.{err_from_is_err_and}
use Rattle.std.specs.List.{list_any}
use Rattle.nb_read.specs.Lists.{is_ip, new_ips}
use Rattle.nb_read.proofs.Ips.{ip_goes_on, ip_stops}
use Rattle.nb_read.proofs.hosts.new_ips.Goals as goal

pub loop-text-preserved : goal.loop-text-preserved
loop-text-preserved c =
    let l = c.loop-text in
    let new = sym (c.is_among.ensures ∙ ap (list_any (is_ip c.in_ok-read.read)) c.as_slice.ensures) ∙ c.if-is_among.false in
    ip_goes_on c.args.number c.args.before.now c.args.texts.now l.text-index _ l.ips c.loop-text-test.true c.in_ok-read.read _ c.in_ok-read.ensures.read (sym c.any_has_ip.ensures ∙ c.if-any_has_ip.false) new c.in_ok-push.ensures.ok ∙ l.invariant

pub returns-clause-read : goal.returns-clause-read
returns-clause-read c =
    let l = c.loop-text in
    sym l.invariant ∙ at_drop_all (λ texts. new_ips c.args.number c.args.before.now l.ips (map (λ text. text.now) texts)) c.args.texts.now _ c.loop-text-test.false

pub returns-in_err-read-clause-refused : goal.returns-in_err-read-clause-refused
returns-in_err-read-clause-refused c =
    let l = c.loop-text in
    let p = err_from_is_err_and c.from_residual.result c.from_residual.ensures.1 in
    rw (p.1, p.2) (ip_stops c.args.number c.args.before.now c.args.texts.now l.text-index _ l.ips c.loop-text-test.true _ _ l.invariant c.in_err-read.ensures.refused)

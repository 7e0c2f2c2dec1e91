use Rattle.std.proofs.Common.{refl}
use Rattle.std.proofs.lemmas.Result.{err_from_is_err_and}
use Rattle.nb_edit.proofs.Steps.{goes_on, stops, stops_later}
use Rattle.nb_edit.proofs.acls.acl_del.Goals as goal

pub returns-clause-read : goal.returns-clause-read
returns-clause-read c = rw c.owner_kind.ensures (goes_on _ _ _ _ c.in_ok-owner.ensures.read (goes_on _ _ _ _ c.in_ok-way.ensures.read (goes_on _ _ _ _ c.in_ok-rule.ensures.read refl)))

pub returns-in_err-owner-clause-refused : goal.returns-in_err-owner-clause-refused
returns-in_err-owner-clause-refused c =
    let p = err_from_is_err_and c.from_residual.result c.from_residual.ensures.1 in
    rw (p.1, p.2) (stops _ _ _ c.in_err-owner.ensures.refused)

pub returns-in_err-way-clause-refused : goal.returns-in_err-way-clause-refused
returns-in_err-way-clause-refused c =
    let p = err_from_is_err_and c.from_residual-in_err-way.result c.from_residual-in_err-way.ensures.1 in
    rw (p.1, p.2) (stops_later _ _ _ _ c.in_ok-owner.ensures.read (stops _ _ _ c.in_err-way.ensures.refused))

pub returns-in_err-rule-clause-refused : goal.returns-in_err-rule-clause-refused
returns-in_err-rule-clause-refused c =
    let p = err_from_is_err_and c.from_residual-in_err-rule.result c.from_residual-in_err-rule.ensures.1 in
    rw (p.1, p.2) (stops_later _ _ _ _ c.in_ok-owner.ensures.read (stops_later _ _ _ _ c.in_ok-way.ensures.read (stops _ _ _ c.in_err-rule.ensures.refused)))

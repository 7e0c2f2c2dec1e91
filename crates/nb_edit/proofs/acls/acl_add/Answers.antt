use Rattle.std.proofs.Common.{refl}
use Rattle.std.proofs.lemmas.Result.{err_from_is_err_and}
use Rattle.nb_read.specs.Readings.{verdict, way}
use Rattle.nb_edit.proofs.Steps.{goes_on, read_at, refused_at, stops, stops_later}
use Rattle.nb_edit.proofs.acls.acl_add.Goals as goal

pub returns-clause-read : goal.returns-clause-read
returns-clause-read c = rw (c.may_exist.ensures, c.owner_kind.ensures) (goes_on _ _ _ _ c.in_ok-owner.ensures.read (goes_on _ _ _ _ (read_at way c.args.call.now 1 _ _ _ c.number.ensures c.text.ensures.bytes c.in_ok-way.ensures.read) (goes_on _ _ _ _ c.in_ok-priority.ensures.read (goes_on _ _ _ _ (rw c.text-2.ensures.bytes at c.in_ok-matching.ensures.read) (goes_on _ _ _ _ (read_at verdict c.args.call.now 4 _ _ _ c.number-2.ensures c.text-3.ensures.bytes c.in_ok-verdict.ensures.read) refl)))))

pub returns-in_err-owner-clause-refused : goal.returns-in_err-owner-clause-refused
returns-in_err-owner-clause-refused c =
    let p = err_from_is_err_and c.from_residual.result c.from_residual.ensures.1 in
    rw (p.1, p.2) (stops _ _ _ c.in_err-owner.ensures.refused)

pub returns-in_err-way-clause-refused : goal.returns-in_err-way-clause-refused
returns-in_err-way-clause-refused c =
    let p = err_from_is_err_and c.from_residual-in_err-way.result c.from_residual-in_err-way.ensures.1 in
    rw (p.1, p.2) (stops_later _ _ _ _ c.in_ok-owner.ensures.read (stops _ _ _ (refused_at way c.args.call.now 1 _ _ _ c.number.ensures c.text.ensures.bytes c.in_err-way.ensures.refused)))

pub returns-in_err-priority-clause-refused : goal.returns-in_err-priority-clause-refused
returns-in_err-priority-clause-refused c =
    let p = err_from_is_err_and c.from_residual-in_err-priority.result c.from_residual-in_err-priority.ensures.1 in
    rw (p.1, p.2) (stops_later _ _ _ _ c.in_ok-owner.ensures.read (stops_later _ _ _ _ (read_at way c.args.call.now 1 _ _ _ c.number.ensures c.text.ensures.bytes c.in_ok-way.ensures.read) (stops _ _ _ c.in_err-priority.ensures.refused)))

pub returns-in_err-matching-clause-refused : goal.returns-in_err-matching-clause-refused
returns-in_err-matching-clause-refused c =
    let p = err_from_is_err_and c.from_residual-in_err-matching.result c.from_residual-in_err-matching.ensures.1 in
    rw (p.1, p.2) (stops_later _ _ _ _ c.in_ok-owner.ensures.read (stops_later _ _ _ _ (read_at way c.args.call.now 1 _ _ _ c.number.ensures c.text.ensures.bytes c.in_ok-way.ensures.read) (stops_later _ _ _ _ c.in_ok-priority.ensures.read (stops _ _ _ (rw c.text-2.ensures.bytes at c.in_err-matching.ensures.refused)))))

pub returns-in_err-verdict-clause-refused : goal.returns-in_err-verdict-clause-refused
returns-in_err-verdict-clause-refused c =
    let p = err_from_is_err_and c.from_residual-in_err-verdict.result c.from_residual-in_err-verdict.ensures.1 in
    rw (p.1, p.2) (stops_later _ _ _ _ c.in_ok-owner.ensures.read (stops_later _ _ _ _ (read_at way c.args.call.now 1 _ _ _ c.number.ensures c.text.ensures.bytes c.in_ok-way.ensures.read) (stops_later _ _ _ _ c.in_ok-priority.ensures.read (stops_later _ _ _ _ (rw c.text-2.ensures.bytes at c.in_ok-matching.ensures.read) (stops _ _ _ (refused_at verdict c.args.call.now 4 _ _ _ c.number-2.ensures c.text-3.ensures.bytes c.in_err-verdict.ensures.refused))))))

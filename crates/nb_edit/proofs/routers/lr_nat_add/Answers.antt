use Rattle.std.proofs.Common.{refl}
use Rattle.std.proofs.lemmas.Result.{err_from_is_err_and}
use Rattle.nb_read.specs.Readings.{logical, nat_kind}
use Rattle.nb_edit.proofs.Steps.{goes_on, read_at, refused_at, stops, stops_later}
use Rattle.nb_edit.proofs.routers.lr_nat_add.Goals as goal

pub returns-clause-read : goal.returns-clause-read
returns-clause-read c = goes_on _ _ _ _ c.in_ok-router.ensures.read (goes_on _ _ _ _ (read_at nat_kind c.args.call.now 1 _ _ _ c.number.ensures c.text.ensures.bytes c.in_ok-kind.ensures.read) (goes_on _ _ _ _ c.in_ok-external.ensures.read (goes_on _ _ _ _ (read_at (logical c.in_ok-kind.kind) c.args.call.now 3 _ _ _ c.number-2.ensures c.text-2.ensures.bytes c.in_ok-logical.ensures.read) (goes_on _ _ _ _ c.in_ok-no_more.ensures.read refl))))

pub returns-in_err-router-clause-refused : goal.returns-in_err-router-clause-refused
returns-in_err-router-clause-refused c =
    let p = err_from_is_err_and c.from_residual.result c.from_residual.ensures.1 in
    rw (p.1, p.2) (stops _ _ _ c.in_err-router.ensures.refused)

pub returns-in_err-kind-clause-refused : goal.returns-in_err-kind-clause-refused
returns-in_err-kind-clause-refused c =
    let p = err_from_is_err_and c.from_residual-in_err-kind.result c.from_residual-in_err-kind.ensures.1 in
    rw (p.1, p.2) (stops_later _ _ _ _ c.in_ok-router.ensures.read (stops _ _ _ (refused_at nat_kind c.args.call.now 1 _ _ _ c.number.ensures c.text.ensures.bytes c.in_err-kind.ensures.refused)))

pub returns-in_err-external-clause-refused : goal.returns-in_err-external-clause-refused
returns-in_err-external-clause-refused c =
    let p = err_from_is_err_and c.from_residual-in_err-external.result c.from_residual-in_err-external.ensures.1 in
    rw (p.1, p.2) (stops_later _ _ _ _ c.in_ok-router.ensures.read (stops_later _ _ _ _ (read_at nat_kind c.args.call.now 1 _ _ _ c.number.ensures c.text.ensures.bytes c.in_ok-kind.ensures.read) (stops _ _ _ c.in_err-external.ensures.refused)))

pub returns-in_err-logical-clause-refused : goal.returns-in_err-logical-clause-refused
returns-in_err-logical-clause-refused c =
    let p = err_from_is_err_and c.from_residual-in_err-logical.result c.from_residual-in_err-logical.ensures.1 in
    rw (p.1, p.2) (stops_later _ _ _ _ c.in_ok-router.ensures.read (stops_later _ _ _ _ (read_at nat_kind c.args.call.now 1 _ _ _ c.number.ensures c.text.ensures.bytes c.in_ok-kind.ensures.read) (stops_later _ _ _ _ c.in_ok-external.ensures.read (stops _ _ _ (refused_at (logical c.in_ok-kind.kind) c.args.call.now 3 _ _ _ c.number-2.ensures c.text-2.ensures.bytes c.in_err-logical.ensures.refused)))))

pub returns-in_err-no_more-clause-refused : goal.returns-in_err-no_more-clause-refused
returns-in_err-no_more-clause-refused c =
    let p = err_from_is_err_and c.from_residual-in_err-no_more.result c.from_residual-in_err-no_more.ensures.1 in
    rw (p.1, p.2) (stops_later _ _ _ _ c.in_ok-router.ensures.read (stops_later _ _ _ _ (read_at nat_kind c.args.call.now 1 _ _ _ c.number.ensures c.text.ensures.bytes c.in_ok-kind.ensures.read) (stops_later _ _ _ _ c.in_ok-external.ensures.read (stops_later _ _ _ _ (read_at (logical c.in_ok-kind.kind) c.args.call.now 3 _ _ _ c.number-2.ensures c.text-2.ensures.bytes c.in_ok-logical.ensures.read) (stops _ _ _ c.in_err-no_more.ensures.refused)))))

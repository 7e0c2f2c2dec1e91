use Rattle.nv_base.proofs.Growth.{appended_twice, grown_more, on_err}
use Rattle.nb_dump.proofs.dump.put_dump.Goals as goal

pub returns-clause-ok : goal.returns-clause-ok
returns-clause-ok c = appended_twice _ _ _ _ _ c.in_ok-extend_from_slice.ensures.items c.in_ok-put_commands.ensures.ok

pub returns-in_err-put_commands-clause-err : goal.returns-in_err-put_commands-clause-err
returns-in_err-put_commands-clause-err c = on_err _ _ (grown_more _ _ _ _ c.in_ok-extend_from_slice.ensures.items c.in_err-put_commands.ensures.err)

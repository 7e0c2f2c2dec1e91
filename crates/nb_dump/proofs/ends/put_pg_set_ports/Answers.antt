use Rattle.nb_text.proofs.Lines.{line_of_three}
use Rattle.nb_dump.specs.Edits.{port_name}
use Rattle.nb_dump.proofs.Scripts.{each_of_map}
use Rattle.nv_base.proofs.Growth.{grown_more, on_err}
use Rattle.nb_dump.proofs.ends.put_pg_set_ports.Goals as goal

pub returns-clause-ok : goal.returns-clause-ok
returns-clause-ok c = rw (each_of_map (port_name c.args.records.now) c.args.ports.now) (line_of_three _ _ _ _ _ _ _ _ _ c.in_ok-extend_from_slice.ensures.items c.in_ok-put_word.ensures.ok c.in_ok-put_port_names.ensures.ok c.in_ok-push.ensures.items)

pub returns-in_err-put_word-clause-err : goal.returns-in_err-put_word-clause-err
returns-in_err-put_word-clause-err c = on_err _ _ (grown_more _ _ _ _ c.in_ok-extend_from_slice.ensures.items c.in_err-put_word.ensures.err)

pub returns-in_err-put_port_names-clause-err : goal.returns-in_err-put_port_names-clause-err
returns-in_err-put_port_names-clause-err c = on_err _ _ (grown_more _ _ _ _ c.in_ok-extend_from_slice.ensures.items (grown_more _ _ _ _ c.in_ok-put_word.ensures.ok c.in_err-put_port_names.ensures.err))

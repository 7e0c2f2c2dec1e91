use Rattle.std.proofs.Common.{sym}
use Rattle.nb_dump.proofs.Scripts.{option_script}
use Rattle.nb_dump.proofs.records.put_option.Goals as goal

pub returns-in-Some-clause-ok : goal.returns-in-Some-clause-ok
returns-in-Some-clause-ok c =
    rw (c.in-Some.is, option_script c.args.port.now c.in-Some.name, sym c.as_slice.ensures) c.put_lsp_set_options.ensures.ok

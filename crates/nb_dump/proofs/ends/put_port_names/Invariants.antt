use Rattle.std.proofs.Common.{◌≡◌, ◌++◌, take}
use Rattle.nb_text.specs.Words.{each_spaced}
use Rattle.nb_dump.specs.Edits.{port_name}
use Rattle.nb_dump.proofs.ends.put_port_names.Given as goal

-- the names so far come after what was there
abbrev pub invariant-loop-at : goal.invariant-loop-at
invariant-loop-at l = l.out.items ≡ l.fn.out.items ++ each_spaced (port_name l.records) (take l.at l.ports)

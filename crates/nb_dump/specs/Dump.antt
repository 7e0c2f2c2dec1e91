-- A network as the script that makes it.
use Rattle.std.specs.Prelude.{ℕ, List, ◌++◌, codes}
use Rattle.nb_model.specs.Network.{Network}
use Rattle.nb_text.specs.Commands.{script}
use Rattle.nb_dump.specs.Edits.{dump_edits}

-- the dump of a network: a first line, and the commands, each on its line
abbrev pub dump : Network → List ℕ
dump net = codes "# nb-dump 1\n" ++ script (dump_edits net)

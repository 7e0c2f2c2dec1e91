use Rattle.nb_edit.proofs.command.read_command.Goals as goal

-- the words are those of the command
pub returns-clause-refused : goal.returns-clause-refused
returns-clause-refused c = let refused = c.read_words.ensures.refused in rw c.as_slice.ensures at refused

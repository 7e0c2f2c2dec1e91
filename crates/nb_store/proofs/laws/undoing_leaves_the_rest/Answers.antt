use Rattle.nb_store.proofs.Touched.{undone_rest}
use Rattle.nb_store.proofs.laws.undoing_leaves_the_rest.Goals as goal

pub returns : goal.returns
returns c = λ undo net. undone_rest undo.steps.items net

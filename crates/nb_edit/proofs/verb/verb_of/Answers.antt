use Rattle.std.proofs.Common.{rules, ◌∙◌}
use Rattle.std.proofs.lemmas.Iterator.{YieldsList-from_slice}
use Rattle.std.proofs.lemmas.Iterator.Search.{find_from_yields_List}
use Rattle.nb_edit.specs.Forms.{is_named, verbs}
use Rattle.nb_edit.proofs.verb.verb_of.Goals as goal

pub returns : goal.returns
returns c =
    let found = find_from_yields_List (λ verb. is_named verb c.args.name.now) _ _ _ c.find.ensures.ran (YieldsList-from_slice verbs (c.iter.ensures.rest ∙ c.all.ensures)) (λ x b q called. search rules) in
    c.copied.ensures ∙ found

use Rattle.std.proofs.Common.{rules, ◌∙◌}
use Rattle.std.proofs.lemmas.Iterator.{YieldsList-from_slice}
use Rattle.std.proofs.lemmas.Iterator.Search.{find_from_yields_List}
use Rattle.nv_base.specs.Field.{is_named, all_fields}
use Rattle.nv_base.proofs.field.field_of.Goals as goal

pub returns : goal.returns
returns c =
    let found = find_from_yields_List (λ field. is_named field c.args.text.now) _ _ _ c.find.ensures.ran (YieldsList-from_slice all_fields (c.iter.ensures.rest ∙ c.all.ensures)) (λ x b q called. search rules) in
    c.copied.ensures ∙ found

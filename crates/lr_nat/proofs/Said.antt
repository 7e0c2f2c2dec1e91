-- The rows that rules of a unit say.
use Rattle.std.proofs.Common.{◌≡◌, List, [], ◌∷◌, ◌++◌, ap, ◌∙◌, append_assoc}
use Rattle.sb_model.specs.declared.row.Row.{Row}
use Rattle.net_rows.specs.Unit.{row_of, said_by}
use Rattle.net_rows.specs.declared.rule.Rule.{Rule}
use Rattle.net_rows.specs.declared.rule.Unit.{Unit}

-- the rows of two rules, one after the other
pub two_rows : (unit : Unit) (old rows new : List Row) (one two first second : Rule) → one ≡ first → two ≡ second → rows ≡ old ++ row_of unit one ∷ [] → new ≡ rows ++ row_of unit two ∷ []
    → new ≡ old ++ said_by unit (first ∷ second ∷ [])
two_rows unit old rows new one two first second is_first is_second put then_put =
    then_put
    ∙ ap (λ made. made ++ row_of unit two ∷ []) put
    ∙ append_assoc old (row_of unit one ∷ []) (row_of unit two ∷ [])
    ∙ ap (λ r. old ++ row_of unit r ∷ row_of unit two ∷ []) is_first
    ∙ ap (λ r. old ++ row_of unit first ∷ row_of unit r ∷ []) is_second

-- What a list that grew at its end grew by, over two steps.
use Rattle.std.proofs.Common.{◌≡◌, List, ◌++◌, ◌∙◌, ap, append_assoc}

-- what grew by one list and then by some other grew by some list
pub tail_more : {X : Type 0} (start middle end first : List X) → middle ≡ start ++ first → ((tail : List X) × (end ≡ middle ++ tail)) → (tail : List X) × (end ≡ start ++ tail)
tail_more start middle end first e grown = (first ++ grown.0, grown.1 ∙ ap (λ l. l ++ grown.0) e ∙ append_assoc start first grown.0)

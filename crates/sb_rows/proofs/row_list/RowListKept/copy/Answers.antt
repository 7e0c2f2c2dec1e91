use Rattle.std.proofs.Common.{◌≡◌, ℕ, ◌+◌, ◌<◌, List, [], ◌∷◌, ◌++◌, length, take, get_or, sym, ap, ◌∙◌}
use Rattle.std.proofs.lemmas.List.{take_more}
use Rattle.sb_rows.proofs.row_list.RowListKept.copy.Goals as goal

one_more : {X : Type 0} → (items copied more : List X) (i : ℕ) (item copy : X) → i < length items → copied ≡ take i items → item ≡ get_or items i item → copy ≡ item → more ≡ copied ++ copy ∷ [] → more ≡ take (i + 1) items
one_more items copied more i item copy within so_far at same grown =
    grown ∙ ap (λ xs. xs ++ copy ∷ []) so_far ∙ ap (λ x. take i items ++ x ∷ []) (same ∙ at) ∙ sym (take_more items i item within)

pub loop-stored-preserved : goal.loop-stored-preserved
loop-stored-preserved c = one_more _ _ _ _ _ _ c.loop-stored-test.true c.loop-stored.invariant c.stored-item.is c.in_ok-copy.ensures c.in_ok-push.ensures.items

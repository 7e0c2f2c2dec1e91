-- A test of some element of pieces.
use Rattle.std.proofs.Common.{◌≡◌, Bool, List, [], ◌∷◌, ◌||◌, refl, ap, ◌∙◌}
use Rattle.std.specs.List.{flat_map, list_any}
use Rattle.std.proofs.lemmas.List.Folds.{list_any-append}

pub any_of_pieces : {X Y : Type 0} (p : Y → Bool) (g : X → List Y) (xs : List X) → list_any p (flat_map g xs) ≡ list_any (λ x. list_any p (g x)) xs
any_of_pieces p g [] = refl
any_of_pieces p g (x ∷ xs) = list_any-append p (g x) (flat_map g xs) ∙ ap (λ rest. list_any p (g x) || rest) (any_of_pieces p g xs)

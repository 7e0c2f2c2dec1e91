-- The rows that lists of rules say, one after the other.
use Rattle.std.proofs.Common.{◌≡◌, List, [], ◌∷◌, ◌++◌, map, refl, sym, ap, ◌∙◌, append_assoc, append-nil}
use Rattle.std.specs.List.{flat_map}
use Rattle.std.proofs.lemmas.List.{map-append}
use Rattle.sb_model.specs.declared.row.Row.{Row}
use Rattle.net_rows.specs.Unit.{row_of, said_by}
use Rattle.net_rows.specs.declared.rule.Rule.{Rule}
use Rattle.net_rows.specs.declared.rule.Unit.{Unit}

-- the images of pieces, one after the other
pub map-flat_map : {X Y Z : Type 0} (f : Y → Z) (g : X → List Y) (xs : List X) → map f (flat_map g xs) ≡ flat_map (λ x. map f (g x)) xs
map-flat_map f g [] = refl
map-flat_map f g (x ∷ xs) = map-append f (g x) (flat_map g xs) ∙ ap (λ rest. map f (g x) ++ rest) (map-flat_map f g xs)

-- what is said of one rule more, which is this one
one_more : (unit : Unit) (old rows more : List Row) (rules : List Rule) (put rule : Rule) → rows ≡ old ++ said_by unit rules → put ≡ rule → more ≡ rows ++ row_of unit put ∷ [] → more ≡ old ++ said_by unit (rules ++ rule ∷ [])
one_more unit old rows more rules put rule so_far is last =
    last ∙ ap (λ l. l ++ row_of unit put ∷ []) so_far ∙ append_assoc old (said_by unit rules) (row_of unit put ∷ [])
    ∙ ap (λ (r : Rule). old ++ (said_by unit rules ++ row_of unit r ∷ [])) is
    ∙ ap (λ l. old ++ l) (sym (map-append (row_of unit) rules (rule ∷ [])))

-- the rows of six rules, one after the other
pub six_rows : (unit : Unit) (old r1 r2 r3 r4 r5 r6 : List Row) (a b c d e f p1 p2 p3 p4 p5 p6 : Rule)
    → p1 ≡ a → p2 ≡ b → p3 ≡ c → p4 ≡ d → p5 ≡ e → p6 ≡ f
    → r1 ≡ old ++ row_of unit p1 ∷ [] → r2 ≡ r1 ++ row_of unit p2 ∷ [] → r3 ≡ r2 ++ row_of unit p3 ∷ []
    → r4 ≡ r3 ++ row_of unit p4 ∷ [] → r5 ≡ r4 ++ row_of unit p5 ∷ [] → r6 ≡ r5 ++ row_of unit p6 ∷ []
    → r6 ≡ old ++ said_by unit (a ∷ b ∷ c ∷ d ∷ e ∷ f ∷ [])
six_rows unit old r1 r2 r3 r4 r5 r6 a b c d e f p1 p2 p3 p4 p5 p6 is1 is2 is3 is4 is5 is6 put1 put2 put3 put4 put5 put6 =
    let one = one_more unit old old r1 [] p1 a (sym (append-nil old)) is1 put1 in
    let two = one_more unit old r1 r2 (a ∷ []) p2 b one is2 put2 in
    let three = one_more unit old r2 r3 (a ∷ b ∷ []) p3 c two is3 put3 in
    let four = one_more unit old r3 r4 (a ∷ b ∷ c ∷ []) p4 d three is4 put4 in
    let five = one_more unit old r4 r5 (a ∷ b ∷ c ∷ d ∷ []) p5 e four is5 put5 in
    one_more unit old r5 r6 (a ∷ b ∷ c ∷ d ∷ e ∷ []) p6 f five is6 put6

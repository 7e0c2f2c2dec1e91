-- Rows that are put in row order go to the end, for crates that make their rows in that order.
use Rattle.std.proofs.Common.{◌≡◌, false, List, [], ◌∷◌, ◌++◌, sym, ap, refl, ◌∙◌, append_assoc}
use Rattle.std.specs.Ordering.{is_gt}
use Rattle.std.specs.List.{All, fold}
use Rattle.std.proofs.lemmas.List.{append-nil}
use Rattle.std.proofs.lemmas.List.Elements.{All-head, All-tail}
use Rattle.sb_model.specs.declared.row.Row.{Row}
use Rattle.sb_rows.specs.Row.{row_cmp, IsInRowOrder, put_row}
use Rattle.sb_rows.proofs.Order.{above_none_before}

-- a row goes to the end where none that is there is after it
pub put_row-last : (row : Row) (rows : List Row) → All (λ y. is_gt (row_cmp y row) ≡ false) rows → put_row row rows ≡ rows ++ row ∷ []
put_row-last row [] none = refl
put_row-last row (x ∷ xs) none =
    let P = λ (y : Row). is_gt (row_cmp y row) ≡ false in
    rw (All-head P x xs none) (ap (λ ys. x ∷ ys) (put_row-last row xs (All-tail P x xs none)))

-- so rows that go on in row order after those that are there follow them as they come
pub put_rows-in_order : (more rows : List Row) → IsInRowOrder (rows ++ more) → fold (λ there row. put_row row there) rows more ≡ rows ++ more
put_rows-in_order [] rows up = sym (append-nil rows)
put_rows-in_order (row ∷ more) rows up =
    let together : (rows ++ row ∷ []) ++ more ≡ rows ++ row ∷ more = append_assoc rows (row ∷ []) more in
    let rest = put_rows-in_order more (rows ++ row ∷ []) (rw together up) in
    rw (put_row-last row rows (above_none_before row rows more up)) (rest ∙ together)

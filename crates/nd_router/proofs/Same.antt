-- Lists with the same rows, and the rows of units.
use Rattle.std.proofs.Common.{◌≡◌, List, [], ◌∷◌, ◌++◌, append_assoc, append-nil, ◌⊎◌, inl, inr, sym, ap, ◌∙◌, subst}
use Rattle.std.specs.List.{Contains, flat_map}
use Rattle.std.proofs.lemmas.List.Elements.{Contains-append_cases, Contains-append_left, Contains-append_right}
use Rattle.sb_model.specs.declared.row.Row.{Row}
use Rattle.sb_rows.proofs.AllAtOnce.{put_members}
use Rattle.net_rows.specs.Unit.{said_by, unit_rows}
use Rattle.net_rows.specs.declared.rule.Rule.{Rule}
use Rattle.net_rows.specs.declared.rule.Unit.{Unit}
use Rattle.net_rows.proofs.Elements.{Contains-flat_map, Contains-from_flat_map}
use Rattle.nd_router.specs.Members.{HaveSameRows}

pub same_itself : (xs : List Row) → HaveSameRows xs xs
same_itself xs = record { members = λ r. (λ at. at, λ at. at) }

pub same_equal : (xs ys : List Row) → xs ≡ ys → HaveSameRows xs ys
same_equal xs ys is = subst (HaveSameRows xs) is (same_itself xs)

pub same_back : (xs ys : List Row) → HaveSameRows xs ys → HaveSameRows ys xs
same_back xs ys same = record { members = λ r. ((same.members r).1, (same.members r).0) }

pub same_through : (xs ys zs : List Row) → HaveSameRows xs ys → HaveSameRows ys zs → HaveSameRows xs zs
same_through xs ys zs first second = record { members = λ r. (λ at. (second.members r).0 ((first.members r).0 at), λ at. (first.members r).1 ((second.members r).1 at)) }

-- a row of two lists is among two others where each of these has those of one
among_both : (xs xs' ys ys' : List Row) (r : Row) → (Contains xs r → Contains xs' r) → (Contains ys r → Contains ys' r) → Contains (xs ++ ys) r → Contains (xs' ++ ys') r
among_both xs xs' ys ys' r first second at = by (Contains-append_cases xs ys r at)
  where
    by : Contains xs r ⊎ Contains ys r → Contains (xs' ++ ys') r
    by (inl there) = Contains-append_left xs' ys' r (first there)
    by (inr there) = Contains-append_right xs' ys' r (second there)

pub same_both : (xs xs' ys ys' : List Row) → HaveSameRows xs xs' → HaveSameRows ys ys' → HaveSameRows (xs ++ ys) (xs' ++ ys')
same_both xs xs' ys ys' first second = record {
  members = λ r. (
    among_both xs xs' ys ys' r (first.members r).0 (second.members r).0,
    among_both xs' xs ys' ys r (first.members r).1 (second.members r).1,
  );
}

-- a list that comes to another, and has the rows of a third
pub same_appended : (old list more new : List Row) → new ≡ old ++ list → HaveSameRows list more → HaveSameRows new (old ++ more)
same_appended old list more new is same = same_through new (old ++ list) (old ++ more) (same_equal new (old ++ list) is) (same_both old old list more (same_itself old) same)

-- the order of two parts does not matter
turned : (xs ys : List Row) (r : Row) → Contains (xs ++ ys) r → Contains (ys ++ xs) r
turned xs ys r at = by (Contains-append_cases xs ys r at)
  where
    by : Contains xs r ⊎ Contains ys r → Contains (ys ++ xs) r
    by (inl there) = Contains-append_right ys xs r there
    by (inr there) = Contains-append_left ys xs r there

pub same_turned_round : (xs ys : List Row) → HaveSameRows (xs ++ ys) (ys ++ xs)
same_turned_round xs ys = record { members = λ r. (turned xs ys r, turned ys xs r) }

module _ {X : Type 0} (f g : X → List Row) (xs : List X) where
  -- pieces with the same rows
  pub same_pieces : ((x : X) → HaveSameRows (f x) (g x)) → HaveSameRows (flat_map f xs) (flat_map g xs)
  same_pieces each = record {
    members = λ r. (
      λ at. let piece = Contains-from_flat_map f xs r at in Contains-flat_map g xs piece.0 r piece.1 (((each piece.0).members r).0 piece.2),
      λ at. let piece = Contains-from_flat_map g xs r at in Contains-flat_map f xs piece.0 r piece.1 (((each piece.0).members r).1 piece.2),
    );
  }

  -- pieces of two parts
  pub same_split : HaveSameRows (flat_map (λ x. f x ++ g x) xs) (flat_map f xs ++ flat_map g xs)
  same_split = record {
    members = λ r. (
      λ at. let piece = Contains-from_flat_map (λ x. f x ++ g x) xs r at in split r piece.0 piece.1 (Contains-append_cases (f piece.0) (g piece.0) r piece.2),
      λ at. joined r (Contains-append_cases (flat_map f xs) (flat_map g xs) r at),
    );
  }
    where
      split : (r : Row) (x : X) → Contains xs x → Contains (f x) r ⊎ Contains (g x) r → Contains (flat_map f xs ++ flat_map g xs) r
      split r x there (inl at) = Contains-append_left (flat_map f xs) (flat_map g xs) r (Contains-flat_map f xs x r there at)
      split r x there (inr at) = Contains-append_right (flat_map f xs) (flat_map g xs) r (Contains-flat_map g xs x r there at)

      joined : (r : Row) → Contains (flat_map f xs) r ⊎ Contains (flat_map g xs) r → Contains (flat_map (λ x. f x ++ g x) xs) r
      joined r (inl at) =
          let piece = Contains-from_flat_map f xs r at in
          Contains-flat_map (λ x. f x ++ g x) xs piece.0 r piece.1 (Contains-append_left (f piece.0) (g piece.0) r piece.2)
      joined r (inr at) =
          let piece = Contains-from_flat_map g xs r at in
          Contains-flat_map (λ x. f x ++ g x) xs piece.0 r piece.1 (Contains-append_right (f piece.0) (g piece.0) r piece.2)

-- the rows of a unit in row order are those that its rules say
pub same_unit : (unit : Unit) (rules : List Rule) → HaveSameRows (unit_rows unit rules) (said_by unit rules)
unfolding unit_rows
same_unit unit rules = record { members = put_members (said_by unit rules) }

-- ---- records that are gone through

module _ {R : Type 0} (give : R → List Row) (left : List R) (made whole : List Row) (same : HaveSameRows (made ++ flat_map give left) whole) where
  -- where none is left, what was made has the rows of all
  pub same_none : left ≡ [] → HaveSameRows made whole
  same_none none = same_through made (made ++ flat_map give left) whole (same_equal made (made ++ flat_map give left) (sym (append-nil made) ∙ ap (λ rs. made ++ flat_map give rs) (sym none))) same

  -- the rows that the first record gives come to those that were made
  pub same_first : (x : R) (rest : List R) (new : List Row) → left ≡ x ∷ rest → HaveSameRows new (made ++ give x) → HaveSameRows (new ++ flat_map give rest) whole
  same_first x rest new first step =
      let next : (made ++ give x) ++ flat_map give rest ≡ made ++ flat_map give left = append_assoc made (give x) (flat_map give rest) ∙ ap (λ rs. made ++ flat_map give rs) (sym first) in
      same_through (new ++ flat_map give rest) (made ++ flat_map give left) whole
      (same_through (new ++ flat_map give rest) ((made ++ give x) ++ flat_map give rest) (made ++ flat_map give left)
      (same_both new (made ++ give x) (flat_map give rest) (flat_map give rest) step (same_itself (flat_map give rest))) (same_equal ((made ++ give x) ++ flat_map give rest) (made ++ flat_map give left) next)) same

-- The text of a tree is read as the tree: its tokens are the tree by the rules, whatever their offsets.
use Rattle.std.proofs.Common.{◌≡◌, ℕ, zero, suc, ◌+◌, ◌≤◌, Bool, true, false, List, [], ◌∷◌, ◌++◌, refl, ap, ◌∙◌, arith, append-nil}
use Rattle.std.proofs.Math.Nat.{le-max_left, le-max_right}
use Rattle.expr_core.specs.Named.{without_offsets, atom_without_offset}
use Rattle.expr_core.specs.declared.comparison.Right.TheVariants as right_of
use Rattle.expr_parse.specs.declared.operator.Operator.TheVariants as operator
use Rattle.expr_parse.proofs.Words.{Formula, Formulas, formulas, Leaf, Negation, Conjunction, Disjunction, Nil, Cons, is_joined, needs_parentheses}
use Rattle.expr_parse.proofs.Words.{expr_writing, Rel, Right, Atom, Truth, Bare, Compare, Part, Operator, sign, join, Tokens, Name, Relation, Not}
use Rattle.expr_parse.proofs.Words.{Open, Close, kinds, bits_tokens, IsPart, IsRight, IsMatch, AreUnits, IsUnit, IsOperand, alone, is_match, last}
use Rattle.expr_parse.proofs.Words.{more, plain, comparison, is_truth, is_bare, is_negation, is_enclosed, IsRightSide, IsPartName, IsLeaf}
use Rattle.expr_parse.proofs.Words.{part_tokens, right_tokens, atom_tokens, enclosed_tokens, tree_tokens, operand_tokens, more_tokens, AreTwo}
use Rattle.expr_parse.proofs.Words.{IsWellFormed, AreWellFormed, one_if, levels_of, levels_among, formulas_map, expr_text, level_limit, tokens_of}
use Rattle.expr_parse.proofs.Words.{IsReadAgain}
use Rattle.expr_parse.proofs.TokenKinds.{kinds_none, kinds_first, kinds_split}
use Rattle.expr_parse.proofs.LexedTrees.{tree_lexed}
use Rattle.expr_parse.proofs.ReadsMatch.{match_is_read}

-- The tokens are by this rule a tree that differs from the given one in its offsets at most.
abbrev Alike : (Formula Atom → Type 0) → Formula Atom → Type 0
Alike Is f = (g : Formula Atom) × Is g × (without_offsets g ≡ without_offsets f)

abbrev UnitsAlike : ℕ → Operator → Tokens → Formulas Atom → Type 0
UnitsAlike n o ts fs = (gs : List (Formula Atom)) × AreUnits n o ts gs × (formulas_map atom_without_offset (formulas gs) ≡ formulas_map atom_without_offset fs)

-- by which rules the tokens are a tree
record ByRules (n : ℕ) (ts : Tokens) (f : Formula Atom) : Type 0 where
  as_match : Alike (IsMatch n ts) f
  as_unit : is_joined f ≡ false → Alike (IsUnit n ts) f
  as_operand : needs_parentheses expr_writing f ≡ false → Alike (IsOperand n ts) f

-- the tree's tokens are the tree by the rules, where enough levels may be opened
abbrev Ruled : Formula Atom → Type 0
Ruled f = (n : ℕ) (ts : Tokens) → levels_of expr_writing f ≤ n → kinds ts ≡ tree_tokens f → ByRules n ts f

abbrev AllRuled : Formulas Atom → Type 0
AllRuled Nil = Unit {0}
AllRuled (Cons f fs) = Ruled f × AllRuled fs

a_unit : {n : ℕ} {ts : Tokens} (f : Formula Atom) → Alike (IsOperand n ts) f → Alike (IsUnit n ts) f
a_unit f a = (a.0, plain a.1, a.2)

a_match : {n : ℕ} {ts : Tokens} (f : Formula Atom) → Alike (IsUnit n ts) f → Alike (IsMatch n ts) f
a_match f a = (a.0, alone a.1, a.2)

-- what is an operand is a unit and a match
from_operand : {n : ℕ} {ts : Tokens} (f : Formula Atom) → Alike (IsOperand n ts) f → ByRules n ts f
from_operand f a = record { as_match = a_match f (a_unit f a); as_unit = λ e. a_unit f a; as_operand = λ e. a }

-- Atoms

-- the part whose name is at this offset
abbrev part_at : ℕ → Part → Part
part_at offset p = record { name = p.name; bits = p.bits; offset = offset }

a_part : (ts : Tokens) (p : Part) → IsPartName p → kinds ts ≡ part_tokens p → (offset : ℕ) × IsPart ts (part_at offset p)
a_part ts p is e =
    let f = kinds_first ts (Name p.name) (bits_tokens p.bits) e in
    (f.0, record { after = f.1; whole = f.2; bits = f.3; numbers = is.1 })

a_right : (ts : Tokens) (s : Right) → IsRightSide s → kinds ts ≡ right_tokens s → IsRight (kinds ts) s
a_right ts (right_of.Item i) is e = e
a_right ts (right_of.Set []) is e = absurd is
a_right ts (right_of.Set (i ∷ is)) each e = e

bare_ruled : (n : ℕ) (ts : Tokens) (p : Part) → IsPartName p → kinds ts ≡ part_tokens p → Alike (IsOperand n ts) (Leaf (Bare p))
bare_ruled n ts p is e = let q = a_part ts p is e in (Leaf (Bare (part_at q.0 p)), is_bare (part_at q.0 p) q.1, refl)

comparison_ruled : (n : ℕ) (ts : Tokens) (p : Part) (r : Rel) (s : Right) → IsLeaf (Compare p r s) → kinds ts ≡ atom_tokens (Compare p r s) → Alike (IsUnit n ts) (Leaf (Compare p r s))
comparison_ruled n ts p r s is e =
    let cut = kinds_split ts (part_tokens p) (Relation r ∷ right_tokens s) e in
    let sign = kinds_first cut.1 (Relation r) (right_tokens s) cut.4 in
    let q = a_part cut.0 p is.0 cut.3 in
    let whole : ts ≡ cut.0 ++ (sign.0, Relation r) ∷ sign.1 = cut.2 ∙ ap (λ xs. cut.0 ++ xs) sign.2 in
    (Leaf (Compare (part_at q.0 p) r s), comparison (part_at q.0 p) r s (cut.0, sign.0, sign.1, whole, q.1, a_right sign.1 s is.1 sign.3), refl)

leaf_ruled : (a : Atom) → IsLeaf a → Ruled (Leaf a)
leaf_ruled (Truth b) is n ts le e = from_operand (Leaf (Truth b)) (Leaf (Truth b), is_truth b e, refl)
leaf_ruled (Bare p) is n ts le e = from_operand (Leaf (Bare p)) (bare_ruled n ts p is e)
leaf_ruled (Compare p r s) is n ts le e =
    let u = comparison_ruled n ts p r s is e in
    record { as_match = a_match (Leaf (Compare p r s)) u; as_unit = λ joins. u; as_operand = λ compares. absurd (cc) }

-- Parentheses

in_parentheses : (n : ℕ) (ts : Tokens) (f : Formula Atom) → Ruled f → levels_of expr_writing f ≤ n → kinds ts ≡ enclosed_tokens true (tree_tokens f) → Alike (IsOperand (suc n) ts) f
in_parentheses n ts f ruled le e =
    let opening = kinds_first ts Open (tree_tokens f ++ Close ∷ []) e in
    let cut = kinds_split opening.1 (tree_tokens f) (Close ∷ []) opening.3 in
    let closing = kinds_first cut.1 Close [] cut.4 in
    let end : cut.1 ≡ (closing.0, Close) ∷ [] = closing.2 ∙ ap (λ xs. (closing.0, Close) ∷ xs) (kinds_none closing.1 closing.3) in
    let whole : ts ≡ (opening.0, Open) ∷ (cut.0 ++ (closing.0, Close) ∷ []) = opening.2 ∙ ap (λ xs. (opening.0, Open) ∷ xs) (cut.2 ∙ ap (λ xs. cut.0 ++ xs) end) in
    let inner = (ruled n cut.0 le cut.3).as_match in
    (inner.0, is_enclosed opening.0 closing.0 cut.0 whole inner.1, inner.2)

-- what `!` negates
negated : (b : Bool) (n : ℕ) (ts : Tokens) (f : Formula Atom) → needs_parentheses expr_writing f ≡ b → Ruled f → one_if b + levels_of expr_writing f ≤ n → kinds ts ≡ enclosed_tokens b (tree_tokens f) → Alike (IsOperand n ts) f
negated true zero ts f needs ruled le e = absurd (omega arith)
negated true (suc n) ts f needs ruled le e = in_parentheses n ts f ruled (omega arith) e
negated false n ts f needs ruled le e = (ruled n ts (omega arith) e).as_operand needs

negation_ruled : (f : Formula Atom) → Ruled f → Ruled (Negation f)
negation_ruled f ruled zero ts le e = absurd (omega arith)
negation_ruled f ruled (suc n) ts le e =
    let b = needs_parentheses expr_writing f in
    let sign = kinds_first ts Not (enclosed_tokens b (tree_tokens f)) e in
    let inner = negated b n sign.1 f refl ruled (omega arith) sign.3 in
    from_operand (Negation f) (Negation inner.0, is_negation sign.0 sign.1 sign.2 inner.1, ap (λ g. Negation g) inner.2)

-- Operands

-- what an operator joins
joined : (b : Bool) (n : ℕ) (ts : Tokens) (f : Formula Atom) → is_joined f ≡ b → Ruled f → one_if b + levels_of expr_writing f ≤ n → kinds ts ≡ enclosed_tokens b (tree_tokens f) → Alike (IsUnit n ts) f
joined true zero ts f joins ruled le e = absurd (omega arith)
joined true (suc n) ts f joins ruled le e = a_unit f (in_parentheses n ts f ruled (omega arith) e)
joined false n ts f joins ruled le e = (ruled n ts (omega arith) e).as_unit joins

units_ruled : (f : Formula Atom) (fs : Formulas Atom) → Ruled f → AllRuled fs → (n : ℕ) (o : Operator) (ts : Tokens) → levels_among expr_writing (Cons f fs) ≤ n → kinds ts ≡ operand_tokens (sign o) (Cons f fs) → UnitsAlike n o ts (Cons f fs)
units_ruled f Nil ruled each n o ts le e =
    let here : one_if (is_joined f) + levels_of expr_writing f ≤ n = omega (arith, le-max_left (one_if (is_joined f) + levels_of expr_writing f) 0) in
    let u = joined (is_joined f) n ts f refl ruled here (e ∙ append-nil (enclosed_tokens (is_joined f) (tree_tokens f))) in
    (u.0 ∷ [], last u.0 u.1, ap (λ g. Cons g Nil) u.2)
units_ruled f (Cons g gs) ruled each n o ts le e =
    let here : one_if (is_joined f) + levels_of expr_writing f ≤ n = omega (arith, le-max_left (one_if (is_joined f) + levels_of expr_writing f) (levels_among expr_writing (Cons g gs))) in
    let there : levels_among expr_writing (Cons g gs) ≤ n = omega (arith, le-max_right (one_if (is_joined f) + levels_of expr_writing f) (levels_among expr_writing (Cons g gs))) in
    let cut = kinds_split ts (enclosed_tokens (is_joined f) (tree_tokens f)) (more_tokens (sign o) (Cons g gs)) e in
    let next = kinds_first cut.1 (sign o) (operand_tokens (sign o) (Cons g gs)) cut.4 in
    let u = joined (is_joined f) n cut.0 f refl ruled here cut.3 in
    let us = units_ruled g gs each.0 each.1 n o next.1 there next.3 in
    let whole : ts ≡ cut.0 ++ (next.0, sign o) ∷ next.1 = cut.2 ∙ ap (λ xs. cut.0 ++ xs) next.2 in
    (u.0 ∷ us.0, more cut.0 next.0 next.1 whole u.1 us.1, ap (λ h. Cons h (formulas_map atom_without_offset (formulas us.0))) u.2 ∙ ap (λ hs. Cons (without_offsets f) hs) us.2)

-- two operands or more make a tree
same_joined : (o : Operator) (fs gs : Formulas Atom) → formulas_map atom_without_offset fs ≡ formulas_map atom_without_offset gs → without_offsets (join o fs) ≡ without_offsets (join o gs)
same_joined operator.And fs gs e = ap (λ hs. Conjunction hs) e
same_joined operator.Or fs gs e = ap (λ hs. Disjunction hs) e

joined_alike : (o : Operator) (n : ℕ) (ts : Tokens) (gs : List (Formula Atom)) (f g : Formula Atom) (fs : Formulas Atom) → AreUnits n o ts gs → formulas_map atom_without_offset (formulas gs) ≡ formulas_map atom_without_offset (Cons f (Cons g fs)) → Alike (IsMatch n ts) (join o (Cons f (Cons g fs)))
joined_alike o n ts [] f g fs us e = absurd (cc)
joined_alike o n ts (h ∷ []) f g fs us e = absurd (cc)
joined_alike o n ts (h ∷ i ∷ hs) f g fs us e = (join o (formulas (h ∷ i ∷ hs)), is_match o h i hs us, same_joined o (formulas (h ∷ i ∷ hs)) (Cons f (Cons g fs)) e)

conjunction_ruled : (fs : Formulas Atom) → AreTwo fs → AllRuled fs → Ruled (Conjunction fs)
conjunction_ruled Nil two each n ts le e = absurd two
conjunction_ruled (Cons f Nil) two each n ts le e = absurd two
conjunction_ruled (Cons f (Cons g fs)) two each n ts le e =
    let us = units_ruled f (Cons g fs) each.0 each.1 n operator.And ts le e in
    record { as_match = joined_alike operator.And n ts us.0 f g fs us.1 us.2; as_unit = λ joins. absurd (cc); as_operand = λ needs. absurd (cc) }

disjunction_ruled : (fs : Formulas Atom) → AreTwo fs → AllRuled fs → Ruled (Disjunction fs)
disjunction_ruled Nil two each n ts le e = absurd two
disjunction_ruled (Cons f Nil) two each n ts le e = absurd two
disjunction_ruled (Cons f (Cons g fs)) two each n ts le e =
    let us = units_ruled f (Cons g fs) each.0 each.1 n operator.Or ts le e in
    record { as_match = joined_alike operator.Or n ts us.0 f g fs us.1 us.2; as_unit = λ joins. absurd (cc); as_operand = λ needs. absurd (cc) }

mutual
  tree_ruled : (f : Formula Atom) → IsWellFormed IsLeaf f → Ruled f
  tree_ruled (Leaf a) is = leaf_ruled a is
  tree_ruled (Negation f) is = negation_ruled f (tree_ruled f is)
  tree_ruled (Conjunction fs) is = conjunction_ruled fs is.0 (trees_ruled fs is.1)
  tree_ruled (Disjunction fs) is = disjunction_ruled fs is.0 (trees_ruled fs is.1)

  trees_ruled : (fs : Formulas Atom) → AreWellFormed IsLeaf fs → AllRuled fs
  trees_ruled Nil each = tt
  trees_ruled (Cons f fs) each = (tree_ruled f each.0, trees_ruled fs each.1)

-- the tokens of a well-formed tree are, by the rules, a match that differs from it in its offsets at most
pub tokens_are_the_tree : (f : Formula Atom) → IsWellFormed IsLeaf f → (n : ℕ) → levels_of expr_writing f ≤ n → (ts : Tokens) → kinds ts ≡ tree_tokens f → Alike (IsMatch n ts) f
tokens_are_the_tree f is n le ts e = (tree_ruled f is n ts le e).as_match

-- The text of a well-formed tree is read as the tree, without offsets.

pub read_again : (f : Formula Atom) → IsWellFormed IsLeaf f → levels_of expr_writing f ≤ level_limit → IsReadAgain f
read_again f is shallow =
    let lexed = tree_lexed f is in
    let m = tokens_are_the_tree f is level_limit shallow (tokens_of (expr_text f)).0 lexed.tokens in
    (m.0, match_is_read (expr_text f) m.0 (lexed.whole, m.1), m.2)

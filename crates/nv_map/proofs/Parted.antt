-- The trees of a node are shorter, and their keys rise. A node from which one was taken has the other, and its own entry.
use Rattle.std.proofs.Common.{◌≡◌, ◌<◌, ◌++◌, ◌∷◌, List, [], length, arith, rules, length-append, refl, sym, ap, ◌∙◌, Bool, true, false, None, Some, Option, Box, IsTrue, ◌↔◌}
use Rattle.std.proofs.lemmas.Bool.{false≢true, true≢false}
use Rattle.std.specs.Option.{is_some}
use Rattle.std.specs.Prelude.{not}
use Rattle.std.specs.declared.cmp.Ordering.{Ordering}
use Rattle.nv_map.specs.Map.{KeysRise}
use Rattle.nv_map.specs.Node.{Around, entries_of, tree_entries}
use Rattle.nv_map.proofs.Rising.{rise_front, rise_high}

pub compared : {P K : Type 0} (cmp : P → K → Ordering) {r s : Ordering} {k l : P} {x y : K} → r ≡ cmp k x → r ≡ s → k ≡ l → x ≡ y → cmp l y ≡ s
compared cmp {r} {s} {k} {l} {x} {y} answer is left right = sym (answer ∙ ap (λ n. cmp n x) left ∙ ap (cmp l) right) ∙ is

pub none_is_some : {A : Type 0} {a : Option A} {x : A} → a ≡ None → a ≡ Some x → ⊥
none_is_some e f = cc

pub pair_of : {K V : Type 0} {k l : K} {v w : V} → k ≡ l → v ≡ w → ◌≡◌ {A = K × V} (k, v) (l, w)
pair_of {K} {V} {k} {l} {v} {w} e f = ap (λ (x : K). (x, v)) e ∙ ap (λ (x : V). (l, x)) f

pub never_empty : {K V : Type 0} (l : List (K × V)) (m : K × V) (r : List (K × V)) → l ++ m ∷ r ≡ [] → ⊥
never_empty [] m r e = cc
never_empty (x ∷ l) m r e = cc

pub none_is_empty : {K V A : Type 0} (tree : Option (Box (Around K V) A)) (b : Bool) → is_some tree ≡ not b → IsTrue b ↔ (tree_entries tree ≡ [])
none_is_empty None true e = (λ _. refl, λ _. search rules)
none_is_empty None false e = absurd (false≢true e)
none_is_empty (Some node) true e = absurd (true≢false e)
none_is_empty (Some node) false e = (λ h. absurd (search rules), λ h. absurd (never_empty _ _ _ h))

module _ {K V : Type 0} {a b : Around K V} where
  pub low_of : a ≡ b → a.0 ≡ b.0
  low_of e = ap (λ (n : Around K V). n.0) e

  pub key_of : a ≡ b → a.1.0 ≡ b.1.0
  key_of e = ap (λ (n : Around K V). n.1.0) e

  pub value_of : a ≡ b → a.1.1 ≡ b.1.1
  value_of e = ap (λ (n : Around K V). n.1.1) e

  pub high_of : a ≡ b → a.2 ≡ b.2
  high_of e = ap (λ (n : Around K V). n.2) e

  pub alike_low : (l : List (K × V)) → a ≡ b → l ++ a.1 ∷ a.2 ≡ l ++ b.1 ∷ b.2
  alike_low l e = ap (λ (n : Around K V). l ++ n.1 ∷ n.2) e

  pub alike_high : (r : List (K × V)) → a ≡ b → a.0 ++ a.1 ∷ r ≡ b.0 ++ b.1 ∷ r
  alike_high r e = ap (λ (n : Around K V). n.0 ++ n.1 ∷ r) e

  pub alike_key : (v : V) → a ≡ b → a.0 ++ (a.1.0, v) ∷ a.2 ≡ b.0 ++ (b.1.0, v) ∷ b.2
  alike_key v e = ap (λ (n : Around K V). n.0 ++ (n.1.0, v) ∷ n.2) e

module _ {K V : Type 0} {rest taken node : Around K V} where
  pub left_alone_low : (l : List (K × V)) → rest ≡ ([], taken.1, taken.2) → taken ≡ node → l ++ rest.1 ∷ rest.2 ≡ l ++ node.1 ∷ node.2
  left_alone_low l e f = alike_low l e ∙ alike_low l f

  pub left_alone_high : (r : List (K × V)) → rest ≡ (taken.0, taken.1, []) → taken ≡ node → rest.0 ++ rest.1 ∷ r ≡ node.0 ++ node.1 ∷ r
  left_alone_high r e f = alike_high r e ∙ alike_high r f

module _ {K V : Type 0} (cmp : K → K → Ordering) (node : Around K V) {all part : List (K × V)} (is : all ≡ entries_of node) (rise : KeysRise cmp all) where
  pub part_low : part ≡ node.0 → (length part < length all) × KeysRise cmp part
  part_low e = (rw (e, is) (omega (arith, length-append node.0 (node.1 ∷ node.2))), rw e (rise_front cmp node.0 (node.1 ∷ node.2) (rw is at rise)))

  pub part_high : part ≡ node.2 → (length part < length all) × KeysRise cmp part
  part_high e = (rw (e, is) (omega (arith, length-append node.0 (node.1 ∷ node.2))), rw e (rise_high cmp node.0 node.1 node.2 (rw is at rise)))

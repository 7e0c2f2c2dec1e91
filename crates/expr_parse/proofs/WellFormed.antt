-- What is read is well-formed: what a token spells can be part of a well-formed match, and the rules make no other of it.
use Rattle.std.proofs.Common.{◌≡◌, ℕ, zero, suc, ◌+◌, ◌==◌, ◌<◌, ◌^◌, Bool, true, false, cond, List, [], ◌∷◌, length, map, take, drop, Option, Some}
use Rattle.std.proofs.Common.{None, unwrap_or, nat_eq, refl, sym, ap, subst, ◌∙◌, arith, ◌≤◌, ◌++◌}
use Rattle.std.specs.Str.Parse.{digits_value, AllDigits}
use Rattle.std.specs.Int.Digits.{AllBelowBase, number_from_digits}
use Rattle.std.proofs.lemmas.Int.Digits.{number_lt, digits_value-lt}
use Rattle.expr_parse.specs.Spelling.{inside, spelled}
use Rattle.std.proofs.Math.Nat.{max-le}
use Rattle.expr_core.specs.declared.constant.Form.TheVariants as form
use Rattle.expr_core.specs.declared.comparison.Item.TheVariants as item_of
use Rattle.expr_core.specs.declared.comparison.Right.TheVariants as right_of
use Rattle.expr_parse.specs.declared.operator.Operator.TheVariants as operator
use Rattle.expr_parse.proofs.Words.{option_map, pointwise, ltb-true, eqb-true, and_parts, length-map, list_all, slice_split, cond_some}
use Rattle.expr_parse.proofs.Words.{some_pair_parts, is_digit, octet_of, pair_of, number_of_parts, address, ip4_of, Ip4, mac_of, digits_number}
use Rattle.expr_parse.proofs.Words.{decimal_of, hexadecimal_of, Const, Token, Name, Number, Text, AddrSet, Group, or_else, is_name, name_after}
use Rattle.expr_parse.proofs.Words.{is_quotable, quoted_of, constant, number_after_0x, constant_of, signs, sign_among, blanks, longest, first_token}
use Rattle.expr_parse.proofs.Words.{tokens_at, tokens_from, kinds, IsConst, Formula, formulas, Leaf, Negation, Conjunction, Disjunction, is_joined}
use Rattle.expr_parse.proofs.Words.{needs_parentheses, expr_writing, IsWellFormed, AreWellFormed, one_if, levels_of, levels_among, Item, Right, Atom}
use Rattle.expr_parse.proofs.Words.{Truth, Bare, Compare, Part, Operator, level_limit, sign, join, reading, Read, Tokens, Relation, Close, CloseBrace}
use Rattle.expr_parse.proofs.Words.{Comma, item_tokens, items_tokens, IsPart, IsRight, IsAtom, IsMatch, AreUnits, IsUnit, IsOperand, alone, is_match}
use Rattle.expr_parse.proofs.Words.{last, more, plain, comparison, is_truth as truth, is_bare as bare, is_negation as negation}
use Rattle.expr_parse.proofs.Words.{is_enclosed as enclosed, IsItem, AreItems, IsRightSide, IsPartName, IsLeaf}
use Rattle.expr_parse.proofs.Longest.{guarded, mapped, chosen}
use Rattle.expr_parse.proofs.Shapes.{below_parts, digits_parts}
use Rattle.expr_parse.proofs.Traces.{what_is_read}
use Rattle.expr_parse.proofs.TokenKinds.{kinds_append}

-- Constants fit the spelling of their form.

digits_fit : (radix : ℕ) (text : List ℕ) (n : ℕ) → digits_number radix text ≡ Some n → n < 2 ^ 128
digits_fit radix text n e = let c = cond_some _ (digits_value radix text) n e in rw (← c.1) (ltb-true _ _ (and_parts _ _ c.0).1)

all_below : (byte : List ℕ → Option ℕ) → ((p : List ℕ) (m : ℕ) → byte p ≡ Some m → m < 256) → (parts : List (List ℕ)) → AllBelowBase 256 (map (λ p. unwrap_or (byte p) 0) parts)
all_below byte small [] = tt
all_below byte small (p ∷ ps) = (one (byte p) refl, all_below byte small ps)
  where
    one : (o : Option ℕ) → byte p ≡ o → unwrap_or o 0 < 256
    one None e = omega arith
    one (Some m) e = small p m e

bytes_fit : (byte : List ℕ → Option ℕ) (count : ℕ) (parts : List (List ℕ)) (n : ℕ) → ((p : List ℕ) (m : ℕ) → byte p ≡ Some m → m < 256) → number_of_parts byte count parts ≡ Some n → n < 256 ^ count
bytes_fit byte count parts n small e =
    let c = cond_some _ (number_from_digits 256 (map (λ p. unwrap_or (byte p) 0) parts)) n e in
    let many : length (map (λ p. unwrap_or (byte p) 0) parts) ≡ count = length-map parts (λ p. unwrap_or (byte p) 0) ∙ eqb-true _ _ (and_parts _ _ c.0).0 in
    rw (← c.1, ← many) (number_lt 256 (map (λ p. unwrap_or (byte p) 0) parts) (all_below byte small parts))

all_digits : (radix : ℕ) (text : List ℕ) → list_all (λ b. is_digit b radix) text ≡ true → AllDigits radix text
all_digits radix [] all = tt
all_digits radix (b ∷ bs) all = let parts = and_parts _ _ all in (ltb-true _ _ parts.0, all_digits radix bs parts.1)

pair_fits : (p : List ℕ) (m : ℕ) → pair_of p ≡ Some m → m < 256
pair_fits p m e =
    let outer = guarded _ (digits_number 16 p) m e in
    let c = cond_some _ (digits_value 16 p) m outer.1 in
    let two : length p ≡ 2 = eqb-true _ _ outer.0 in
    let small : digits_value 16 p < 16 ^ length p = digits_value-lt 16 p (all_digits 16 p (digits_parts 16 p m outer.1)) in
    let squared : digits_value 16 p < 16 ^ 2 = rw two at small in
    omega (arith, squared, c.1)

octet_fits : (p : List ℕ) (m : ℕ) → octet_of p ≡ Some m → m < 256
octet_fits p m e = (below_parts 256 (decimal_of p) m e).1

module _ (text : List ℕ) (c : Const) where
  of_dec : option_map (constant form.Dec) (decimal_of text) ≡ Some c → IsConst c
  of_dec e = let m = mapped (constant form.Dec) (decimal_of text) c e in subst IsConst m.2
      (digits_fit 10 text m.0 (guarded _ (digits_number 10 text) m.0 m.1).1)

  of_hex : option_map (constant form.Hex) (number_after_0x text) ≡ Some c → IsConst c
  of_hex e =
      let m = mapped (constant form.Hex) (number_after_0x text) c e in
      let inner = guarded _ (hexadecimal_of (drop 2 text)) m.0 m.1 in
      subst IsConst m.2 (digits_fit 16 (drop 2 text) m.0 (guarded _ (digits_number 16 (drop 2 text)) m.0 inner.1).1)

  of_mac : option_map (constant form.Mac) (mac_of text) ≡ Some c → IsConst c
  of_mac e = let m = mapped (constant form.Mac) (mac_of text) c e in subst IsConst m.2
      (bytes_fit pair_of 6 (slice_split (λ b. b == 58) text) m.0 pair_fits m.1)

  of_ip4 : option_map (λ a. constant form.Ip4 a.0) (ip4_of text) ≡ Some c → IsConst c
  of_ip4 e =
      let m = mapped (λ (a : Ip4). constant form.Ip4 a.0) (ip4_of text) c e in
      let k = mapped address (number_of_parts octet_of 4 (slice_split (λ b. b == 46) text)) m.0 m.1 in
      let P : Ip4 → Type 0 = λ a. IsConst (constant form.Ip4 a.0) in
      subst IsConst m.2 (subst P k.2 (bytes_fit octet_of 4 (slice_split (λ b. b == 46) text) k.0 octet_fits k.1))

  constant_fits : constant_of text ≡ Some c → IsConst c
  constant_fits e = chosen _ _ c e of_dec (λ e. chosen _ _ c e of_hex (λ e. chosen _ _ c e of_mac of_ip4))

-- Tokens.

-- what a token must be to be part of a well-formed match
abbrev pub IsSpelled : Token → Type 0
IsSpelled (Name name) = is_name name ≡ true
IsSpelled (Number c) = IsConst c
IsSpelled (Text name) = is_quotable name ≡ true
IsSpelled (AddrSet name) = is_name name ≡ true
IsSpelled (Group name) = is_name name ≡ true
IsSpelled _ = Unit {0}

abbrev pub AreSpelled : List Token → Type 0
AreSpelled [] = Unit {0}
AreSpelled (t ∷ ts) = IsSpelled t × AreSpelled ts

sign_spelled : (ss : List (List ℕ × Token)) (text : List ℕ) (t : Token) → AreSpelled (map (λ s. s.1) ss) → sign_among ss text ≡ Some t → IsSpelled t
sign_spelled [] text t all e = absurd cc
sign_spelled (s ∷ ss) text t all e = by_test (pointwise nat_eq s.0 text) (sign_spelled ss text t all.1) e
  where
    by_test : (b : Bool) → (sign_among ss text ≡ Some t → IsSpelled t) → cond b (Some s.1) (sign_among ss text) ≡ Some t → IsSpelled t
    by_test true others h = let same : s.1 ≡ t = cc in subst IsSpelled same all.0
    by_test false others h = others h

name_spelled : (mark : ℕ) (text : List ℕ) (name : List ℕ) → name_after mark text ≡ Some name → is_name name ≡ true
name_spelled mark [] name e = absurd cc
name_spelled mark (b ∷ bs) name e = let c = cond_some _ bs name e in ap is_name (sym c.1) ∙ (and_parts _ _ c.0).1

module _ (text : List ℕ) (t : Token) where
  of_group : option_map Group (name_after 64 text) ≡ Some t → IsSpelled t
  of_group e = let m = mapped Group (name_after 64 text) t e in subst IsSpelled m.2 (name_spelled 64 text m.0 m.1)

  of_set : option_map AddrSet (name_after 36 text) ≡ Some t → IsSpelled t
  of_set e = let m = mapped AddrSet (name_after 36 text) t e in subst IsSpelled m.2 (name_spelled 36 text m.0 m.1)

  of_quoted : option_map Text (quoted_of text) ≡ Some t → IsSpelled t
  of_quoted e =
      let m = mapped Text (quoted_of text) t e in
      let c = cond_some _ (inside text) m.0 m.1 in
      subst IsSpelled m.2 (ap is_quotable (sym c.1) ∙ (and_parts _ _ c.0).1)

  of_number : option_map Number (constant_of text) ≡ Some t → IsSpelled t
  of_number e = let m = mapped Number (constant_of text) t e in subst IsSpelled m.2 (constant_fits text m.0 m.1)

  of_name : cond (is_name text) (Some (Name text)) None ≡ Some t → IsSpelled t
  of_name e = let c = cond_some (is_name text) (Name text) t e in subst IsSpelled c.1 c.0

  of_sign : sign_among signs text ≡ Some t → IsSpelled t
  of_sign e = sign_spelled signs text t (tt, (tt, (tt, (tt, (tt, (tt, (tt, (tt, (tt, (tt, (tt, (tt, (tt, (tt, (tt, (tt, (tt, (tt, tt)))))))))))))))))) e

  spelled_is : spelled text ≡ Some t → IsSpelled t
  unfolding spelled
  spelled_is e = chosen _ _ t e of_sign (λ e. chosen _ _ t e of_name
      (λ e. chosen _ _ t e of_number (λ e. chosen _ _ t e of_quoted (λ e. chosen _ _ t e of_set of_group))))

longest_is : (n : ℕ) (text : List ℕ) (t : Token) (m : ℕ) → longest spelled n text ≡ Some (t, m) → IsSpelled t
longest_is zero text t m e = absurd cc
longest_is (suc n) text t m e = by_front (spelled (take (suc n) text)) refl (longest_is n text t m) e
  where
    by_front : (o : Option Token) → spelled (take (suc n) text) ≡ o → (longest spelled n text ≡ Some (t, m) → IsSpelled t) → or_else (option_map (λ u. (u, suc n)) o) (longest spelled n text) ≡ Some (t, m) → IsSpelled t
    by_front None is others h = others h
    by_front (Some u) is others h = let same = some_pair_parts u t (suc n) m h in spelled_is (take (suc n) text) t (is ∙ ap Some same.0)

pub tokens_spelled : (n offset : ℕ) (text : List ℕ) → AreSpelled (kinds (tokens_from n offset text).0)
tokens_spelled zero offset text = tt
tokens_spelled (suc n) offset text = by_first (first_token (drop (blanks text) text)) refl (tokens_spelled n)
  where
    by_first : (o : Option (Token × ℕ)) → first_token (drop (blanks text) text) ≡ o → ((at : ℕ) (rest : List ℕ) → AreSpelled (kinds (tokens_from n at rest).0)) → AreSpelled (kinds (tokens_at (tokens_from n) (offset + blanks text) (drop (blanks text) text) o).0)
    by_first None is others = tt
    by_first (Some found) is others = (longest_is (length (drop (blanks text) text)) (drop (blanks text) text) found.0 found.1 is, others (offset + blanks text + found.1) (drop found.1 (drop (blanks text) text)))

-- What the rules of the grammar read is well-formed, and opens no more levels than they allow.

-- tokens before and after others
left_of : (ts us : List Token) → AreSpelled (ts ++ us) → AreSpelled ts
left_of [] us all = tt
left_of (t ∷ ts) us all = (all.0, left_of ts us all.1)

right_of_these : (ts us : List Token) → AreSpelled (ts ++ us) → AreSpelled us
right_of_these [] us all = all
right_of_these (t ∷ ts) us all = right_of_these ts us all.1

-- the tokens at the front, and those after them
split : (ts front : Tokens) (offset : ℕ) (t : Token) (back : Tokens) → ts ≡ front ++ (offset, t) ∷ back → AreSpelled (kinds ts) → AreSpelled (kinds front) × AreSpelled (kinds back)
split ts front offset t back e all =
    let parts : AreSpelled (kinds front ++ t ∷ kinds back) = subst AreSpelled (ap kinds e ∙ kinds_append front ((offset, t) ∷ back)) all in
    (left_of (kinds front) (t ∷ kinds back) parts, (right_of_these (kinds front) (t ∷ kinds back) parts).1)

item_formed : (i : Item) → AreSpelled (item_tokens i) → IsItem i
item_formed (item_of.One c) all = all.0
item_formed (item_of.Masked c m) all = (all.0, all.1.1.0)
item_formed (item_of.Text name) all = all.0
item_formed (item_of.AddrSet name) all = all.0
item_formed (item_of.Group name) all = all.0

items_formed : (i : Item) (is : List Item) → AreSpelled (items_tokens i is) → IsItem i × AreItems is
items_formed i [] all = (item_formed i all, tt)
items_formed i (j ∷ js) all = (item_formed i (left_of (item_tokens i) (Comma ∷ items_tokens j js) all), items_formed j js (right_of_these (item_tokens i) (Comma ∷ items_tokens j js) all).1)

right_formed : (ts : List Token) (s : Right) → IsRight ts s → AreSpelled ts → IsRightSide s
right_formed ts (right_of.Item i) is all = item_formed i (subst AreSpelled is all)
right_formed ts (right_of.Set []) is all = is
right_formed ts (right_of.Set (i ∷ is)) whole all = items_formed i is (left_of (items_tokens i is) (CloseBrace ∷ []) (subst AreSpelled whole all).1)

part_formed : (ts : Tokens) (p : Part) → IsPart ts p → AreSpelled (kinds ts) → IsPartName p
part_formed ts p is all = ((subst AreSpelled (ap kinds is.whole) all).0, is.numbers)

comparison_formed : (ts : Tokens) (p : Part) (r : _) (s : Right) → IsAtom ts (Compare p r s) → AreSpelled (kinds ts) → IsLeaf (Compare p r s)
comparison_formed ts p r s is all =
    let parts = split ts is.0 is.1 (Relation r) is.2 is.3 all in
    (part_formed is.0 p is.4 parts.0, right_formed (kinds is.2) s is.5 parts.1)

-- what an operator joins needs parentheses after `!`
fewer : (f : Formula Atom) → one_if (is_joined f) ≤ one_if (needs_parentheses expr_writing f)
fewer (Leaf (Truth b)) = omega arith
fewer (Leaf (Bare p)) = omega arith
fewer (Leaf (Compare p r s)) = omega arith
fewer (Negation f) = omega arith
fewer (Conjunction fs) = omega arith
fewer (Disjunction fs) = omega arith

at_most_one : (b : Bool) → one_if b ≤ 1
at_most_one true = omega arith
at_most_one false = omega arith

joined_formed : (o : Operator) (n : ℕ) (f g : Formula Atom) (fs : List (Formula Atom)) → AreWellFormed IsLeaf (formulas (f ∷ g ∷ fs)) × (levels_among expr_writing (formulas (f ∷ g ∷ fs)) ≤ n)
    → IsWellFormed IsLeaf (join o (formulas (f ∷ g ∷ fs))) × (levels_of expr_writing (join o (formulas (f ∷ g ∷ fs))) ≤ n)
joined_formed operator.And n f g fs h = ((tt, h.0), h.1)
joined_formed operator.Or n f g fs h = ((tt, h.0), h.1)

mutual
  match_formed : {n : ℕ} {ts : Tokens} {f : Formula Atom} → IsMatch n ts f → AreSpelled (kinds ts) → IsWellFormed IsLeaf f × (levels_of expr_writing f ≤ n)
  match_formed (alone u) all = let h = unit_formed u all in (h.0, omega (arith, h.1))
  match_formed {n = n} (is_match o f g fs us) all = joined_formed o n f g fs (units_formed us all)

  units_formed : {n : ℕ} {o : Operator} {ts : Tokens} {fs : List (Formula Atom)} → AreUnits n o ts fs → AreSpelled (kinds ts) → AreWellFormed IsLeaf (formulas fs) × (levels_among expr_writing (formulas fs) ≤ n)
  units_formed (last f u) all = let h = unit_formed u all in ((h.0, tt), max-le h.1 (omega arith))
  units_formed {o = o} {ts = ts} (more front offset back e u us) all =
      let parts = split ts front offset (sign o) back e all in
      let h = unit_formed u parts.0 in
      let k = units_formed us parts.1 in
      ((h.0, k.0), max-le h.1 k.1)

  unit_formed : {n : ℕ} {ts : Tokens} {f : Formula Atom} → IsUnit n ts f → AreSpelled (kinds ts) → IsWellFormed IsLeaf f × (one_if (is_joined f) + levels_of expr_writing f ≤ n)
  unit_formed {f = f} (plain o) all = let h = operand_formed o all in (h.0, omega (arith, h.1, fewer f))
  unit_formed {ts = ts} (comparison p r s is) all = (comparison_formed ts p r s is all, omega arith)

  operand_formed : {n : ℕ} {ts : Tokens} {f : Formula Atom} → IsOperand n ts f → AreSpelled (kinds ts) → IsWellFormed IsLeaf f × (one_if (needs_parentheses expr_writing f) + levels_of expr_writing f ≤ n)
  operand_formed (truth b is) all = (tt, omega arith)
  operand_formed {ts = ts} (bare p is) all = (part_formed ts p is all, omega arith)
  operand_formed (negation {f = f} offset after e o) all = let h = operand_formed o (subst AreSpelled (ap kinds e) all).1 in (h.0, omega (arith, h.1))
  operand_formed (enclosed {f = f} opening closing inner e m) all =
      let inside : AreSpelled (kinds inner) = (split (inner ++ (closing, Close) ∷ []) inner closing Close [] refl (subst AreSpelled (ap kinds e) all).1).0 in
      let h = match_formed m inside in
      (h.0, omega (arith, h.1, at_most_one (needs_parentheses expr_writing f)))

pub formed : (text : List ℕ) (f : Formula Atom) → reading text ≡ Read f [] → IsWellFormed IsLeaf f × (levels_of expr_writing f ≤ level_limit)
formed text f e = match_formed (what_is_read text f e).1 (tokens_spelled (length text + 1) 0 text)

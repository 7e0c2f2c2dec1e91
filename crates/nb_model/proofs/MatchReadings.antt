-- A match that is read and checked is printable.
use Rattle.std.proofs.Common.{◌≡◌, ◌≤◌, ℕ, ◌+◌, max, ◌==◌, Bool, true, false, List, [], ◌∷◌, length, Result, Ok, Err, IfOk, refl, sym, subst, if◌then◌else◌}
use Rattle.expr_check.specs.Check.{checked}
use Rattle.expr_check.specs.Printed.{IsPrintable}
use Rattle.expr_check.specs.declared.fault.TypeFault.{TypeFault}
use Rattle.expr_check.proofs.Passed.{well_typed}
use Rattle.expr_core.specs.Formula.{Formula, Formulas, formulas_map}
use Rattle.expr_core.specs.Formula.Formula.{Leaf, Not, And, Or}
use Rattle.expr_core.specs.Formula.Formulas.{Nil, Cons}
use Rattle.expr_core.specs.Named.{without_offsets, atom_without_offset}
use Rattle.expr_core.specs.Text.{is_joined, needs_parentheses, expr_writing}
use Rattle.expr_core.specs.WellFormed.{AreTwo, IsWellFormed, AreWellFormed, one_if, levels_of, levels_among}
use Rattle.expr_core.specs.declared.expr.Atom.{Atom}
use Rattle.expr_core.specs.declared.expr.Atom.TheVariants.{Truth, Bare, Compare}
use Rattle.expr_core.specs.declared.role.Role.{Role}
use Rattle.expr_core.specs.declared.typed.TypedAtom.{TypedAtom}
use Rattle.expr_parse.specs.Grammar.{Reading, and_then, whole, levels, level_limit, finished, reading}
use Rattle.expr_parse.specs.Grammar.Reading.{Read, Fails}
use Rattle.expr_parse.specs.Token.{Tokens}
use Rattle.expr_parse.specs.Tokens.{tokens_of}
use Rattle.expr_parse.specs.Written.{IsLeaf}
use Rattle.expr_parse.specs.declared.fault.MatchFault.TheVariants.{Syntax}
use Rattle.expr_parse.proofs.WellFormed.{formed}
use Rattle.nb_records.specs.declared.acl.Way.{Way}
use Rattle.nb_read.specs.Readings.{role_of, checked_match, parsed_match, acl_match}

-- A match without offsets is well-formed as the match is, and opens as many levels.

leaf_formed : (a : Atom) → IsLeaf a → IsLeaf (atom_without_offset a)
leaf_formed (Truth b) is = is
leaf_formed (Bare p) is = is
leaf_formed (Compare p r s) is = is

two : (fs : Formulas Atom) → AreTwo fs → AreTwo (formulas_map atom_without_offset fs)
two Nil are = are
two (Cons f Nil) are = are
two (Cons f (Cons g fs)) are = are

mutual
  pub formed_too : (f : Formula Atom) → IsWellFormed IsLeaf f → IsWellFormed IsLeaf (without_offsets f)
  formed_too (Leaf a) is = leaf_formed a is
  formed_too (Not f) is = formed_too f is
  formed_too (And fs) is = (two fs is.0, all_formed fs is.1)
  formed_too (Or fs) is = (two fs is.0, all_formed fs is.1)

  all_formed : (fs : Formulas Atom) → AreWellFormed IsLeaf fs → AreWellFormed IsLeaf (formulas_map atom_without_offset fs)
  all_formed Nil are = are
  all_formed (Cons f fs) are = (formed_too f are.0, all_formed fs are.1)

joined_too : (f : Formula Atom) → is_joined (without_offsets f) ≡ is_joined f
joined_too (Leaf a) = refl
joined_too (Not f) = refl
joined_too (And fs) = refl
joined_too (Or fs) = refl

enclosed_too : (f : Formula Atom) → needs_parentheses expr_writing (without_offsets f) ≡ needs_parentheses expr_writing f
enclosed_too (Leaf (Truth b)) = refl
enclosed_too (Leaf (Bare p)) = refl
enclosed_too (Leaf (Compare p r s)) = refl
enclosed_too (Not f) = refl
enclosed_too (And fs) = refl
enclosed_too (Or fs) = refl

mutual
  levels_too : (f : Formula Atom) → levels_of expr_writing (without_offsets f) ≡ levels_of expr_writing f
  levels_too (Leaf a) = refl
  levels_too (Not f) = let outer = enclosed_too f in let inner = levels_too f in λ i. 1 + (one_if (outer i) + inner i)
  levels_too (And fs) = levels_among_too fs
  levels_too (Or fs) = levels_among_too fs

  levels_among_too : (fs : Formulas Atom) → levels_among expr_writing (formulas_map atom_without_offset fs) ≡ levels_among expr_writing fs
  levels_among_too Nil = refl
  levels_among_too (Cons f fs) = let outer = joined_too f in let inner = levels_too f in let more = levels_among_too fs in λ i. max (one_if (outer i) + inner i) (more i)

-- A match is read to the end of its text.

abbrev pub IsWhole : Reading (Formula Atom) → Type 0
IsWhole (Read f rest) = rest ≡ []
IsWhole (Fails fault) = Unit {0}

finished_whole : (len end : ℕ) (f : Formula Atom) (ts : Tokens) → IsWhole (finished len end f ts)
finished_whole len end f [] = by (end == len)
  where
    by : (b : Bool) → IsWhole (if b then Read f [] else Fails (Syntax end))
    by true = refl
    by false = tt
finished_whole len end f (t ∷ ts) = tt

whole_after : (r : Reading (Formula Atom)) (go_on : Formula Atom → Tokens → Reading (Formula Atom)) → ((f : Formula Atom) (ts : Tokens) → IsWhole (go_on f ts)) → IsWhole (and_then r go_on)
whole_after (Read f ts) go_on all = all f ts
whole_after (Fails fault) go_on all = tt

pub reading_whole : (text : List ℕ) → IsWhole (reading text)
reading_whole text = let ts = tokens_of text in whole_after (whole ts.1 (levels ts.1 level_limit) ts.0) (finished (length text) ts.1) (finished_whole (length text) ts.1)

printable : (role : Role) (text : List ℕ) (e : Formula Atom) (t : Formula TypedAtom) → reading text ≡ Read e [] → checked role e ≡ Ok t → IsPrintable role t
printable role text e t read passes =
    let meaning = well_typed role e t passes in
    let form = formed text e read in
    record {
      typed = meaning.1;
      formed = subst (IsWellFormed IsLeaf) (sym meaning.0) (formed_too e form.0);
      shallow = subst (λ (f : Formula Atom). levels_of expr_writing f ≤ level_limit) (sym meaning.0) (subst (λ (n : ℕ). n ≤ level_limit) (sym (levels_too e)) form.1);
    }

checked_given : (role : Role) (text : List ℕ) (e : Formula Atom) (c : Result (Formula TypedAtom) TypeFault) → reading text ≡ Read e [] → checked role e ≡ c → IfOk (checked_match c) (IsPrintable role)
checked_given role text e (Ok t) read is = printable role text e t read is
checked_given role text e (Err fault) read is = tt

parsed_given : (role : Role) (text : List ℕ) (r : Reading (Formula Atom)) → reading text ≡ r → IsWhole r → IfOk (parsed_match role r) (IsPrintable role)
parsed_given role text (Read e rest) read all = checked_given role text e (checked role e) (subst (λ (ts : Tokens). reading text ≡ Read e ts) all read) refl
parsed_given role text (Fails fault) read all = tt

pub acl_match_given : (way : Way) (text : List ℕ) → IfOk (acl_match way text) (IsPrintable (role_of way))
unfolding acl_match
acl_match_given way text = parsed_given (role_of way) text (reading text) refl (reading_whole text)

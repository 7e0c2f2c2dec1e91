-- Rules and rows that differ in what their order is by.
use Rattle.std.proofs.Common.{◌≡◌, ◌≢◌, ℕ, Bool, true, false, eqb, List, sym, ap, refl, ◌∙◌, arith}
use Rattle.std.specs.Prelude.{◌&&◌}
use Rattle.std.specs.List.{Contains}
use Rattle.std.specs.Ordering.{is_eq, is_lt, nat_cmp, ordering_then}
use Rattle.std.specs.declared.cmp.Ordering.{Ordering}
use Rattle.std.specs.declared.cmp.Ordering.TheVariants.{Less, Equal, Greater}
use Rattle.std.proofs.lemmas.Bool.{and_from, eq-eqb, false≢true}
use Rattle.std.proofs.lemmas.Bool.Decides.{nat_tests}
use Rattle.std.proofs.lemmas.Map.Text.{is_eq-slice_cmp}
use Rattle.std.proofs.lemmas.Slice.Eq.{bytes_eq-Decides}
use Rattle.expr_core.specs.Formula.{Formula}
use Rattle.expr_core.specs.Text.{typed_text}
use Rattle.expr_core.specs.declared.role.Role.TheVariants as role
use Rattle.expr_core.specs.declared.typed.TypedAtom.{TypedAtom}
use Rattle.expr_check.specs.Printed.{IsPrintable}
use Rattle.expr_check.proofs.Passed.{apart}
use Rattle.sb_model.specs.Stage.{stage_place}
use Rattle.sb_model.specs.declared.row.Row.{Row}
use Rattle.sb_model.specs.declared.stage.Stage.{Stage}
use Rattle.sb_model.proofs.Stages.{stage_from_place}
use Rattle.sb_rows.specs.Row.{key_cmp, row_cmp}
use Rattle.net_rows.specs.Unit.{row_of, said_by}
use Rattle.net_rows.specs.declared.rule.Rule.{Rule}
use Rattle.net_rows.specs.declared.rule.Unit.{Unit}
use Rattle.net_rows.proofs.Elements.{Contains-from_map}
use Rattle.net_rows.proofs.Pairs.{OfPairs, pairs_as, pairs_map}

-- ---- rules

-- two rules do not agree in stage, priority and the text of the match
pub record RulesDiffer (r s : Rule) : Type 0 where
  pub never : r.stage ≡ s.stage → r.priority ≡ s.priority → typed_text r.matching ≡ typed_text s.matching → ⊥

-- the match of a rule can be told by its text
abbrev pub HasPrintable : Rule → Type 0
HasPrintable r = IsPrintable role.Row r.matching

-- rules in two stages, told apart by a test
pub by_stage : (test : Stage → Bool) (r s : Rule) → test r.stage ≡ true → test s.stage ≡ false → RulesDiffer r s
by_stage test r s passes fails = record { never = λ stage priority text. false≢true (sym fails ∙ ap test (sym stage) ∙ passes) }

-- rules of two priorities
pub by_priority : (r s : Rule) → r.priority ≢ s.priority → RulesDiffer r s
by_priority r s other = record { never = λ stage priority text. other priority }

-- rules of two matches
pub by_match : (r s : Rule) → HasPrintable r → HasPrintable s → r.matching ≢ s.matching → RulesDiffer r s
by_match r s first second other = record { never = λ stage priority text. other (apart role.Row r.matching s.matching first second text) }

-- rules of two matches, told apart by a number that they have
pub by_number : (number : Formula TypedAtom → ℕ) (r s : Rule) → HasPrintable r → HasPrintable s → number r.matching ≢ number s.matching → RulesDiffer r s
by_number number r s first second other = by_match r s first second (λ same. other (ap number same))

-- ---- rules of two stages or two priorities

-- two rules agree in stage and priority
abbrev pub same_place : Rule → Rule → Bool
same_place r s = eqb (stage_place r.stage) (stage_place s.stage) && eqb r.priority s.priority

pub by_place : (r s : Rule) → same_place r s ≡ false → RulesDiffer r s
by_place r s unlike = record {
  never = λ stage priority text. false≢true (sym unlike ∙ and_from (eqb (stage_place r.stage) (stage_place s.stage)) (eqb r.priority s.priority) (eq-eqb _ _ (ap stage_place stage)) (eq-eqb r.priority s.priority priority));
}

-- ---- rows

-- two rows do not agree in what their order is by
abbrev pub Differ : Row → Row → Type 0
Differ x y = row_cmp x y ≢ Equal

-- one comparison after another answers that two are equal where both do
both_equal : (o p : Ordering) → ordering_then o p ≡ Equal → (o ≡ Equal) × (p ≡ Equal)
both_equal Less p e = absurd (false≢true (sym (ap is_lt e)))
both_equal Equal p e = (refl, e)
both_equal Greater p e = cc

-- numbers that compare as equal are one
one_number : (m n : ℕ) → nat_cmp m n ≡ Equal → m ≡ n
one_number m n e = grind (arith, nat_tests)

-- and so are texts
one_text : (x y : Row) → row_cmp x y ≡ Equal → typed_text x.matching ≡ typed_text y.matching
unfolding row_cmp
one_text x y equal =
    let level = (both_equal (key_cmp x y) _ equal).1 in
    (bytes_eq-Decides (typed_text x.matching) (typed_text y.matching)).0 (sym (is_eq-slice_cmp (typed_text x.matching) (typed_text y.matching)) ∙ ap is_eq level)

-- rows that agree in their order agree in each part of it
record Agree (x y : Row) : Type 0 where
  dp : x.dp.0 ≡ y.dp.0
  stage : x.stage ≡ y.stage
  priority : x.priority ≡ y.priority
  hint : x.hint.0 ≡ y.hint.0

agree : (x y : Row) → row_cmp x y ≡ Equal → Agree x y
unfolding row_cmp key_cmp
agree x y equal =
    let ranked = both_equal _ _ equal in
    let placed = both_equal _ _ ranked.0 in
    let place = both_equal _ _ placed.0 in
    let rank = both_equal _ _ placed.1 in
    record {
      dp = one_number x.dp.0 y.dp.0 place.0;
      stage = stage_from_place x.stage y.stage (one_number (stage_place x.stage) (stage_place y.stage) place.1);
      priority = sym (one_number y.priority x.priority rank.0);
      hint = one_number x.hint.0 y.hint.0 rank.1;
    }

-- rows of two datapaths differ
pub dps_differ : (x y : Row) → x.dp.0 ≢ y.dp.0 → Differ x y
dps_differ x y other equal = other (agree x y equal).dp

-- and those of two hints
pub hints_differ : (x y : Row) → x.hint.0 ≢ y.hint.0 → Differ x y
hints_differ x y other equal = other (agree x y equal).hint

-- and those of rules that differ
pub rules_differ : (unit : Unit) (r s : Rule) → RulesDiffer r s → Differ (row_of unit r) (row_of unit s)
rules_differ unit r s other equal =
    let x = row_of unit r in
    let y = row_of unit s in
    let same = agree x y equal in
    other.never same.stage same.priority (one_text x y equal)

-- the rows of a unit, whose rules differ
pub unit_rows_differ : (unit : Unit) (rules : List Rule) → OfPairs RulesDiffer rules → OfPairs Differ (said_by unit rules)
unit_rows_differ unit rules of =
    pairs_map Differ (row_of unit) rules (pairs_as RulesDiffer (λ r s. Differ (row_of unit r) (row_of unit s)) rules (rules_differ unit) of)

-- a row of a unit has its datapath and its hint
pub dp_of_unit : (unit : Unit) (rules : List Rule) (row : Row) → Contains (said_by unit rules) row → row.dp.0 ≡ unit.dp.0
dp_of_unit unit rules row there = let at = Contains-from_map (row_of unit) rules row there in ap (λ (r : Row). r.dp.0) (sym at.2)

pub hint_of_unit : (unit : Unit) (rules : List Rule) (row : Row) → Contains (said_by unit rules) row → row.hint.0 ≡ unit.hint.0
hint_of_unit unit rules row there = let at = Contains-from_map (row_of unit) rules row there in ap (λ (r : Row). r.hint.0) (sym at.2)

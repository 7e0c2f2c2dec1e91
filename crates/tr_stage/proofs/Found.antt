-- What it says of a row that a stage selects it.
use Rattle.std.proofs.Common.{◌≡◌, zero, suc, Bool, true, false, cond, List, [], ◌∷◌, Some, None, sym, refl, ap, ◌∙◌, arith}
use mathlib.Core.Bool.{false≢true}
use Rattle.std.specs.Prelude.{◌&&◌}
use Rattle.std.specs.List.{find, Contains}
use Rattle.std.proofs.lemmas.Bool.{and_parts, and_from}
use Rattle.std.proofs.lemmas.Option.{same_Some, none-some}
use Rattle.nv_base.specs.declared.object.ObjId.{ObjId}
use Rattle.pkt_core.specs.Packet.{Values}
use Rattle.sb_model.specs.declared.stage.Stage.{Stage}
use Rattle.sb_model.specs.declared.row.Row.{Row}
use Rattle.expr_eval.specs.MatchMeaning.{holds}
use Rattle.sb_rows.specs.Match.{is_in_table}
use Rattle.sb_rows.proofs.Tables.{in_table-from, in_table-gives}
use Rattle.tr_stage.specs.Machine.{Flows, acting}
use Rattle.tr_stage.specs.Runnable.{TakesEach}

module _ {X : Type 0} (p : X → Bool) where
  -- where an element passes, one is found
  found_first : (y : X) (ys : List X) (x : X) → (Contains ys x → find p ys ≡ None → ⊥) → p x ≡ true → (b : Bool) → p y ≡ b → Contains (y ∷ ys) x → cond b (Some y) (find p ys) ≡ None → ⊥
  found_first y ys x rest passes true is there none = none-some y (sym none)
  found_first y ys x rest passes false is (zero, below, at) none = absurd (false≢true (sym is ∙ ap p at ∙ passes))
  found_first y ys x rest passes false is (suc k, below, at) none = rest (k, omega arith, at) none

  find_some : (xs : List X) (x : X) → Contains xs x → p x ≡ true → find p xs ≡ None → ⊥
  find_some [] x (k, below, is) passes none = absurd (omega arith)
  find_some (y ∷ ys) x there passes none = found_first y ys x (λ more. find_some ys x more passes) passes (p y) refl there none

  -- what is found is an element that passes
  is_first : (y : X) (ys : List X) (x : X) → (find p ys ≡ Some x → Contains ys x × (p x ≡ true)) → (b : Bool) → p y ≡ b → cond b (Some y) (find p ys) ≡ Some x → Contains (y ∷ ys) x × (p x ≡ true)
  is_first y ys x rest true is found = let same : y ≡ x = same_Some y x found in ((0, omega arith, same), sym (ap p same) ∙ is)
  is_first y ys x rest false is found = let at = rest found in ((suc at.0.0, omega (arith, at.0.1), at.0.2), at.1)

  pub find_is : (xs : List X) (x : X) → find p xs ≡ Some x → Contains xs x × (p x ≡ true)
  find_is [] x found = absurd (none-some x found)
  find_is (y ∷ ys) x found = is_first y ys x (find_is ys x) (p y) refl found

-- a selected row is one of the rows, of this datapath and stage
pub record IsFound (rows : List Row) (dp : ObjId) (stage : Stage) (row : Row) : Type 0 where
  pub among : Contains rows row
  pub of_dp : row.dp ≡ dp
  pub of_stage : row.stage ≡ stage

module _ (flows : Flows) (stage : Stage) (packet : Values) where
  -- whether a row of the table takes the packet
  takes : Row → Bool
  takes r = is_in_table flows.dp stage r && holds flows.net packet r.matching

  pub IsFound-from_select : (row : Row) → acting flows stage packet ≡ Some row → IsFound flows.rows flows.dp stage row
  unfolding takes
  IsFound-from_select row found =
      let at = find_is takes flows.rows row found in
      let table = in_table-gives flows.dp stage row (and_parts (is_in_table flows.dp stage row) (holds flows.net packet row.matching) at.1).0 in
      record { among = at.0; of_dp = table.0; of_stage = table.1 }

  -- where a row takes each packet, one is selected
  pub select_some : TakesEach flows stage → acting flows stage packet ≡ None → ⊥
  unfolding takes
  select_some each none =
      let row = each.0 in
      let does : holds flows.net packet row.matching ≡ true = rw each.4 refl in
      find_some takes flows.rows row each.1 (and_from _ _ (in_table-from flows.dp stage row each.2 each.3) does) none

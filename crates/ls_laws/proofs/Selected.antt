-- Which of rows in order a packet meets in a table.
use Rattle.std.proofs.Common.{◌≡◌, ◌≢◌, Bool, true, false, List, sym, ap, refl, ◌∙◌, ◌⊎◌, inl, inr}
use Rattle.std.specs.Prelude.{Some}
use Rattle.std.specs.declared.cmp.Ordering.{Ordering}
use Rattle.std.specs.declared.cmp.Ordering.TheVariants.{Less, Equal, Greater}
use Rattle.std.specs.Ordering.{is_lt, is_gt}
use Rattle.std.specs.List.{Contains}
use Rattle.std.proofs.lemmas.Bool.{false≢true}
use Rattle.std.proofs.lemmas.Cmp.{tied_itself}
use Rattle.nv_base.specs.declared.object.ObjId.{ObjId}
use Rattle.pkt_core.specs.Packet.{Values}
use Rattle.sb_model.specs.declared.stage.Stage.{Stage}
use Rattle.sb_model.specs.declared.row.Row.{Row}
use Rattle.sb_rows.specs.Row.{row_cmp, IsInRowOrder}
use Rattle.expr_core.specs.Lookup.{Lookup}
use Rattle.expr_eval.specs.MatchMeaning.{holds}
use Rattle.sb_rows.specs.Match.{is_in_table, select}
use Rattle.sb_rows.proofs.Order.{row_cmp_total}
use Rattle.sb_rows.proofs.Select.{first_from_before}
use Rattle.sb_rows.proofs.Tables.{in_table-from}

-- Of rows in order, a packet meets the one that takes it, where each other row of the table that takes it is
-- after that one.
pub first_of_takers : (known : Lookup) (dp : ObjId) (stage : Stage) (packet : Values) (r : Row) (rows : List Row) → IsInRowOrder rows → Contains rows r
    → r.dp ≡ dp → r.stage ≡ stage → holds known packet r.matching ≡ true
    → ((x : Row) → Contains rows x → is_in_table dp stage x ≡ true → holds known packet x.matching ≡ true → (x ≡ r) ⊎ (is_gt (row_cmp x r) ≡ true))
    → select dp stage known packet rows ≡ Some r
first_of_takers known dp stage packet r rows up there of_dp of_stage takes after =
    first_from_before dp stage known packet r (in_table-from dp stage r of_dp of_stage) takes rows up there
    (λ x at in_it less. by_before x less (holds known packet x.matching) refl (after x at in_it))
    (λ x at in_it other level. by_level x other level (holds known packet x.matching) refl (after x at in_it))
  where
    not_both : (o : Ordering) → is_lt o ≡ true → is_gt o ≡ true → ⊥
    not_both Less l g = false≢true g
    not_both Equal l g = false≢true g
    not_both Greater l g = false≢true l

    before : (x : Row) → is_lt (row_cmp x r) ≡ true → (x ≡ r) ⊎ (is_gt (row_cmp x r) ≡ true) → ⊥
    before x less (inl is) = false≢true (sym (ap is_lt (tied_itself row_cmp_total r)) ∙ sym (ap (λ y. is_lt (row_cmp y r)) is) ∙ less)
    before x less (inr above) = not_both (row_cmp x r) less above

    by_before : (x : Row) → is_lt (row_cmp x r) ≡ true → (b : Bool) → holds known packet x.matching ≡ b → (holds known packet x.matching ≡ true → (x ≡ r) ⊎ (is_gt (row_cmp x r) ≡ true)) → holds known packet x.matching ≡ false
    by_before x less true does rest = absurd (before x less (rest does))
    by_before x less false does rest = does

    level_not : (x : Row) → x ≢ r → row_cmp x r ≡ Equal → (x ≡ r) ⊎ (is_gt (row_cmp x r) ≡ true) → ⊥
    level_not x other level (inl is) = other is
    level_not x other level (inr above) = false≢true (sym (ap is_gt level) ∙ above)

    by_level : (x : Row) → x ≢ r → row_cmp x r ≡ Equal → (b : Bool) → holds known packet x.matching ≡ b → (holds known packet x.matching ≡ true → (x ≡ r) ⊎ (is_gt (row_cmp x r) ≡ true)) → holds known packet x.matching ≡ false
    by_level x other level true does rest = absurd (level_not x other level (rest does))
    by_level x other level false does rest = does

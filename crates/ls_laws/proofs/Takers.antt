-- What a packet meets where several rows of a table take it: a row that does what the highest of them does.
use Rattle.std.proofs.Common.{◌≡◌, ℕ, suc, ◌<◌, Bool, true, false, List, [], ◌∷◌, get_or, sym, ap, refl, ◌∙◌, ◌⊎◌, inl, inr, arith}
use Rattle.std.specs.Prelude.{◌&&◌, Some}
use Rattle.std.specs.declared.cmp.Ordering.{Ordering}
use Rattle.std.specs.Ordering.{is_lt, is_gt, nat_cmp, ordering_then}
use Rattle.std.specs.List.{Contains}
use Rattle.std.proofs.lemmas.Bool.{false≢true, and_parts}
use Rattle.std.proofs.lemmas.Bool.Decides.{nat_tests}
use Rattle.std.proofs.lemmas.Cmp.{tied_itself}
use Rattle.std.proofs.lemmas.List.Sorted.{sorted_far, ranks_by}
use Rattle.nv_base.specs.declared.object.ObjId.{ObjId}
use Rattle.pkt_core.specs.Packet.{Values}
use Rattle.expr_core.specs.Lookup.{Lookup}
use Rattle.expr_eval.specs.MatchMeaning.{holds}
use Rattle.sb_model.specs.Stage.{stage_place}
use Rattle.sb_model.specs.declared.row.Row.{Row}
use Rattle.sb_model.specs.declared.stage.Stage.{Stage}
use Rattle.sb_rows.specs.Match.{is_in_table, select}
use Rattle.sb_rows.specs.Row.{key_cmp, row_cmp, IsInRowOrder}
use Rattle.sb_rows.proofs.Order.{row_cmp_total, lt_turned}
use Rattle.sb_rows.proofs.Place.{ordered_tail}
use Rattle.sb_rows.proofs.Tables.{in_table-from, in_table-gives}
use Rattle.nb_model.specs.Names.{names}
use Rattle.nb_model.specs.Network.{Network}
use Rattle.nb_records.specs.declared.switch.Switch.{Switch}
use Rattle.net_rows.proofs.Elements.{one_of, one_of_none, one_first, one_later}
use Rattle.lr_units.specs.Network.{network_rows}
use Rattle.lr_units.proofs.Whole.{network_in_order}
use Rattle.tr_stage.specs.Machine.{step, run_actions}
use Rattle.ls_laws.specs.Steps.{IsOn, flows_at}
use Rattle.ls_laws.proofs.Tables.{IsRule, table-gives}

-- of rows of one table, the one of the lower priority is after the other
after_by_priority : (a b p q s t : ℕ) (hints texts : Ordering) → a ≡ b → p ≡ q → s < t
    → is_gt (ordering_then (ordering_then (ordering_then (nat_cmp a b) (nat_cmp p q)) (ordering_then (nat_cmp t s) hints)) texts) ≡ true
after_by_priority a b p q s t hints texts dps places lower = grind (arith, nat_tests)

pub lower_after : (x r : Row) → x.dp ≡ r.dp → x.stage ≡ r.stage → x.priority < r.priority → is_gt (row_cmp x r) ≡ true
unfolding row_cmp key_cmp
lower_after x r dps stages lower =
    after_by_priority x.dp.0 r.dp.0 (stage_place x.stage) (stage_place r.stage) x.priority r.priority _ _ (ap (λ (o : ObjId). o.0) dps) (ap stage_place stages) lower

-- of rows of one table and priority, the one of the higher hint is after the other
after_by_hint : (a b p q s t h k : ℕ) (texts : Ordering) → a ≡ b → p ≡ q → s ≡ t → h < k
    → is_gt (ordering_then (ordering_then (ordering_then (nat_cmp a b) (nat_cmp p q)) (ordering_then (nat_cmp t s) (nat_cmp k h))) texts) ≡ true
after_by_hint a b p q s t h k texts dps places same later = grind (arith, nat_tests)

pub later_after : (x r : Row) → x.dp ≡ r.dp → x.stage ≡ r.stage → x.priority ≡ r.priority → r.hint.0 < x.hint.0 → is_gt (row_cmp x r) ≡ true
unfolding row_cmp key_cmp
later_after x r dps stages same later =
    after_by_hint x.dp.0 r.dp.0 (stage_place x.stage) (stage_place r.stage) x.priority r.priority r.hint.0 x.hint.0 _ (ap (λ (o : ObjId). o.0) dps) (ap stage_place stages) same later

-- the row that a packet meets is not after one that takes it
pub record IsMet (known : Lookup) (dp : ObjId) (stage : Stage) (packet : Values) (rows : List Row) (r : Row) : Type 0 where
  pub row : Row
  pub among : Contains rows row
  pub is : select dp stage known packet rows ≡ Some row
  pub in_table : is_in_table dp stage row ≡ true
  pub takes : holds known packet row.matching ≡ true
  pub not_after : is_gt (row_cmp row r) ≡ false

module _ (known : Lookup) (dp : ObjId) (stage : Stage) (packet : Values) (r : Row) (of_table : is_in_table dp stage r ≡ true) (takes : holds known packet r.matching ≡ true) where
  acts : Row → Bool
  acts x = is_in_table dp stage x && holds known packet x.matching

  r_acts : acts r ≡ true
  unfolding acts
  r_acts = rw of_table takes

  itself : is_gt (row_cmp r r) ≡ false
  itself = ap is_gt (tied_itself row_cmp_total r)

  -- in rows in order the first is not after a later one
  first_not_after : (x : Row) (xs : List Row) → IsInRowOrder (x ∷ xs) → Contains xs r → is_gt (row_cmp x r) ≡ false
  first_not_after x xs up (k, within, is) =
      let far : is_lt (row_cmp (get_or (x ∷ xs) (suc k) r) x) ≡ false = sorted_far _ (ranks_by row_cmp_total (λ (y : Row). y)) (x ∷ xs) up 0 (suc k) r (omega arith) (omega arith) in
      sym (lt_turned x r) ∙ rw is at far

  -- where a row takes the packet, the packet meets one
  pub met : (xs : List Row) → IsInRowOrder xs → Contains xs r → IsMet known dp stage packet xs r
  unfolding acts
  met [] up there = absurd (one_of_none r there)
  met (x ∷ xs) up there = by (acts x) refl (one_of x xs r there) (λ at. met xs (ordered_tail x xs up) at)
    where
      not_after : (x ≡ r) ⊎ Contains xs r → is_gt (row_cmp x r) ≡ false
      not_after (inl is) = ap (λ (y : Row). is_gt (row_cmp y r)) is ∙ itself
      not_after (inr at) = first_not_after x xs up at

      by : (b : Bool) → acts x ≡ b → (x ≡ r) ⊎ Contains xs r → (Contains xs r → IsMet known dp stage packet xs r) → IsMet known dp stage packet (x ∷ xs) r
      by true does at rest =
          let parts = and_parts (is_in_table dp stage x) (holds known packet x.matching) does in
          record { row = x; among = one_first x xs x refl; is = rw does refl; in_table = parts.0; takes = parts.1; not_after = not_after at }
      by false does (inl is) rest = absurd (false≢true (sym does ∙ ap acts is ∙ r_acts))
      by false does (inr at) rest =
          let later = rest at in
          record { row = later.row; among = one_later x xs later.row later.among; is = rw does later.is; in_table = later.in_table; takes = later.takes; not_after = later.not_after }

-- The packet's step does what a row says that takes the packet, where each other row of the table that takes it says the same or has a
-- lower priority.
pub step_by : (net : Network) (switch : Switch) (packet : Values) → IsOn net switch packet → (stage : Stage) (r : Row) → Contains (network_rows net) r → r.dp ≡ switch.id → r.stage ≡ stage
    → holds (names net) packet r.matching ≡ true
    → ((x : Row) → IsRule net switch.id stage x → holds (names net) packet x.matching ≡ true → (x.actions ≡ r.actions) ⊎ (x.priority < r.priority))
    → step (flows_at net switch.id) stage packet ≡ run_actions (names net) stage r.actions packet
unfolding step
step_by net switch packet on stage r there of_dp of_stage takes others =
    rw at.is (ap (λ actions. run_actions (names net) stage actions packet) (by (others at.row (table-gives net on.sound switch on.among stage at.row at.among at.in_table) at.takes)))
  where
    at : IsMet (names net) switch.id stage packet (network_rows net) r
    at = met (names net) switch.id stage packet r (in_table-from switch.id stage r of_dp of_stage) takes (network_rows net) (network_in_order net) there

    by : (at.row.actions ≡ r.actions) ⊎ (at.row.priority < r.priority) → at.row.actions ≡ r.actions
    by (inl same) = same
    by (inr lower) =
        let of = in_table-gives switch.id stage at.row at.in_table in
        absurd (false≢true (sym at.not_after ∙ lower_after at.row r (of.0 ∙ sym of_dp) (of.1 ∙ sym of_stage) lower))

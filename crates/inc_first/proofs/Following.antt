-- Deltas add up.
use Rattle.std.proofs.Common.{◌≡◌, List, [], ◌∷◌, sym, ap, ◌∙◌, subst}
use Rattle.std.specs.declared.cmp.Ordering.{Ordering}
use Rattle.nv_map.specs.Map.{value_at}
use Rattle.inc_table.specs.declared.delta.Change.{Change}
use Rattle.inc_table.specs.Delta.{after_all}
use Rattle.inc_first.specs.First.{HasFirsts, Leading, LeadsAfter}

module _ {K V G N : Type 0} (key_cmp : K → K → Ordering) (group_cmp : G → G → Ordering) (groups_of : K → V → List G) where
  pub follows_table : (deltas : List (List (K × Change V))) (old new : Leading K V G N) → LeadsAfter key_cmp group_cmp groups_of deltas old new → HasFirsts group_cmp groups_of old.inputs old.table → HasFirsts group_cmp groups_of new.inputs new.table
  follows_table [] old new f e = subst (λ (n : Leading K V G N). HasFirsts group_cmp groups_of n.inputs n.table) f e
  follows_table (delta ∷ deltas) old new f e = follows_table deltas f.0 new f.3 f.2

  pub follows_inputs : (deltas : List (List (K × Change V))) (old new : Leading K V G N) → LeadsAfter key_cmp group_cmp groups_of deltas old new → (k : K) → value_at key_cmp k new.inputs ≡ after_all key_cmp k deltas (value_at key_cmp k old.inputs)
  follows_inputs [] old new f k = ap (λ (n : Leading K V G N). value_at key_cmp k n.inputs) (sym f)
  follows_inputs (delta ∷ deltas) old new f k = follows_inputs deltas f.0 new f.3 k ∙ ap (after_all key_cmp k deltas) (f.1 k)

-- Deltas of either side add up.
use Rattle.std.proofs.Common.{◌≡◌, List, [], ◌∷◌, sym, ap, ◌∙◌, Option}
use Rattle.std.specs.declared.cmp.Ordering.{Ordering}
use Rattle.nv_map.specs.Map.{value_at}
use Rattle.inc_table.specs.Delta.{after_all}
use Rattle.inc_join.specs.Join.{FollowsSides, Joining, SideDelta, OnLeft, OnRight, joined, left_deltas, right_deltas}

module _ {K L Q R N : Type 0} (left_cmp : K → K → Ordering) (right_cmp : Q → Q → Ordering) (link_of : L → Option Q) where
  pub follows_table : (deltas : List (SideDelta K L Q R)) (old new : Joining K L Q R N) → FollowsSides left_cmp right_cmp link_of deltas old new → old.table ≡ joined right_cmp link_of old.left old.right → new.table ≡ joined right_cmp link_of new.left new.right
  follows_table [] old new f e = sym (ap (λ (n : Joining K L Q R N). n.table) f) ∙ e ∙ ap (λ (n : Joining K L Q R N). joined right_cmp link_of n.left n.right) f
  follows_table (OnLeft delta ∷ deltas) old new f e = follows_table deltas f.0 new f.2 f.1.2
  follows_table (OnRight delta ∷ deltas) old new f e = follows_table deltas f.0 new f.2 f.1.2

  pub follows_left : (deltas : List (SideDelta K L Q R)) (old new : Joining K L Q R N) → FollowsSides left_cmp right_cmp link_of deltas old new → (k : K) → value_at left_cmp k new.left ≡ after_all left_cmp k (left_deltas deltas) (value_at left_cmp k old.left)
  follows_left [] old new f k = ap (λ (n : Joining K L Q R N). value_at left_cmp k n.left) (sym f)
  follows_left (OnLeft delta ∷ deltas) old new f k = follows_left deltas f.0 new f.2 k ∙ ap (after_all left_cmp k (left_deltas deltas)) (f.1.0 k)
  follows_left (OnRight delta ∷ deltas) old new f k = follows_left deltas f.0 new f.2 k ∙ ap (λ l. after_all left_cmp k (left_deltas deltas) (value_at left_cmp k l)) f.1.0

  pub follows_right : (deltas : List (SideDelta K L Q R)) (old new : Joining K L Q R N) → FollowsSides left_cmp right_cmp link_of deltas old new → (k : Q) → value_at right_cmp k new.right ≡ after_all right_cmp k (right_deltas deltas) (value_at right_cmp k old.right)
  follows_right [] old new f k = ap (λ (n : Joining K L Q R N). value_at right_cmp k n.right) (sym f)
  follows_right (OnLeft delta ∷ deltas) old new f k = follows_right deltas f.0 new f.2 k ∙ ap (λ l. after_all right_cmp k (right_deltas deltas) (value_at right_cmp k l)) f.1.1
  follows_right (OnRight delta ∷ deltas) old new f k = follows_right deltas f.0 new f.2 k ∙ ap (after_all right_cmp k (right_deltas deltas)) (f.1.1 k)

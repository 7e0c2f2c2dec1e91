-- Differences are deltas, and deltas add up.
use Rattle.std.proofs.Common.{◌≡◌, Bool, true, false, cond, not, ◌&&◌, List, [], ◌∷◌, refl, sym, ap, ◌∙◌, None, Some, Option}
use Rattle.std.specs.Cmp.{IsTotalOrder}
use Rattle.std.specs.List.{Contains, list_all}
use Rattle.std.specs.declared.cmp.Ordering.{Ordering}
use Rattle.nv_map.specs.Map.{KeysRise, value_at}
use Rattle.nv_map.proofs.Members.{member_value, here, there}
use Rattle.inc_table.specs.declared.delta.Change.{Change}
use Rattle.inc_table.specs.declared.delta.Change.TheVariants.{Put, Gone}
use Rattle.inc_table.specs.Delta.{after_change, alters, alters_each, after_all, change_between, IsApplied, IsDifference}
use Rattle.inc_table.specs.Node.{Follows, Node, outputs_of}

module _ {V : Type 0} (eq : V → V → Bool) where
  between_leads : ((a b : V) → eq a b ≡ true → a ≡ b) → (old new : Option V) → new ≡ after_change (change_between eq old new) old
  between_leads tells None None = refl
  between_leads tells None (Some b) = refl
  between_leads tells (Some a) None = refl
  between_leads tells (Some a) (Some b) = by (eq a b) refl
    where
      by : (t : Bool) → eq a b ≡ t → Some b ≡ after_change (cond t None (Some (Put b))) (Some a)
      by true e = ap Some (sym (tells a b e))
      by false e = refl

  between_alters : (old new : Option V) (change : Change V) → change_between eq old new ≡ Some change → alters eq change old ≡ true
  between_alters None None change e = absurd (cc)
  between_alters None (Some b) (Put v) e = refl
  between_alters None (Some b) Gone e = absurd (cc)
  between_alters (Some a) None (Put v) e = absurd (cc)
  between_alters (Some a) None Gone e = refl
  between_alters (Some a) (Some b) change e = by (eq a b) refl e
    where
      by : (t : Bool) → eq a b ≡ t → cond t None (Some (Put b)) ≡ Some change → alters eq change (Some a) ≡ true
      by true t e = absurd (cc)
      by false t e = let same : Put b ≡ change = cc in sym (ap (λ (c : Change V). alters eq c (Some a)) same) ∙ ap not t

module _ {K V : Type 0} {cmp : K → K → Ordering} (o : IsTotalOrder cmp) (eq : V → V → Bool) where
  pub difference_applied : ((a b : V) → eq a b ≡ true → a ≡ b) → (old new : List (K × V)) (delta : List (K × Change V)) → IsDifference cmp eq old new delta → IsApplied cmp delta old new
  difference_applied tells old new delta d k = between_leads eq tells (value_at cmp k old) (value_at cmp k new) ∙ sym (ap (λ c. after_change c (value_at cmp k old)) (d k))

  all_alter : (old new : List (K × V)) (delta part : List (K × Change V)) → KeysRise cmp delta → IsDifference cmp eq old new delta → ((x : K × Change V) → Contains part x → Contains delta x) → list_all (λ (x : K × Change V). alters eq x.1 (value_at cmp x.0 old)) part ≡ true
  all_alter old new delta [] r d inside = refl
  all_alter old new delta (x ∷ part) r d inside =
      let first = between_alters eq (value_at cmp x.0 old) (value_at cmp x.0 new) x.1 (sym (d x.0) ∙ member_value o delta x r (inside x (here x part))) in
      ap (λ b. b && list_all (λ (y : K × Change V). alters eq y.1 (value_at cmp y.0 old)) part) first ∙ all_alter old new delta part r d (λ y c. inside y (there x part y c))

  pub difference_alters : (old new : List (K × V)) (delta : List (K × Change V)) → KeysRise cmp delta → IsDifference cmp eq old new delta → alters_each cmp eq delta old ≡ true
  difference_alters old new delta r d = all_alter old new delta delta r d (λ x c. c)

module _ {K I O M : Type 0} (cmp : K → K → Ordering) (out_of : K → I → O) where
  pub follows_table : (deltas : List (List (K × Change I))) (old new : Node K I O M) → Follows cmp out_of deltas old new → old.table ≡ outputs_of out_of old.inputs → new.table ≡ outputs_of out_of new.inputs
  follows_table [] old new f e = sym (ap (λ (n : Node K I O M). n.table) f) ∙ e ∙ ap (λ (n : Node K I O M). outputs_of out_of n.inputs) f
  follows_table (delta ∷ deltas) old new f e = follows_table deltas f.0 new f.3 f.2

  pub follows_inputs : (deltas : List (List (K × Change I))) (old new : Node K I O M) → Follows cmp out_of deltas old new → (k : K) → value_at cmp k new.inputs ≡ after_all cmp k deltas (value_at cmp k old.inputs)
  follows_inputs [] old new f k = ap (λ (n : Node K I O M). value_at cmp k n.inputs) (sym f)
  follows_inputs (delta ∷ deltas) old new f k = follows_inputs deltas f.0 new f.3 k ∙ ap (after_all cmp k deltas) (f.1 k)

-- The outputs of inputs, key by key.
use Rattle.std.proofs.Common.{◌≡◌, Bool, true, false, cond, List, [], ◌∷◌, ◌++◌, refl, sym, ap, ◌∙◌, subst, None, Some, Option}
use Rattle.std.proofs.lemmas.Map.Lookups.{CmpEqualImpliesEq}
use Rattle.std.specs.Cmp.{IsTotalOrder}
use Rattle.std.specs.Map.{keys_of}
use Rattle.std.specs.Option.{option_map}
use Rattle.std.specs.Ordering.{is_eq}
use Rattle.std.specs.declared.cmp.Ordering.{Ordering}
use Rattle.std.specs.declared.cmp.Ordering.TheVariants.{Less, Equal, Greater}
use Rattle.std.specs.List.Sorted.{IsStrictlySortedBy}
use Rattle.nv_map.specs.Map.{KeysRise, value_at}
use Rattle.inc_table.specs.declared.delta.Change.{Change}
use Rattle.inc_table.specs.declared.delta.Change.TheVariants.{Put, Gone}
use Rattle.inc_table.specs.Delta.{left_by, change_to, IsAbove, IsApplied}
use Rattle.inc_table.specs.Node.{outputs_of}
use Rattle.inc_table.proofs.Applied.{applied_at, applied_more, tied, same_lists}

pub left_to : {V : Type 0} (v : Option V) → left_by (change_to v) ≡ v
left_to None = refl
left_to (Some v) = refl

pub to_left : {V : Type 0} (change : Change V) → change_to (left_by change) ≡ change
to_left (Put v) = refl
to_left Gone = refl

-- one change more, by the value that it leaves
pub applied_value : {K V : Type 0} {cmp : K → K → Ordering} → IsTotalOrder cmp → CmpEqualImpliesEq cmp → (delta : List (K × Change V)) (q : K) (change : Change V) (value : Option V) (a b c : List (K × V)) → value ≡ left_by change → IsAbove cmp q delta → IsApplied cmp delta a b → IsApplied cmp ((q, change_to value) ∷ []) b c → IsApplied cmp (delta ++ (q, change) ∷ []) a c
applied_value {K} {V} {cmp} o exact delta q change value a b c is above first second = applied_more o exact delta q change a b c above first (subst (λ (x : Change V). IsApplied cmp ((q, x) ∷ []) b c) (ap change_to is ∙ to_left change) second)

module _ {K I O : Type 0} (cmp : K → K → Ordering) (out_of : K → I → O) where
  keys_outputs : (l : List (K × I)) → keys_of (outputs_of out_of l) ≡ keys_of l
  keys_outputs [] = refl
  keys_outputs (x ∷ l) = ap (λ ks. x.0 ∷ ks) (keys_outputs l)

  pub rise_outputs : (l : List (K × I)) → KeysRise cmp l → KeysRise cmp (outputs_of out_of l)
  rise_outputs l r = subst (IsStrictlySortedBy cmp) (sym (keys_outputs l)) r

  pub value_outputs : CmpEqualImpliesEq cmp → (k : K) (l : List (K × I)) → value_at cmp k (outputs_of out_of l) ≡ option_map (out_of k) (value_at cmp k l)
  value_outputs exact k [] = refl
  value_outputs exact k (x ∷ l) = by (cmp k x.0) refl (value_outputs exact k l)
    where
      by : (r : Ordering) → cmp k x.0 ≡ r → value_at cmp k (outputs_of out_of l) ≡ option_map (out_of k) (value_at cmp k l) → cond (is_eq r) (Some (out_of x.0 x.1)) (value_at cmp k (outputs_of out_of l)) ≡ option_map (out_of k) (cond (is_eq r) (Some x.1) (value_at cmp k l))
      by Less c rest = rest
      by Equal c rest = ap (λ y. Some (out_of y x.1)) (sym (exact k x.0 c))
      by Greater c rest = rest

module _ {K I O : Type 0} {cmp : K → K → Ordering} (o : IsTotalOrder cmp) (exact : CmpEqualImpliesEq cmp) (out_of : K → I → O) where
  -- a list with the output of each input is that of the outputs
  pub same_outputs : (table : List (K × O)) (inputs : List (K × I)) → KeysRise cmp table → KeysRise cmp inputs → ((k : K) → value_at cmp k table ≡ option_map (out_of k) (value_at cmp k inputs)) → table ≡ outputs_of out_of inputs
  same_outputs table inputs r s same = same_lists o exact table (outputs_of out_of inputs) r (rise_outputs cmp out_of inputs s) (λ k. same k ∙ sym (value_outputs cmp out_of exact k inputs))

  -- an input and its output changed alike
  pub outputs_more : (q : K) (input : Option I) (l m : List (K × I)) (t u : List (K × O)) → ((k : K) → value_at cmp k t ≡ option_map (out_of k) (value_at cmp k l)) → IsApplied cmp ((q, change_to input) ∷ []) l m
      → IsApplied cmp ((q, change_to (option_map (out_of q) input)) ∷ []) t u → (k : K) → value_at cmp k u ≡ option_map (out_of k) (value_at cmp k m)
  outputs_more q input l m t u same inputs outs k =
      outs k
      ∙ applied_at o k q (change_to (option_map (out_of q) input)) (value_at cmp k t)
      ∙ ap (λ x. cond (is_eq (cmp q k)) x (value_at cmp k t)) (left_to (option_map (out_of q) input))
      ∙ by (is_eq (cmp q k)) refl
      ∙ sym (ap (option_map (out_of k)) (inputs k ∙ applied_at o k q (change_to input) (value_at cmp k l) ∙ ap (λ x. cond (is_eq (cmp q k)) x (value_at cmp k l)) (left_to input)))
    where
      by : (b : Bool) → is_eq (cmp q k) ≡ b → cond b (option_map (out_of q) input) (value_at cmp k t) ≡ option_map (out_of k) (cond b input (value_at cmp k l))
      by true e = ap (λ x. option_map (out_of x) input) (tied exact q k e)
      by false e = same k

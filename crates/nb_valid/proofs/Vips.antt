-- The tests of a VIP, which is refused where it is there already.
use Rattle.std.proofs.Common.{◌≡◌, ℕ, Bool, List, [], ◌∷◌, Option, Some, None, sym, ap, ◌∙◌}
use Rattle.nv_base.specs.declared.object.ObjId.{ObjId}
use Rattle.nb_records.specs.declared.balancer.Backend.{Backend}
use Rattle.nb_records.specs.declared.balancer.Frontend.{Frontend}
use Rattle.nb_records.specs.declared.balancer.Proto.{Proto}
use Rattle.nb_records.specs.declared.edit.Edit.TheVariants as edit
use Rattle.nb_records.specs.declared.refusal.Refusal.{Refusal}
use Rattle.nb_model.specs.Network.{Network, lb_id, lb_named}
use Rattle.nb_model.specs.Tests.{duplicate_if, first_refusal, has_vip, tests, wants_protocol}

-- the load balancer takes the protocol, and it is known whether it has the VIP
module _ (net : Network) (name own : List ℕ) (at : Frontend) (backends : List Backend) (proto : Option Proto) (same : own ≡ name)
    (takes : wants_protocol name proto (lb_named net name) ≡ None) (there : Bool) (is : there ≡ has_vip at (lb_named net own)) (number : Option ObjId) (numbered : number ≡ lb_id net own) where
  again : duplicate_if there number ≡ duplicate_if (has_vip at (lb_named net name)) (lb_id net name)
  again = (λ i. duplicate_if (is i) (numbered i)) ∙ ap (λ (n : List ℕ). duplicate_if (has_vip at (lb_named net n)) (lb_id net n)) same

  answered : (test : Option Refusal) → duplicate_if there number ≡ test → first_refusal (tests net (edit.LbAdd name at backends proto)) ≡ first_refusal (None ∷ test ∷ [])
  answered test e = λ i. first_refusal (takes i ∷ (sym again ∙ e) i ∷ [])

  pub vip_passes : duplicate_if there number ≡ None → (edit.LbAdd own at backends proto ≡ edit.LbAdd name at backends proto) × (first_refusal (tests net (edit.LbAdd name at backends proto)) ≡ None)
  vip_passes e = (ap (λ (n : List ℕ). edit.LbAdd n at backends proto) same, answered None e)

  pub vip_fails : (refusal : Refusal) → duplicate_if there number ≡ Some refusal → first_refusal (tests net (edit.LbAdd name at backends proto)) ≡ Some refusal
  vip_fails refusal e = answered (Some refusal) e

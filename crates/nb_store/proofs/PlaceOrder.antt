-- Places and touches that are equal, or in order.
use Rattle.std.proofs.Common.{◌≡◌, ◌∙◌, ap}
use Rattle.std.proofs.lemmas.Bool.{and_parts, false≢true}
use Rattle.std.specs.Ordering.{eq_by_cmp}
use Rattle.std.specs.Cmp.{ties}
use Rattle.nv_base.specs.inner.Exact.{Tells, object}
use Rattle.nb_store.specs.contracts.step.PlacePartialEq.TheImpl as place_eq
use Rattle.nb_store.specs.contracts.step.TouchPartialEq.TheImpl as touch_eq
use Rattle.nb_store.specs.contracts.step.TouchOrd.TheImpl as touch_ord
use Rattle.nb_store.specs.contracts.step.TouchOrd.TheImpl.Laws.{matches_partial_cmp-law}
use Rattle.nb_store.specs.contracts.step.TouchPartialOrd.TheImpl.Laws.{laws-law}
use Rattle.nb_store.specs.declared.step.Touch.{Touch}
use Rattle.nb_store.specs.declared.step.Touch.TheVariants.{Whole, Listed}
use Rattle.nb_store.specs.declared.step.Place.TheVariants as place

-- equal places are one
pub same_place : Tells ((place_eq.ghosts).eq)
same_place (place.Switch n) (place.Switch m) e = ap place.Switch (object n m e)
same_place (place.Switch n) _ e = absurd (false≢true e)
same_place (place.Port n) (place.Port m) e = ap place.Port (object n m e)
same_place (place.Port n) _ e = absurd (false≢true e)
same_place (place.Router n) (place.Router m) e = ap place.Router (object n m e)
same_place (place.Router n) _ e = absurd (false≢true e)
same_place (place.RouterPort n) (place.RouterPort m) e = ap place.RouterPort (object n m e)
same_place (place.RouterPort n) _ e = absurd (false≢true e)
same_place (place.Route n) (place.Route m) e = ap place.Route (object n m e)
same_place (place.Route n) _ e = absurd (false≢true e)
same_place (place.Nat n) (place.Nat m) e = ap place.Nat (object n m e)
same_place (place.Nat n) _ e = absurd (false≢true e)
same_place (place.Lb n) (place.Lb m) e = ap place.Lb (object n m e)
same_place (place.Lb n) _ e = absurd (false≢true e)
same_place (place.Acl n) (place.Acl m) e = ap place.Acl (object n m e)
same_place (place.Acl n) _ e = absurd (false≢true e)
same_place (place.Set n) (place.Set m) e = ap place.Set (object n m e)
same_place (place.Set n) _ e = absurd (false≢true e)
same_place (place.Group n) (place.Group m) e = ap place.Group (object n m e)
same_place (place.Group n) _ e = absurd (false≢true e)
same_place (place.Binding n) (place.Binding m) e = ap place.Binding (object n m e)
same_place (place.Binding n) _ e = absurd (false≢true e)

-- equal touches are one
pub same_touch : Tells ((touch_eq.ghosts).eq)
same_touch (Whole p) (Whole q) e = ap Whole (same_place p q e)
same_touch (Whole p) (Listed q m) e = absurd (false≢true e)
same_touch (Listed p n) (Whole q) e = absurd (false≢true e)
same_touch (Listed p n) (Listed q m) e =
    let parts = and_parts _ _ e in
    ap (λ r. Listed r n) (same_place p q parts.0) ∙ ap (λ k. Listed q k) (object n m parts.1)

-- and the order tells no equal ones apart
pub touch_ties : (p q : Touch) → (touch_eq.ghosts).eq p q ≡ eq_by_cmp (touch_ord.ghosts).cmp p q
touch_ties = ties laws-law matches_partial_cmp-law

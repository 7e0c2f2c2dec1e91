-- Which hits are told.
use Rattle.std.proofs.Common.{◌≡◌, Bool, true, false, List, [], ◌∷◌, map, refl, ap}
use Rattle.net_meaning.specs.declared.event.PlainEvent.TheVariants as plain
use Rattle.tr_stage.specs.declared.outcome.Hit.{Hit}
use Rattle.tr_walk.specs.declared.event.Event.{Event}
use Rattle.tr_walk.specs.declared.event.Event.TheVariants as events
use Rattle.tr_walk.specs.Events.{told_only, without_hits}

-- none, where the trace is minimal
pub no_hits_told : (hits : List Hit) → told_only true (map events.Hit hits) ≡ []
no_hits_told [] = refl
no_hits_told (hit ∷ hits) = no_hits_told hits

-- else all
pub all_hits_told : (hits : List Hit) → told_only false (map events.Hit hits) ≡ map events.Hit hits
all_hits_told [] = refl
all_hits_told (hit ∷ hits) = ap (λ rest. events.Hit hit ∷ rest) (all_hits_told hits)

-- without hits it is the same
pub same_without : (minimal : Bool) (all : List Event) → without_hits (told_only minimal all) ≡ without_hits all
same_without minimal [] = refl
same_without true (events.Hit hit ∷ all) = same_without true all
same_without false (events.Hit hit ∷ all) = same_without false all
same_without minimal (events.Output port packet ∷ all) = ap (λ rest. plain.Output port packet ∷ rest) (same_without minimal all)
same_without minimal (events.Drop dp cause ∷ all) = ap (λ rest. plain.Drop dp cause ∷ rest) (same_without minimal all)
same_without minimal (events.Reject port ∷ all) = ap (λ rest. plain.Reject port ∷ rest) (same_without minimal all)
same_without minimal (events.HopLimit port ∷ all) = ap (λ rest. plain.HopLimit port ∷ rest) (same_without minimal all)

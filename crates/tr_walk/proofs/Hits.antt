-- A walk by rows tells hits beside what happens.
use Rattle.std.proofs.Common.{◌≡◌, List, [], ◌∷◌, map, refl, ap}
use Rattle.net_meaning.specs.Walk.{Told, events}
use Rattle.net_meaning.specs.Walk.Told.{Note, Happens}
use Rattle.net_meaning.specs.declared.event.PlainEvent.TheVariants.{Output, Drop, Reject, HopLimit}
use Rattle.tr_stage.specs.declared.outcome.Hit.{Hit}
use Rattle.tr_walk.specs.Events.{event_of, without_hits}

-- without these it is what happens
pub left_out : (told : List (Told Hit)) → without_hits (map event_of told) ≡ events told
left_out [] = refl
left_out (Note hit ∷ told) = left_out told
left_out (Happens (Output port packet) ∷ told) = ap (λ rest. Output port packet ∷ rest) (left_out told)
left_out (Happens (Drop dp cause) ∷ told) = ap (λ rest. Drop dp cause ∷ rest) (left_out told)
left_out (Happens (Reject port) ∷ told) = ap (λ rest. Reject port ∷ rest) (left_out told)
left_out (Happens (HopLimit port) ∷ told) = ap (λ rest. HopLimit port ∷ rest) (left_out told)

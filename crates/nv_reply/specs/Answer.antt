-- What there is to put for a line.
use Rattle.std.specs.Prelude.{◌≡◌, ℕ, List, ◌++◌}
use Rattle.nv_reply.specs.declared.answer.Answer.{Answer}
use Rattle.nv_reply.specs.declared.answer.Answer.TheVariants.{Text, Listing, Trace}
use Rattle.nv_reply.specs.Events.{event_lines}
use Rattle.nv_reply.specs.Reply.{Reply, accept, flows}

-- the reply was written after an old text, or it is a listing of flows or the lines of events, of which nothing was written
abbrev pub IsAnswered : Reply → List ℕ → List ℕ → Answer → Type 0
IsAnswered reply old new (Text refused) = (new ≡ old ++ reply.text) × (refused ≡ reply.refused)
IsAnswered reply old new (Listing only) = (new ≡ old) × (reply ≡ accept (flows reply.after.network only) reply.after)
IsAnswered reply old new (Trace events) = (new ≡ old) × (reply ≡ accept (event_lines reply.after.network events.items) reply.after)

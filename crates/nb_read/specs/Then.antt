-- Readings one after another.
use Rattle.std.specs.Prelude.{Result, Ok, Err}
use Rattle.nb_records.specs.declared.refusal.Refusal.{Refusal}

-- go on with what was read
abbrev pub and_then : {X Y : Type 0} → Result X Refusal → (X → Result Y Refusal) → Result Y Refusal
and_then (Ok x) go_on = go_on x
and_then (Err refusal) go_on = Err refusal

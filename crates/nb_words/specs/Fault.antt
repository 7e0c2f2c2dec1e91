-- What a fault says of a reading.
use Rattle.std.specs.Prelude.{◌≡◌, Result, Err}
use Rattle.nb_records.specs.declared.refusal.Refusal.{Refusal}
use Rattle.nb_words.specs.declared.fault.LineFault.{LineFault}
use Rattle.nb_words.specs.declared.fault.LineFault.TheVariants.{Refused, Memory}

-- a fault is the refusal of the reading, or memory ran out
abbrev pub IsFaultOf : {X : Type 0} → Result X Refusal → LineFault → Type 0
IsFaultOf reading (Refused refusal) = reading ≡ Err refusal
IsFaultOf reading Memory = Unit {0}

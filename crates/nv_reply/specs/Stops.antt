-- Why no more lines are run.
use Rattle.std.specs.Prelude.{ℕ, List}
use Rattle.nv_io.specs.Passed.{IsPrefix}
use Rattle.nv_reply.specs.declared.stop.Stop.{Stop}
use Rattle.nv_reply.specs.declared.stop.Stop.TheVariants.{ReadFault, WriteFault, InputTooLong, OutOfMemory}

-- no more lines are run, where this text was due: by what it is to write a text, and to fail after one
abbrev pub StopsWithin : (List ℕ → Type 0) → (List ℕ → Type 0) → List ℕ → Stop → Type 0
StopsWithin wrote failed text WriteFault = (part : List ℕ) × IsPrefix part text × failed part
StopsWithin wrote failed text OutOfMemory = (part : List ℕ) × IsPrefix part text × wrote part
StopsWithin wrote failed text ReadFault = ⊥
StopsWithin wrote failed text InputTooLong = ⊥

-- What the readers of a text return.
use Rattle.std.specs.Prelude.{◌≡◌, ℕ, List, Result, Ok, Err}
use Rattle.std.specs.Borrow.{Bor}
use Rattle.act_parse.specs.declared.stop.Stop.{Stop}
use Rattle.act_parse.specs.declared.stop.Stop.TheVariants as stop
use Rattle.act_parse.specs.inner.Reading.{Reading}
use Rattle.act_parse.specs.inner.Reading.Reading.{Read, Stuck}

-- what a reference shows
abbrev pub shown : {T : Type 0} → Bor T → T
shown b = b.now

-- The answer is what the reading comes to, unless memory ran out.
abbrev pub Reads : {T : Type 0} → Result (T × Bor (List ℕ)) Stop → Reading T → Type 0
Reads (Ok x) reading = reading ≡ Read x.0 x.1.now
Reads (Err (stop.Stuck left)) reading = reading ≡ Stuck left
Reads (Err stop.Memory) reading = Unit {0}

-- What the tests of an edit, and that of a name, refuse.
use Rattle.std.specs.Prelude.{◌≡◌, Option, Some}
use Rattle.nb_records.specs.declared.edit.Edit.{Edit}
use Rattle.nb_records.specs.declared.refusal.Refusal.{Refusal}
use Rattle.nb_model.specs.Network.{Network}
use Rattle.nb_model.specs.Tests.{tests, first_refusal}
use Rattle.nb_words.specs.declared.fault.LineFault.{LineFault}
use Rattle.nb_words.specs.declared.fault.LineFault.TheVariants.{Refused, Memory}

-- a fault is the refusal of a test, or memory ran out
abbrev pub IsFaultFor : Option Refusal → LineFault → Type 0
IsFaultFor test (Refused refusal) = test ≡ Some refusal
IsFaultFor test Memory = Unit {0}

-- the refusal of the first test that fails
abbrev pub Refuses : Network → Edit → Refusal → Type 0
Refuses net edit refusal = first_refusal (tests net edit) ≡ Some refusal

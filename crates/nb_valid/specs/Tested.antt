-- What the tests of an edit leave, and what they refuse.
use Rattle.std.specs.Prelude.{◌≡◌, None, Result}
use Rattle.nb_records.specs.declared.edit.Edit.{Edit}
use Rattle.nb_records.specs.declared.refusal.Refusal.{Refusal}
use Rattle.nb_model.specs.Network.{Network}
use Rattle.nb_model.specs.Tests.{tests, first_refusal}
use Rattle.nb_model.specs.Transactions.{unless}

-- the edit, which no test refuses
abbrev pub Passes : Network → Edit → Edit → Type 0
Passes net edit passed = (passed ≡ edit) × (first_refusal (tests net edit) ≡ None)

-- the edit, unless a test refuses it
abbrev pub tested : Network → Edit → Result Edit Refusal
tested net edit = unless (first_refusal (tests net edit)) edit

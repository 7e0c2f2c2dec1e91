-- Where nothing refuses an edit, no test does, and the limits do not.
use Rattle.std.proofs.Common.{◌≡◌, None}
use Rattle.nb_records.specs.declared.edit.Edit.{Edit}
use Rattle.nb_model.specs.Amounts.{over_limit}
use Rattle.nb_model.specs.Effect.{effect}
use Rattle.nb_model.specs.Network.{Network}
use Rattle.nb_model.specs.Tests.{first_refusal, tests, refusal}
use Rattle.nb_model.proofs.Passed.{last_passes, earlier_pass}

pub edit_tested : (net : Network) (edit : Edit) → refusal net edit ≡ None → first_refusal (tests net edit) ≡ None
edit_tested net edit passes = earlier_pass (tests net edit) (over_limit (effect net edit)) passes

pub edit_within : (net : Network) (edit : Edit) → refusal net edit ≡ None → over_limit (effect net edit) ≡ None
edit_within net edit passes = last_passes (tests net edit) (over_limit (effect net edit)) passes

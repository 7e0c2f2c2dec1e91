-- An edit that no test refuses leaves each part of soundness.
use Rattle.std.proofs.Common.{◌≡◌, ◌<◌, None}
use Rattle.nb_records.specs.declared.edit.Edit.{Edit}
use Rattle.nb_model.specs.Effect.{effect}
use Rattle.nb_model.specs.Network.{Network}
use Rattle.nb_model.specs.Readable.{IsReadable}
use Rattle.nb_model.specs.Sound.{IsSound}
use Rattle.nb_model.specs.Tests.{refusal}
use Rattle.nb_model.proofs.ApartEdits.{apart}
use Rattle.nb_model.proofs.EditsNumbered.{edit_numbered}
use Rattle.nb_model.proofs.EditsRefer.{edit_refers}
use Rattle.nb_model.proofs.Within.{edit_tested, edit_within}
use Rattle.nb_model.proofs.NamedEdits.{named}
use Rattle.nb_model.proofs.ReadableEdits.{readable}
use Rattle.nv_base.specs.Object.{number_limit}

pub edit_sound : (net : Network) (edit : Edit) → IsSound net → IsReadable edit → (effect net edit).next < number_limit → refusal net edit ≡ None → IsSound (effect net edit)
edit_sound net edit sound read room passes = record {
  numbered = edit_numbered net edit sound.numbered room;
  named = named net edit sound.named (edit_tested net edit passes);
  refers = edit_refers net edit sound.refers;
  apart = apart net edit sound.named sound.apart (edit_tested net edit passes);
  readable = readable net edit sound.numbered sound.readable read;
  within = edit_within net edit passes;
}

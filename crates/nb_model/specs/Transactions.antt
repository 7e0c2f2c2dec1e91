-- What the edits of a line do: all of them, or nothing.
use Rattle.std.specs.Prelude.{List, [], ◌∷◌, Option, Some, None, Result, Ok, Err}
use Rattle.nb_records.specs.declared.edit.Edit.{Edit}
use Rattle.nb_records.specs.declared.refusal.Refusal.{Refusal}
use Rattle.nb_read.specs.Then.{and_then}
use Rattle.nb_model.specs.Effect.{effect}
use Rattle.nb_model.specs.Network.{Network}
use Rattle.nb_model.specs.Tests.{refusal}

-- a network, unless there is a refusal
abbrev pub unless : {X : Type 0} → Option Refusal → X → Result X Refusal
unless None x = Ok x
unless (Some refused) x = Err refused

-- the network after an edit, or its refusal
abbrev pub applied : Network → Edit → Result Network Refusal
applied net edit = unless (refusal net edit) (effect net edit)

-- the network after edits, each of the network that those before it leave, or the first refusal
abbrev pub edited : Network → List Edit → Result Network Refusal
edited net [] = Ok net
edited net (edit ∷ edits) = and_then (applied net edit) (λ after. edited after edits)

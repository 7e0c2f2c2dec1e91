-- The options of a switch port, one after another.
use Rattle.std.proofs.Common.{◌≡◌, ℕ, ◌+◌, ◌<◌, true, if◌then◌else◌, List, ◌∷◌, Option, Some, Result, Ok, Err, length, get_or, drop, sym, ap, ◌∙◌}
use Rattle.std.proofs.lemmas.List.{at_drop_more}
use Rattle.nb_records.specs.declared.refusal.Refusal.{Refusal}
use Rattle.nb_records.specs.declared.refusal.Refusal.TheVariants.{NotInProfile}
use Rattle.nb_words.specs.Fault.{IsFaultOf}
use Rattle.nb_words.specs.declared.fault.LineFault.{LineFault}
use Rattle.nb_words.specs.declared.fault.LineFault.TheVariants.{Refused, Memory}
use Rattle.nb_words.specs.declared.word.Word.{Word}
use Rattle.nb_read.specs.Then.{and_then}
use Rattle.nb_read.specs.Readings.{object_name}
use Rattle.nb_read.specs.Lists.{is_router_port, port_options}

-- a word that sets the option
module _ (words : List Word) (i : ℕ) (word : Word) (before : Option (List ℕ)) (number : ℕ) (within : i < length words) (at : word ≡ get_or words i word) (sets : is_router_port word ≡ true) where
  abbrev go : List ℕ → Result (Option (List ℕ)) Refusal
  go name = port_options (Some name) (number + 1) (drop (i + 1) words)

  opened : port_options before number (drop i words) ≡ and_then (object_name number (drop 12 word.text)) go
  opened =
      at_drop_more (port_options before number) words i word within ∙ ap (λ w. port_options before number (w ∷ drop (i + 1) words)) (sym at)
      ∙ ap (λ b. if b then and_then (object_name number (drop 12 word.text)) go else Err (NotInProfile number)) sets

  -- its name is in the place of the one before
  pub name_read : (name : List ℕ) → object_name number (drop 12 word.text) ≡ Ok name → port_options (Some name) (number + 1) (drop (i + 1) words) ≡ port_options before number (drop i words)
  name_read name read = sym (opened ∙ ap (λ r. and_then r go) read)

  -- and the fault of one that is no name is the fault of all
  pub name_refused : (fault : LineFault) (whole : Result (Option (List ℕ)) Refusal) → port_options before number (drop i words) ≡ whole → IsFaultOf (object_name number (drop 12 word.text)) fault → IsFaultOf whole fault
  name_refused (Refused refusal) whole so_far refused = sym so_far ∙ opened ∙ ap (λ r. and_then r go) refused
  name_refused Memory whole so_far refused = tt

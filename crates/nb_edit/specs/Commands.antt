-- What a command says: the edit that it asks for, or why it is refused whatever the network is.
use Rattle.std.specs.Prelude.{ℕ, ◌+◌, Bool, true, false, not, ◌&&◌, List, [], ◌∷◌, length, take, drop, count_by, position, nat_le, Option, Some, None, option_map, unwrap_or, Result, Err, if◌then◌else◌}
use Rattle.std.specs.List.{list_all, list_any}
use Rattle.nb_records.specs.declared.edit.Edit.{Edit}
use Rattle.nb_records.specs.declared.refusal.Refusal.{Refusal}
use Rattle.nb_records.specs.declared.refusal.Refusal.TheVariants.{UnknownCommand, WrongWords, NotInProfile}
use Rattle.nb_words.specs.declared.word.Word.{Word}
use Rattle.nb_words.specs.declared.command.Command.{Command}
use Rattle.nb_edit.specs.declared.form.Flag.{Flag}
use Rattle.nb_edit.specs.declared.form.Place.{Place}
use Rattle.nb_edit.specs.declared.form.Tail.{Tail}
use Rattle.nb_edit.specs.declared.form.Tail.TheVariants.{Ends, May, MayThen, MayThenBoth, Repeats}
use Rattle.nb_edit.specs.declared.verb.Verb.{Verb}
use Rattle.nb_edit.specs.Call.{Call, call}
use Rattle.nb_edit.specs.Edits.{edit_of}
use Rattle.nb_edit.specs.Forms.{form, verb_of}
use Rattle.nb_edit.specs.Keywords.{may_stand, is_option, is_flag, is_whole}

-- the word may stand at this place
abbrev pub suits : Place → Word → Bool
suits place word = may_stand place word.text

-- the words that may follow those that a command needs
abbrev pub ends : Tail → List Word → Bool
ends Ends [] = true
ends (May p) [] = true
ends (May p) (w ∷ []) = suits p w
ends (MayThen p q) [] = true
ends (MayThen p q) (w ∷ []) = suits p w
ends (MayThen p q) (w ∷ v ∷ []) = suits p w && suits q v
ends (MayThenBoth p q r) [] = true
ends (MayThenBoth p q r) (w ∷ []) = suits p w
ends (MayThenBoth p q r) (w ∷ v ∷ u ∷ []) = suits p w && suits q v && suits r u
ends (Repeats p) words = list_all (suits p) words
ends _ words = false

-- there are as many words as there are places, and keywords where keywords are wanted
abbrev pub fits : List Place → Tail → List Word → Bool
fits [] tail words = ends tail words
fits (place ∷ places) tail [] = false
fits (place ∷ places) tail (word ∷ words) = suits place word && fits places tail words

-- the word is an option that the command takes, as far as its name goes
abbrev pub is_taken : Verb → Word → Bool
is_taken verb word = list_any (λ flag. is_flag flag word.text) (form verb).flags

-- the number of the first option that the command doesn't take
abbrev pub other_option : ℕ → Verb → List Word → Option ℕ
other_option first verb options = option_map (λ place. first + place) (position (λ word. not (is_taken verb word)) options)

-- the option stands once at most
abbrev pub is_once : List Word → Flag → Bool
is_once options flag = nat_le (count_by (λ word. is_flag flag word.text) options) 1

-- the options have the values that they may have, none is given twice, and the words fit
abbrev pub is_well_formed : Verb → List Word → List Word → Bool
is_well_formed verb options words =
    list_all (λ word. is_whole word.text) options && list_all (is_once options) (form verb).flags && fits (form verb).places (form verb).tail words

-- what a command says whose options are all its own
abbrev pub formed : Verb → Call → Result Edit Refusal
formed verb call = if is_well_formed verb call.options call.words then edit_of verb call else Err WrongWords

-- what a command says whose first option that it doesn't take has this number
abbrev pub tested : Verb → Call → Option ℕ → Result Edit Refusal
tested verb call None = formed verb call
tested verb call (Some option) = Err (NotInProfile option)

-- what a command says whose options begin at the word of this number, by what its name stands for
abbrev pub named : ℕ → List Word → List Word → Option Verb → Result Edit Refusal
named first options words None = Err (UnknownCommand (first + length options))
named first options words (Some verb) = tested verb (call options (first + length options + 1) words) (other_option first verb options)

-- what a command of these options, and these words from its name on, says
abbrev pub said : ℕ → List Word → List Word → Result Edit Refusal
said first options [] = Err WrongWords
said first options (name ∷ words) = named first options words (verb_of name.text)

-- how many options a command begins with
abbrev pub option_count : List Word → ℕ
option_count words = unwrap_or (position (λ word. not (is_option word.text)) words) (length words)

-- what a command says
abbrev pub read_command : Command → Result Edit Refusal
read_command command =
    said command.first (take (option_count command.words) command.words) (drop (option_count command.words) command.words)

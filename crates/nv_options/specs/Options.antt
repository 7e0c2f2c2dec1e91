-- Which arguments the program takes.
use Rattle.std.specs.Prelude.{◌≡◌, ◌⊎◌, ℕ, Bool, true, List, [], ◌∷◌, Option, Some, option_map, pos, codes}
use Rattle.std.specs.Option.{option_map_or}
use Rattle.std.specs.Str.Parse.{digits_value, without_leading_plus}
use Rattle.clap.specs.Words.{App, IsAmong, Kinds, Row, Rule, Text, new_app, new_rule, with_rule, fault_of, matches_of, one_of}
use Rattle.clap.specs.Simple.{on_top}
use Rattle.clap.specs.Walk.{is_empty}
use Rattle.clap.specs.declared.builder.action.ArgAction.TheVariants.{Set}
use Rattle.clap.specs.declared.error.kind.ErrorKind.TheVariants.{DisplayHelp, DisplayVersion}
use Rattle.clap.specs.declared.builder.value_parser.ValueParser.TheVariants.{Signed}

-- an option of this name, of which the value is a number from 1 to the most
abbrev pub number_rule : Text → ℕ → Rule
number_rule name most = record (new_rule name) { long = Some name; action = Some Set; parser = Some (Signed (pos 1) (pos most)); value_names = 1 }

-- `--hops N`, N from 1 to 64
abbrev pub hops_rule : Rule
hops_rule = number_rule (codes "hops") 64

-- `--generate N`, N from 1 to 16000
abbrev pub generate_rule : Rule
generate_rule = number_rule (codes "generate") 16000

-- a command that has a version
abbrev pub with_version : App → App
with_version app = on_top (λ top. record top { has_version = true }) app

-- the program: it has these options, and `--help` and `--version`
abbrev pub program : App
program = with_rule (with_rule (with_version (new_app (codes "ovn_nd"))) hops_rule) generate_rule

-- why `clap` refuses these words, of which the first is the program's name: the kinds of the first fault, none where it takes them
abbrev pub faults : List Text → Kinds
faults words = fault_of program words

-- `clap` takes these words
abbrev pub accepts : List Text → Bool
accepts words = is_empty (faults words)

-- the number that a text says
abbrev pub number_of : Text → ℕ
number_of text = digits_value 10 (without_leading_plus text)

-- the number that the value of `--hops` says, and 16 where there is none
abbrev pub hops_among : List Row → ℕ
hops_among found = option_map_or number_of (one_of (codes "hops") found) 16

-- how many hops a traced packet may take, by what `clap` finds in the words
unfoldable pub hops_in : List Text → ℕ
hops_in words = hops_among (matches_of program words)

-- the number that the value of `--generate` says
abbrev pub generate_among : List Row → Option ℕ
generate_among found = option_map number_of (one_of (codes "generate") found)

-- how many ports the generated network has, where one is asked for, by what `clap` finds in the words
unfoldable pub generate_in : List Text → Option ℕ
generate_in words = generate_among (matches_of program words)

-- the first fault is that help or the version is asked for
abbrev pub AskForText : Kinds → Type 0
AskForText kinds = IsAmong DisplayHelp kinds ⊎ IsAmong DisplayVersion kinds

-- the first fault can only be that help is asked for, or only that the version is
abbrev pub AskOnlyForText : Kinds → Type 0
AskOnlyForText kinds = (kinds ≡ DisplayHelp ∷ []) ⊎ (kinds ≡ DisplayVersion ∷ [])

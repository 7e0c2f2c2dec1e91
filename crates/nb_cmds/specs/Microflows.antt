-- The word MICROFLOW of `trace`.
use Rattle.std.specs.Prelude.{ℕ, List, Result, Ok, Err}
use Rattle.expr_core.specs.declared.role.Role.TheVariants as role
use Rattle.expr_parse.specs.Grammar.{reading}
use Rattle.nb_records.specs.declared.refusal.MicroRule.TheVariants as rule
use Rattle.nb_records.specs.declared.refusal.Refusal.{Refusal}
use Rattle.nb_records.specs.declared.refusal.Refusal.TheVariants.{WrongWords, BadMicroflow}
use Rattle.nb_read.specs.Then.{and_then}
use Rattle.nb_read.specs.Readings.{parsed_match}
use Rattle.pkt_micro.specs.Microflow.{microflow}
use Rattle.pkt_micro.specs.declared.fault.MicroFault.{MicroFault}
use Rattle.pkt_micro.specs.declared.fault.MicroFault.TheVariants as fault
use Rattle.pkt_micro.specs.declared.microflow.Micro.{Micro}

-- why a match is refused that is no microflow (no match is refused as `Memory`)
abbrev pub rule_broken : MicroFault → Refusal
rule_broken fault.NotConjunction = BadMicroflow rule.NotConjunction
rule_broken (fault.Contradiction field) = BadMicroflow (rule.Contradiction field)
rule_broken fault.NoInport = BadMicroflow rule.NoInport
rule_broken fault.Memory = WrongWords

-- the microflow, or why the match is none
abbrev pub judged : Result Micro MicroFault → Result Micro Refusal
judged (Ok m) = Ok m
judged (Err f) = Err (rule_broken f)

-- the packet that the text says, and the port that it comes in by
unfoldable pub micro_of : List ℕ → Result Micro Refusal
micro_of text = and_then (parsed_match role.Micro (reading text)) (λ t. judged (microflow t))

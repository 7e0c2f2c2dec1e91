-- The refusals that faults of matches stand for.
use Rattle.expr_parse.specs.declared.fault.MatchFault.{MatchFault}
use Rattle.expr_parse.specs.declared.fault.MatchFault.TheVariants as match
use Rattle.expr_check.specs.declared.fault.TypeFault.{TypeFault}
use Rattle.expr_check.specs.declared.fault.TypeFault.TheVariants as rule
use Rattle.nb_records.specs.declared.refusal.Refusal.TheVariants.{MatchSyntax}
use Rattle.nb_words.specs.declared.fault.LineFault.{LineFault}
use Rattle.nb_words.specs.declared.fault.LineFault.TheVariants.{Refused, Memory}
use Rattle.nb_read.specs.Readings.{rule_broken}

-- the fault of a line whose match has this fault
abbrev pub syntax_fault : MatchFault → LineFault
syntax_fault match.Memory = Memory
syntax_fault (match.Syntax place) = Refused (MatchSyntax place)
syntax_fault (match.Mixed place) = Refused (MatchSyntax place)
syntax_fault (match.TooDeep place) = Refused (MatchSyntax place)

-- the fault of a line whose match breaks a rule
abbrev pub rule_fault : TypeFault → LineFault
rule_fault rule.Memory = Memory
rule_fault (rule.UnknownField place) = Refused (rule_broken (rule.UnknownField place))
rule_fault (rule.NotAllowedHere place) = Refused (rule_broken (rule.NotAllowedHere place))
rule_fault (rule.WrongWidth place) = Refused (rule_broken (rule.WrongWidth place))
rule_fault (rule.WrongForm place) = Refused (rule_broken (rule.WrongForm place))

-- The refusals that faults of microflows stand for.
use Rattle.nb_words.specs.declared.fault.LineFault.{LineFault}
use Rattle.nb_words.specs.declared.fault.LineFault.TheVariants.{Refused, Memory}
use Rattle.pkt_micro.specs.declared.fault.MicroFault.{MicroFault}
use Rattle.pkt_micro.specs.declared.fault.MicroFault.TheVariants as fault
use Rattle.nb_cmds.specs.Microflows.{rule_broken}

-- the fault of a line whose microflow has this fault
abbrev pub micro_fault : MicroFault → LineFault
micro_fault fault.Memory = Memory
micro_fault fault.NotConjunction = Refused (rule_broken fault.NotConjunction)
micro_fault (fault.Contradiction field) = Refused (rule_broken (fault.Contradiction field))
micro_fault fault.NoInport = Refused (rule_broken fault.NoInport)

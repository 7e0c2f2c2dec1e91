use Rattle.std.proofs.Common.{arith, decimal, refl}
use Rattle.clap.proofs.OnLiterals.{clap_on_literals}
use Rattle.nv_options.specs.Options.{generate_in}
use Rattle.nv_options.proofs.Generate.{apart_is_accepted, apart_is_read, decimal_passes, hops_first, hops_last, joined_accepted, joined_is_read}
use Rattle.nv_options.proofs.laws.a_generated_network_is_asked_for.Goals as goal

pub returns-clause-none : goal.returns-clause-none
unfolding clap_on_literals generate_in
returns-clause-none c = λ name. refl

pub returns-clause-apart : goal.returns-clause-apart
returns-clause-apart c = apart_is_accepted

pub returns-clause-apart_read : goal.returns-clause-apart_read
returns-clause-apart_read c = apart_is_read

pub returns-clause-joined : goal.returns-clause-joined
returns-clause-joined c = λ name n low high. joined_accepted name (decimal n) (decimal_passes 16000 n (omega arith) low high)

pub returns-clause-joined_read : goal.returns-clause-joined_read
returns-clause-joined_read c = joined_is_read

pub returns-clause-after_hops : goal.returns-clause-after_hops
returns-clause-after_hops c = λ name h n low high least most. hops_first name (decimal h) (decimal n) (decimal_passes 64 h (omega arith) low high) (decimal_passes 16000 n (omega arith) least most)

pub returns-clause-before_hops : goal.returns-clause-before_hops
returns-clause-before_hops c = λ name h n low high least most. hops_last name (decimal h) (decimal n) (decimal_passes 64 h (omega arith) low high) (decimal_passes 16000 n (omega arith) least most)

pub returns-clause-zero : goal.returns-clause-zero
unfolding clap_on_literals
returns-clause-zero c = λ name. refl

pub returns-clause-above : goal.returns-clause-above
unfolding clap_on_literals
returns-clause-above c = λ name. refl

pub returns-clause-too_wide : goal.returns-clause-too_wide
unfolding clap_on_literals
returns-clause-too_wide c = λ name. refl

pub returns-clause-no_number : goal.returns-clause-no_number
unfolding clap_on_literals
returns-clause-no_number c = λ name. refl

pub returns-clause-a_name : goal.returns-clause-a_name
unfolding clap_on_literals
returns-clause-a_name c = λ name. refl

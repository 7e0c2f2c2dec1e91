use Rattle.std.proofs.Common.{◌++◌, [], ◌∷◌, refl, codes}
use Rattle.std.specs.Prelude.{decimal}
use Rattle.std.specs.Fmt.{digits}
use Rattle.clap.proofs.OnLiterals.{clap_on_literals}
use Rattle.nv_options.specs.Options.{accepts}
use Rattle.nv_options.proofs.Below.{from_one}
use Rattle.nv_options.proofs.laws.arguments_of_the_manual_are_accepted.Goals as goal

pub returns-clause-none : goal.returns-clause-none
unfolding clap_on_literals
returns-clause-none c = λ name. refl

pub returns-clause-apart : goal.returns-clause-apart
unfolding clap_on_literals digits
returns-clause-apart c = λ name. from_one (λ n. accepts (name ∷ codes "--hops" ∷ decimal n ∷ [])) refl

pub returns-clause-joined : goal.returns-clause-joined
unfolding clap_on_literals digits
returns-clause-joined c = λ name. from_one (λ n. accepts (name ∷ (codes "--hops=" ++ decimal n) ∷ [])) refl

pub returns-clause-zero : goal.returns-clause-zero
unfolding clap_on_literals
returns-clause-zero c = λ name. refl

pub returns-clause-above : goal.returns-clause-above
unfolding clap_on_literals
returns-clause-above c = λ name. refl

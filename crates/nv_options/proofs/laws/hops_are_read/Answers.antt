use Rattle.std.proofs.Common.{◌++◌, [], ◌∷◌, refl, codes, eqb}
use Rattle.std.specs.Prelude.{decimal}
use Rattle.std.specs.Fmt.{digits}
use Rattle.std.proofs.lemmas.Bool.{eqb-true}
use Rattle.clap.proofs.OnLiterals.{clap_on_literals}
use Rattle.nv_options.specs.Options.{hops_in}
use Rattle.nv_options.proofs.Below.{from_one}
use Rattle.nv_options.proofs.laws.hops_are_read.Goals as goal

pub returns-clause-none : goal.returns-clause-none
unfolding clap_on_literals hops_in
returns-clause-none c = λ name. refl

pub returns-clause-apart : goal.returns-clause-apart
unfolding clap_on_literals digits hops_in
returns-clause-apart c = λ name n low high. eqb-true _ _ (from_one (λ n. eqb (hops_in (name ∷ codes "--hops" ∷ decimal n ∷ [])) n) refl n low high)

pub returns-clause-joined : goal.returns-clause-joined
unfolding clap_on_literals digits hops_in
returns-clause-joined c = λ name n low high. eqb-true _ _ (from_one (λ n. eqb (hops_in (name ∷ (codes "--hops=" ++ decimal n) ∷ [])) n) refl n low high)

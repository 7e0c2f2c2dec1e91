use Rattle.std.proofs.Common.{◌∙◌, ap, arith, codes}
use Rattle.std.specs.Prelude.{option_map}
use Rattle.std.specs.Str.Parse.{ParsesUnsigned, ExplainsUnsignedError, HasUnsignedDigitsIfOk}
use Rattle.clap.specs.Words.{found_of, one_text}
use Rattle.clap.proofs.WalkLemmas.{one_text-rows}
use Rattle.nv_options.specs.Options.{number_of}
use Rattle.nv_options.proofs.Values.{read_so}
use Rattle.nv_options.proofs.options.generate_of.Goals as goal

pub returns-clause-value : goal.returns-clause-value
returns-clause-value c =
    let read = read_so _ (λ bs r. ParsesUnsigned 16 10 bs r × ExplainsUnsignedError 10 bs r × HasUnsignedDigitsIfOk bs r) 16 16000 (omega arith) (λ t x g. g.0)
    (one_text (found_of c.args.matches.now) (codes "generate")) c.get_one.result c.requires c.get_one.ensures.none c.get_one.ensures.value in
    read.0 ∙ ap (option_map number_of) (one_text-rows (found_of c.args.matches.now) (codes "generate"))

pub returns-clause-within : goal.returns-clause-within
returns-clause-within c =
    (read_so _ (λ bs r. ParsesUnsigned 16 10 bs r × ExplainsUnsignedError 10 bs r × HasUnsignedDigitsIfOk bs r) 16 16000 (omega arith) (λ t x g. g.0)
    (one_text (found_of c.args.matches.now) (codes "generate")) c.get_one.result c.requires c.get_one.ensures.none c.get_one.ensures.value).1

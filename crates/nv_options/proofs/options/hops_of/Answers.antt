use Rattle.std.proofs.Common.{◌∙◌, ap, arith, codes, unwrap_or}
use Rattle.std.specs.Option.{option_map_or}
use Rattle.std.specs.Str.Parse.{ParsesUnsigned, ExplainsUnsignedError, HasUnsignedDigitsIfOk}
use Rattle.clap.specs.Words.{found_of, one_text}
use Rattle.clap.proofs.WalkLemmas.{one_text-rows}
use Rattle.nv_options.specs.Options.{number_of}
use Rattle.nv_options.proofs.Values.{default_within, or_default, read_so}
use Rattle.nv_options.proofs.options.hops_of.Goals as goal

pub returns-clause-value : goal.returns-clause-value
returns-clause-value c =
    let text = one_text (found_of c.args.matches.now) (codes "hops") in
    let read = read_so _ (λ bs r. ParsesUnsigned 8 10 bs r × ExplainsUnsignedError 10 bs r × HasUnsignedDigitsIfOk bs r) 8 64 (omega arith) (λ t x g. g.0)
    text c.get_one.result c.requires c.get_one.ensures.none c.get_one.ensures.value in
    c.unwrap_or.ensures ∙ ap (λ value. unwrap_or value 16) read.0 ∙ or_default text 16 ∙ ap (λ text. option_map_or number_of text 16) (one_text-rows (found_of c.args.matches.now) (codes "hops"))

pub returns-clause-within : goal.returns-clause-within
returns-clause-within c =
    let read = read_so _ (λ bs r. ParsesUnsigned 8 10 bs r × ExplainsUnsignedError 10 bs r × HasUnsignedDigitsIfOk bs r) 8 64 (omega arith) (λ t x g. g.0)
    (one_text (found_of c.args.matches.now) (codes "hops")) c.get_one.result c.requires c.get_one.ensures.none c.get_one.ensures.value in
    rw c.unwrap_or.ensures (default_within c.get_one.result 64 16 (omega arith) (omega arith) read.1)

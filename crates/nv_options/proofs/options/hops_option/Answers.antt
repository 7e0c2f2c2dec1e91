use Rattle.std.proofs.Common.{◌≡◌, ◌∙◌, ap, Some, codes}
use Rattle.std.specs.Prelude.{pos}
use Rattle.clap.specs.Words.{Rule, rule_of}
use Rattle.clap.specs.declared.builder.value_parser.ValueParser.TheVariants.{Signed}
use Rattle.clap.specs.declared.builder.action.ArgAction.TheVariants.{Set}
use Rattle.clap.specs.declared.builder.arg.Arg.{Arg}
use Rattle.nv_options.proofs.options.hops_option.Goals as goal

pub returns-clause-rule : goal.returns-clause-rule
returns-clause-rule c =
    let parser : c.range.result ≡ Signed (pos 1) (pos 64) = rw (c.value_parser.ensures, c.new-2.ensures.start, c.new-2.ensures.end) at c.range.ensures in
    let given = c.value_parser-2.ensures.given in
    let is_parser = given.1 ∙ ap Some (given.2 ∙ parser) in
    let range = Some (Signed (pos 1) (pos 64)) in
    ap rule_of c.help.ensures ∙ ap rule_of c.value_name.ensures
    ∙ ap (λ (a : Arg). record (rule_of a) { value_names = 1 }) c.value_parser-2.ensures.others
    ∙ ap (λ parser. record (rule_of c.action.result) { parser = parser; value_names = 1 }) is_parser
    ∙ ap (λ (a : Arg). record (rule_of a) { parser = range; value_names = 1 }) c.action.ensures
    ∙ ap (λ (a : Arg). record (rule_of a) { action = Some Set; parser = range; value_names = 1 }) c.long.ensures
    ∙ ap (λ (r : Rule). record r { long = Some (codes "hops"); action = Some Set; parser = range; value_names = 1 }) c.new.ensures.rule

use Rattle.std.proofs.Common.{◌≡◌, ◌∙◌, ap, codes}
use Rattle.clap.specs.Words.{app_of, new_app, with_rule}
use Rattle.clap.specs.Simple.{app_of_fields}
use Rattle.nv_options.specs.Options.{generate_rule, hops_rule, with_version}
use Rattle.nv_options.proofs.Results.{if_ok}
use Rattle.nv_options.proofs.options.command.Goals as goal

pub returns : goal.returns
returns c =
    let app : app_of c.about-command.result ≡ with_version (new_app (codes "ovn_nd")) =
    ap app_of_fields c.about-command.ensures ∙ ap app_of_fields c.version.ensures ∙ ap with_version c.new.ensures.app in
    let first : app_of c.in_ok-arg.field-0 ≡ with_rule (with_version (new_app (codes "ovn_nd"))) hops_rule =
    c.in_ok-arg.ensures.shape c.hops_option.ensures.local ∙ ap (with_rule (app_of c.about-command.result)) c.hops_option.ensures.rule ∙ ap (λ a. with_rule a hops_rule) app in
    if_ok c.arg-2.result (λ r added. added.shape c.generate_option.ensures.local ∙ ap (with_rule (app_of c.in_ok-arg.field-0)) c.generate_option.ensures.rule ∙ ap (λ a. with_rule a generate_rule) first) c.arg-2.ensures

use Rattle.std.proofs.Common.{◌≡◌, ◌∙◌, [], refl, subst, map, true, inl, inr, rules}
use Rattle.std.specs.String.{string_bytes}
use Rattle.clap.specs.Words.{App, HasKind, is_simple_and_free, fault_of}
use Rattle.nv_options.specs.Options.{faults}
use Rattle.nv_options.proofs.Results.{among, no_request, none_asked}
use Rattle.nv_options.proofs.options.requested_text.Goals as goal

pub returns-in-DisplayHelp-clause-asked : goal.returns-in-DisplayHelp-clause-asked
returns-in-DisplayHelp-clause-asked c =
    let words = map string_bytes c.args.arguments.now in
    let named : HasKind (faults words) c.in-Err.error =
    subst (λ (app : App). is_simple_and_free app ≡ true → HasKind (fault_of app words) c.in-Err.error) c.in_ok-command.ensures c.in-Err.ensures.kinds refl in
    inl (among (faults words) c.in-Err.error _ named (search rules) (search rules))

pub returns-in-DisplayVersion-clause-asked : goal.returns-in-DisplayVersion-clause-asked
returns-in-DisplayVersion-clause-asked c =
    let words = map string_bytes c.args.arguments.now in
    let named : HasKind (faults words) c.in-Err.error =
    subst (λ (app : App). is_simple_and_free app ≡ true → HasKind (fault_of app words) c.in-Err.error) c.in_ok-command.ensures c.in-Err.ensures.kinds refl in
    inr (among (faults words) c.in-Err.error _ named (search rules) (search rules))

pub returns-in-Ok-clause-given : goal.returns-in-Ok-clause-given
returns-in-Ok-clause-given c =
    let words = map string_bytes c.args.arguments.now in
    let none : faults words ≡ [] =
    subst (λ (app : App). is_simple_and_free app ≡ true → fault_of app words ≡ []) c.in_ok-command.ensures c.in-Ok.ensures.kinds refl in
    none_asked (faults words) none

pub returns : goal.returns
returns c =
    let words = map string_bytes c.args.arguments.now in
    let named : HasKind (faults words) c.in-Err.error =
    subst (λ (app : App). is_simple_and_free app ≡ true → HasKind (fault_of app words) c.in-Err.error) c.in_ok-command.ensures c.in-Err.ensures.kinds refl in
    record {
      asked = tt;
      given = no_request (faults words) c.in-Err.error named (λ e. c.in_default.not-OutOfMemory (c.kind.ensures ∙ e))
          (λ e. c.in_default.not-DisplayHelp (c.kind.ensures ∙ e)) (λ e. c.in_default.not-DisplayVersion (c.kind.ensures ∙ e));
    }

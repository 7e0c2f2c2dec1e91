use Rattle.std.proofs.Common.{◌≡◌, ◌∙◌, [], true, refl, ap, subst, map}
use Rattle.std.specs.String.{string_bytes}
use Rattle.clap.specs.Walk.{is_empty}
use Rattle.clap.specs.Words.{App, HasKind, fault_of, found_of, is_simple, is_simple_and_free, matches_of, rows_of}
use Rattle.nv_options.specs.Options.{faults, generate_among, generate_in, hops_among, hops_in}
use Rattle.nv_options.proofs.Results.{same_fault, some_fault}
use Rattle.nv_options.proofs.Values.{passed}
use Rattle.nv_options.proofs.options.accept_arguments.Goals as goal

pub hops_of-requires : goal.hops_of-requires
hops_of-requires c = (passed _ c.in-Ok.matches c.in_ok-command.ensures c.in-Ok.ensures.parsed).0

pub generate_of-requires : goal.generate_of-requires
generate_of-requires c = (passed _ c.in-Ok.matches c.in_ok-command.ensures c.in-Ok.ensures.parsed).1

pub returns-in-Ok-clause-accepted : goal.returns-in-Ok-clause-accepted
returns-in-Ok-clause-accepted c =
    let words = map string_bytes c.args.arguments.now in
    let none : faults words ≡ [] =
    subst (λ (app : App). is_simple_and_free app ≡ true → fault_of app words ≡ []) c.in_ok-command.ensures c.in-Ok.ensures.kinds refl in
    ap is_empty none

pub returns-in-Ok-clause-hops : goal.returns-in-Ok-clause-hops
unfolding hops_in
returns-in-Ok-clause-hops c =
    let words = map string_bytes c.args.arguments.now in
    let rows = subst (λ (app : App). is_simple app ≡ true → rows_of (found_of c.in-Ok.matches) ≡ matches_of app words) c.in_ok-command.ensures (λ simple. (c.in-Ok.ensures.matches simple).0) refl in
    c.hops_of.ensures.value ∙ ap hops_among rows

pub returns-in-Ok-clause-generate : goal.returns-in-Ok-clause-generate
unfolding generate_in
returns-in-Ok-clause-generate c =
    let words = map string_bytes c.args.arguments.now in
    let rows = subst (λ (app : App). is_simple app ≡ true → rows_of (found_of c.in-Ok.matches) ≡ matches_of app words) c.in_ok-command.ensures (λ simple. (c.in-Ok.ensures.matches simple).0) refl in
    c.generate_of.ensures.value ∙ ap generate_among rows

pub returns-in-Err-clause-refused : goal.returns-in-Err-clause-refused
returns-in-Err-clause-refused c = λ refused.
    let words = map string_bytes c.args.arguments.now in
    let named : HasKind (faults words) c.in-Err.error =
    subst (λ (app : App). is_simple_and_free app ≡ true → HasKind (fault_of app words) c.in-Err.error) c.in_ok-command.ensures c.in-Err.ensures.kinds refl in
    some_fault (faults words) c.in-Err.error named (c.fault_of.ensures (same_fault refused))

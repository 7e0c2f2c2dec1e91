use Rattle.std.proofs.Common.{◌≡◌, ◌-◌, ℕ, length, Err, ap, ◌∙◌, arith}
use Rattle.act_parse.specs.declared.fault.ActionFault.TheVariants.{Syntax}
use Rattle.act_parse.specs.inner.Reading.{answer_of}
use Rattle.act_parse.proofs.Places.{only_list, faults_at, stuck_there}
use Rattle.act_parse.proofs.reader.parse_actions.Goals as goal

pub returns-in-Ok-clause-list : goal.returns-in-Ok-clause-list
returns-in-Ok-clause-list c = only_list c.args.text.now c.in-Ok.actions (ap (answer_of (length c.args.text.now)) c.in-Ok.ensures.reads)

pub returns-in-Err-Stuck-clause-fault : goal.returns-in-Err-Stuck-clause-fault
returns-in-Err-Stuck-clause-fault c =
    let place : length c.args.text.now - c.in-Err-Stuck.left ≡ c.saturating_sub.result = omega (arith, c.saturating_sub.ensures) in
    faults_at c.args.text.now c.saturating_sub.result (ap (answer_of (length c.args.text.now)) (stuck_there c.in-Err-Stuck.field-0 c.in-Err-Stuck.left c.args.text.now c.in-Err-Stuck.ensures.reads c.in-Err-Stuck.field-0-is) ∙ ap (λ (n : ℕ). Err (Syntax n)) place)

use Rattle.std.proofs.Common.{◌++◌, sym, ap, ◌∙◌}
use Rattle.inc_group.proofs.Merged.{all_there, none_left, next_above}
use Rattle.inc_group.proofs.merge.copy_all.Goals as goal

pub push-requires : goal.push-requires
push-requires g c = next_above g.K.Ord.cmp c.loop-first.members c.loop-first.rest.now c.in-Some.after.now (c.args.members.now ++ c.args.rest.now) c.in-Some.first.now c.in_ok-copy.field-0 c.in-Some.ensures.cases.0 c.in_ok-copy.ensures c.loop-first.invariant c.requires

pub loop-first-preserved : goal.loop-first-preserved
loop-first-preserved g c = all_there c.loop-first.members c.push.new.self c.loop-first.rest.now c.in-Some.after.now c.in-Some.first.now c.in_ok-copy.field-0 c.in_ok-copy-2.field-0 c.in-Some.ensures.cases.0 c.in_ok-copy.ensures c.in_ok-copy-2.ensures c.in_ok-push.ensures.ok ∙ c.loop-first.invariant

pub returns : goal.returns
returns g c = sym (none_left c.loop-first.members c.loop-first.rest.now c.in_default.ensures.cases) ∙ c.loop-first.invariant

use Rattle.std.proofs.Common.{◌≡◌, [], ◌++◌, drop, codes}
use Rattle.nv_base.specs.Growth.{GrowsAtEnd}
use Rattle.act_core.specs.Text.{joined, action_text}
use Rattle.act_core.proofs.text.put_actions.Given as goal

-- with the text of the actions that are left, what is there is the whole
abbrev pub invariant-loop-action : goal.invariant-loop-action
invariant-loop-action l = record {
  grown : GrowsAtEnd l.fn.out.items l.out.items;
  whole : l.out.items ++ joined action_text l.front (codes " ") (drop l.action-index l.actions) ≡ l.fn.out.items ++ joined action_text [] (codes " ") l.actions;
}

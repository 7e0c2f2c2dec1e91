use Rattle.std.proofs.Common.{◌≡◌, [], ◌++◌, drop, codes}
use Rattle.nv_base.specs.Growth.{GrowsAtEnd}
use Rattle.act_core.specs.Text.{joined, target_text}
use Rattle.act_core.proofs.text.step.put_targets.Given as goal

-- with the text of the targets that are left, what is there is the whole
abbrev pub invariant-loop-target : goal.invariant-loop-target
invariant-loop-target l = record {
  grown : GrowsAtEnd l.fn.out.items l.out.items;
  whole : l.out.items ++ joined target_text l.front (codes ",") (drop l.target-index l.targets) ≡ l.fn.out.items ++ joined target_text [] (codes ",") l.targets;
}

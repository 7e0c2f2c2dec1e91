use Rattle.std.proofs.Common.{◌≡◌, [], length, sym, ap}
use Rattle.std.proofs.lemmas.Bool.{eqb-false}
use Rattle.expr_parse.proofs.Chains.{match_fails, not_finished}
use Rattle.expr_parse.proofs.reader.match_of.Goals as goal
use Rattle.expr_parse.proofs.reader.match_of.Goals.{else-is_empty-via-then-is_empty+else-end-len, else-is_empty-via-else-is_empty}

pub returns-in_err-tree-clause-fault : goal.returns-in_err-tree-clause-fault
returns-in_err-tree-clause-fault c = match_fails c.from_residual.result _ _ _ c.from_residual.ensures.1 c.in_err-tree.ensures.reads

pub returns-else-is_empty-clause-fault : goal.returns-else-is_empty-clause-fault
returns-else-is_empty-clause-fault c =
    let never : c.in_ok-tree.rest.now ≡ [] → c.args.end ≡ c.args.len → ⊥ = elim c.else-is_empty.branch [
      | else-is_empty-via-then-is_empty+else-end-len w ↦ λ none same. w.if-end-len.false same
      | else-is_empty-via-else-is_empty w ↦ λ none same. eqb-false _ _ (sym w.if-is_empty.ensures) (ap length none)
    ] in
    λ other. rw (c.in_ok-tree.ensures.reads, c.stuck.ensures) (not_finished c.args.len c.args.end _ c.in_ok-tree.rest.now never)

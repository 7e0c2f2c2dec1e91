use Rattle.std.proofs.Common.{◌≡◌, ℕ, false, [], length, IfOk, IfErr, ap, subst, ◌∙◌, arith}
use Rattle.expr_parse.proofs.Words.{seen, match_of, is_memory, Read, Fails, Tokens}
use Rattle.expr_parse.proofs.reader.parse_match.Goals as goal

pub returns-clause-tree : goal.returns-clause-tree
returns-clause-tree c =
    let P : Tokens × ℕ → Type 0 = λ ts. IfOk c.match_of.result (λ e. match_of (length c.args.text.now) ts ≡ Read e []) in
    subst P (ap (λ ts. (seen ts, c.in_ok-tokens.end)) c.deref.ensures.value ∙ c.in_ok-tokens.ensures.all (omega arith)) c.match_of.ensures.tree

pub returns-clause-fault : goal.returns-clause-fault
returns-clause-fault c =
    let P : Tokens × ℕ → Type 0 = λ ts. IfErr c.match_of.result (λ f. is_memory f ≡ false → match_of (length c.args.text.now) ts ≡ Fails f) in
    subst P (ap (λ ts. (seen ts, c.in_ok-tokens.end)) c.deref.ensures.value ∙ c.in_ok-tokens.ensures.all (omega arith)) c.match_of.ensures.fault

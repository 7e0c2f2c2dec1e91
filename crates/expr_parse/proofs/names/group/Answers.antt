use Rattle.std.proofs.Common.{◌≡◌, ℕ, List, Some, None, subst}
use Rattle.expr_parse.proofs.Words.{take_rest, front_name, Group}
use Rattle.expr_parse.specs.declared.class.Class.TheVariants.{At}
use Rattle.expr_parse.proofs.Fronts.{told, fronts}
use Rattle.expr_parse.proofs.TokenFronts.{mark_none, mark_some}
use Rattle.expr_parse.proofs.names.group.Goals as goal

pub returns-in_err-name : goal.returns-in_err-name
returns-in_err-name c =
    let text = c.args.text.now in
    let missing = subst (λ (xs : List ℕ). None ≡ front_name xs) (take_rest text 1) c.in_err-name.ensures in
    rw c.from_residual.ensures (mark_none 64 Group text c.requires.some (told _ At c.requires.first)
    (λ k low. fronts At text k c.requires.some c.requires.first low) missing)

pub returns : goal.returns
returns c =
    let text = c.args.text.now in
    let name = c.in_ok-name.name.now in
    let there = subst (λ (xs : List ℕ). Some name ≡ front_name xs) (take_rest text 1) c.in_ok-name.ensures in
    mark_some 64 Group text name c.requires.some (told _ At c.requires.first) (λ k low. fronts At text k c.requires.some c.requires.first low) there

use Rattle.std.proofs.Common.{◌≡◌, ℕ, List, Some, None, subst}
use Rattle.expr_parse.proofs.Words.{take_rest, front_name, AddrSet}
use Rattle.expr_parse.specs.declared.class.Class.TheVariants.{Dollar}
use Rattle.expr_parse.proofs.Fronts.{told, fronts}
use Rattle.expr_parse.proofs.TokenFronts.{mark_none, mark_some}
use Rattle.expr_parse.proofs.names.address_set.Goals as goal

pub returns-in_err-name : goal.returns-in_err-name
returns-in_err-name c =
    let text = c.args.text.now in
    let missing = subst (λ (xs : List ℕ). None ≡ front_name xs) (take_rest text 1) c.in_err-name.ensures in
    rw c.from_residual.ensures (mark_none 36 AddrSet text c.requires.some (told _ Dollar c.requires.first)
    (λ k low. fronts Dollar text k c.requires.some c.requires.first low) missing)

pub returns : goal.returns
returns c =
    let text = c.args.text.now in
    let name = c.in_ok-name.name.now in
    let there = subst (λ (xs : List ℕ). Some name ≡ front_name xs) (take_rest text 1) c.in_ok-name.ensures in
    mark_some 36 AddrSet text name c.requires.some (told _ Dollar c.requires.first)
    (λ k low. fronts Dollar text k c.requires.some c.requires.first low) there

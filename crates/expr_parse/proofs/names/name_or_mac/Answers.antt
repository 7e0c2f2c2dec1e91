use Rattle.std.proofs.Common.{Some, ◌<◌, ◌∙◌, ap, arith}
use Rattle.expr_parse.specs.Token.Token.{Number}
use Rattle.std.proofs.lemmas.Option.{none-some, same_Some}
use Rattle.expr_parse.proofs.Words.{prefix_len, is_in_name}
use Rattle.expr_parse.proofs.TokenFronts.{mac_wins, name_wins, letter_name, name_length}
use Rattle.expr_parse.proofs.names.name_or_mac.Goals.{then-name-lt-MAC_LEN+in_default, else-name-lt-MAC_LEN}
use Rattle.expr_parse.proofs.names.name_or_mac.Goals as goal

pub returns-in_err-name : goal.returns-in_err-name
returns-in_err-name c = absurd (none-some _ (c.in_err-name.ensures ∙ letter_name c.args.text.now c.requires.some c.requires.first))

pub returns-in-Some : goal.returns-in-Some
returns-in-Some c =
    let text = c.args.text.now in
    let run = same_Some _ _ (c.in_ok-name.ensures ∙ letter_name text c.requires.some c.requires.first) in
    let short : prefix_len is_in_name text < 17 = omega (arith, name_length text c.in_ok-name.name.now run) in
    ap (λ n. Some (Number n, 17)) c.of.ensures ∙ mac_wins text c.in-Some.mac c.requires.some c.requires.first short c.in-Some.ensures

pub returns : goal.returns
returns c =
    let text = c.args.text.now in
    let run = same_Some _ _ (c.in_ok-name.ensures ∙ letter_name text c.requires.some c.requires.first) in
    let long = name_length text c.in_ok-name.name.now run in
    rw (long, run) (name_wins text c.requires.some c.requires.first (λ short. elim c.if-name-lt-MAC_LEN.branch [
      | then-name-lt-MAC_LEN+in_default w ↦ w.in_default.ensures
      | else-name-lt-MAC_LEN w ↦ absurd (omega (arith, long))
    ]))

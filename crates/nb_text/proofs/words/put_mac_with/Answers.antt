use Rattle.std.proofs.Common.{sym, ◌∙◌}
use Rattle.std.proofs.lemmas.Result.{on_err_weaker}
use Rattle.nb_text.proofs.Appends.{grown_by_none}
use Rattle.nb_text.proofs.Quoted.{mac_alone, mac_with_some}
use Rattle.nb_text.proofs.words.put_mac_with.Goals as goal

pub returns-then-is_empty-clause-ok : goal.returns-then-is_empty-clause-ok
returns-then-is_empty-clause-ok g c =
    rw (mac_alone g.W.Word.text c.args.mac c.args.words.now (sym c.is_empty.ensures ∙ c.if-is_empty.true)) c.put_mac.ensures.ok

pub returns-then-is_empty-clause-err : goal.returns-then-is_empty-clause-err
returns-then-is_empty-clause-err g c = on_err_weaker c.put_mac.result (λ same. grown_by_none _ _ same) c.put_mac.ensures.err

pub returns-else-is_empty-clause-ok : goal.returns-else-is_empty-clause-ok
returns-else-is_empty-clause-ok g c =
    rw (mac_with_some g.W.Word.text c.args.mac c.args.words.now (sym c.is_empty.ensures ∙ c.if-is_empty.false)) c.put_quoted_mac.ensures.ok

pub returns-else-is_empty-clause-err : goal.returns-else-is_empty-clause-err
returns-else-is_empty-clause-err g c = c.put_quoted_mac.ensures.err

use Rattle.std.proofs.Common.{refl, sym, ap, ◌∙◌, subst, arith}
use Rattle.std.proofs.lemmas.List.{at_drop_all}
use Rattle.std.proofs.lemmas.Result.{err_from_is_err_and}
use Rattle.nb_words.specs.Fault.{IsFaultOf}
use Rattle.nv_base.specs.Mac.{mac_of}
use Rattle.nb_read.specs.Readings.{member_of}
use Rattle.nb_read.specs.Lists.{members}
use Rattle.nb_read.proofs.Loops.{goes_on, stops}
use Rattle.nb_read.proofs.sets.members.Goals as goal

pub loop-word-preserved : goal.loop-word-preserved
loop-word-preserved c =
    let l = c.loop-word in
    let same = ap (λ text. member_of l.at text (mac_of text)) c.as_slice.ensures in
    let read = sym same ∙ c.in_ok-member.ensures.read in
    record {
      number = omega (arith, l.invariant.number);
      same = goes_on members (λ number before text. member_of number text (mac_of text)) (λ before number word words. refl) c.args.words.now l.word-index c.word-item.result l.found _ l.at _ c.loop-word-test.true c.word-item.is read c.in_ok-push.ensures.ok ∙ l.invariant.same;
    }

pub returns-clause-read : goal.returns-clause-read
returns-clause-read c =
    let l = c.loop-word in
    sym l.invariant.same ∙ at_drop_all (members l.found l.at) c.args.words.now _ c.loop-word-test.false

pub returns-in_err-member-clause-refused : goal.returns-in_err-member-clause-refused
returns-in_err-member-clause-refused c =
    let l = c.loop-word in
    let same = ap (λ text. member_of l.at text (mac_of text)) c.as_slice.ensures in
    let refused = subst (λ reading. IsFaultOf reading c.in_err-member.field-0.0) same c.in_err-member.ensures.refused in
    let p = err_from_is_err_and c.from_residual.result c.from_residual.ensures.1 in
    rw (p.1, p.2)
    (stops members (λ number before text. member_of number text (mac_of text)) (λ before number word words. refl) c.args.words.now l.word-index c.word-item.result l.found l.at _ _ c.loop-word-test.true c.word-item.is l.invariant.same refused)

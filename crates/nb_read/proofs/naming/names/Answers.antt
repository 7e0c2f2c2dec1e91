use Rattle.std.proofs.Common.{refl, sym, ap, ◌∙◌, subst, arith}
use Rattle.std.proofs.lemmas.List.{at_drop_all}
use Rattle.std.proofs.lemmas.Result.{err_from_is_err_and}
use Rattle.nb_words.specs.Fault.{IsFaultOf}
use Rattle.nb_read.specs.Readings.{object_name}
use Rattle.nb_read.specs.Lists.{names}
use Rattle.nb_read.proofs.Loops.{goes_on, stops}
use Rattle.nb_read.proofs.naming.names.Goals as goal

pub loop-word-preserved : goal.loop-word-preserved
loop-word-preserved c =
    let l = c.loop-word in
    let same = ap (λ text. object_name l.at text) c.as_slice.ensures in
    let read = sym same ∙ c.in_ok-object_name.ensures.read in
    record {
      number = omega (arith, l.invariant.number);
      same = goes_on names (λ number before text. object_name number text) (λ before number word words. refl) c.args.words.now l.word-index c.word-item.result l.found _ l.at _ c.loop-word-test.true c.word-item.is read c.in_ok-push.ensures.ok ∙ l.invariant.same;
    }

pub returns-clause-read : goal.returns-clause-read
returns-clause-read c =
    let l = c.loop-word in
    sym l.invariant.same ∙ at_drop_all (names l.found l.at) c.args.words.now _ c.loop-word-test.false

pub returns-in_err-object_name-clause-refused : goal.returns-in_err-object_name-clause-refused
returns-in_err-object_name-clause-refused c =
    let l = c.loop-word in
    let same = ap (λ text. object_name l.at text) c.as_slice.ensures in
    let refused = subst (λ reading. IsFaultOf reading c.in_err-object_name.field-0.0) same c.in_err-object_name.ensures.refused in
    let p = err_from_is_err_and c.from_residual.result c.from_residual.ensures.1 in
    rw (p.1, p.2)
    (stops names (λ number before text. object_name number text) (λ before number word words. refl) c.args.words.now l.word-index c.word-item.result l.found l.at _ _ c.loop-word-test.true c.word-item.is l.invariant.same refused)

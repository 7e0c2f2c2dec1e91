use Rattle.std.proofs.Common.{drop, sym, ap, ◌∙◌, subst, arith}
use Rattle.std.proofs.lemmas.List.{at_drop_all, take_rest}
use Rattle.std.proofs.lemmas.Result.{err_from_is_err_and}
use Rattle.nb_words.specs.Fault.{IsFaultOf}
use Rattle.nb_read.specs.Readings.{object_name}
use Rattle.nb_read.specs.Lists.{port_options}
use Rattle.nb_read.proofs.PortOptions.{name_read, name_refused}
use Rattle.nb_read.proofs.options.port_options.Goals as goal

pub loop-word-preserved : goal.loop-word-preserved
loop-word-preserved c =
    let l = c.loop-word in
    let sets = sym c.is_router_port.ensures ∙ c.if-not-is_router_port.false in
    let same = ap (object_name l.at) (take_rest c.as_slice.result.now 12 ∙ ap (drop 12) c.as_slice.ensures) in
    record {
      number = omega (arith, l.invariant.number);
      same = name_read c.args.words.now l.word-index c.word-item.result l.found l.at c.loop-word-test.true c.word-item.is sets _ (sym same ∙ c.in_ok-object_name.ensures.read) ∙ l.invariant.same;
    }

pub returns-clause-read : goal.returns-clause-read
returns-clause-read c =
    let l = c.loop-word in
    sym l.invariant.same ∙ at_drop_all (port_options l.found l.at) c.args.words.now _ c.loop-word-test.false

pub returns-in_err-object_name-clause-refused : goal.returns-in_err-object_name-clause-refused
returns-in_err-object_name-clause-refused c =
    let l = c.loop-word in
    let sets = sym c.is_router_port.ensures ∙ c.if-not-is_router_port.false in
    let same = ap (object_name l.at) (take_rest c.as_slice.result.now 12 ∙ ap (drop 12) c.as_slice.ensures) in
    let refused = subst (λ reading. IsFaultOf reading c.in_err-object_name.field-0.0) same c.in_err-object_name.ensures.refused in
    let p = err_from_is_err_and c.from_residual.result c.from_residual.ensures.1 in
    rw (p.1, p.2) (name_refused c.args.words.now l.word-index c.word-item.result l.found l.at c.loop-word-test.true c.word-item.is sets _ _ l.invariant.same refused)

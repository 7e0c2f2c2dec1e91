use Rattle.std.proofs.Common.{◌++◌, option_map, sym, ap, ◌∙◌}
use Rattle.nb_words.proofs.LineWords.{separator_passed, word_begun, word_read, all_read}
use Rattle.nb_words.proofs.word.words_of.Goals as goal

pub loop-first-preserved : goal.loop-first-preserved
loop-first-preserved c =
    separator_passed c.loop-first.words c.loop-first.left.now c.in-Some.after.now c.args.line.now c.in-Some.first.now c.in-Some.ensures.cases.0 (sym c.if-not-is_separator.false ∙ c.is_separator.ensures) c.loop-first.invariant

pub loop-first-preserved-in-Some-2 : goal.loop-first-preserved-in-Some-2
loop-first-preserved-in-Some-2 c =
    let l = c.loop-first in
    let begun = word_begun l.words l.left.now c.in-Some.after.now c.args.line.now c.in-Some.first.now c.in-Some.ensures.cases.0 (sym c.if-not-is_separator.true ∙ c.is_separator.ensures) l.invariant in
    let front = rw c.in-Some-2.is at c.in_ok-front.ensures in
    word_read l.words _ c.in-Some-2.front.word _ c.in-Some-2.front.rest.now c.args.line.now c.in_ok-push-in-Some-2.ensures.ok front.1 begun

pub returns : goal.returns
returns c = all_read c.loop-first.words c.loop-first.left.now c.args.line.now c.in_default.ensures.cases c.loop-first.invariant

pub returns-in-None : goal.returns-in-None
returns-in-None c =
    let l = c.loop-first in
    let begun = word_begun l.words l.left.now c.in-Some.after.now c.args.line.now c.in-Some.first.now c.in-Some.ensures.cases.0 (sym c.if-not-is_separator.true ∙ c.is_separator.ensures) l.invariant in
    let none = rw c.in-None.is at c.in_ok-front.ensures in
    ap (option_map (λ more. l.words ++ more)) (sym none) ∙ begun

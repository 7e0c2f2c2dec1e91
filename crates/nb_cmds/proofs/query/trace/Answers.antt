use Rattle.std.proofs.Common.{◌-◌, drop, length}
use Rattle.std.proofs.lemmas.List.{take_rest}
use Rattle.nb_cmds.proofs.Known.{is_minimal_once, is_minimal_twice, read_as, refused_as}
use Rattle.nb_cmds.proofs.Small.{front_short, rest_is_short}
use Rattle.nb_cmds.proofs.query.trace.Goals as goal

pub returns-then-before-after-gt1-clause-refused : goal.returns-then-before-after-gt1-clause-refused
returns-then-before-after-gt1-clause-refused c =
    is_minimal_twice c.args.before c.args.number c.args.words.now (rw c.minimal_after-after.ensures.count at c.if-before-after-gt1.true)

pub traced-requires : goal.traced-requires
traced-requires c =
    let words = c.args.words.now in
    let after = c.minimal_after-after.result in
    front_short (length words - after) (drop after words) (rest_is_short after words c.requires.short)

pub returns-clause-read : goal.returns-clause-read
returns-clause-read c =
    let same = is_minimal_once c.args.before c.args.number c.args.words.now (rw c.minimal_after-after.ensures.count at c.if-before-after-gt1.false) in
    read_as _ _ _ same (rw (take_rest, c.minimal_after-after.ensures.count) at c.traced.ensures.read)

pub returns-clause-refused : goal.returns-clause-refused
returns-clause-refused c =
    let same = is_minimal_once c.args.before c.args.number c.args.words.now (rw c.minimal_after-after.ensures.count at c.if-before-after-gt1.false) in
    refused_as _ _ _ same (rw (take_rest, c.minimal_after-after.ensures.count) at c.traced.ensures.refused)

use Rattle.std.proofs.Common.{◌-◌, [], ◌∷◌, length, length-append, refl, ap, ◌∙◌, arith}
use Rattle.expr_parse.specs.inner.Borrowed.{token_of}
use Rattle.expr_parse.proofs.Lexing.{token_within, begins, goes_on}
use Rattle.expr_parse.proofs.lexer.first_tokens.Goals as goal

pub loop-found-init : goal.loop-found-init
loop-found-init c =
    let text = c.args.text.now in
    record {
      within = c.after_blanks-at.ensures.within;
      few = omega (arith, ap length c.new-tokens.ensures.items);
      same = (length text, omega arith, begins c.new-tokens.result.items text c.after_blanks-at.result c.new-tokens.ensures.items c.after_blanks-at.ensures.value);
    }

pub overflow_add-at : goal.overflow_add-at
overflow_add-at c =
    let l = c.loop-found in
    let f = c.in-Some.found in
    omega (arith, (token_within c.args.text.now l.at f.len (token_of f.token) l.invariant.within c.in-Some.ensures).2)

pub loop-found-smaller : goal.loop-found-smaller
loop-found-smaller c =
    let l = c.loop-found in
    let f = c.in-Some.found in
    let room = token_within c.args.text.now l.at f.len (token_of f.token) l.invariant.within c.in-Some.ensures in
    omega (arith, room.1, room.2, c.after_blanks-at-in-Some.ensures.value)

pub loop-found-preserved : goal.loop-found-preserved
loop-found-preserved c =
    let text = c.args.text.now in
    let l = c.loop-found in
    let f = c.in-Some.found in
    let next = c.after_blanks-at-in-Some in
    let room = token_within text l.at f.len (token_of f.token) l.invariant.within c.in-Some.ensures in
    let rest = l.invariant.same in
    record {
      within = next.ensures.within;
      few = omega (
        arith,
        l.invariant.few,
        room.1,
        next.ensures.value,
        ap length c.in_ok-push.ensures.items,
        length-append l.tokens.items
            (record { offset = l.at; token = f.token } ∷ []),
      );
      same = (rest.0 - 1, omega (arith, rest.1, room.1, room.2, next.ensures.value), goes_on l.tokens.items c.push.new.self.items (record { offset = l.at; token = f.token }) text l.at next.result rest.0 f.len room.0 refl (omega (arith, rest.1, room.1, room.2)) c.in_ok-push.ensures.items next.ensures.value ∙ rest.2);
    }

pub after_blanks-at-requires-in-Some-clause-within : goal.after_blanks-at-requires-in-Some-clause-within
after_blanks-at-requires-in-Some-clause-within c =
    let l = c.loop-found in
    let f = c.in-Some.found in
    (token_within c.args.text.now l.at f.len (token_of f.token) l.invariant.within c.in-Some.ensures).2

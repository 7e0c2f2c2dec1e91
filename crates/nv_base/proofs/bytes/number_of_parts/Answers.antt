use Rattle.std.proofs.Common.{◌≡◌, ◌+◌, ◌-◌, suc, sym, ◌∙◌, arith}
use Rattle.nv_base.specs.inner.Bytes.{byte_of}
use Rattle.nv_base.proofs.Parts.{fits, stops_early, stops_late, stops_at, goes_on, ends, ends_at, around_by_some, around_by_none}
use Rattle.nv_base.proofs.bytes.number_of_parts.Goals as goal

pub returns-in_err-part-clause-value : goal.returns-in_err-part-clause-value
returns-in_err-part-clause-value c =
    let l = c.loop-seen in
    rw c.from_residual.ensures (sym (stops_early (byte_of c.args.spelling) c.args.separator l.value (c.args.count - l._seen) l.rest.now (omega arith) c.in_err-part.ensures) ∙ l.invariant.same)

pub returns-in_err-byte-clause-value : goal.returns-in_err-byte-clause-value
returns-in_err-byte-clause-value c =
    let l = c.loop-seen in
    rw c.from_residual-in_err-byte.ensures (sym (stops_at (byte_of c.args.spelling) c.args.separator l.value (c.args.count - l._seen) l.rest.now _ _ c.in_ok-part.ensures c.in_err-byte.ensures.value) ∙ l.invariant.same)

pub overflow_mul-value : goal.overflow_mul-value
overflow_mul-value c =
    let room = fits c.loop-seen.value c.loop-seen._seen c.args.count c.in_ok-byte.byte (omega arith) (omega arith) c.loop-seen.invariant.small c.in_ok-byte.ensures.small in
    omega (arith, room.1)

pub overflow_add-value : goal.overflow_add-value
overflow_add-value c =
    let room = fits c.loop-seen.value c.loop-seen._seen c.args.count c.in_ok-byte.byte (omega arith) (omega arith) c.loop-seen.invariant.small c.in_ok-byte.ensures.small in
    omega (arith, room.1)

pub loop-seen-preserved : goal.loop-seen-preserved
loop-seen-preserved c =
    let l = c.loop-seen in
    let room = fits l.value l._seen c.args.count c.in_ok-byte.byte (omega arith) (omega arith) l.invariant.small c.in_ok-byte.ensures.small in
    let left : c.args.count - l._seen ≡ suc (c.args.count - (l._seen + 1)) = omega arith in
    record {
      small = room.0;
      same = goes_on (byte_of c.args.spelling) c.args.separator l.value (c.args.count - l._seen) (c.args.count - (l._seen + 1)) c.in_ok-byte.byte l.rest.now _ _ left c.in_ok-part.ensures c.in_ok-byte.ensures.value ∙ l.invariant.same;
    }

pub returns-then-is_some-clause-value : goal.returns-then-is_some-clause-value
returns-then-is_some-clause-value c =
    let l = c.loop-seen in
    let found = around_by_some _ c.args.separator l.rest.now _ c.around_first-2.ensures (sym c.is_some.ensures ∙ c.if-is_some.true) in
    let one : c.args.count - l._seen ≡ 1 = omega arith in
    let last = rw one at l.invariant.same in
    sym (stops_late (byte_of c.args.spelling) c.args.separator l.value l.rest.now _ _ found.1) ∙ last

pub returns-in_err-last-clause-value : goal.returns-in_err-last-clause-value
returns-in_err-last-clause-value c =
    let l = c.loop-seen in
    let none = around_by_none _ c.args.separator l.rest.now _ c.around_first-2.ensures (sym c.is_some.ensures ∙ c.if-is_some.false) in
    let one : c.args.count - l._seen ≡ 1 = omega arith in
    let last = rw one at l.invariant.same in
    rw c.from_residual-in_err-last.ensures (sym (ends_at (byte_of c.args.spelling) c.args.separator l.value l.rest.now none c.in_err-last.ensures.value) ∙ last)

pub overflow_mul-result : goal.overflow_mul-result
overflow_mul-result c =
    let room = fits c.loop-seen.value c.loop-seen._seen c.args.count c.in_ok-last.last (omega arith) (omega arith) c.loop-seen.invariant.small c.in_ok-last.ensures.small in
    omega (arith, room.1)

pub overflow_add-result : goal.overflow_add-result
overflow_add-result c =
    let room = fits c.loop-seen.value c.loop-seen._seen c.args.count c.in_ok-last.last (omega arith) (omega arith) c.loop-seen.invariant.small c.in_ok-last.ensures.small in
    omega (arith, room.1)

pub returns-clause-value : goal.returns-clause-value
returns-clause-value c =
    let l = c.loop-seen in
    let none = around_by_none _ c.args.separator l.rest.now _ c.around_first-2.ensures (sym c.is_some.ensures ∙ c.if-is_some.false) in
    let one : c.args.count - l._seen ≡ 1 = omega arith in
    let last = rw one at l.invariant.same in
    sym (ends (byte_of c.args.spelling) c.args.separator l.value c.in_ok-last.last l.rest.now none c.in_ok-last.ensures.value) ∙ last

pub returns-clause-small : goal.returns-clause-small
returns-clause-small c =
    let l = c.loop-seen in
    let room = fits l.value l._seen c.args.count c.in_ok-last.last (omega arith) (omega arith) l.invariant.small c.in_ok-last.ensures.small in
    let all : l._seen + 1 ≡ c.args.count = omega arith in
    rw (sym all) room.0

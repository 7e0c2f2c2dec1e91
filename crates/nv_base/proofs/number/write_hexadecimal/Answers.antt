use Rattle.std.proofs.Common.{◌≡◌, ◌-◌, length, ◌∙◌, arith}
use Rattle.std.proofs.lemmas.List.{length-set}
use Rattle.nv_base.proofs.Hexadecimal.{begins, goes_on, ends, fits}
use Rattle.nv_base.proofs.number.write_hexadecimal.Goals as goal

pub loop-rest-init : goal.loop-rest-init
loop-rest-init c =
    let long : length c.args.text.now ≡ 34 = omega arith in
    record {
      within = omega arith;
      begins = omega arith;
      long = long;
      small = omega (arith, c.ranges.value.fits);
      same = begins c.args.value c.args.text.now long;
    }

pub loop-rest-preserved : goal.loop-rest-preserved
loop-rest-preserved c =
    let l = c.loop-rest in
    let room = fits l.at l.rest (omega arith) (omega arith) l.invariant.small in
    record {
      within = omega arith;
      begins = room.0;
      long = omega (arith, length-set l.text (l.at - 1) c.hex_digit.result);
      small = room.1;
      same = rw c.hex_digit.ensures (goes_on l.at l.rest l.text (omega arith) (omega arith) (omega arith) ∙ l.invariant.same);
    }

pub returns-clause-written : goal.returns-clause-written
returns-clause-written c =
    let l = c.loop-rest in
    rw c.hex_digit-2.ensures (ends l.at l.rest l.text (omega arith) (omega arith) (omega arith) ∙ l.invariant.same)

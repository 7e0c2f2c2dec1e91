use Rattle.std.proofs.Common.{◌≡◌, ok_or, Ok}
use Rattle.nv_base.specs.Number.{number_of}
use Rattle.nv_base.specs.Text.{bad_text}
use Rattle.nb_read.proofs.Numbers.{not_below}
use Rattle.nb_read.proofs.words.small_number.Goals as goal

pub returns-else-value-lt32768 : goal.returns-else-value-lt32768
returns-else-value-lt32768 c =
    let read : ok_or (number_of c.args.text.now) bad_text ≡ Ok c.in-Ok.value = cc in
    not_below (number_of c.args.text.now) c.in-Ok.value 32768 bad_text read c.if-value-lt32768.false

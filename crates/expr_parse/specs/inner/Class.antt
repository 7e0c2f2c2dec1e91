-- What the first byte of a token says of its kind.
use Rattle.std.specs.Prelude.{ℕ, ◌==◌, if◌then◌else◌}
use Rattle.expr_parse.specs.Class.{is_between, begins_name}
use Rattle.expr_parse.specs.declared.class.Class.{Class}
use Rattle.expr_parse.specs.declared.class.Class.TheVariants.{Letter, Digit, Quote, Dollar, At, Other}

-- the class of a byte: a name or a MAC begins with a letter, a constant with a digit
abbrev pub class_of : ℕ → Class
class_of byte =
    if begins_name byte then Letter
    else (if is_between 48 57 byte then Digit
    else (if byte == 34 then Quote
    else (if byte == 36 then Dollar
    else (if byte == 64 then At else Other))))

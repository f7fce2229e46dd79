use Rattle.std.proofs.Common.{ap, length, arith}
use Rattle.gv_model.specs.Characters.{is_digit_of}
use Rattle.gv_syntax.proofs.EscapeLaws.{digits_fit}
use Rattle.gv_syntax.proofs.lexing.part.octal_escape.Goals as goal

pub returns-in-Ok-clause-within : goal.returns-in-Ok-clause-within
returns-in-Ok-clause-within c =
    let fits = digits_fit (is_digit_of 8) 3 c.args.text.now in
    (omega arith, omega (arith, ap length c.leading_digits-digits.ensures, fits.1))

pub returns-in-Err-clause-within : goal.returns-in-Err-clause-within
returns-in-Err-clause-within c =
    let fits = digits_fit (is_digit_of 8) 3 c.args.text.now in
    (omega arith, omega (arith, ap length c.leading_digits-digits.ensures, fits.1))

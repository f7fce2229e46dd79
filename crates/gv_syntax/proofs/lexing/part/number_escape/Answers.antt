use Rattle.std.proofs.Common.{ap, length, arith}
use Rattle.gv_model.specs.Characters.{is_digit_of}
use Rattle.gv_syntax.proofs.EscapeLaws.{digits_fit, last_digit_low}
use Rattle.gv_syntax.proofs.lexing.part.number_escape.Goals as goal

pub returns-in-Some-clause-within : goal.returns-in-Some-clause-within
returns-in-Some-clause-within c = λ x.
    let fits = digits_fit (is_digit_of 16) c.args.wanted c.args.text.now in
    (omega arith, omega (arith, ap length c.leading_digits-digits.ensures, fits.1))

pub returns-in-Some-clause-ascii : goal.returns-in-Some-clause-ascii
returns-in-Some-clause-ascii c = λ x.
    last_digit_low c.args.wanted x c.args.text.now _ (omega (arith, c.if-found-wanted.true, c.requires.0)) (ap length c.leading_digits-digits.ensures)

pub returns-in_default-clause-within : goal.returns-in_default-clause-within
returns-in_default-clause-within c = λ x.
    let fits = digits_fit (is_digit_of 16) c.args.wanted c.args.text.now in
    (omega arith, omega (arith, ap length c.leading_digits-digits.ensures, fits.1))

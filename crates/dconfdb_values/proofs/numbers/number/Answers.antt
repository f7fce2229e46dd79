use Rattle.std.proofs.Common.{◌≡◌, false, true, refl, arith}
use Rattle.gv_types.specs.Classes.{basic_of}
use Rattle.dconfdb_values.proofs.NumberLaws.{asked_first, asked_number, no_first, no_number}
use Rattle.dconfdb_values.proofs.numbers.number.Goals as goal

pub returns-in_default-clause-some : goal.returns-in_default-clause-some
returns-in_default-clause-some c = (λ e. absurd cc, λ h. absurd (no_number c.args.type_text.now c.args.letter (λ one. omega (arith, one, c.in_default.len_below)) h))

pub returns-in_default-2-clause-some : goal.returns-in_default-2-clause-some
returns-in_default-2-clause-some c = (λ e. absurd cc, λ h. absurd (no_number c.args.type_text.now c.args.letter (λ one. omega (arith, one, c.in_default.len_at_least)) h))

pub returns-then-not-is_asked_as-clause-some : goal.returns-then-not-is_asked_as-clause-some
returns-then-not-is_asked_as-clause-some c = (
  λ e. absurd cc,
  λ h.
      let yes : c.is_asked_as.result ≡ true = c.is_asked_as.ensures.1 (asked_first c.args.type_text.now c.args.letter (omega (arith, c.in-len1.len_at_least, c.in-len1.len_below)) h) in
      let other : c.is_asked_as.result ≡ false = c.if-not-is_asked_as.true in
      absurd cc,
)

pub returns-in_err-type_of-clause-some : goal.returns-in_err-type_of-clause-some
returns-in_err-type_of-clause-some c = rw c.from_residual.ensures (
  λ e. absurd cc,
  λ h. absurd (no_first c.args.type_text.now c.args.letter (omega (arith, c.in-len1.len_at_least, c.in-len1.len_below)) c.in_err-type_of.ensures h),
)

pub returns-clause-some : goal.returns-clause-some
returns-clause-some c = (
  λ e. (
    basic_of c.in_ok-type_of.field-0,
    asked_number c.args.type_text.now c.args.letter c.in_ok-type_of.field-0 (omega (arith, c.in-len1.len_at_least, c.in-len1.len_below)) c.in_ok-type_of.ensures
        (c.is_asked_as.ensures.0 c.if-not-is_asked_as.false),
  ),
  λ h. refl,
)

pub returns-clause-value : goal.returns-clause-value
returns-clause-value c = (
  basic_of c.in_ok-type_of.field-0,
  (
    asked_number c.args.type_text.now c.args.letter c.in_ok-type_of.field-0 (omega (arith, c.in-len1.len_at_least, c.in-len1.len_below)) c.in_ok-type_of.ensures
        (c.is_asked_as.ensures.0 c.if-not-is_asked_as.false),
    c.bits.ensures,
  ),
)

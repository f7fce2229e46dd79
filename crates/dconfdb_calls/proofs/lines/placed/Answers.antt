use Rattle.std.proofs.Common.{inr, refl, arith}
use Rattle.dconf_model.specs.Causes.SettingsCause.{too_many, user_not_first}
use Rattle.dconfdb_calls.specs.Named.{told}
use Rattle.dconfdb_calls.proofs.LineLaws.{not_first, too_many_at}
use Rattle.dconfdb_calls.proofs.lines.placed.Goals as goal
use Rattle.dconfdb_calls.proofs.lines.placed.Goals.{else-name-eq0-via-then-name-eq0+else-before-gt0, else-name-eq0-via-else-name-eq0}

pub returns-then-before-gt0-clause-fault : goal.returns-then-before-gt0-clause-fault
returns-then-before-gt0-clause-fault c =
    inr (user_not_first, not_first c.args.before (told c.args.name) c.if-name-eq0.true (omega (arith, c.if-before-gt0.true)), refl)

pub returns-then-before-ge-MAX_DATABASES-clause-fault : goal.returns-then-before-ge-MAX_DATABASES-clause-fault
returns-then-before-ge-MAX_DATABASES-clause-fault c =
    inr (
      too_many,
      too_many_at c.args.before (told c.args.name) (λ user some. elim c.else-name-eq0.branch [
        | else-name-eq0-via-then-name-eq0+else-before-gt0 w ↦ omega (arith, some, w.if-before-gt0.false)
        | else-name-eq0-via-else-name-eq0 w ↦ omega (arith, user, w.if-name-eq0.false)
      ]) (omega (arith, c.if-before-ge-MAX_DATABASES.true)),
      refl,
    )

use Rattle.std.proofs.Common.{◌≡◌, Bool, true, false, not, ap, refl, sym}
use Rattle.std.specs.Prelude.{◌↔◌, IsTrue}
use Rattle.gv_view.specs.Views.{value}
use Rattle.dconf_differences.specs.Differing.{same_tree}
use Rattle.dconf_differences.proofs.SameValueLaws.{told_apart}
use Rattle.dconf_compared.proofs.rows.is_other.Goals as goal

-- two tests of the same
one_test : {P : Type 0} (a b : Bool) → (IsTrue a ↔ P) → (IsTrue b ↔ P) → a ≡ b
one_test true b p q = sym (q.1 (p.0 refl))
one_test false true p q = p.1 (q.0 refl)
one_test false false p q = refl

pub returns-in_ok-same-in-Some-Some : goal.returns-in_ok-same-in-Some-Some
returns-in_ok-same-in-Some-Some c =
    let s = c.in-Some-Some in
    let v = value s.before in
    let w = value s.after in
    rw (s.is-0, s.is-1) (ap not (one_test c.in_ok-same-in-Some-Some.same (same_tree v w) c.in_ok-same-in-Some-Some.ensures (told_apart v w)))

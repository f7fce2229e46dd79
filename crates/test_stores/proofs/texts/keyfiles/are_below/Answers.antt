use Rattle.std.proofs.Common.{rules, tests, arith, IsTrue, ◌≡◌, true, refl, nat_eq}
use Rattle.std.specs.List.{starts_with}
use Rattle.std.proofs.lemmas.Iterator.{cases_from_all, YieldsList-from_slice}
use Rattle.std.proofs.lemmas.Bool.Decides.{when_true}
use Rattle.dconf_path.specs.Paths.{directory_text, key_text}
use Rattle.test_stores.proofs.texts.keyfiles.are_below.Goals as goal

pub returns : goal.returns
returns c holds k d inside =
    when_true _ _ holds (cases_from_all _ _ _ (λ x. IsTrue (starts_with nat_eq (key_text x.0) (directory_text c.args.directory))) (λ x. true ≡ true) c.all.ensures.ran
    (YieldsList-from_slice c.args.settings.now cc) (λ x q called. search (rules, tests)) (λ x q called. refl)) k d (omega (arith, inside)) inside

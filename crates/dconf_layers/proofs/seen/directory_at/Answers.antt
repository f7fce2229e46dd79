use Rattle.std.proofs.Common.{◌≡◌, ◌∙◌, ◌&&◌, [], ◌∷◌, Bool, false, true, ap, refl, sym}
use Rattle.std.proofs.lemmas.Bool.{false_from_ne_true}
use Rattle.std.proofs.lemmas.Str.Pattern.{ends_text}
use Rattle.dconf_model.specs.Paths.{ends_with_slash, is_directory_path, is_path}
use Rattle.dconf_layers.proofs.seen.directory_at.Goals as goal

never_both : (b : Bool) → (b && false) ≡ false
never_both true = refl
never_both false = refl

pub returns-then-not-ends_with-clause-none : goal.returns-then-not-ends_with-clause-none
returns-then-not-ends_with-clause-none c =
    let place = c.args.place.now in
    let other : ends_with_slash place ≡ false = sym (ends_text c.ends_with.result (47 ∷ []) place c.ends_with.ensures.cases) ∙ c.if-not-ends_with.true in
    ap (λ b. is_path place && b) other ∙ never_both (is_path place)

pub returns-in-Ok-clause-some : goal.returns-in-Ok-clause-some
returns-in-Ok-clause-some c = (c.in-Ok.ensures.found, c.in-Ok.ensures.accepts.0 refl)

pub returns-in-Err-clause-none : goal.returns-in-Err-clause-none
returns-in-Err-clause-none c =
    false_from_ne_true (is_directory_path c.args.place.now) (λ yes. let none : false ≡ true = c.in-Err.ensures.accepts.1 yes in cc)

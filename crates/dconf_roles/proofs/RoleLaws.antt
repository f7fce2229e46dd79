-- What `update` reads is looked at as that.
use Rattle.std.proofs.Common.{◌≡◌, ℕ, List, ◌++◌, ◌∙◌, Bool, true, false, ap, refl}
use Rattle.std.specs.Prelude.{codes, map, if◌then◌else◌}
use Rattle.dconf_model.specs.Updates.{is_shown}
use Rattle.dconf_roles.specs.declared.roles.Role.{Role}
use Rattle.dconf_roles.specs.Roles.{WhatUpdateReadsIsRead, as_file, in_folder, is_sources}

so : {X : Type 0} (is : Bool) (x y : X) → is ≡ true → (if is then x else y) ≡ x
so true x y e = refl
so false x y e = absurd (let bad : false ≡ true = e in cc)

not_so : {X : Type 0} (is : Bool) (x y : X) → is ≡ false → (if is then x else y) ≡ y
not_so true x y e = absurd (let bad : true ≡ false = e in cc)
not_so false x y e = refl

in_sources : (role : Role) (folder : List ℕ) → is_sources folder ≡ true → in_folder role folder ≡ Role.Keyfile
in_sources role folder s = so (is_sources folder) _ _ s

pub what_update_reads_is_read : WhatUpdateReadsIsRead
what_update_reads_is_read role folder file start s = record {
  keyfile = λ e. (ap (λ r. as_file r file) (in_sources role folder s) ∙ so (is_shown file) _ _ e, ap (map (λ name. start ++ name)) (so (is_shown file) _ _ e));
  lock_file = λ e. (ap (λ r. as_file (in_folder r (codes "locks")) file) (in_sources role folder s) ∙ so (is_shown file) _ _ e, ap (map (λ name. start ++ name)) (so (is_shown file) _ _ e));
  hidden = λ e. (ap (λ r. as_file r file) (in_sources role folder s) ∙ not_so (is_shown file) _ _ e, ap (map (λ name. start ++ name)) (not_so (is_shown file) _ _ e));
}

-- Of no folders.
use Rattle.std.proofs.Common.{ℕ, List, [], ◌∷◌, ◌≡◌, length, map, refl, sym, subst, arith}
use Rattle.dconf_roles.specs.Folders.{role_in, sources_in}
use Rattle.dconf_roles.specs.declared.roles.Role.{Role}
use Rattle.dconf_roles.specs.declared.slips.Name.{Name}

pub no_sources : (folders : List Name) → length folders ≡ 0 → 0 ≡ sources_in (map (λ (f : Name). f.text.now) folders)
unfolding sources_in
no_sources [] e = refl
no_sources (folder ∷ others) e = absurd (omega (arith, e))

pub first_sources : (folders : List Name) (folder : Name) (others : List Name) (found : ℕ) → folders ≡ folder ∷ others →
    found ≡ sources_in (map (λ (f : Name). f.text.now) (folder ∷ others)) → found ≡ sources_in (map (λ (f : Name). f.text.now) folders)
first_sources folders folder others found e is = subst (λ fs. found ≡ sources_in (map (λ (f : Name). f.text.now) fs)) (sym e) is

pub no_folders : (folders : List Name) (role : Role) → length folders ≡ 0 → role ≡ role_in (map (λ (f : Name). f.text.now) folders) role
unfolding role_in
no_folders [] role e = refl
no_folders (folder ∷ others) role e = absurd (omega (arith, e))

pub first_folder : (folders : List Name) (folder : Name) (others : List Name) (role found : Role) → folders ≡ folder ∷ others →
    found ≡ role_in (map (λ (f : Name). f.text.now) (folder ∷ others)) role → found ≡ role_in (map (λ (f : Name). f.text.now) folders) role
first_folder folders folder others role found e is = subst (λ fs. found ≡ role_in (map (λ (f : Name). f.text.now) fs) role) (sym e) is

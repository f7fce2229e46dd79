-- The path of what can't be said as a keyfile.
use Rattle.std.proofs.Common.{◌≡◌, ◌∙◌, ℕ, List, [], ◌∷◌, Bool, Option, Some, None, map, option_map, ap, refl, sym, string_bytes}
use Rattle.std.specs.Prelude.{String, unwrap_or}
use Rattle.std.specs.Global.{Global}
use Rattle.std.specs.List.{find, slice_get}
use Rattle.std.proofs.lemmas.Option.{slice_get-map}
use Rattle.dconf_model.proofs.ParentLaws.{by_bool}
use Rattle.dconf_model.specs.Keyfiles.{Setting}
use Rattle.dconf_model.specs.Outcomes.{path_at, setting_paths}
use Rattle.dconf_path.specs.declared.path.KeyPath.{KeyPath}
use Rattle.keyfile_core.specs.DumpRows.{setting_of}
use Rattle.keyfile_core.specs.declared.rows_fault.RowsCause.{RowsCause}
use Rattle.dconf_compared.specs.Undumpable.{OfPath}
use Rattle.dconf_compared.specs.declared.as_keyfile.Undumped.{Undumped}
use Rattle.dconf_compared.specs.declared.as_keyfile.Undumped.TheVariants.{Path, Memory}

pub of_path_also : (P Q : RowsCause → List ℕ → Type 0) (u : Undumped) → ((cause : RowsCause) (path : List ℕ) → P cause path → Q cause path) → OfPath P u → OfPath Q u
of_path_also P Q (Path cause path) also p = also cause (string_bytes path) p
of_path_also P Q Memory also p = tt

pub found_of_map : {X Y : Type 0} (test : Y → Bool) (f : X → Y) (xs : List X) → find test (map f xs) ≡ option_map f (find (λ x. test (f x)) xs)
found_of_map test f [] = refl
found_of_map test f (x ∷ xs) =
    by_bool (test (f x)) (find test (map f (x ∷ xs)) ≡ option_map f (find (λ x. test (f x)) (x ∷ xs))) (λ yes. rw yes refl) (λ other. rw other (found_of_map test f xs))

-- ---- the path of a row

path_in : Option (KeyPath × String Global) → List ℕ
path_in found = unwrap_or (option_map (λ (s : Setting). s.path) (option_map setting_of found)) []

at_row : (rows : List (KeyPath × String Global)) (row : ℕ) → path_at (setting_paths (map setting_of rows)) row ≡ path_in (slice_get rows row)
unfolding path_in
at_row rows row =
    ap (λ (o : Option (List ℕ)). unwrap_or o []) (slice_get-map (λ (s : Setting). s.path) (map setting_of rows) row
    ∙ ap (option_map (λ (s : Setting). s.path)) (slice_get-map setting_of rows row))

pub row_path : (rows : List (KeyPath × String Global)) (row : ℕ) (x : KeyPath × String Global) → slice_get rows row ≡ Some x
    → (setting_of x).path ≡ path_at (setting_paths (map setting_of rows)) row
unfolding path_in
row_path rows row x e = sym (at_row rows row ∙ ap path_in e)

pub no_row_path : (rows : List (KeyPath × String Global)) (row : ℕ) → slice_get rows row ≡ None → ◌≡◌ {A = List ℕ} [] (path_at (setting_paths (map setting_of rows)) row)
unfolding path_in
no_row_path rows row e = sym (at_row rows row ∙ ap path_in e)

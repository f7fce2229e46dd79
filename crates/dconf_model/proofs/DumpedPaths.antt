-- A row of a dump is at the path of its setting, so the order of a dump has just the settings.
use Rattle.std.specs.Prelude.{◌≡◌, ℕ, true, false, ◌==◌, List, [], ◌∷◌, ◌++◌, length, take, drop, refl, map, if◌then◌else◌, IsPermutation}
use Rattle.std.specs.List.{AllByRecursion}
use Rattle.std.specs.Cmp.Lexicographic.{bytes_decides}
use Rattle.std.proofs.Common.{sym, ap, subst, ◌∙◌, inl, inr, arith}
use Rattle.std.proofs.lemmas.Bool.{true≢false, and_parts, ne_eqb}
use Rattle.std.proofs.lemmas.List.{take-append-drop}
use Rattle.std.proofs.lemmas.List.Sorted.{IsPermutation-trans, IsPermutation-map}
use Rattle.dconf_model.specs.Paths.{has_two_slashes, is_directory_path, is_path}
use Rattle.dconf_model.specs.Order.{in_order}
use Rattle.dconf_model.specs.Keyfiles.{DumpRow, Setting, MayBeDumped, DumpHasEachSetting, dump_row, row_path, in_groups, in_dump_order}
use Rattle.dconf_model.proofs.OrderLaws.{in_order_permutes}
use Rattle.dconf_model.proofs.DumpedRows.{part_of, key_of, split_key, below, two_slashes, no_two_slashes}

abbrev pub joined : List ℕ → List ℕ → List ℕ
joined part key = if length part == 0 then key else part ++ 47 ∷ key

joined_slash : (part key rest : List ℕ) → (rest ≡ 47 ∷ key → ⊥) → rest ≡ part ++ 47 ∷ key → joined part key ≡ rest
joined_slash [] key rest filled e = absurd (filled e)
joined_slash (c ∷ part) key rest filled e = let some : (length (c ∷ part) == 0) ≡ false = ne_eqb (length (c ∷ part)) 0 (λ n. omega (arith, n)) in rw some (sym e)

no_slash_first : (earlier rest path key : List ℕ) → path ≡ earlier ++ 47 ∷ rest → is_path path ≡ true → rest ≡ 47 ∷ key → ⊥
no_slash_first earlier rest path key whole p e =
    let two : path ≡ earlier ++ 47 ∷ 47 ∷ key = whole ∙ ap (λ l. earlier ++ 47 ∷ l) e in
    true≢false (sym (ap has_two_slashes two ∙ two_slashes earlier key) ∙ no_two_slashes path p)

joined_rest : (earlier rest path : List ℕ) → path ≡ earlier ++ 47 ∷ rest → is_path path ≡ true → joined (part_of rest) (key_of rest) ≡ rest
joined_rest earlier rest path whole p = elim (split_key rest) [
  | inl alone ↦ ap (λ l. joined l (key_of rest)) alone.0 ∙ alone.1
  | inr slashed ↦ joined_slash (part_of rest) (key_of rest) rest (no_slash_first earlier rest path (key_of rest) whole p) slashed
]

own_path : (directory : List ℕ) (x : Setting) → is_directory_path directory ≡ true → MayBeDumped directory x → row_path directory (dump_row directory x) ≡ x.path
own_path directory x d may =
    let rest : List ℕ = drop (length directory) x.path in
    let under = below directory x.path d may.below in
    let begins = (bytes_decides directory (take (length directory) x.path)).0 may.below in
    ap (λ l. directory ++ l) (joined_rest under.0 rest x.path under.1 (and_parts (is_path x.path) _ may.path).0)
    ∙ ap (λ l. l ++ rest) begins ∙ take-append-drop (length directory) x.path

abbrev pub setting_at : List ℕ → DumpRow → Setting
setting_at directory r = record { path = row_path directory r; text = r.text }

own_settings : (directory : List ℕ) (settings : List Setting) → is_directory_path directory ≡ true → AllByRecursion (MayBeDumped directory) settings →
    map (setting_at directory) (map (dump_row directory) settings) ≡ settings
own_settings directory [] d may = refl
own_settings directory (x ∷ settings) d may = λ i. record { path = own_path directory x d may.0 i; text = x.text } ∷ own_settings directory settings d may.1 i

groups_permute : (rows : List DumpRow) → IsPermutation rows (in_groups rows)
groups_permute rows =
    let by_key : List DumpRow = in_order (λ r. r.key) rows in
    IsPermutation-trans rows by_key (in_groups rows) (in_order_permutes (λ r. r.key) rows) (in_order_permutes (λ r. r.part) by_key)

pub dump_has_each_setting : DumpHasEachSetting
dump_has_each_setting directory settings d may =
    let rows : List DumpRow = map (dump_row directory) settings in
    subst (λ l. IsPermutation l (in_dump_order directory settings)) (own_settings directory settings d may)
    (IsPermutation-map (setting_at directory) rows (in_groups rows) (groups_permute rows))

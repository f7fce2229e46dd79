-- Files that are put behind the first, one after the other.
use Rattle.std.specs.Prelude.{◌≡◌, ◌<◌, ◌+◌, ℕ, List, [], ◌∷◌, ◌++◌, length, take, Option, Some}
use Rattle.std.specs.Borrow.{Bor}
use Rattle.std.proofs.Common.{◌∙◌, ap, sym, get_or}
use Rattle.std.proofs.lemmas.List.{map-append, map_more, take-map}
use Rattle.dconf_layers.specs.Verdicts.{bytes_of_file, bytes_of_files}

abbrev File : Type 0
File = Option (Bor (List ℕ))

pub next_file : (first : List ℕ) (others again new : List File) (i : ℕ) (d r : File) → i < length others → new ≡ again ++ r ∷ [] →
    bytes_of_files again ≡ Some first ∷ take i (bytes_of_files others) → bytes_of_file r ≡ bytes_of_file (get_or others i d) →
    bytes_of_files new ≡ Some first ∷ take (i + 1) (bytes_of_files others)
next_file first others again new i d r h is so_far e =
    ap bytes_of_files is
    ∙ (map-append bytes_of_file again (r ∷ [])
    ∙ (ap (λ files. files ++ bytes_of_file r ∷ []) so_far
    ∙ ap (λ files. Some first ∷ files)
    (ap (λ file. take i (bytes_of_files others) ++ file ∷ []) e
    ∙ (ap (λ files. files ++ bytes_of_file (get_or others i d) ∷ []) (take-map bytes_of_file i others)
    ∙ (sym (map_more bytes_of_file others i d h) ∙ sym (take-map bytes_of_file (i + 1) others))))))

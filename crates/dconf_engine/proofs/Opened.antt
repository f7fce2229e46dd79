-- The layers of the files that were opened so far.
use Rattle.std.proofs.Common.{◌≡◌, ◌+◌, ◌<◌, ℕ, List, [], ◌∷◌, ◌++◌, length, take, drop, get_or, Option, Some, None, ap, sym, ◌∙◌, subst, arith}
use Rattle.std.proofs.lemmas.List.{take_more, drop_more, take-append-drop, length-take-le, length-map, get_or-map}
use Rattle.std.specs.Borrow.{Bor}
use Rattle.dconf_layers.specs.Verdicts.{bytes_of_file, bytes_of_files}
use Rattle.dconf_model.specs.Databases.{AreLayers, IsLayer, IsGood, IsBad, IsFirstBad, Verdict}
use Rattle.dconf_model.specs.Settings.{Settings}

pub layers_more : (xs : List (Option (List ℕ))) (ss : List Settings) (x : Option (List ℕ)) (s : Settings) → AreLayers xs ss → IsLayer x s → AreLayers (xs ++ x ∷ []) (ss ++ s ∷ [])
layers_more [] [] x s h k = (k, tt)
layers_more [] (t ∷ ss) x s h k = absurd h
layers_more (y ∷ xs) [] x s h k = absurd h
layers_more (y ∷ xs) (t ∷ ss) x s h k = (h.0, layers_more xs ss x s h.1 k)

good : (x : Option (List ℕ)) (s : Settings) → IsLayer x s → IsGood x
good None s h = tt
good (Some file) s h = (h.0, h.1)

pub first_bad : (xs : List (Option (List ℕ))) (ss : List Settings) (x : Option (List ℕ)) (more : List (Option (List ℕ))) (v : Verdict) →
    AreLayers xs ss → IsBad x v → IsFirstBad (xs ++ x ∷ more) (length xs) v
first_bad [] ss x more v h k = k
first_bad (y ∷ xs) [] x more v h k = absurd h
first_bad (y ∷ xs) (t ∷ ss) x more v h k = (good y t h.0, first_bad xs ss x more v h.1 k)

-- ---- file by file

item_at : (files : List (Option (Bor (List ℕ)))) (i : ℕ) → i < length files → bytes_of_file (get_or files i None) ≡ get_or (bytes_of_files files) i None
item_at files i within = sym (get_or-map bytes_of_file files i None None within)

pub opened_more : (files : List (Option (Bor (List ℕ)))) (i : ℕ) (ss : List Settings) (s : Settings) → i < length files →
    AreLayers (take i (bytes_of_files files)) ss → IsLayer (bytes_of_file (get_or files i None)) s → AreLayers (take (i + 1) (bytes_of_files files)) (ss ++ s ∷ [])
opened_more files i ss s within h k =
    let xs = bytes_of_files files in
    let n : length xs ≡ length files = length-map files bytes_of_file in
    subst (λ (l : List (Option (List ℕ))). AreLayers l (ss ++ s ∷ [])) (sym (take_more xs i None (omega (arith, n, within))))
    (layers_more (take i xs) ss (get_or xs i None) s h (subst (λ (x : Option (List ℕ)). IsLayer x s) (item_at files i within) k))

pub bad_at : (files : List (Option (Bor (List ℕ)))) (i : ℕ) (ss : List Settings) (v : Verdict) → i < length files →
    AreLayers (take i (bytes_of_files files)) ss → IsBad (bytes_of_file (get_or files i None)) v → IsFirstBad (bytes_of_files files) i v
bad_at files i ss v within h k =
    let xs = bytes_of_files files in
    let n : length xs ≡ length files = length-map files bytes_of_file in
    let here : i < length xs = omega (arith, n, within) in
    let whole : take i xs ++ get_or xs i None ∷ drop (i + 1) xs ≡ xs = ap (λ (l : List (Option (List ℕ))). take i xs ++ l) (sym (drop_more xs i None here)) ∙ take-append-drop i xs in
    let before : length (take i xs) ≡ i = length-take-le i xs (omega (arith, here)) in
    let bad = first_bad (take i xs) ss (get_or xs i None) (drop (i + 1) xs) v h (subst (λ (x : Option (List ℕ)). IsBad x v) (item_at files i within) k) in
    subst (λ (l : List (Option (List ℕ))). IsFirstBad l i v) whole
    (subst (λ (j : ℕ). IsFirstBad (take i xs ++ get_or xs i None ∷ drop (i + 1) xs) j v) before bad)

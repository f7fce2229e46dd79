-- The parts of an object path, byte by byte.
use Rattle.std.proofs.Common.{ℕ, ◌≡◌, ◌<◌, ◌≤◌, ◌+◌, List, [], ◌∷◌, length, drop, get_or, Bool, true, false, ◌&&◌, not, eqb, refl, ◌∙◌, ap}
use Rattle.std.proofs.lemmas.List.{at_drop_more, at_drop_all}
use Rattle.gv_model.specs.Texts.{are_parts}
use Rattle.gv_types.specs.Paths.{may_follow}

parts_first : (s : Bool) (c : ℕ) (cs : List ℕ) → are_parts s (c ∷ cs) ≡ may_follow s c && are_parts (eqb c 47) cs
unfolding are_parts
parts_first s c cs = go (eqb c 47) refl
  where
    go : (b : Bool) → eqb c 47 ≡ b → are_parts s (c ∷ cs) ≡ may_follow s c && are_parts (eqb c 47) cs
    go true e = rw e refl
    go false e = rw e refl

parts_from : (s : Bool) (xs : List ℕ) (i : ℕ) → i < length xs → are_parts s (drop i xs) ≡ may_follow s (get_or xs i 0) && are_parts (eqb (get_or xs i 0) 47) (drop (i + 1) xs)
parts_from s xs i h = at_drop_more (are_parts s) xs i 0 h ∙ parts_first s (get_or xs i 0) (drop (i + 1) xs)

-- where a byte may follow, the parts are those from the next byte on
pub parts_go_on : (s : Bool) (xs : List ℕ) (i : ℕ) → i < length xs → may_follow s (get_or xs i 0) ≡ true → are_parts s (drop i xs) ≡ are_parts (eqb (get_or xs i 0) 47) (drop (i + 1) xs)
parts_go_on s xs i h e = parts_from s xs i h ∙ ap (λ b. b && are_parts (eqb (get_or xs i 0) 47) (drop (i + 1) xs)) e

pub parts_stop : (s : Bool) (xs : List ℕ) (i : ℕ) → i < length xs → may_follow s (get_or xs i 0) ≡ false → are_parts s (drop i xs) ≡ false
parts_stop s xs i h e = parts_from s xs i h ∙ ap (λ b. b && are_parts (eqb (get_or xs i 0) 47) (drop (i + 1) xs)) e

no_parts : (s : Bool) → are_parts s [] ≡ not s
unfolding are_parts
no_parts s = refl

pub parts_end : (s : Bool) (xs : List ℕ) (i : ℕ) → length xs ≤ i → are_parts s (drop i xs) ≡ not s
parts_end s xs i h = at_drop_all (are_parts s) xs i h ∙ no_parts s

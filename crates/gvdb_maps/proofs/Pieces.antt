-- Pieces of bytes that are appended one after another.
use Rattle.std.proofs.lemmas.Grind.{common_steps}
use Rattle.std.proofs.Common.{ℕ, ◌≡◌, ◌<◌, ◌+◌, ◌-◌, List, ◌++◌, length, map, get_or, take, drop, ap, ◌∙◌, arith}
use Rattle.std.specs.List.{flat_map}
use Rattle.gvdb_maps.specs.declared.names.Named.{Named}

-- one more piece
pub mapped_appended : {X Y : Type 0} (g : X → Y) (f : Y → List ℕ) (xs : List X) (i : ℕ) (d : X) (out before after : List ℕ) → i < length xs → before ≡ out ++ flat_map f (map g (take i xs)) → after ≡ before ++ f (g (get_or xs i d)) → after ≡ out ++ flat_map f (map g (take (i + 1) xs))
mapped_appended g f xs i d out before after l b a = grind (arith, common_steps)

pub piece_appended : {X : Type 0} (f : X → List ℕ) (xs : List X) (i : ℕ) (d : X) (out before after : List ℕ) → i < length xs → before ≡ out ++ flat_map f (take i xs) → after ≡ before ++ f (get_or xs i d) → after ≡ out ++ flat_map f (take (i + 1) xs)
piece_appended f xs i d out before after l b a = grind (arith, common_steps)

-- one more key, which is read as the part of a name from there up to its end
pub key_appended : (items : List Named) (i : ℕ) (d : Named) (out before after : List ℕ) → i < length items
    → before ≡ out ++ flat_map (λ n. drop n.from n.name.now) (take i items) → after ≡ before ++ take (length (get_or items i d).name.now - (get_or items i d).from)
    (drop (get_or items i d).from (get_or items i d).name.now) → after ≡ out ++ flat_map (λ n. drop n.from n.name.now) (take (i + 1) items)
key_appended items i d out before after l b a = grind (arith, common_steps)

-- what is appended of a slice is that of the list after it
pub appended_of : {X : Type 0} (bytes : X → List ℕ) (slice xs : X) (before after : List ℕ) → slice ≡ xs → after ≡ before ++ bytes slice → after ≡ before ++ bytes xs
appended_of {X} bytes slice xs before after is a = a ∙ ap (λ (x : X). before ++ bytes x) is

-- What explains a key, as an object: its path, the value that is seen and the database that has it, why `write` refuses the key, and of each
-- database of the profile the value and the lock that it has for the key.
use Rattle.std.specs.Prelude.{ℕ, List, [], ◌∷◌, ◌++◌, Bool, true, false, Option, Some, None, codes, flat_map, length, option_map}
use Rattle.json.specs.Token.{Token, begin_array, begin_object, end_array, end_object, key}
use Rattle.dconf_model.specs.Databases.{gathered}
use Rattle.dconf_model.specs.Explains.{bytes_in, lock_in, place_name}
use Rattle.dconf_model.specs.Layers.{Layers, is_locked, origin, visible_bytes}
use Rattle.dconf_model.specs.Profiles.{Database}
use Rattle.dconf_json.specs.Lines.{line}
use Rattle.dconf_json.specs.Values.{text_member, text_or_null, value_tokens}

-- what a database has, by its index
abbrev pub held_tokens : Layers → List ℕ → ℕ → List Token
held_tokens l path i = key (codes "value") ∷ (value_tokens false (bytes_in l path i) ++ (key (codes "lock") ∷ text_or_null (lock_in l path i)))

abbrev pub database_tokens : List Database → Layers → List ℕ → ℕ → List Token
database_tokens databases l path i = begin_object ∷ (text_member (codes "database") (place_name databases i) ++ (held_tokens l path i ++ end_object ∷ []))

-- why `write` refuses the key, where the first database may be written and the key is locked or not
abbrev pub refusal : Bool → Bool → Option (List ℕ)
refusal false locked = Some (codes "NotWritable")
refusal true true = Some (codes "Locked")
refusal true false = None

-- what is seen, and the database that has it
abbrev pub seen_tokens : List Database → Layers → List ℕ → List Token
seen_tokens databases l path =
    key (codes "value") ∷ (value_tokens false (visible_bytes l path) ++ (key (codes "from") ∷ text_or_null (option_map (place_name databases) (origin l path))))

abbrev pub why_tokens : Layers → List ℕ → List Token
why_tokens l path = key (codes "refusal") ∷ text_or_null (refusal l.writable (is_locked l path))

-- whether it can be set; what comes next is what the databases have
abbrev pub refusal_tokens : Layers → List ℕ → List Token
refusal_tokens l path = why_tokens l path ++ (key (codes "databases") ∷ (begin_array ∷ []))

abbrev pub head_tokens : List Database → Layers → List ℕ → List Token
head_tokens databases l path = begin_object ∷ (text_member (codes "path") path ++ (seen_tokens databases l path ++ refusal_tokens l path))

abbrev pub explanation_tokens : List Database → Layers → List ℕ → List Token
explanation_tokens databases l path =
    head_tokens databases l path ++ (gathered (database_tokens databases l path) (length databases) ++ (end_array ∷ (end_object ∷ [])))

-- a line for each of these keys
abbrev pub explanations : List Database → Layers → List (List ℕ) → List ℕ
explanations databases l paths = flat_map (λ path. line (explanation_tokens databases l path)) paths

-- Lines of JSON, as RFC 8259 has them.
use Rattle.std.specs.Prelude.{◌≡◌, ℕ, List, [], ◌∷◌, ◌++◌, Bool, Option, Some, None, flat_map, map}
use Rattle.json.specs.Lex.{tokens}
use Rattle.json.specs.Print.{print}
use Rattle.json.specs.Token.{Token, begin_array, begin_object, end_array, end_object, key, string}
use Rattle.dconf_json.specs.Values.{value_tokens}

-- a text of these tokens, and a line feed
abbrev pub line : List Token → List ℕ
line ts = print ts ++ 10 ∷ []

-- names, as an array in their order
abbrev pub names_tokens : List (List ℕ) → List Token
names_tokens names = begin_array ∷ (map string names ++ end_array ∷ [])

-- the value that is seen at a path, if any is
abbrev pub member_tokens : Bool → List ℕ × Option (List ℕ) → List Token
member_tokens skips (path, None) = []
member_tokens skips (path, Some bytes) = key path ∷ value_tokens skips (Some bytes)

-- values by their paths, as an object in that order
abbrev pub members_tokens : Bool → List (List ℕ × Option (List ℕ)) → List Token
members_tokens skips rows = begin_object ∷ (flat_map (member_tokens skips) rows ++ end_object ∷ [])

-- ---- law

-- a reader finds the tokens of a line
abbrev pub IsReadBack : List Token → Type 0
IsReadBack ts = tokens (print ts) ≡ ts

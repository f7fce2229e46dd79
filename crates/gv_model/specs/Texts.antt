-- The texts that strings, object paths and signatures may be.
-- GVariant Specification, "Strings", with the D-Bus Specification's "Valid Object Paths"; a signature is
-- a sequence of types without `m`, each within the limits of a type text (this project's rule).
use Rattle.std.specs.Prelude.{ℕ, Bool, true, false, List, [], ◌∷◌, ◌==◌, ◌&&◌, ◌||◌, not, if◌then◌else◌}
use Rattle.std.specs.Int.{is_in_range}
use Rattle.std.specs.List.{list_any}
use Rattle.std.specs.Str.{is_utf8}
use Rattle.gv_model.specs.Ty.{Basic, spelling}
use Rattle.gv_model.specs.Ty.Basic.{path, signature}
use Rattle.gv_model.specs.TypeText.{Seen, seen, is_within_limits}
use Rattle.gv_model.specs.TypeText.Seen.{nothing, type}

abbrev pub has_zero_byte : List ℕ → Bool
has_zero_byte s = list_any (λ c. c == 0) s

-- a letter, a digit or an underscore
abbrev pub is_part_byte : ℕ → Bool
is_part_byte c = is_in_range 65 90 c || is_in_range 97 122 c || is_in_range 48 57 c || c == 95

-- parts that are not empty with a slash between them; at_slash: the byte before is a slash
unfoldable pub are_parts : Bool → List ℕ → Bool
are_parts at_slash [] = not at_slash
are_parts at_slash (c ∷ cs) =
    if c == 47 then not at_slash && are_parts true cs else is_part_byte c && are_parts false cs

-- `/`, or parts that are not empty, each after a slash
abbrev pub is_object_path : List ℕ → Bool
is_object_path [] = false
is_object_path (c ∷ []) = c == 47
is_object_path (c ∷ d ∷ cs) = c == 47 && are_parts true (d ∷ cs)

-- types alone, each within the limits
abbrev pub are_types : Seen → Bool
are_types nothing = true
are_types (type t s) = is_within_limits t (spelling t) && are_types s
are_types _ = false

-- types one after the other, without `m`
abbrev pub is_signature : List ℕ → Bool
is_signature s = not (list_any (λ c. c == 109) s) && are_types (seen s)

-- the texts that a type allows, where they have no zero byte
abbrev pub is_text : Basic → List ℕ → Bool
is_text path s = is_object_path s
is_text signature s = is_signature s
is_text k s = is_utf8 s

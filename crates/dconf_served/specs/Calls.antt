-- Which database a message asks to be changed: the object /ca/desrt/dconf/Writer/NAME, by the method Change(ay) of the interface ca.desrt.dconf.Writer.
use Rattle.std.specs.Prelude.{ℕ, List, Bool, codes, drop, not, ◌&&◌, if◌then◌else◌, nat_eq}
use Rattle.std.specs.List.{list_any, starts_with}
use Rattle.std.specs.Str.{bytes_eq}

abbrev pub is_change : List ℕ → List ℕ → List ℕ → Bool
is_change interface member signature =
    bytes_eq interface (codes "ca.desrt.dconf.Writer") && (bytes_eq member (codes "Change") && bytes_eq signature (codes "ay"))

-- one name below the path of 23 bytes
abbrev pub is_one_name : List ℕ → Bool
is_one_name object = starts_with nat_eq object (codes "/ca/desrt/dconf/Writer/") && not (list_any (λ b. nat_eq b 47) (drop 23 object))

-- where the name begins, or 0
abbrev pub changed_database : Bool → List ℕ → List ℕ → List ℕ → List ℕ → ℕ
changed_database is_call object interface member signature = if is_call && (is_change interface member signature && is_one_name object) then 23 else 0

-- What dconf says and gives where `write` refuses, by the line of our refusal.
use Rattle.std.specs.Prelude.{ℕ, List, [], codes, Bool, eqb, ◌||◌, if◌then◌else◌}
use Rattle.std.specs.List.{starts_with}

-- The text is none of a value, which dconf takes for wrong words. A double is a value, and so is one that is too large.
abbrev pub is_wrong_value : List ℕ → Bool
is_wrong_value line =
    starts_with eqb line (codes "error: BadToken") || (starts_with eqb line (codes "error: Unclosed") || (starts_with eqb line (codes "error: BadEscape")
    || (starts_with eqb line (codes "error: Unexpected") || (starts_with eqb line (codes "error: TooDeep") || (starts_with eqb line (codes "error: NoCommonType")
    || (starts_with eqb line (codes "error: Ambiguous") || (starts_with eqb line (codes "error: OutOfRange")
    || (starts_with eqb line (codes "error: BadObjectPath") || starts_with eqb line (codes "error: BadSignature")))))))))

-- of a locked key dconf has a sentence, for who looks for it: it is said below our line
abbrev pub dconfs_sentence : List ℕ → List ℕ
dconfs_sentence line =
    if starts_with eqb line (codes "error: Locked") then codes "The operation attempted to modify one or more non-writable keys\n" else []

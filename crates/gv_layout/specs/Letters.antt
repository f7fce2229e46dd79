-- What a letter of a type's text says of the values of its type.
use Rattle.std.specs.Prelude.{ℕ, Bool, nat_le, ◌==◌, ◌||◌, if◌then◌else◌}

-- What their starts are multiples of: 8 at 'd', 't', 'v', 'x'; 4 at 'h', 'i', 'u'; 2 at 'n', 'q'.
abbrev pub letter_alignment : ℕ → ℕ
letter_alignment c =
    if c == 100 || c == 116 || c == 118 || c == 120 then 8 else if c == 104 || c == 105 || c == 117 then 4
    else if c == 110 || c == 113 then 2 else 1

abbrev pub is_aligned_letter : ℕ → ℕ → Bool
is_aligned_letter n c = nat_le n (letter_alignment c)

-- They differ in their size: 97 is 'a', 103 'g', 109 'm', 111 'o', 115 's', 118 'v'.
abbrev pub is_open_letter : ℕ → Bool
is_open_letter c = c == 97 || c == 103 || c == 109 || c == 111 || c == 115 || c == 118

-- The characters that tokens are made of, and the longest prefixes of such characters.
use Rattle.std.specs.Prelude.{ℕ, ◌-◌, Bool, true, false, List, [], ◌∷◌, length, drop, nat_lt, ◌==◌, ◌&&◌, ◌||◌, if◌then◌else◌}
use Rattle.std.specs.Int.{is_in_range}

abbrev pub is_blank : ℕ → Bool
is_blank c = c == 32 || c == 9 || c == 10 || c == 13 || c == 12

abbrev pub is_digit : ℕ → Bool
is_digit c = is_in_range 48 57 c

abbrev pub is_letter : ℕ → Bool
is_letter c = is_in_range 65 90 c || is_in_range 97 122 c

abbrev pub is_word_byte : ℕ → Bool
is_word_byte c = is_letter c || is_digit c

abbrev pub is_sign : ℕ → Bool
is_sign c = c == 43 || c == 45

abbrev pub is_quote : ℕ → Bool
is_quote c = c == 39 || c == 34

abbrev pub is_e : ℕ → Bool
is_e c = c == 101 || c == 69

-- what a digit of any base up to 16 stands for
abbrev pub digit_value : ℕ → ℕ
digit_value c = if is_digit c then c - 48 else if is_in_range 97 102 c then c - 87 else if is_in_range 65 70 c then c - 55 else 16

abbrev pub is_digit_of : ℕ → ℕ → Bool
is_digit_of base c = nat_lt (digit_value c) base

-- the bytes of a character that begins so
abbrev pub char_len : ℕ → ℕ
char_len c = if nat_lt c 128 then 1 else if nat_lt c 224 then 2 else if nat_lt c 240 then 3 else 4

-- the longest prefix of a text whose bytes are all so
unfoldable pub prefix_of : (ℕ → Bool) → List ℕ → List ℕ
prefix_of f [] = []
prefix_of f (c ∷ cs) = if f c then c ∷ prefix_of f cs else []

abbrev pub after_prefix : (ℕ → Bool) → List ℕ → List ℕ
after_prefix f s = drop (length (prefix_of f s)) s

abbrev pub begins : (ℕ → Bool) → List ℕ → Bool
begins f [] = false
begins f (c ∷ cs) = f c

abbrev pub tail : List ℕ → List ℕ
tail [] = []
tail (c ∷ cs) = cs

abbrev pub has_no_bytes : List ℕ → Bool
has_no_bytes [] = true
has_no_bytes (c ∷ cs) = false

unfoldable pub same_text : List ℕ → List ℕ → Bool
same_text [] [] = true
same_text (c ∷ cs) (d ∷ ds) = c == d && same_text cs ds
same_text _ _ = false

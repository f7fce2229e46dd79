-- Numbers that stand for names and values: the hash FNV-1a of 64 bits (draft-eastlake-fnv).
use Rattle.std.specs.Prelude.{ℕ, ◌*◌, ◌%◌, ◌^◌, List, fold, bit_or, bit_xor}

-- a byte goes into the lowest bits, and then all is multiplied
abbrev pub with_byte : ℕ → ℕ → ℕ
with_byte number byte = (bit_xor number byte * 1099511628211) % 2 ^ 64

-- some bytes more
abbrev pub number_of : ℕ → List ℕ → ℕ
number_of number bytes = fold with_byte number bytes

abbrev pub number_of_nothing : ℕ
number_of_nothing = 14695981039346656037

abbrev pub name_number : List ℕ → ℕ
name_number name = number_of number_of_nothing name

-- of the type's text and the value's bytes, and odd: 0 stands for no value
abbrev pub value_number : List ℕ → List ℕ → ℕ
value_number type_text value = bit_or (number_of (number_of number_of_nothing type_text) value) 1

-- What a row's words stand for.
use Rattle.std.specs.Prelude.{◌^◌, ◌<◌, ℕ, List, [], codes, bytes_eq, if◌then◌else◌}
use Rattle.std.specs.Str.Parse.{IsNumeral, digits_value, without_leading_plus}
use Rattle.test_rows.specs.declared.samples.TheConstants.{PLAIN, BUCKETS, LOCKED}

-- decimal digits, perhaps after a plus, of a number below 2^32
abbrev pub IsNumber : List ℕ → Type 0
IsNumber word = IsNumeral 10 (without_leading_plus word) × (digits_value 10 (without_leading_plus word) < 2 ^ 32)

-- the file of this name, and no bytes of any other
abbrev pub sample_of : List ℕ → List ℕ
sample_of name =
    if bytes_eq name (codes "plain") then PLAIN.now
    else (if bytes_eq name (codes "buckets") then BUCKETS.now else (if bytes_eq name (codes "locked") then LOCKED.now else []))

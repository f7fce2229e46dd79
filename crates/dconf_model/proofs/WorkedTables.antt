-- Worked values: the two vectors of the format, a database with the key /k, worth 5, without bloom words and with one.
use Rattle.std.proofs.Common.{◌≡◌, ℕ, List, [], ◌∷◌, Some, codes, refl}
use Rattle.dconf_model.specs.Bytes.{u32_at, u16_at, u8_at, hash_of}
use Rattle.gv_model.specs.BasicValue.{number_in}
use Rattle.dconf_model.specs.Table.{item_count, bytes_of, bloom_words, bloom_shift}
use Rattle.dconf_model.specs.Opening.{root_of}
use Rattle.dconf_model.specs.Names.{name_of}
use Rattle.dconf_model.specs.Search.{span_start, span_end}
use Rattle.dconf_model.specs.Listed.{keys_in_list}

-- what these computations open
unfoldable pub computing : ℕ
unfolding u32_at u16_at u8_at number_in
computing = 0

v1 : List ℕ
v1 =
    71 ∷ 86 ∷ 97 ∷ 114 ∷ 105 ∷ 97 ∷ 110 ∷ 116 ∷ 0 ∷ 0 ∷ 0 ∷ 0 ∷ 0 ∷ 0 ∷ 0 ∷ 0 ∷ 24 ∷ 0 ∷ 0 ∷ 0 ∷ 84 ∷ 0 ∷ 0 ∷ 0 ∷
    0 ∷ 0 ∷ 0 ∷ 0 ∷ 1 ∷ 0 ∷ 0 ∷ 0 ∷ 0 ∷ 0 ∷ 0 ∷ 0 ∷
    212 ∷ 181 ∷ 2 ∷ 0 ∷ 255 ∷ 255 ∷ 255 ∷ 255 ∷ 84 ∷ 0 ∷ 0 ∷ 0 ∷ 1 ∷ 0 ∷ 76 ∷ 0 ∷ 88 ∷ 0 ∷ 0 ∷ 0 ∷ 92 ∷ 0 ∷ 0 ∷ 0 ∷
    191 ∷ 112 ∷ 89 ∷ 0 ∷ 0 ∷ 0 ∷ 0 ∷ 0 ∷ 85 ∷ 0 ∷ 0 ∷ 0 ∷ 1 ∷ 0 ∷ 118 ∷ 0 ∷ 96 ∷ 0 ∷ 0 ∷ 0 ∷ 102 ∷ 0 ∷ 0 ∷ 0 ∷
    47 ∷ 107 ∷ 0 ∷ 0 ∷ 1 ∷ 0 ∷ 0 ∷ 0 ∷ 0 ∷ 0 ∷ 0 ∷ 0 ∷ 5 ∷ 0 ∷ 0 ∷ 0 ∷ 0 ∷ 105 ∷ []

v2 : List ℕ
v2 =
    71 ∷ 86 ∷ 97 ∷ 114 ∷ 105 ∷ 97 ∷ 110 ∷ 116 ∷ 0 ∷ 0 ∷ 0 ∷ 0 ∷ 0 ∷ 0 ∷ 0 ∷ 0 ∷ 24 ∷ 0 ∷ 0 ∷ 0 ∷ 92 ∷ 0 ∷ 0 ∷ 0 ∷
    1 ∷ 0 ∷ 0 ∷ 40 ∷ 2 ∷ 0 ∷ 0 ∷ 0 ∷ 32 ∷ 64 ∷ 16 ∷ 128 ∷ 0 ∷ 0 ∷ 0 ∷ 0 ∷ 1 ∷ 0 ∷ 0 ∷ 0 ∷
    212 ∷ 181 ∷ 2 ∷ 0 ∷ 255 ∷ 255 ∷ 255 ∷ 255 ∷ 92 ∷ 0 ∷ 0 ∷ 0 ∷ 1 ∷ 0 ∷ 76 ∷ 0 ∷ 96 ∷ 0 ∷ 0 ∷ 0 ∷ 100 ∷ 0 ∷ 0 ∷ 0 ∷
    191 ∷ 112 ∷ 89 ∷ 0 ∷ 0 ∷ 0 ∷ 0 ∷ 0 ∷ 93 ∷ 0 ∷ 0 ∷ 0 ∷ 1 ∷ 0 ∷ 118 ∷ 0 ∷ 104 ∷ 0 ∷ 0 ∷ 0 ∷ 110 ∷ 0 ∷ 0 ∷ 0 ∷
    47 ∷ 107 ∷ 0 ∷ 0 ∷ 1 ∷ 0 ∷ 0 ∷ 0 ∷ 0 ∷ 0 ∷ 0 ∷ 0 ∷ 5 ∷ 0 ∷ 0 ∷ 0 ∷ 0 ∷ 105 ∷ []

hash_of_root : hash_of (codes "/") ≡ 177620
hash_of_root = refl

hash_of_key : hash_of (codes "/k") ≡ 5861567
hash_of_key = refl

-- two bytes past 127
hash_of_signed_bytes : hash_of (195 ∷ 169 ∷ []) ≡ 5857809
hash_of_signed_bytes = refl

items_of_v1 : item_count (root_of v1) ≡ 2
unfolding computing v1
items_of_v1 = refl

names_of_v1 : name_of (root_of v1) 1 ≡ Some (codes "/k")
unfolding computing v1
names_of_v1 = refl

list_of_v1 : keys_in_list (root_of v1) 0 ≡ codes "k" ∷ []
unfolding computing v1
list_of_v1 = refl

words_of_v2 : bloom_words (root_of v2) ≡ 1
unfolding computing v2
words_of_v2 = refl

shift_of_v2 : bloom_shift (root_of v2) ≡ 5
unfolding computing v2
shift_of_v2 = refl

items_of_v2 : item_count (root_of v2) ≡ 2
unfolding computing v2
items_of_v2 = refl

names_of_v2 : name_of (root_of v2) 1 ≡ Some (codes "/k")
unfolding computing v2
names_of_v2 = refl

value_of_v2 : bytes_of (root_of v2) 1 ≡ 5 ∷ 0 ∷ 0 ∷ 0 ∷ 0 ∷ 105 ∷ []
unfolding computing v2
value_of_v2 = refl

-- the key's bucket is the second
span_of_v2 : span_start (root_of v2) 5861567 ≡ 1
unfolding computing v2
span_of_v2 = refl

span_end_of_v2 : span_end (root_of v2) 5861567 ≡ 2
unfolding computing v2
span_end_of_v2 = refl

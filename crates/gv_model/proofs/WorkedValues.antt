-- Worked values: bytes, read at a type and printed.
use Rattle.std.specs.Prelude.{◌≡◌, ℕ, zero, suc, ◌+◌, List, [], ◌∷◌, ◌++◌, codes, true, refl, replicate}
use Rattle.std.specs.Str.{is_utf8, chars}
use Rattle.std.specs.Fmt.{digits}
use lib.Utf8.{encode as encode_char}
use Rattle.gv_model.specs.Ty.{Ty, spelling, nesting}
use Rattle.gv_model.specs.Ty.Ty.{basic, variant, array, maybe, tuple, entry}
use Rattle.gv_model.specs.Ty.Types.{end, member}
use Rattle.gv_model.specs.Ty.Basic.{boolean, byte, uint16, int32, uint32, int64, double, string, path, signature}
use Rattle.gv_model.specs.TypeText.{type_of_text, seen, mark, tuple_type_before}
use Rattle.gv_model.specs.Layout.{alignment, fixed_size, round_up, offset_width}
use Rattle.gv_model.specs.Tree.{default, nodes}
use Rattle.gv_model.specs.Tree.Tree.{number, text, node}
use Rattle.gv_model.specs.Tree.Trees.{none, first}
use Rattle.gv_model.specs.Texts.{are_parts}
use Rattle.gv_model.specs.BasicValue.{basic_value, text_in, number_in}
use Rattle.gv_model.specs.Arrays.{numbers_in, offset_spans, fixed_spans}
use Rattle.gv_model.specs.Tuples.{empty_spans, member_spans, offset_count}
use Rattle.gv_model.specs.Children.{ordered}
use Rattle.gv_model.specs.Variants.{at_last_zero}
use Rattle.gv_model.specs.Decode.{decode, decode_within, cut, spans}
use Rattle.gv_model.specs.Printed.{printed, text_of, holds_double}

-- what these computations open
unfoldable pub computing : ℕ
unfolding digits chars encode_char is_utf8 spelling nesting type_of_text seen mark tuple_type_before alignment fixed_size round_up offset_width default are_parts
    basic_value text_in number_in numbers_in offset_spans fixed_spans empty_spans member_spans offset_count ordered at_last_zero decode decode_within cut spans text_of
computing = 0

-- the text of bytes at a type
abbrev shown : Ty → List ℕ → List ℕ
shown t b = printed (decode t b) true

-- ---- basic types

no_bytes_at_s : shown (basic string) [] ≡ codes "''"
unfolding computing
no_bytes_at_s = refl

boolean_of_five : shown (basic boolean) (5 ∷ []) ≡ codes "true"
unfolding computing
boolean_of_five = refl

one_byte_at_q : shown (basic uint16) (5 ∷ []) ≡ codes "uint16 0"
unfolding computing
one_byte_at_q = refl

negative_int64 : printed (number int64 18446744073709551615) true ≡ codes "int64 -1"
unfolding computing
negative_int64 = refl

string_with_quote_and_tab : printed (text string (codes "it's" ++ 9 ∷ [])) true ≡ (34 ∷ (codes "it's" ++ 92 ∷ 116 ∷ 34 ∷ []))
unfolding computing
string_with_quote_and_tab = refl

-- ---- strings, object paths, signatures

string_past_ascii : decode (basic string) (195 ∷ 169 ∷ 0 ∷ []) ≡ text string (195 ∷ 169 ∷ [])
unfolding computing
string_past_ascii = refl

string_of_bad_utf8 : decode (basic string) (233 ∷ 0 ∷ []) ≡ text string []
unfolding computing
string_of_bad_utf8 = refl

string_with_zero_inside : decode (basic string) (97 ∷ 0 ∷ 98 ∷ 0 ∷ []) ≡ text string []
unfolding computing
string_with_zero_inside = refl

root_path : decode (basic path) (47 ∷ 0 ∷ []) ≡ text path (codes "/")
unfolding computing
root_path = refl

path_of_parts : decode (basic path) (codes "/ab/c_1" ++ 0 ∷ []) ≡ text path (codes "/ab/c_1")
unfolding computing
path_of_parts = refl

path_with_empty_part : decode (basic path) (codes "/a//b" ++ 0 ∷ []) ≡ text path (codes "/")
unfolding computing
path_with_empty_part = refl

path_with_slash_at_end : decode (basic path) (codes "/a/" ++ 0 ∷ []) ≡ text path (codes "/")
unfolding computing
path_with_slash_at_end = refl

empty_path : decode (basic path) (0 ∷ []) ≡ text path (codes "/")
unfolding computing
empty_path = refl

signature_of_two : decode (basic signature) (codes "a{sv}(ii)" ++ 0 ∷ []) ≡ text signature (codes "a{sv}(ii)")
unfolding computing
signature_of_two = refl

signature_with_maybe : decode (basic signature) (codes "ami" ++ 0 ∷ []) ≡ text signature []
unfolding computing
signature_with_maybe = refl

signature_with_bad_key : decode (basic signature) (codes "a{vs}" ++ 0 ∷ []) ≡ text signature []
unfolding computing
signature_with_bad_key = refl

-- ---- arrays

two_numbers : shown (array (basic uint32)) (1 ∷ 0 ∷ 0 ∷ 0 ∷ 2 ∷ 0 ∷ 0 ∷ 0 ∷ []) ≡ codes "[uint32 1, 2]"
unfolding computing
two_numbers = refl

seven_bytes_of_numbers : shown (array (basic uint32)) (1 ∷ 0 ∷ 0 ∷ 0 ∷ 2 ∷ 0 ∷ 0 ∷ []) ≡ codes "@au []"
unfolding computing
seven_bytes_of_numbers = refl

no_numbers : shown (array (basic uint32)) [] ≡ codes "@au []"
unfolding computing
no_numbers = refl

bytes_as_a_string : shown (array (basic byte)) (97 ∷ 0 ∷ []) ≡ codes "b'a'"
unfolding computing
bytes_as_a_string = refl

strings_with_offsets : shown (array (basic string)) (codes "i" ++ 0 ∷ (codes "can" ++ 0 ∷ (codes "has" ++ 0 ∷ (codes "strings?" ++ 0 ∷ 2 ∷ 6 ∷ 10 ∷ 19 ∷ [])))) ≡ codes "['i', 'can', 'has', 'strings?']"
unfolding computing
strings_with_offsets = refl

offsets_past_the_end : shown (array (basic string)) (97 ∷ 0 ∷ 5 ∷ []) ≡ codes "@as []"
unfolding computing
offsets_past_the_end = refl

-- wider than the least width that would do
wide_offsets : decode (array (basic string)) (replicate 253 97 ++ 0 ∷ 254 ∷ 0 ∷ []) ≡ node (array (basic string)) (first (text string (replicate 253 97)) none)
unfolding computing
wide_offsets = refl

-- the second ends before it begins: it and the third are empty
element_out_of_order : shown (array (array (basic byte))) (1 ∷ 2 ∷ 3 ∷ 3 ∷ 1 ∷ 3 ∷ []) ≡ codes "[[byte 0x01, 0x02, 0x03], [], []]"
unfolding computing
element_out_of_order = refl

-- the first reaches into the offsets
element_past_the_body : shown (array (array (array (basic byte)))) (0 ∷ 1 ∷ 0 ∷ 1 ∷ 4 ∷ 0 ∷ 4 ∷ []) ≡ codes "[[b'', [], []], [], []]"
unfolding computing
element_past_the_body = refl

-- after so many bytes, so many times more: an offset past the body, an empty element's, and the first one again
unfoldable tower : ℕ → ℕ → List ℕ
tower zero n = []
tower (suc k) n = n ∷ 0 ∷ n ∷ tower k (n + 3)

unfoldable arrays : ℕ → Ty → Ty
arrays zero t = t
arrays (suc k) t = arrays k (array t)

tower_of_two : shown (arrays 3 (basic byte)) (0 ∷ tower 2 1) ≡ codes "[[b'', [], []], [], []]"
unfolding computing tower arrays
tower_of_two = refl

tower_of_twenty : nodes (decode (arrays 21 (basic byte)) (0 ∷ tower 20 1)) ≡ 62
unfolding computing tower arrays nodes
tower_of_twenty = refl

-- ---- maybes

just_and_nothing : shown (array (maybe (basic int32))) (1 ∷ 0 ∷ 0 ∷ 0 ∷ 4 ∷ 4 ∷ []) ≡ codes "[@mi 1, nothing]"
unfolding computing
just_and_nothing = refl

just_nothing : printed (node (maybe (maybe (basic int32))) (first (node (maybe (basic int32)) none) none)) true ≡ codes "@mmi just nothing"
unfolding computing
just_nothing = refl

-- ---- tuples and entries

nested_tuple : shown (tuple (member (tuple (member (basic byte) (member (basic string) end))) (member (array (basic string)) end)))
    (codes "ican" ++ 0 ∷ (codes "has" ++ 0 ∷ (codes "strings?" ++ 0 ∷ 4 ∷ 13 ∷ 5 ∷ []))) ≡ codes "((byte 0x69, 'can'), ['has', 'strings?'])"
unfolding computing
nested_tuple = refl

array_of_tuples : shown (array (tuple (member (basic string) (member (basic int32) end))))
    (codes "hi" ++ 0 ∷ 0 ∷ 254 ∷ 255 ∷ 255 ∷ 255 ∷ 3 ∷ 0 ∷ 0 ∷ 0 ∷ (codes "bye" ++ 0 ∷ 255 ∷ 255 ∷ 255 ∷ 255 ∷ 4 ∷ 9 ∷ 21 ∷ [])) ≡ codes "[('hi', -2), ('bye', -1)]"
unfolding computing
array_of_tuples = refl

-- the first member ends behind the offset, and the last one is empty with it
member_past_the_body : shown (tuple (member (array (basic byte)) (member (basic string) end))) (97 ∷ 98 ∷ 0 ∷ 4 ∷ []) ≡ codes "(@ay [], '')"
unfolding computing
member_past_the_body = refl

padded_tuple : shown (tuple (member (maybe (basic byte)) (member variant end))) (5 ∷ 0 ∷ 0 ∷ 0 ∷ 0 ∷ 0 ∷ 0 ∷ 0 ∷ 5 ∷ 0 ∷ 0 ∷ 0 ∷ 0 ∷ 105 ∷ 1 ∷ []) ≡ codes "(@my 0x05, <5>)"
unfolding computing
padded_tuple = refl

dictionary_with_one_key_twice : shown (array (entry string (basic int32)))
    (97 ∷ 0 ∷ 0 ∷ 0 ∷ 1 ∷ 0 ∷ 0 ∷ 0 ∷ 2 ∷ 0 ∷ 0 ∷ 0 ∷ 97 ∷ 0 ∷ 0 ∷ 0 ∷ 2 ∷ 0 ∷ 0 ∷ 0 ∷ 2 ∷ 9 ∷ 21 ∷ []) ≡ codes "{'a': 1, 'a': 2}"
unfolding computing
dictionary_with_one_key_twice = refl

empty_dictionary : printed (node (array (entry string (basic int32))) none) true ≡ codes "@a{si} {}"
unfolding computing
empty_dictionary = refl

-- ---- variants

variant_without_zero_byte : shown variant (105 ∷ []) ≡ codes "<()>"
unfolding computing
variant_without_zero_byte = refl

variant_of_a_short_number : shown variant (5 ∷ 0 ∷ 105 ∷ []) ≡ codes "<0>"
unfolding computing
variant_of_a_short_number = refl

variant_of_a_number : shown variant (5 ∷ 0 ∷ 0 ∷ 0 ∷ 0 ∷ 105 ∷ []) ≡ codes "<5>"
unfolding computing
variant_of_a_number = refl

-- ---- doubles

double_is_refused : holds_double (decode (basic double) []) ≡ true
unfolding computing holds_double
double_is_refused = refl

array_of_no_doubles : shown (array (basic double)) [] ≡ codes "@ad []"
unfolding computing
array_of_no_doubles = refl

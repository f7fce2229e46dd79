-- Worked texts, read and printed.
use Rattle.std.specs.Prelude.{◌≡◌, ℕ, true, List, [], ◌∷◌, ◌++◌, replicate, Option, Some, None, Result, Ok, Err, refl, codes, length, slice_get}
use Rattle.std.specs.Fmt.{digits}
use Rattle.gv_model.specs.Ty.{spelling}
use Rattle.gv_model.specs.Tree.{Tree, type_of, depth}
use Rattle.gv_model.specs.Printed.{printed, text_of}
use Rattle.gv_model.proofs.WorkedValues.{computing}
use Rattle.gv_model.proofs.WorkedTokens.{lexing}
use Rattle.gv_model.specs.Syntax.{Syntax, levels}
use Rattle.gv_model.specs.Lexed.{lexed, Lexed}
use Rattle.gv_model.specs.TextFault.{Fault, Cause}
use Rattle.gv_model.specs.Tokens.{Placed}
use Rattle.gv_model.specs.TextFault.Cause.{bad_token, unclosed, bad_escape, double_text, unexpected, too_deep}
use Rattle.gv_model.specs.Grammar.{tokens_of}
use Rattle.gv_model.specs.GrammarFaults.{grammar_fault, first_fault, NumberedFault}
use Rattle.gv_model.specs.Parsing.{fault_at, kinds}
use Rattle.gv_model.specs.TreeReading.{read, list_items, tuple_items, pair_items, one_tree}
use Rattle.gv_model.specs.LeastTypes.{choice, least_in}
use Rattle.gv_model.specs.Patterns.{common, under, exactly, pattern}
use Rattle.gv_model.specs.Literals.{ValueFault}
use Rattle.gv_model.specs.TextValues.{literal_value, contents, type_of_syntax, value_of}
use Rattle.gv_model.specs.Literals.ValueFault.{bad_signature, no_common, not_clear, out_of_range, bad_object_path, double_text as double_value}

-- what a text gives: a type and its printed text, or a fault
pub data Outcome : Type 0 where
  fine : List ℕ → List ℕ → Outcome
  value_fault : ValueFault → Outcome
  text_fault : Cause → ℕ → ℕ → Outcome
  nonsense : Outcome

shown : Result Tree ValueFault → Outcome
shown (Ok v) = fine (spelling (type_of v)) (printed v true)
shown (Err e) = value_fault e

from_fault : Fault → Outcome
from_fault f = text_fault f.cause f.start f.stop

from_syntax : Option Syntax → Outcome
from_syntax (Some x) = shown (value_of x)
from_syntax None = nonsense

from_grammar : ℕ → List Placed → Option NumberedFault → Outcome
from_grammar size ts (Some f) = from_fault (fault_at size f.0 (slice_get ts f.1))
from_grammar size ts None = from_syntax (one_tree (read (kinds ts)))

from_tokens : ℕ → Lexed → Outcome
from_tokens size l = go l.1 l.0
  where
    go : Option Fault → List Placed → Outcome
    go (Some f) ts = from_fault f
    go None ts = from_grammar size ts (grammar_fault (kinds ts))

outcome : List ℕ → Outcome
outcome s = from_tokens (length s) (lexed 0 0 s)

unfoldable all_computing : ℕ
unfolding digits computing lexing depth text_of levels tokens_of first_fault read list_items tuple_items pair_items choice common under exactly pattern least_in literal_value contents type_of_syntax value_of shown from_fault from_syntax from_grammar from_tokens outcome
all_computing = 0

reads_1 : outcome (codes "[1, @x 2]") ≡ fine (codes "ax") (codes "[int64 1, 2]")
unfolding all_computing
reads_1 = refl

reads_2 : outcome (codes "['/a', objectpath '/b']") ≡ fine (codes "ao") (codes "[objectpath '/a', '/b']")
unfolding all_computing
reads_2 = refl

reads_3 : outcome (codes "[just 1, 2]") ≡ fine (codes "ami") (codes "[@mi 1, 2]")
unfolding all_computing
reads_3 = refl

reads_4 : outcome (codes "@mmi just nothing") ≡ fine (codes "mmi") (codes "@mmi just nothing")
unfolding all_computing
reads_4 = refl

reads_5 : outcome (codes "{'a': <010>, 'b': <0x10>}") ≡ fine (codes "a{sv}") (codes "{'a': <8>, 'b': <16>}")
unfolding all_computing
reads_5 = refl

reads_6 : outcome (codes "[1, nothing]") ≡ fine (codes "ami") (codes "[@mi 1, nothing]")
unfolding all_computing
reads_6 = refl

reads_7 : outcome (codes "@ad []") ≡ fine (codes "ad") (codes "@ad []")
unfolding all_computing
reads_7 = refl

reads_8 : outcome (codes "[<1>, nothing]") ≡ fine (codes "amv") (codes "[@mv <1>, nothing]")
unfolding all_computing
reads_8 = refl

reads_9 : outcome (codes "[{'a', 1}]") ≡ fine (codes "a{si}") (codes "{'a': 1}")
unfolding all_computing
reads_9 = refl

reads_10 : outcome (codes "(1,)") ≡ fine (codes "(i)") (codes "(1,)")
unfolding all_computing
reads_10 = refl

reads_11 : outcome (codes "[1, just nothing]") ≡ fine (codes "ammi") (codes "[@mmi 1, just nothing]")
unfolding all_computing
reads_11 = refl

has_no_value_1 : outcome (codes "['a', objectpath '/b']") ≡ value_fault bad_object_path
unfolding all_computing
has_no_value_1 = refl

has_no_value_2 : outcome (codes "just just nothing") ≡ value_fault not_clear
unfolding all_computing
has_no_value_2 = refl

has_no_value_3 : outcome (codes "{}") ≡ value_fault not_clear
unfolding all_computing
has_no_value_3 = refl

has_no_value_4 : outcome (codes "<[]>") ≡ value_fault not_clear
unfolding all_computing
has_no_value_4 = refl

has_no_value_5 : outcome (codes "[1, 'a']") ≡ value_fault no_common
unfolding all_computing
has_no_value_5 = refl

has_no_value_6 : outcome (codes "@y 256") ≡ value_fault out_of_range
unfolding all_computing
has_no_value_6 = refl

has_no_value_7 : outcome (codes "[]") ≡ value_fault not_clear
unfolding all_computing
has_no_value_7 = refl

has_no_value_8 : outcome (codes "[byte 1, nothing]") ≡ value_fault no_common
unfolding all_computing
has_no_value_8 = refl

has_no_value_9 : outcome (codes "uint32 -0") ≡ value_fault out_of_range
unfolding all_computing
has_no_value_9 = refl

has_no_value_10 : outcome (codes "[1, 3000000000]") ≡ value_fault out_of_range
unfolding all_computing
has_no_value_10 = refl

has_no_value_11 : outcome (codes "@d 5") ≡ value_fault double_value
unfolding all_computing
has_no_value_11 = refl

has_no_value_12 : outcome (codes "[@mi 1, @i 2]") ≡ value_fault no_common
unfolding all_computing
has_no_value_12 = refl

has_no_value_13 : outcome (codes "@i <[]>") ≡ value_fault not_clear
unfolding all_computing
has_no_value_13 = refl

is_no_text_1 : outcome (codes "09") ≡ text_fault bad_token 0 2
unfolding all_computing
is_no_text_1 = refl

is_no_text_2 : outcome (codes "1e5") ≡ text_fault double_text 0 3
unfolding all_computing
is_no_text_2 = refl

is_no_text_3 : outcome (codes "'a") ≡ text_fault unclosed 0 1
unfolding all_computing
is_no_text_3 = refl

is_no_text_4 : outcome (codes "(1 2)") ≡ text_fault unexpected 3 4
unfolding all_computing
is_no_text_4 = refl

is_no_text_5 : outcome ([]) ≡ text_fault unexpected 0 0
unfolding all_computing
is_no_text_5 = refl

is_no_text_6 : outcome (codes "1.5") ≡ text_fault double_text 0 3
unfolding all_computing
is_no_text_6 = refl

is_no_text_7 : outcome (codes "[1") ≡ text_fault unclosed 0 1
unfolding all_computing
is_no_text_7 = refl

is_no_text_8 : outcome (codes "just ") ≡ text_fault unexpected 5 5
unfolding all_computing
is_no_text_8 = refl

is_no_text_9 : outcome (codes "[1 2") ≡ text_fault unexpected 3 4
unfolding all_computing
is_no_text_9 = refl

is_no_text_10 : outcome (codes "--5") ≡ text_fault bad_token 0 1
unfolding all_computing
is_no_text_10 = refl

is_no_text_11 : outcome (codes "@ i") ≡ text_fault bad_token 0 1
unfolding all_computing
is_no_text_11 = refl

is_no_text_12 : outcome (codes "b'a") ≡ text_fault unclosed 1 2
unfolding all_computing
is_no_text_12 = refl

is_no_text_13 : outcome (codes "oops") ≡ text_fault bad_token 0 4
unfolding all_computing
is_no_text_13 = refl

is_no_text_14 : outcome (codes "0x1e+5") ≡ text_fault unexpected 4 6
unfolding all_computing
is_no_text_14 = refl

is_no_text_15 : outcome (codes "'\\ud800'") ≡ text_fault bad_escape 1 7
unfolding all_computing
is_no_text_15 = refl

is_no_text_16 : outcome (codes "'\\u12g'") ≡ text_fault bad_escape 1 5
unfolding all_computing
is_no_text_16 = refl

bytes_row : outcome (98 ∷ 39 ∷ 92 ∷ 51 ∷ 55 ∷ 55 ∷ 92 ∷ 49 ∷ 48 ∷ 49 ∷ 39 ∷ []) ≡ fine (codes "ay") (98 ∷ 39 ∷ 92 ∷ 51 ∷ 55 ∷ 55 ∷ 65 ∷ 39 ∷ [])
unfolding all_computing
bytes_row = refl

-- depth: 128 open brackets and their closing ones parse, one more is too deep at its bracket
deep_fault : grammar_fault (kinds ((lexed 0 0 (replicate 129 91)).0)) ≡ Some (too_deep, 128)
unfolding all_computing
deep_fault = refl

open_fault : grammar_fault (kinds ((lexed 0 0 (replicate 128 91)).0)) ≡ Some (unclosed, 127)
unfolding all_computing
open_fault = refl

deep_fine : grammar_fault (kinds ((lexed 0 0 (replicate 128 91 ++ replicate 128 93)).0)) ≡ None
unfolding all_computing
deep_fine = refl

lists_127 : outcome (replicate 127 91 ++ replicate 127 93) ≡ value_fault not_clear
unfolding all_computing
lists_127 = refl

lists_128 : outcome (replicate 128 91 ++ replicate 128 93) ≡ value_fault no_common
unfolding all_computing
lists_128 = refl

also_1 : outcome (49 ∷ 46 ∷ []) ≡ text_fault double_text 0 2
unfolding all_computing
also_1 = refl

also_2 : outcome (46 ∷ 53 ∷ []) ≡ text_fault double_text 0 2
unfolding all_computing
also_2 = refl

also_3 : outcome (49 ∷ 46 ∷ 101 ∷ 53 ∷ []) ≡ text_fault double_text 0 4
unfolding all_computing
also_3 = refl

also_4 : outcome (48 ∷ 57 ∷ 46 ∷ 53 ∷ []) ≡ text_fault double_text 0 4
unfolding all_computing
also_4 = refl

also_5 : outcome (49 ∷ 101 ∷ []) ≡ text_fault bad_token 0 2
unfolding all_computing
also_5 = refl

also_6 : outcome (49 ∷ 101 ∷ 43 ∷ []) ≡ text_fault bad_token 0 3
unfolding all_computing
also_6 = refl

also_7 : outcome (46 ∷ []) ≡ text_fault bad_token 0 1
unfolding all_computing
also_7 = refl

also_8 : outcome (46 ∷ 101 ∷ 53 ∷ []) ≡ text_fault bad_token 0 3
unfolding all_computing
also_8 = refl

also_9 : outcome (73 ∷ 78 ∷ 70 ∷ []) ≡ text_fault bad_token 0 3
unfolding all_computing
also_9 = refl

also_10 : outcome (110 ∷ 97 ∷ 110 ∷ []) ≡ text_fault double_text 0 3
unfolding all_computing
also_10 = refl

also_11 : outcome (100 ∷ 111 ∷ 117 ∷ 98 ∷ 108 ∷ 101 ∷ 32 ∷ 49 ∷ []) ≡ text_fault double_text 0 6
unfolding all_computing
also_11 = refl

also_12 : outcome (98 ∷ 39 ∷ 92 ∷ 55 ∷ 55 ∷ 55 ∷ 39 ∷ []) ≡ text_fault bad_escape 2 6
unfolding all_computing
also_12 = refl

also_13 : outcome (98 ∷ 39 ∷ 92 ∷ 117 ∷ 92 ∷ 56 ∷ 92 ∷ 113 ∷ 39 ∷ []) ≡ fine (codes "ay") (98 ∷ 39 ∷ 117 ∷ 56 ∷ 113 ∷ 39 ∷ [])
unfolding all_computing
also_13 = refl

also_14 : outcome (39 ∷ 92 ∷ 48 ∷ 92 ∷ 120 ∷ 39 ∷ []) ≡ fine (codes "s") (39 ∷ 48 ∷ 120 ∷ 39 ∷ [])
unfolding all_computing
also_14 = refl

also_15 : outcome (64 ∷ 97 ∷ 63 ∷ []) ≡ text_fault bad_token 0 1
unfolding all_computing
also_15 = refl

also_16 : outcome (64 ∷ 97 ∷ 121 ∷ 98 ∷ 39 ∷ 120 ∷ 39 ∷ []) ≡ fine (codes "ay") (98 ∷ 39 ∷ 120 ∷ 39 ∷ [])
unfolding all_computing
also_16 = refl

also_17 : outcome (64 ∷ 97 ∷ 98 ∷ 39 ∷ 120 ∷ 39 ∷ []) ≡ value_fault no_common
unfolding all_computing
also_17 = refl

also_18 : outcome (97 ∷ 98 ∷ 39 ∷ 120 ∷ 39 ∷ []) ≡ text_fault bad_token 0 2
unfolding all_computing
also_18 = refl

also_19 : outcome (48 ∷ 48 ∷ 56 ∷ []) ≡ text_fault bad_token 0 3
unfolding all_computing
also_19 = refl

also_20 : outcome (48 ∷ 48 ∷ []) ≡ fine (codes "i") (48 ∷ [])
unfolding all_computing
also_20 = refl

also_21 : outcome (194 ∷ 160 ∷ []) ≡ text_fault bad_token 0 2
unfolding all_computing
also_21 = refl

also_22 : outcome (45 ∷ 48 ∷ []) ≡ fine (codes "i") (48 ∷ [])
unfolding all_computing
also_22 = refl

also_23 : outcome (43 ∷ 48 ∷ []) ≡ fine (codes "i") (48 ∷ [])
unfolding all_computing
also_23 = refl

also_24 : outcome (39 ∷ 92 ∷ 117 ∷ 49 ∷ 50 ∷ 0 ∷ 39 ∷ []) ≡ text_fault bad_escape 1 5
unfolding all_computing
also_24 = refl

also_25 : outcome (39 ∷ 97 ∷ 0 ∷ 39 ∷ []) ≡ text_fault bad_token 2 3
unfolding all_computing
also_25 = refl

also_26 : outcome (39 ∷ 97 ∷ 92 ∷ []) ≡ text_fault unclosed 0 1
unfolding all_computing
also_26 = refl

also_27 : outcome (39 ∷ 92 ∷ 0 ∷ 39 ∷ []) ≡ text_fault bad_token 2 3
unfolding all_computing
also_27 = refl

also_28 : outcome (39 ∷ 92 ∷ 85 ∷ 48 ∷ 48 ∷ 49 ∷ 49 ∷ 48 ∷ 48 ∷ 48 ∷ 48 ∷ 39 ∷ []) ≡ text_fault bad_escape 1 11
unfolding all_computing
also_28 = refl

also_29 : outcome (48 ∷ 120 ∷ 56 ∷ 48 ∷ 48 ∷ 48 ∷ 48 ∷ 48 ∷ 48 ∷ 48 ∷ []) ≡ value_fault out_of_range
unfolding all_computing
also_29 = refl

also_30 : outcome (64 ∷ 117 ∷ 32 ∷ 48 ∷ 120 ∷ 56 ∷ 48 ∷ 48 ∷ 48 ∷ 48 ∷ 48 ∷ 48 ∷ 48 ∷ []) ≡ fine (codes "u") (117 ∷ 105 ∷ 110 ∷ 116 ∷ 51 ∷ 50 ∷ 32 ∷ 50 ∷ 49 ∷ 52 ∷ 55 ∷ 52 ∷ 56 ∷ 51 ∷ 54 ∷ 52 ∷ 56 ∷ [])
unfolding all_computing
also_30 = refl

also_31 : outcome (105 ∷ 110 ∷ 116 ∷ 49 ∷ 54 ∷ 32 ∷ 45 ∷ 51 ∷ 50 ∷ 55 ∷ 54 ∷ 56 ∷ []) ≡ fine (codes "n") (105 ∷ 110 ∷ 116 ∷ 49 ∷ 54 ∷ 32 ∷ 45 ∷ 51 ∷ 50 ∷ 55 ∷ 54 ∷ 56 ∷ [])
unfolding all_computing
also_31 = refl

also_32 : outcome (105 ∷ 110 ∷ 116 ∷ 49 ∷ 54 ∷ 32 ∷ 51 ∷ 50 ∷ 55 ∷ 54 ∷ 56 ∷ []) ≡ value_fault out_of_range
unfolding all_computing
also_32 = refl

also_33 : outcome (64 ∷ 100 ∷ 32 ∷ 45 ∷ 48 ∷ []) ≡ value_fault double_value
unfolding all_computing
also_33 = refl

also_34 : outcome (39 ∷ 92 ∷ 117 ∷ 48 ∷ 48 ∷ 101 ∷ 57 ∷ 39 ∷ []) ≡ fine (codes "s") (39 ∷ 195 ∷ 169 ∷ 39 ∷ [])
unfolding all_computing
also_34 = refl

also_35 : outcome (40 ∷ 98 ∷ 121 ∷ 116 ∷ 101 ∷ 32 ∷ 49 ∷ 44 ∷ 32 ∷ 60 ∷ 39 ∷ 120 ∷ 39 ∷ 62 ∷ 41 ∷ []) ≡ fine (codes "(yv)") (40 ∷ 98 ∷ 121 ∷ 116 ∷ 101 ∷ 32 ∷ 48 ∷ 120 ∷ 48 ∷ 49 ∷ 44 ∷ 32 ∷ 60 ∷ 39 ∷ 120 ∷ 39 ∷ 62 ∷ 41 ∷ [])
unfolding all_computing
also_35 = refl

also_36 : outcome (64 ∷ 97 ∷ 123 ∷ 115 ∷ 118 ∷ 125 ∷ 32 ∷ 123 ∷ 125 ∷ []) ≡ fine (codes "a{sv}") (64 ∷ 97 ∷ 123 ∷ 115 ∷ 118 ∷ 125 ∷ 32 ∷ 123 ∷ 125 ∷ [])
unfolding all_computing
also_36 = refl

also_37 : outcome (40 ∷ 49 ∷ 44 ∷ 50 ∷ 44 ∷ 41 ∷ []) ≡ text_fault unexpected 5 6
unfolding all_computing
also_37 = refl

also_38 : outcome (91 ∷ 49 ∷ 44 ∷ 93 ∷ []) ≡ text_fault unexpected 3 4
unfolding all_computing
also_38 = refl

also_39 : outcome (123 ∷ 49 ∷ 58 ∷ 50 ∷ 44 ∷ 51 ∷ 125 ∷ []) ≡ text_fault unexpected 6 7
unfolding all_computing
also_39 = refl

also_40 : outcome (60 ∷ 49 ∷ []) ≡ text_fault unclosed 0 1
unfolding all_computing
also_40 = refl

also_41 : outcome (106 ∷ 117 ∷ 115 ∷ 116 ∷ []) ≡ text_fault unexpected 4 4
unfolding all_computing
also_41 = refl

also_42 : outcome (91 ∷ 106 ∷ 117 ∷ 115 ∷ 116 ∷ []) ≡ text_fault unclosed 0 1
unfolding all_computing
also_42 = refl

also_43 : outcome (115 ∷ 105 ∷ 103 ∷ 110 ∷ 97 ∷ 116 ∷ 117 ∷ 114 ∷ 101 ∷ 32 ∷ 39 ∷ 109 ∷ 39 ∷ []) ≡ value_fault bad_signature
unfolding all_computing
also_43 = refl

also_44 : outcome (115 ∷ 105 ∷ 103 ∷ 110 ∷ 97 ∷ 116 ∷ 117 ∷ 114 ∷ 101 ∷ 32 ∷ 39 ∷ 97 ∷ 115 ∷ 39 ∷ []) ≡ fine (codes "g") (115 ∷ 105 ∷ 103 ∷ 110 ∷ 97 ∷ 116 ∷ 117 ∷ 114 ∷ 101 ∷ 32 ∷ 39 ∷ 97 ∷ 115 ∷ 39 ∷ [])
unfolding all_computing
also_44 = refl

also_45 : outcome (40 ∷ 39 ∷ 97 ∷ 39 ∷ 44 ∷ 32 ∷ 64 ∷ 111 ∷ 32 ∷ 39 ∷ 98 ∷ 39 ∷ 44 ∷ 32 ∷ 64 ∷ 121 ∷ 32 ∷ 51 ∷ 48 ∷ 48 ∷ 41 ∷ []) ≡ value_fault bad_object_path
unfolding all_computing
also_45 = refl

-- Worked keyfiles with their values, and what several files give.
use Rattle.std.specs.Prelude.{◌≡◌, ℕ, true, false, List, [], ◌∷◌, Ok, Err, Some, None, codes, refl, Result}
use Rattle.std.specs.Fmt.{digits}
use Rattle.gv_model.specs.Tree.{Tree, depth, nodes, tree_at}
use Rattle.gv_model.specs.Tree.Tree.{number, text as text_value}
use Rattle.gv_model.specs.Ty.Basic.{int32, uint32, string}
use Rattle.gv_model.specs.Syntax.{levels}
use Rattle.gv_model.specs.Grammar.{tokens_of}
use Rattle.gv_model.specs.GrammarFaults.{first_fault}
use Rattle.gv_model.specs.TreeReading.{read, list_items, tuple_items, pair_items}
use Rattle.gv_model.specs.LeastTypes.{choice, least_in}
use Rattle.gv_model.specs.Patterns.{common, under, exactly, pattern}
use Rattle.gv_model.specs.TextValues.{literal_value, contents, type_of_syntax, value_of}
use Rattle.gv_model.specs.Encode.{encode, number_bytes, packed, body_from, ends_from, open_ends_from, least_width, framed}
use Rattle.gv_model.specs.TextFault.Cause.{bad_token, double_text}
use Rattle.gv_model.proofs.WorkedValues.{computing}
use Rattle.gv_model.proofs.WorkedTokens.{lexing}
use Rattle.dconf_model.specs.FaultTexts.{cause_text}
use Rattle.dconf_model.specs.Causes.SettingsCause.{bad_line, lock_not_key, text_fault}
use Rattle.dconf_model.specs.Lines.{LineFault, fault_at_line}
use Rattle.dconf_model.specs.Values.{value_of_text, stored, held_value}
use Rattle.dconf_model.specs.Sources.{Assigned, Loaded, Source, FileFault, Given, loaded, compiled, given, last_value}
use Rattle.dconf_model.specs.Sources.File.{keyfile, lock_file}
use Rattle.dconf_model.proofs.WorkedLines.{reading, text_of}

unfoldable pub meaning : ℕ
unfolding reading text_of digits computing lexing depth nodes tree_at levels tokens_of first_fault read list_items tuple_items pair_items choice common under exactly
    pattern least_in literal_value contents type_of_syntax value_of value_of_text encode number_bytes packed body_from ends_from open_ends_from least_width framed
meaning = 0

abbrev pub lines : List (List ℕ) → List ℕ
lines ls = text_of ls

abbrev assign : List ℕ → Tree → Assigned
assign p v = record { path = p; value = v }

abbrev source : List ℕ → List (List ℕ) → Source
source n ls = record { name = n; bytes = text_of ls }

five_is_stored : stored (number int32 5) ≡ 5 ∷ 0 ∷ 0 ∷ 0 ∷ 0 ∷ 105 ∷ []
unfolding meaning
five_is_stored = refl

five_is_held : held_value (5 ∷ 0 ∷ 0 ∷ 0 ∷ 0 ∷ 105 ∷ []) ≡ Some (number int32 5)
unfolding meaning
five_is_held = refl

double : compiled (text_of (codes "[a]" ∷ codes "k=1.5" ∷ [])) ≡ fault_at_line 2 (text_fault (record { cause = double_text; start = 0; stop = 3 }))
unfolding meaning
double = refl

-- lines at fault come before values
later_line_first : compiled (text_of (codes "[a]" ∷ codes "k=oops" ∷ codes "nonsense" ∷ [])) ≡ fault_at_line 3 bad_line
unfolding meaning
later_line_first = refl

-- ---- two files

unfoldable pub b : Source
b = source (codes "10-b") (codes "[a]" ∷ codes "k=2" ∷ [])

unfoldable pub a : Source
a = source (codes "00-a") (codes "[a]" ∷ codes "k=1" ∷ codes "j=3" ∷ codes "[/]" ∷ codes "r='x'" ∷ [])

both : Result Given FileFault
both = Ok (record {
  values = assign (codes "/a/k") (number int32 1) ∷ assign (codes "/a/j") (number int32 3) ∷ assign (codes "/r") (text_value string (codes "x"))
      ∷ assign (codes "/a/k") (number int32 2) ∷ [];
  locks = [];
})

two_files : given (b ∷ a ∷ []) [] ≡ both
unfolding meaning a b both
two_files = refl

-- what was given, or nothing
unfoldable pub given_of : Result Given FileFault → Given
given_of (Ok g) = g
given_of (Err f) = record { values = []; locks = [] }

values_of : Result Given FileFault → List Assigned
values_of (Ok g) = g.values
values_of (Err f) = []

-- the later name wins, whichever is handed in first
later_name : last_value (values_of (given (b ∷ a ∷ []) [])) (codes "/a/k") ≡ Some (number int32 2)
unfolding meaning a b values_of
later_name = refl

no_value : last_value (values_of both) (codes "/a") ≡ None
unfolding both values_of
no_value = refl

bad_a : Source
bad_a = source (codes "00-a") (codes "[a]" ∷ codes "k=oops" ∷ codes "j=3" ∷ [])

c : Source
c = source (codes "20-c") (codes "[a]" ∷ codes "nonsense" ∷ [])

-- a line that is overridden is at fault too
overridden : given (b ∷ bad_a ∷ []) [] ≡ Err (record { file = keyfile 1; line = 2; cause = text_fault (record { cause = bad_token; start = 0; stop = 4 }) })
unfolding meaning b bad_a
overridden = refl

bad_value_text : cause_text (text_fault (record { cause = bad_token; start = 0; stop = 4 })) ≡ codes "BadToken at 0..4"
unfolding digits
bad_value_text = refl

third_file : given (b ∷ a ∷ c ∷ []) [] ≡ Err (record { file = keyfile 2; line = 2; cause = bad_line })
unfolding meaning a b c
third_file = refl

lock_fault_last : given (c ∷ []) (source (codes "locks") (codes "/a//" ∷ []) ∷ []) ≡ Err (record { file = keyfile 0; line = 2; cause = bad_line })
unfolding meaning c
lock_fault_last = refl

lock_fault_alone : given (a ∷ []) (source (codes "locks") (codes "/a//" ∷ []) ∷ []) ≡ Err (record { file = lock_file 0; line = 1; cause = lock_not_key })
unfolding meaning a
lock_fault_alone = refl

-- ---- loading

abbrev these_loaded : List Assigned → List (List ℕ) → Result Loaded LineFault
these_loaded rows left_out = Ok (record { rows = rows; left_out = left_out })

below : loaded false (codes "/z/") (text_of (codes "[b]" ∷ codes "k=uint32 5" ∷ codes "[/]" ∷ codes "j=1" ∷ []))
    ≡ these_loaded (assign (codes "/z/b/k") (number uint32 5) ∷ assign (codes "/z/j") (number int32 1) ∷ []) []
unfolding meaning
below = refl

-- a double is left out, and only a double
without_doubles : loaded true (codes "/z/") (text_of (codes "[b]" ∷ codes "k=1.5" ∷ codes "j=1" ∷ codes "i=(@d 5, 2)" ∷ []))
    ≡ these_loaded (assign (codes "/z/b/j") (number int32 1) ∷ []) (codes "/z/b/k" ∷ codes "/z/b/i" ∷ [])
unfolding meaning
without_doubles = refl

with_double : loaded false (codes "/z/") (text_of (codes "[b]" ∷ codes "j=1" ∷ codes "k=1.5" ∷ []))
    ≡ fault_at_line 3 (text_fault (record { cause = double_text; start = 0; stop = 3 }))
unfolding meaning
with_double = refl

not_a_double : loaded true (codes "/z/") (text_of (codes "[b]" ∷ codes "k=1.5" ∷ codes "j=1x" ∷ []))
    ≡ fault_at_line 3 (text_fault (record { cause = bad_token; start = 0; stop = 2 }))
unfolding meaning
not_a_double = refl

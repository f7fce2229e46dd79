-- The value of a text, and the bytes that are stored for a value.
-- GLib, "GVariant Text Format"; gvdb-format.h, where a value is stored as a variant that holds it.
use Rattle.std.specs.Prelude.{◌≡◌, ◌⊎◌, ℕ, List, length, slice_get, Option, Some, None, Result, Ok, Err, Bool, nat_lt, nat_le, ◌&&◌, if◌then◌else◌}
use Rattle.gv_model.specs.Ty.{Ty}
use Rattle.gv_model.specs.TypeText.{IsWithinLimits}
use Rattle.gv_model.specs.Typed.{IsValue}
use Rattle.gv_model.specs.Ty.Ty.{variant}
use Rattle.gv_model.specs.Tree.{Tree, type_of, depth, children, tree_at}
use Rattle.gv_model.specs.Tree.Tree.{node}
use Rattle.gv_model.specs.Tree.Trees.{none, first}
use Rattle.gv_model.specs.Decode.{decode}
use Rattle.gv_model.specs.Encode.{encode}
use Rattle.gv_model.specs.Syntax.{Syntax}
use Rattle.gv_model.specs.Tokens.{Placed}
use Rattle.gv_model.specs.TextFault.{Fault}
use Rattle.gv_model.specs.TextFault.Cause.{unexpected}
use Rattle.gv_model.specs.Lexed.{lexed}
use Rattle.gv_model.specs.GrammarFaults.{NumberedFault, grammar_fault}
use Rattle.gv_model.specs.Parsing.{IsTree, HasFault, fault_at, kinds}
use Rattle.gv_model.specs.TreeReading.{read, one_tree}
use Rattle.gv_model.specs.Chosen.Choice.{is, no_common_type, ambiguous}
use Rattle.gv_model.specs.Literals.{ValueFault}
use Rattle.gv_model.specs.Literals.ValueFault.{no_common, not_clear}
use Rattle.gv_model.specs.TextValues.{HasChoice, HasValue, value_of}
use Rattle.dconf_model.specs.Bytes.{longest_file}
use Rattle.dconf_model.specs.Causes.{SettingsCause}
use Rattle.dconf_model.specs.Causes.SettingsCause.{text_fault, value_fault, too_large}

-- ---- the value of a text by its own type, or its first fault, computed

abbrev pub or_value_fault : Result Tree ValueFault → Result Tree SettingsCause
or_value_fault (Ok v) = Ok v
or_value_fault (Err f) = Err (value_fault f)

abbrev pub of_syntax : ℕ → Option Syntax → Result Tree SettingsCause
of_syntax size (Some x) = or_value_fault (value_of x)
of_syntax size None = Err (text_fault (fault_at size unexpected None))

abbrev pub of_grammar : ℕ → List Placed → Option NumberedFault → Result Tree SettingsCause
of_grammar size placed (Some f) = Err (text_fault (fault_at size f.0 (slice_get placed f.1)))
of_grammar size placed None = of_syntax size (one_tree (read (kinds placed)))

abbrev pub of_tokens : ℕ → List Placed → Option Fault → Result Tree SettingsCause
of_tokens size placed (Some f) = Err (text_fault f)
of_tokens size placed None = of_grammar size placed (grammar_fault (kinds placed))

unfoldable pub value_of_text : List ℕ → Result Tree SettingsCause
value_of_text s = let l = lexed 0 0 s in of_tokens (length s) l.0 l.1

-- ---- the same, as it is said of texts. Laws: it is what is computed, and a text has no other.

-- the text's syntax has no type of its own
abbrev pub HasNoType : Syntax → ValueFault → Type 0
HasNoType x no_common = HasChoice x no_common_type
HasNoType x not_clear = HasChoice x ambiguous
HasNoType x _ = ⊥

abbrev pub HasValueBy : Syntax → Result Tree ValueFault → Type 0
HasValueBy x r = (t : Ty) × HasChoice x (is t) × HasValue x t r

abbrev pub IsMeaning : List ℕ → Result Tree SettingsCause → Type 0
IsMeaning s (Ok v) = (x : Syntax) × IsTree s x × HasValueBy x (Ok v)
IsMeaning s (Err (text_fault f)) = HasFault s f
IsMeaning s (Err (value_fault f)) = (x : Syntax) × IsTree s x × (HasNoType x f ⊎ HasValueBy x (Err f))
IsMeaning s (Err _) = ⊥

abbrev pub TextHasItsValue : Type 0
TextHasItsValue = (s : List ℕ) → IsMeaning s (value_of_text s)

abbrev pub HasOneMeaning : Type 0
HasOneMeaning = (s : List ℕ) (p q : Result Tree SettingsCause) → IsMeaning s p → IsMeaning s q → p ≡ q

-- ---- values that are stored

abbrev pub stored : Tree → List ℕ
stored v = encode (node variant (first v none))

-- with its variant it is 128 deep at most, and a file may hold its bytes
abbrev pub is_storable : Tree → Bool
is_storable v = nat_lt (depth v) 128 && nat_le (length (stored v)) longest_file

-- the value that stored bytes hold
abbrev pub held_value : List ℕ → Option Tree
held_value bytes = tree_at (children (decode variant bytes)) 0

abbrev pub if_storable : Result Tree SettingsCause → Result Tree SettingsCause
if_storable (Ok v) = if is_storable v then Ok v else Err too_large
if_storable (Err c) = Err c

-- what is stored comes back
abbrev pub StoredIsHeld : Type 0
StoredIsHeld = (v : Tree) → IsValue v → IsWithinLimits (type_of v) → held_value (stored v) ≡ Some v

-- The value that a syntax tree has at a type, or the first fault.
use Rattle.std.specs.Prelude.{◌≡◌, true, false, List, [], ◌∷◌, ◌++◌, Result, Ok, Err, nat_le, if◌then◌else◌}
use Rattle.gv_model.specs.Ty.{Ty, Types, Basic}
use Rattle.gv_model.specs.Ty.Ty.{basic, variant, array, maybe, tuple, entry}
use Rattle.gv_model.specs.Ty.Types.{end, member}
use Rattle.gv_model.specs.Tree.{Tree, Trees, depth}
use Rattle.gv_model.specs.Tree.Tree.{number, node}
use Rattle.gv_model.specs.Tree.Trees.{none as no_tree, first as first_tree}
use Rattle.gv_model.specs.Syntax.{Syntax, Syntaxes, Pairs}
use Rattle.gv_model.specs.Syntax.Syntax.{truth, integer, quoted, bytes, list, tuple_of, dictionary, lone, boxed, just, nothing, at_type, keyword}
use Rattle.gv_model.specs.Syntax.Syntaxes.{none, first}
use Rattle.gv_model.specs.Syntax.Pairs.{no_pair, pair}
use Rattle.gv_model.specs.Chosen.{Choice, Chooses}
use Rattle.gv_model.specs.Admits.{Admits}
use Rattle.gv_model.specs.Chosen.Choice.{is, no_common_type, ambiguous}
use Rattle.gv_model.specs.LeastTypes.{choice}
use Rattle.gv_model.specs.Literals.{ValueFault, integer_at, text_at, byte_string_trees}
use Rattle.gv_model.specs.Literals.ValueFault.{no_common, not_clear, too_deep}

abbrev pub with_first : Result Tree ValueFault → Result Trees ValueFault → Result Trees ValueFault
with_first (Err e) vs = Err e
with_first (Ok v) (Err e) = Err e
with_first (Ok v) (Ok vs) = Ok (first_tree v vs)

abbrev pub in_node : Ty → Result Trees ValueFault → Result Tree ValueFault
in_node t (Ok vs) = Ok (node t vs)
in_node t (Err e) = Err e

abbrev pub only_one : Result Tree ValueFault → Result Trees ValueFault
only_one v = with_first v (Ok no_tree)

-- at maybes of a type: Just at each level
abbrev pub at_maybes : (Ty → Result Tree ValueFault) → Ty → Result Tree ValueFault
at_maybes f (maybe t) = in_node (maybe t) (only_one (at_maybes f t))
at_maybes f t = f t

abbrev pub at_basic : (Basic → Result Tree ValueFault) → Ty → Result Tree ValueFault
at_basic f (basic k) = f k
at_basic f t = Err no_common

abbrev pub at_array : (Ty → Result Trees ValueFault) → Ty → Result Tree ValueFault
at_array f (array t) = in_node (array t) (f t)
at_array f t = Err no_common

abbrev pub at_variant : Result Trees ValueFault → Ty → Result Tree ValueFault
at_variant r variant = in_node variant r
at_variant r t = Err no_common

abbrev pub at_tuple : (Types → Result Trees ValueFault) → Ty → Result Tree ValueFault
at_tuple f (tuple ts) = in_node (tuple ts) (f ts)
at_tuple f t = Err no_common

abbrev pub at_entry : (Ty → Result Tree ValueFault) → (Ty → Result Tree ValueFault) → Ty → Result Tree ValueFault
at_entry f g (entry k t) = in_node (entry k t) (with_first (f (basic k)) (only_one (g t)))
at_entry f g t = Err no_common

abbrev pub at_maybe : (Ty → Result Trees ValueFault) → Ty → Result Tree ValueFault
at_maybe f (maybe t) = in_node (maybe t) (f t)
at_maybe f t = Err no_common

abbrev pub chosen_or : (Ty → Result Tree ValueFault) → Choice → Result Tree ValueFault
chosen_or f (is t) = f t
chosen_or f no_common_type = Err no_common
chosen_or f ambiguous = Err not_clear

unfoldable mutual
  -- the value of syntax at a type that it admits; what is in `<..>` has the type that
  -- is chosen for it
  pub literal_value : (Syntax → Choice) → Syntax → Ty → Result Tree ValueFault
  literal_value choose (truth true) t = at_maybes (at_basic (λ k. Ok (number k 1))) t
  literal_value choose (truth false) t = at_maybes (at_basic (λ k. Ok (number k 0))) t
  literal_value choose (integer negative n) t = at_maybes (at_basic (λ k. integer_at k negative n)) t
  literal_value choose (quoted s) t = at_maybes (at_basic (λ k. text_at k s)) t
  literal_value choose (bytes s) t = at_maybes (at_array (λ u. Ok (byte_string_trees s))) t
  literal_value choose (list xs) t = at_maybes (at_array (elements choose xs)) t
  literal_value choose (tuple_of xs) t = at_maybes (at_tuple (members_of choose xs)) t
  literal_value choose (dictionary ps) t = at_maybes (at_array (entries choose ps)) t
  literal_value choose (lone k v) t = at_maybes (at_entry (literal_value choose k) (literal_value choose v)) t
  literal_value choose (boxed x) t = at_maybes (at_variant (only_one (chosen_or (literal_value choose x) (choose x)))) t
  literal_value choose (just x) t = at_maybe (λ u. only_one (literal_value choose x u)) t
  literal_value choose nothing t = at_maybe (λ u. Ok no_tree) t
  literal_value choose (at_type u x) t = literal_value choose x t
  literal_value choose (keyword k x) t = literal_value choose x t

  pub elements : (Syntax → Choice) → Syntaxes → Ty → Result Trees ValueFault
  elements choose none t = Ok no_tree
  elements choose (first x xs) t = with_first (literal_value choose x t) (elements choose xs t)

  pub members_of : (Syntax → Choice) → Syntaxes → Types → Result Trees ValueFault
  members_of choose none ts = Ok no_tree
  members_of choose (first x xs) (member t ts) = with_first (literal_value choose x t) (members_of choose xs ts)
  members_of choose (first x xs) end = Err no_common

  pub entries : (Syntax → Choice) → Pairs → Ty → Result Trees ValueFault
  entries choose no_pair t = Ok no_tree
  entries choose (pair k v ps) t = with_first (at_entry (literal_value choose k) (literal_value choose v) t) (entries choose ps t)

-- What is in `<..>`, in the order of the closing `>`
unfoldable mutual
  pub contents : Syntax → List Syntax
  contents (list xs) = all_contents xs
  contents (tuple_of xs) = all_contents xs
  contents (dictionary ps) = pairs_contents ps
  contents (lone k v) = contents k ++ contents v
  contents (boxed x) = contents x ++ x ∷ []
  contents (just x) = contents x
  contents (at_type t x) = contents x
  contents (keyword k x) = contents x
  contents _ = []

  pub all_contents : Syntaxes → List Syntax
  all_contents none = []
  all_contents (first x xs) = contents x ++ all_contents xs

  pub pairs_contents : Pairs → List Syntax
  pairs_contents no_pair = []
  pairs_contents (pair k v ps) = contents k ++ (contents v ++ pairs_contents ps)

-- the choice for the first that has no type, or else the last choice
abbrev pub first_choice : (Syntax → Choice) → List Syntax → Choice → Choice
first_choice choose [] last = last
first_choice choose (x ∷ xs) last = and_then (choose x) (first_choice choose xs last)
  where
    and_then : Choice → Choice → Choice
    and_then (is t) later = later
    and_then other later = other

-- the type of a syntax tree: that of each `<..>` first, and then that of the whole
unfoldable pub type_of_syntax : Syntax → Choice
type_of_syntax x = first_choice choice (contents x) (choice x)

abbrev pub within_depth : Result Tree ValueFault → Result Tree ValueFault
within_depth (Ok v) = if nat_le (depth v) 128 then Ok v else Err too_deep
within_depth (Err e) = Err e

-- the value of syntax by its own type
unfoldable pub value_of : Syntax → Result Tree ValueFault
value_of x = chosen_or (λ t. within_depth (literal_value choice x t)) (type_of_syntax x)

-- a function that gives the chosen type of each syntax tree, or says why there is none: there is one alone
abbrev pub IsChoice : (Syntax → Choice) → Type 0
IsChoice choose = (x : Syntax) → Chooses x (choose x)

-- The value that syntax has at a type, or the first fault: first where it doesn't admit the type, then where something
-- in `<..>` has no type, then that of a literal, then the depth
pub record HasValue (x : Syntax) (t : Ty) (r : Result Tree ValueFault) : Type 0 where
  pub choose : Syntax → Choice
  pub chosen : IsChoice choose
  pub fits : Admits x t → r ≡ chosen_or (λ u. within_depth (literal_value choose x t)) (first_choice choose (contents x) (is t))
  pub unfit : (Admits x t → ⊥) → r ≡ Err no_common

-- What comes of the choice of a text's own type: the contents of each `<..>` come first, in the order of their closing,
-- and then the whole
pub record HasChoice (x : Syntax) (c : Choice) : Type 0 where
  pub choose : Syntax → Choice
  pub chosen : IsChoice choose
  pub comes : c ≡ first_choice choose (contents x) (choose x)

-- The syntax that a value's printed text is of.
use Rattle.std.proofs.Common.{◌≡◌, ℕ, suc, Bool, true, false, List, Option, Some, None}
use Rattle.std.specs.Prelude.{◌==◌, ◌&&◌, if◌then◌else◌, ℤ, pos, negsuc}
use Rattle.std.specs.Int.{cast_signed, w16, w32, w64}
use Rattle.gv_model.specs.Ty.{Ty, Basic}
use Rattle.gv_model.specs.Ty.Ty.{basic, variant, array, maybe, tuple, entry}
use Rattle.gv_model.specs.Ty.Basic.{boolean, byte, int16, int32, int64, handle, double, string}
use Rattle.gv_model.specs.Tree.{Tree, Trees}
use Rattle.gv_model.specs.Tree.Tree.{number, text, node}
use Rattle.gv_model.specs.Tree.Trees.{none as no_tree, first as first_tree}
use Rattle.gv_model.specs.BasicValue.{text_in}
use Rattle.gv_model.specs.Typed.{IsNumber, IsTextOf, MayHold}
use Rattle.gv_model.specs.Admits.{IsTextType}
use Rattle.gv_model.specs.Printed.{numbers, is_empty, ends_in_nothing, is_double_type}
use Rattle.gv_model.specs.Syntax.{Syntax, Syntaxes, Pairs}
use Rattle.gv_model.specs.Syntax.Syntax.{truth, integer, quoted, bytes, list, tuple_of, dictionary, lone, boxed, just, nothing, at_type, keyword}
use Rattle.gv_model.specs.Syntax.Syntaxes.{none, first}
use Rattle.gv_model.specs.Syntax.Pairs.{no_pair, pair}
use Rattle.gv_model.proofs.LimitedTypes.{IsLimited}

-- with what an annotation puts before it
abbrev pub marked : Bool → (Syntax → Syntax) → Syntax → Syntax
marked true f x = f x
marked false f x = x

-- after the word of an annotated basic value, where it has one
abbrev pub with_word : Basic → Syntax → Syntax
with_word boolean x = x
with_word int32 x = x
with_word double x = x
with_word string x = x
with_word k x = keyword k x

abbrev pub signed_syntax : ℤ → Syntax
signed_syntax (pos n) = integer false n
signed_syntax (negsuc n) = integer true (suc n)

abbrev pub figures_syntax : Basic → ℕ → Syntax
figures_syntax boolean n = if n == 0 then truth false else truth true
figures_syntax int16 n = signed_syntax (cast_signed w16 n)
figures_syntax int32 n = signed_syntax (cast_signed w32 n)
figures_syntax handle n = signed_syntax (cast_signed w32 n)
figures_syntax int64 n = signed_syntax (cast_signed w64 n)
figures_syntax double n = nothing
figures_syntax k n = integer false n

-- entries by themselves as a dictionary's
abbrev pub pairs_from : Syntaxes → Pairs
pairs_from none = no_pair
pairs_from (first (lone k v) xs) = pair k v (pairs_from xs)
pairs_from (first _ xs) = pairs_from xs

abbrev pub bytes_or_list : Option (List ℕ) → Syntaxes → Syntax
bytes_or_list None xs = list xs
bytes_or_list (Some s) xs = bytes s

abbrev pub list_syntax : Ty → Trees → Syntaxes → Syntax
list_syntax (entry k t) vs xs = dictionary (pairs_from xs)
list_syntax (basic byte) vs xs = bytes_or_list (text_in (numbers vs)) xs
list_syntax t vs xs = list xs

abbrev pub head_of : Syntaxes → Syntax
head_of none = nothing
head_of (first x xs) = x

abbrev pub with_just : Bool → Syntax → Syntax
with_just true x = just x
with_just false x = x

abbrev pub just_syntax : Trees → Syntaxes → Syntax
just_syntax no_tree xs = nothing
just_syntax (first_tree v vs) xs = with_just (ends_in_nothing v) (head_of xs)

abbrev pub entry_syntax : Syntaxes → Syntax
entry_syntax (first k (first v none)) = lone k v
entry_syntax _ = nothing

-- the syntax of `text_of`, a line for each of its lines
unfoldable mutual
  pub syntax_of : Tree → Bool → Syntax
  syntax_of (number k n) annotated = marked annotated (with_word k) (figures_syntax k n)
  syntax_of (text k s) annotated = marked annotated (with_word k) (quoted s)
  syntax_of (node (basic k) vs) annotated = nothing
  syntax_of (node variant vs) annotated = boxed (head_of (syntaxes_of vs true true))
  syntax_of (node (array t) vs) annotated = marked (annotated && is_empty vs) (at_type (array t)) (list_syntax t vs (syntaxes_of vs annotated false))
  syntax_of (node (maybe t) vs) annotated = marked annotated (at_type (maybe t)) (just_syntax vs (syntaxes_of vs false false))
  syntax_of (node (tuple ts) vs) annotated = tuple_of (syntaxes_of vs annotated annotated)
  syntax_of (node (entry k t) vs) annotated = entry_syntax (syntaxes_of vs annotated annotated)

  pub syntaxes_of : Trees → Bool → Bool → Syntaxes
  syntaxes_of no_tree annotated rest = none
  syntaxes_of (first_tree v vs) annotated rest = first (syntax_of v annotated) (syntaxes_of vs rest rest)

-- a value that has a text, in all its parts
abbrev mutual
  pub Printable : Tree → Type 0
  Printable (number k n) = IsNumber k n × (is_double_type k ≡ false)
  Printable (text k s) = IsTextType (basic k) × IsTextOf k s
  Printable (node t vs) = MayHold t vs × IsLimited t × ArePrintable vs

  pub ArePrintable : Trees → Type 0
  ArePrintable no_tree = Unit {0}
  ArePrintable (first_tree v vs) = Printable v × ArePrintable vs

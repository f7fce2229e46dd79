-- What printing answers.
use Rattle.std.specs.Prelude.{◌≡◌, ◌<◌, ◌≤◌, ◌+◌, length, get_or, ℕ, List, [], ◌∷◌, ◌++◌, Option, Some, None, Bool, true, false, Result, MatchResult, codes}
use Rattle.gv_model.specs.Ty.{Ty}
use Rattle.gv_model.specs.Ty.Ty.{basic, array, entry}
use Rattle.gv_model.specs.Ty.Basic.{byte}
use Rattle.gv_model.specs.Tree.{Tree, Trees, children, default, depth}
use Rattle.gv_model.specs.Tree.Tree.{number, text, node}
use Rattle.gv_model.specs.BasicValue.{text_in}
use Rattle.gv_model.specs.Quoted.{quoted}
use Rattle.gv_model.specs.Printed.{Text, comma, ends_in_nothing, figures, holds_double, hold_double, is_too_large, numbers, text_of, texts}
use Rattle.refused.specs.declared.Refused.{Refused}
use Rattle.refused.specs.declared.Refused.TheVariants.{Fault, Memory}
use Rattle.gv_text.specs.declared.print_fault.PrintFlaw.{PrintFlaw}
use Rattle.gv_text.specs.declared.print_fault.PrintFlaw.TheVariants.{TooLarge, DoubleText}

abbrev pub PrintFault : Type 0
PrintFault = Refused PrintFlaw

abbrev pub print_flaw_text : PrintFlaw → List ℕ
print_flaw_text TooLarge = codes "TooLarge"
print_flaw_text DoubleText = codes "DoubleText"

-- why the value isn't printed: its size comes first
abbrev pub IsUnprintable : Tree → PrintFault → Type 0
IsUnprintable v (Fault TooLarge) = is_too_large v ≡ true
IsUnprintable v (Fault DoubleText) = (is_too_large v ≡ false) × (holds_double v ≡ true)
IsUnprintable v Memory = Unit {0}

-- It has no double and no more than these levels, and this text comes after the old one.
pub record IsWritten (double : Bool) (deep levels : ℕ) (s old new : Text) : Type 0 where
  pub plain : double ≡ false
  pub text : new ≡ old ++ s
  pub fits : deep ≤ levels

-- why it isn't written
abbrev pub IsRefused : Bool → ℕ → ℕ → PrintFault → Type 0
IsRefused double deep levels (Fault TooLarge) = levels < deep
IsRefused double deep levels (Fault DoubleText) = double ≡ true
IsRefused double deep levels Memory = Unit {0}

-- a value is written, as an element of an array or not
abbrev pub IsPrinted : Tree → ℕ → Bool → Bool → Text → Text → Type 0
IsPrinted v levels annotated in_array old new = IsWritten (holds_double v) (depth v) levels (text_of v annotated in_array) old new

abbrev pub IsLevelFault : Tree → ℕ → PrintFault → Type 0
IsLevelFault v levels = IsRefused (holds_double v) (depth v) levels

abbrev pub Prints : {X : Type 0} → Result X PrintFault → Tree → ℕ → Bool → Bool → Text → Text → Type 0
Prints result v levels annotated in_array old new = MatchResult result (λ _. IsPrinted v levels annotated in_array old new) (IsLevelFault v levels)

-- this text of a value's children is written
abbrev pub PrintsChildren : {X : Type 0} → Result X PrintFault → Tree → ℕ → Text → Text → Text → Type 0
PrintsChildren result v levels s old new = MatchResult result (λ _. IsWritten (hold_double (children v)) (depth v) levels s old new) (IsRefused (hold_double (children v)) (depth v) levels)

-- the text of a basic value without its type's word
abbrev pub figures_of : Tree → List ℕ
figures_of (number k n) = figures k n
figures_of (text k s) = quoted s
figures_of (node t vs) = []

-- whether the children after the first are annotated where it is: not in an array
abbrev pub rest_annotated : Bool → Bool → Bool
rest_annotated annotated true = false
rest_annotated annotated false = annotated

-- the texts of children, of elements of an array or of others
abbrev pub child_texts : Trees → Bool → Bool → List Text
child_texts vs annotated in_array = texts vs annotated (rest_annotated annotated in_array) in_array

-- texts one after the other, each after the mark
abbrev pub following : Text → List Text → Text
following mark [] = []
following mark (s ∷ ss) = mark ++ (s ++ following mark ss)

-- the brackets of an array whose elements have this type
abbrev pub brackets_of : Option Ty → ℕ × ℕ
brackets_of (Some (entry k t)) = (123, 125)
brackets_of _ = (91, 93)

-- the bytes of a byte string, without its zero byte
abbrev pub byte_string_of : Tree → Option (List ℕ)
byte_string_of (node (array (basic byte)) vs) = text_in (numbers vs)
byte_string_of _ = None

-- In what is written so far the text of an element without bytes, behind its comma, stands from start to end, and a comma or nothing
-- comes after it. Such an element, of this type, is no double and has no more than these levels.
pub record IsNoted (t : Ty) (levels start end : ℕ) (now : Text) : Type 0 where
  pub before : Text
  pub after : Text
  pub is : now ≡ before ++ ((comma ++ text_of (default t) false true) ++ after)
  pub begins : start ≡ length before
  pub ends : end ≡ start + length (comma ++ text_of (default t) false true)
  pub parted : 0 < length after → get_or after 0 0 ≡ 44
  pub plain : holds_double (default t) ≡ false
  pub fits : depth (default t) ≤ levels

-- Nothing, or levels of Just around it
pub record IsNothing (v : Tree) : Type 0 where
  pub ends : ends_in_nothing v ≡ true
  pub plain : holds_double v ≡ false

-- u occurs in v within levels of Just, and is no maybe: it is printed for v
pub record IsPrintedAs (v u : Tree) : Type 0 where
  pub text : text_of v false false ≡ text_of u false false
  pub double : holds_double v ≡ holds_double u
  pub deeper : depth u < depth v

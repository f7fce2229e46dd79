-- What writing a value of no bytes answers.
use Rattle.std.specs.Prelude.{◌≡◌, ◌≤◌, ◌++◌, ◌⊎◌, ℕ, max, List, Bool, Result, MatchResult, false}
use Rattle.std.specs.Borrow.{Bor}
use Rattle.gv_model.specs.Ty.{Basic, Ty, types_from}
use Rattle.gv_model.specs.TypeText.{seen}
use Rattle.gv_model.specs.Tree.{Tree, Trees, basic_default, children, default, defaults, depth, greatest_depth}
use Rattle.gv_model.specs.Printed.{Text, comma, joined_by, texts, holds_double, hold_double}
use Rattle.gv_types.specs.Classes.{class_of}
use Rattle.gv_types.specs.declared.class.Class.TheVariants as classes
use Rattle.gv_types.specs.FirstTypes.{first_type, IsAfterFirst}
use Rattle.gv_types.specs.declared.members.Members.{Members}
use Rattle.gv_types.specs.Members.{members_left}
use Rattle.gv_text.specs.Printing.{IsLevelFault, IsPrinted, IsRefused, IsWritten, PrintFault, child_texts, figures_of, following}

-- the default of the type at the start of a text
abbrev pub default_in : List ℕ → Tree
default_in text = default (first_type (seen text))

-- the default of the type at the start of a text is written, and what comes after the type is answered
abbrev pub PrintsFirst : Result (Bor (List ℕ)) PrintFault → List ℕ → ℕ → Bool → Bool → Text → Text → Type 0
PrintsFirst result text levels annotated in_array old new =
    MatchResult result (λ rest. IsAfterFirst text rest.now × IsPrinted (default_in text) levels annotated in_array old new) (IsLevelFault (default_in text) levels)

-- the default is no double, and these are its text without annotation by itself and behind a comma
pub record AreFigures (k : Basic) (alone after_comma : Text) : Type 0 where
  pub plain : holds_double (basic_default k) ≡ false
  pub are : alone ≡ figures_of (basic_default k)
  pub joined : after_comma ≡ comma ++ alone

-- a type whose default has nothing in it
abbrev pub IsEmptied : Ty → Type 0
IsEmptied t = (class_of t ≡ classes.Array) ⊎ (class_of t ≡ classes.Maybe)

-- an entry's parts are written with a mark between them
abbrev pub WritesJoined : Tree → ℕ → Text → Bool → Text → Text → Type 0
WritesJoined v levels mark annotated old new = IsWritten (holds_double v) (depth v) levels (joined_by mark (child_texts (children v) annotated false)) old new

-- the defaults of members that are left
abbrev pub defaults_left : Members → Trees
defaults_left ms = defaults (types_from (members_left ms))

-- the texts of values one after the other, each after the mark
abbrev pub rest_text : Text → Trees → Bool → Text
rest_text mark vs annotated = following mark (texts vs annotated annotated false)

-- they are written
abbrev pub WriteRest : Trees → ℕ → Text → Bool → Text → Text → Type 0
WriteRest vs levels mark annotated old new = IsWritten (hold_double vs) (greatest_depth vs) levels (rest_text mark vs annotated) old new

-- why they aren't
abbrev pub AreLevelFault : Trees → ℕ → PrintFault → Type 0
AreLevelFault vs levels = IsRefused (hold_double vs) (greatest_depth vs) levels

-- Of the values vs, which go behind `start`, these are left. So far `now` is written.
pub record AreLeft (mark : Text) (vs left : Trees) (levels : ℕ) (annotated : Bool) (start now : Text) : Type 0 where
  pub texts : now ++ rest_text mark left annotated ≡ start ++ rest_text mark vs annotated
  pub doubles : hold_double vs ≡ hold_double left
  pub known : greatest_depth vs ≤ max levels (greatest_depth left)
  pub deeper : greatest_depth left ≤ greatest_depth vs

-- The lines of a profile, one after another: what is known so far, and what is left.
use Rattle.std.proofs.Common.{◌≡◌, ◌≤◌, ℕ, ◌+◌, ◌-◌, ◌<◌, true, List, ◌∷◌, length, map, get_or, take, drop, Option, inl, inr, refl, sym, ap, ◌∙◌, arith, eq-eqb, ne_eqb, length-drop}
use Rattle.std.specs.Prelude.{IsUtf8}
use Rattle.std.specs.Str.{is_utf8}
use Rattle.std.specs.List.{slice_split}
use Rattle.std.proofs.lemmas.Bool.{false_from_ne_true, lt-ltb}
use Rattle.std.proofs.lemmas.Str.{IsUtf8-from_is_utf8}
use Rattle.std.proofs.lemmas.List.{length-map, take_all}
use Rattle.memchr.specs.Find.{NoneBefore, Passes, is_byte}
use Rattle.dconf_model.specs.Causes.SettingsCause.{not_utf8, too_many, user_not_first}
use Rattle.dconf_model.specs.Lines.LineReading.{wrong}
use Rattle.keyfile_core.specs.Feeds.{is_feed}
use Rattle.keyfile_core.proofs.LineParts.{at_feed as at_part}
use Rattle.dconfdb_calls.specs.declared.fault.Fault.{Fault}
use Rattle.dconfdb_calls.specs.declared.profiles.DconfdbName.{DconfdbName}
use Rattle.dconfdb_calls.specs.GoodLines.{IsLineFault, Told, fault_from, line_says, names_from, or_later, own_line, place_said, placed, with_named}
use Rattle.dconfdb_calls.specs.Named.{told}

-- the rest of a slice of bytes is its range to the end
pub at_feed : (text : List ℕ) (end : ℕ) → NoneBefore (Passes (is_byte 10) text) 0 (length text) end → is_feed (get_or text end 0) ≡ true →
    slice_split is_feed text ≡ take end text ∷ slice_split is_feed (take (length text - (end + 1)) (drop (end + 1) text))
at_feed text end none is =
    let whole = take_all (length text - (end + 1)) (drop (end + 1) text) (omega (arith, length-drop (end + 1) text)) in
    at_part text end none is ∙ ap (λ rest. take end text ∷ slice_split is_feed rest) (sym whole)

-- ---- a line at fault

pub not_first : (before : ℕ) (name : ℕ × List ℕ) → name.0 ≡ 0 → 0 < before → place_said before name ≡ wrong user_not_first
not_first before name user some = rw (eq-eqb name.0 0 user, lt-ltb 0 before some) refl

pub too_many_at : (before : ℕ) (name : ℕ × List ℕ) → (name.0 ≡ 0 → 0 < before → ⊥) → 64 ≤ before → place_said before name ≡ wrong too_many
too_many_at before name first many = rw (ne_eqb name.0 0 (λ e. first e (omega (arith, many))), lt-ltb 63 before (omega (arith, many))) refl

-- what a line of UTF-8 says
pub says_own : (before : ℕ) (line : List ℕ) → is_utf8 line ≡ true → line_says before line ≡ placed before (own_line line)
says_own before line text = rw text refl

pub says_no_text : (before : ℕ) (line : List ℕ) → ¬ IsUtf8 line → line_says before line ≡ wrong not_utf8
says_no_text before line none = rw (false_from_ne_true (is_utf8 line) (λ e. none (IsUtf8-from_is_utf8 line e))) refl

-- a fault of the line itself is one after any databases
pub own_fault : (before : ℕ) (line : List ℕ) (fault : Fault) → is_utf8 line ≡ true → IsLineFault (own_line line) fault → IsLineFault (line_says before line) fault
own_fault before line fault text (inl e) = inl e
own_fault before line fault text (inr (cause, is, number)) = inr (cause, says_own before line text ∙ ap (placed before) is, number)

-- ---- from line to line

abbrev pub pairs : List DconfdbName → List (ℕ × List ℕ)
pairs names = map {B = ℕ × List ℕ} told names

pub names_on : (old new : List DconfdbName) (l : List ℕ) (more lines : List (List ℕ)) (all : List (ℕ × List ℕ)) → lines ≡ l ∷ more → pairs new ≡ with_named (pairs old) (line_says (length old) l) →
    names_from (pairs old) lines ≡ all → names_from (pairs new) more ≡ all
names_on old new l more lines all here added so_far =
    ap (λ ns. names_from ns more) (added ∙ ap (λ n. with_named (pairs old) (line_says n l)) (sym (length-map old told)))
    ∙ (sym (ap (names_from (pairs old)) here) ∙ so_far)

pub fault_on : (fault newer : Option Told) (n : ℕ) (old new : List DconfdbName) (l : List ℕ) (more lines : List (List ℕ)) (all : Option Told) → lines ≡ l ∷ more →
    pairs new ≡ with_named (pairs old) (line_says (length old) l) → newer ≡ or_later fault (n + 1) (line_says (length old) l) →
    fault_from fault n (pairs old) lines ≡ all → fault_from newer (n + 1) (pairs new) more ≡ all
fault_on fault newer n old new l more lines all here added later so_far =
    let count = sym (length-map old told) in
    let names = added ∙ ap (λ m. with_named (pairs old) (line_says m l)) count in
    let faults = later ∙ ap (λ m. or_later fault (n + 1) (line_says m l)) count in
    (λ i. fault_from (faults i) (n + 1) (names i) more) ∙ (sym (ap (fault_from fault n (pairs old)) here) ∙ so_far)

-- The readings of all lines, UTF-8 or not: the first line that is not UTF-8 comes before any other fault.
use Rattle.std.proofs.Common.{◌≡◌, ℕ, ◌+◌, ◌<◌, ◌==◌, Bool, true, false, List, [], ◌∷◌, ◌++◌, length, get_or, Option, Some, None, refl, sym, ap, subst, ◌∙◌, arith, suc, zero, eqb-true, length-append}
use Rattle.std.specs.Prelude.{nat_lt, codes, if◌then◌else◌}
use Rattle.std.specs.List.{after_first, before_first, position_or_len, slice_split}
use Rattle.std.specs.Str.{is_utf8}
use Rattle.std.proofs.lemmas.Bool.{le-ltb, ltb-false, ltb-true, ne_eqb}
use Rattle.std.proofs.lemmas.Grind.{common_steps}
use Rattle.std.proofs.lemmas.List.Elements.{All-from_get_or}
use Rattle.std.proofs.lemmas.List.Splits.{slice_split_at, slice_split_none}
use Rattle.std.proofs.lemmas.List.Sums.{fails_before_first, passes_at_first, split_at_first}
use Rattle.std.proofs.lemmas.Str.{IsUtf8-from_is_utf8, IsUtf8-nil}
use Rattle.dconf_model.specs.Causes.SettingsCause.{not_utf8}
use Rattle.dconf_model.specs.Keyfiles.{LineKind, group_in, is_key, line_kind, row_if, row_of, rows_of, without_blanks}
use Rattle.dconf_model.specs.Keyfiles.LineKind.{empty, bracket, entry}
use Rattle.dconf_model.specs.Lines.{LineReading, bad_line, lines_of, longest_text, without_empty_end}
use Rattle.dconf_model.specs.Lines.LineReading.{nothing, found, wrong}
use Rattle.dconf_path.proofs.TextFaults.{is_faultless, is_not_utf8}
use Rattle.keyfile_core.specs.Feeds.{is_feed}
use Rattle.keyfile_core.specs.Readings.{line_meant}
use Rattle.keyfile_core.proofs.ReadingLaws.{rows_refused}
use Rattle.keyfile_lines.specs.Answers.{Place, left_out, line_in, place_after, reading_in, readings_in}
use Rattle.keyfile_lines.specs.Answers.Place.{before, inside, lost}
use Rattle.keyfile_lines.specs.Laws.{ReadsAsAWhole, as_a_whole, first_no_text, is_no_text, or_together}
use Rattle.keyfile_lines.specs.Lines.{has_key}
use Rattle.keyfile_lines.proofs.LineAnswers.{reads, says_no_text}
use Rattle.keyfile_lines.proofs.SplitLines.{lines_after}
use Rattle.keyfile_lines.proofs.ValidFronts.{IsFeedless, bad_first, bad_last, bad_later, both_texts, no_text}
use Rattle.keyfile_lines.proofs.WholeLaw.{AreTexts, reads_text, texts_in}

-- ---- a line that is UTF-8 is never said to be none

group_text : (group : Option (List ℕ)) (s : List ℕ) → line_kind s ≡ bracket → (o : Option (List ℕ)) → group_in s ≡ o → is_no_text (line_meant group 0 s) ≡ false
group_text group s kind (Some g) is = rw (kind, is) refl
group_text group s kind None is = rw (kind, is) refl

row_text : (group s : List ℕ) (b : Bool) → is_key (row_of 0 group s).key ≡ b → is_no_text (row_if (row_of 0 group s)) ≡ false
row_text group s true e = rw e refl
row_text group s false e = rw e refl

entry_text : (group : Option (List ℕ)) (s : List ℕ) → line_kind s ≡ entry → (b : Bool) → has_key s ≡ b → is_no_text (line_meant group 0 s) ≡ false
entry_text None s kind true is = rw (kind, is) refl
entry_text None s kind false is = rw (kind, is) refl
entry_text (Some g) s kind true is = rw (kind, is) (row_text g s (is_key (row_of 0 g s).key) refl)
entry_text (Some g) s kind false is = rw (kind, is) refl

meant_text : (group : Option (List ℕ)) (s : List ℕ) (k : LineKind) → line_kind s ≡ k → is_no_text (line_meant group 0 s) ≡ false
meant_text group s empty kind = rw kind refl
meant_text group s bracket kind = group_text group s kind (group_in s) refl
meant_text group s entry kind = entry_text group s kind (has_key s) refl

left_text : (r : LineReading _) → is_no_text r ≡ false → is_no_text (left_out r) ≡ false
left_text nothing e = e
left_text (found row) e = refl
left_text (wrong cause) e = e

line_is_text : (place : Place) (s : List ℕ) → is_no_text (line_in place s) ≡ false
line_is_text before s = meant_text None s (line_kind s) refl
line_is_text (inside group) s = meant_text (Some group) s (line_kind s) refl
line_is_text lost s = left_text (line_meant (Some (codes "/")) 0 s) (meant_text (Some (codes "/")) s (line_kind s) refl)

is_text : (place : Place) (l : List ℕ) → is_utf8 l ≡ true → is_no_text (reading_in place l) ≡ false
is_text place l text = ap is_no_text (reads l text place) ∙ line_is_text place (without_blanks l)

is_none : (place : Place) (l : List ℕ) → is_utf8 l ≡ false → is_no_text (reading_in place l) ≡ true
is_none place l bad = ap is_no_text (says_no_text place l (no_text l bad))

-- ---- all lines of a text

no_first : (place : Place) (n : ℕ) (ls : List (List ℕ)) → AreTexts ls → first_no_text n (readings_in place ls) ≡ None
no_first place n [] texts = refl
no_first place n (l ∷ more) texts =
    ap (λ b. if b then Some (n + 1) else first_no_text (n + 1) (readings_in (place_after place l) more)) (is_text place l texts.0)
    ∙ no_first (place_after place l) (n + 1) more texts.1

last_kept : (l : List ℕ) → is_utf8 l ≡ true → (b : Bool) → AreTexts (if b then [] else l ∷ [])
last_kept l text true = tt
last_kept l text false = (text, tt)

texts_kept : (ls : List (List ℕ)) → AreTexts ls → AreTexts (without_empty_end ls)
texts_kept [] texts = tt
texts_kept (l ∷ []) texts = last_kept l texts.0 (length l == 0)
texts_kept (l ∷ m ∷ more) texts = (texts.0, texts_kept (m ∷ more) texts.1)

-- ---- the first line that is none

abbrev FirstIs : Place → ℕ → List ℕ → Type 0
FirstIs place n t = first_no_text n (readings_in place (lines_of t)) ≡ Some (n + bad_line t)

module _ (place : Place) (n : ℕ) (a y : List ℕ) (none : IsFeedless a) (bad : is_utf8 (a ++ 10 ∷ y) ≡ false) where
  lines : lines_of (a ++ 10 ∷ y) ≡ a ∷ lines_of y
  lines = lines_after a y (slice_split is_feed (a ++ 10 ∷ y)) (slice_split_at is_feed a 10 y none refl)

  next_is : ((place : Place) → is_utf8 y ≡ false → FirstIs place (n + 1) y) → (b : Bool) → is_utf8 a ≡ b → FirstIs place n (a ++ 10 ∷ y)
  next_is later false e =
      ap (λ ls. first_no_text n (readings_in place ls)) lines
      ∙ (ap (λ b. if b then Some (n + 1) else first_no_text (n + 1) (readings_in (place_after place a) (lines_of y))) (is_none place a e)
      ∙ ap (λ m. Some (n + m)) (sym (bad_first a y none e bad)))
  next_is later true e =
      let rest : is_utf8 y ≡ false = rest_bad (is_utf8 y) refl in
      ap (λ ls. first_no_text n (readings_in place ls)) lines
      ∙ (ap (λ b. if b then Some (n + 1) else first_no_text (n + 1) (readings_in (place_after place a) (lines_of y))) (is_text place a e)
      ∙ (later (place_after place a) rest ∙ ap Some (let here = bad_later a y none (IsUtf8-from_is_utf8 a e) rest in let same : n + 1 + bad_line y ≡ n + bad_line (a ++ 10 ∷ y) = omega (arith, here) in same)))
    where
      rest_bad : (b : Bool) → is_utf8 y ≡ b → is_utf8 y ≡ false
      rest_bad true f = absurd (no_text (a ++ 10 ∷ y) bad (both_texts a y (IsUtf8-from_is_utf8 a e) (IsUtf8-from_is_utf8 y f)))
      rest_bad false f = f

-- without a feed it is one line
only_is : (place : Place) (n : ℕ) (a : List ℕ) → IsFeedless a → is_utf8 a ≡ false → FirstIs place n a
only_is place n [] none bad = absurd (no_text [] bad IsUtf8-nil)
only_is place n (x ∷ a) none bad =
    let some : (length (x ∷ a) == 0) ≡ false = ne_eqb (length (x ∷ a)) 0 (λ e. omega (arith, e)) in
    let one : lines_of (x ∷ a) ≡ (x ∷ a) ∷ [] = ap without_empty_end (slice_split_none is_feed (x ∷ a) none) ∙ rw some refl in
    ap (λ ls. first_no_text n (readings_in place ls)) one
    ∙ (ap (λ b. if b then Some (n + 1) else None) (is_none place (x ∷ a) bad) ∙ ap (λ m. Some (n + m)) (sym (bad_last (x ∷ a) none)))

-- by the first feed, if there is one
first_by : (text : List ℕ) (place : Place) (n : ℕ) → is_utf8 text ≡ false →
    ((place : Place) (rest : List ℕ) → length rest < length text → is_utf8 rest ≡ false → FirstIs place (n + 1) rest) →
    (b : Bool) → nat_lt (position_or_len is_feed text) (length text) ≡ b → FirstIs place n text
first_by text place n bad later true e =
    let inside_it = ltb-true (position_or_len is_feed text) (length text) e in
    let a : List ℕ = before_first is_feed text in
    let y : List ℕ = after_first is_feed text in
    let feed : get_or text (position_or_len is_feed text) 0 ≡ 10 = eqb-true (get_or text (position_or_len is_feed text) 0) 10 (passes_at_first is_feed text 0 inside_it) in
    let whole : text ≡ a ++ 10 ∷ y = split_at_first is_feed text 0 inside_it ∙ ap (λ c. a ++ c ∷ y) feed in
    let none : IsFeedless (before_first is_feed text) = λ k d m. let k' = fails_before_first is_feed text k d (grind (arith, common_steps)) in grind (arith, common_steps) in
    let shorter : length y < length text = omega (arith, ap length whole, length-append a (10 ∷ y)) in
    subst (FirstIs place n) (sym whole)
    (next_is place n a y none (subst (λ t. is_utf8 t ≡ false) whole bad) (λ p worse. later p y shorter worse) (is_utf8 a) refl)
first_by text place n bad later false e =
    let end = ltb-false (position_or_len is_feed text) (length text) e in
    only_is place n text (All-from_get_or (λ c. is_feed c ≡ false) text 0 (λ k l. fails_before_first is_feed text k 0 (omega (arith, l, end)))) bad

first_is : (fuel : ℕ) (text : List ℕ) → length text < fuel → is_utf8 text ≡ false → (place : Place) (n : ℕ) → FirstIs place n text
first_is zero text less bad place n = absurd (omega (arith, less))
first_is (suc fuel) text less bad place n =
    first_by text place n bad (λ p rest shorter worse. first_is fuel rest (omega (arith, less, shorter)) worse p (n + 1))
    (nat_lt (position_or_len is_feed text) (length text)) refl

-- ---- the whole file

whole_by : (bytes : List ℕ) → nat_lt longest_text (length bytes) ≡ false → (b : Bool) → is_utf8 bytes ≡ b → as_a_whole (readings_in before (lines_of bytes)) ≡ rows_of bytes
whole_by bytes small true e =
    let texts = texts_kept (slice_split is_feed bytes) (texts_in (length bytes + 1) bytes (omega arith) (IsUtf8-from_is_utf8 bytes e)) in
    ap (λ o. or_together o (readings_in before (lines_of bytes))) (no_first before 0 (lines_of bytes) texts)
    ∙ reads_text bytes (is_faultless bytes small e) (IsUtf8-from_is_utf8 bytes e)
whole_by bytes small false e =
    ap (λ o. or_together o (readings_in before (lines_of bytes))) (first_is (length bytes + 1) bytes (omega arith) e before 0 ∙ ap Some (let same : 0 + bad_line bytes ≡ bad_line bytes = omega arith in same))
    ∙ sym (rows_refused bytes (record { line = bad_line bytes; cause = not_utf8 }) (is_not_utf8 bytes small e))

pub reads_as_a_whole : ReadsAsAWhole
reads_as_a_whole bytes small = whole_by bytes (le-ltb longest_text (length bytes) small) (is_utf8 bytes) refl

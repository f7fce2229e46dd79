-- The readings of all lines together are what keyfile_core reads below no group.
use Rattle.std.proofs.Common.{◌≡◌, ℕ, ◌+◌, ◌<◌, ◌==◌, Bool, true, false, List, [], ◌∷◌, length, get_or, drop, take, Option, Some, None, Ok, refl, sym, ap, subst, ◌∙◌, arith, suc, zero, eqb-true, length-drop}
use Rattle.std.specs.Prelude.{IsUtf8, nat_lt}
use Rattle.std.specs.List.{AllByRecursion, slice_split, position_or_len}
use Rattle.std.specs.Str.{is_utf8}
use Rattle.std.proofs.lemmas.Bool.{ltb-false, ltb-true, ne_eqb}
use Rattle.std.proofs.lemmas.List.Elements.{All-from_get_or}
use Rattle.std.proofs.lemmas.List.Splits.{slice_split_first, slice_split_none}
use Rattle.std.proofs.lemmas.List.Sums.{fails_before_first, passes_at_first}
use Rattle.std.proofs.lemmas.Str.{IsCharBoundary-after_ascii, IsCharBoundary-before_ascii, IsUtf8-drop, IsUtf8-nil, IsUtf8-take, is_utf8-from_IsUtf8}
use Rattle.dconf_model.specs.Keyfiles.{LineKind, group_in, is_key, line_kind, row_if, row_of, rows_of, without_blanks}
use Rattle.dconf_model.specs.Keyfiles.LineKind.{empty, bracket, entry}
use Rattle.dconf_model.specs.Lines.{lines_of, put_first, settings_text_fault, without_empty_end}
use Rattle.keyfile_core.specs.Feeds.{is_feed}
use Rattle.keyfile_core.specs.Readings.{group_after, line_meant, read_below}
use Rattle.keyfile_core.proofs.ReadingLaws.{rows_are}
use Rattle.keyfile_lines.specs.Answers.{Place, line_in, place_after, reading_in, readings_in}
use Rattle.keyfile_lines.specs.Answers.Place.{before, inside}
use Rattle.keyfile_lines.specs.Laws.{numbered, together}
use Rattle.keyfile_lines.specs.Lines.{has_key}
use Rattle.keyfile_lines.proofs.LineAnswers.{comes_in, reads, says_nothing, stays_by}

-- ---- one line: the same reading as keyfile_core's, but for its number

abbrev place_in : Option (List ℕ) → Place
place_in None = before
place_in (Some group) = inside group

row_numbered : (n : ℕ) (group s : List ℕ) → numbered n (row_if (row_of 0 group s)) ≡ row_if (row_of n group s)
row_numbered n group s = go (is_key (row_of 0 group s).key) refl
  where
    go : (b : Bool) → is_key (row_of 0 group s).key ≡ b → numbered n (row_if (row_of 0 group s)) ≡ row_if (row_of n group s)
    go true e = rw e refl
    go false e = rw e refl

group_numbered : (place : Place) (group : Option (List ℕ)) (n : ℕ) (s : List ℕ) → place ≡ place_in group → line_kind s ≡ bracket → (o : Option (List ℕ)) → group_in s ≡ o →
    numbered n (line_in place s) ≡ line_meant group n s
group_numbered place None n s p kind (Some g) is = rw (p, kind, is) refl
group_numbered place None n s p kind None is = rw (p, kind, is) refl
group_numbered place (Some h) n s p kind (Some g) is = rw (p, kind, is) refl
group_numbered place (Some h) n s p kind None is = rw (p, kind, is) refl

entry_numbered : (group : Option (List ℕ)) (n : ℕ) (s : List ℕ) → line_kind s ≡ entry → (b : Bool) → has_key s ≡ b → numbered n (line_in (place_in group) s) ≡ line_meant group n s
entry_numbered None n s kind true is = rw (kind, is) refl
entry_numbered None n s kind false is = rw (kind, is) refl
entry_numbered (Some g) n s kind true is = rw (kind, is) (row_numbered n g s)
entry_numbered (Some g) n s kind false is = rw (kind, is) refl

meant_numbered : (group : Option (List ℕ)) (n : ℕ) (s : List ℕ) (k : LineKind) → line_kind s ≡ k → numbered n (line_in (place_in group) s) ≡ line_meant group n s
meant_numbered None n s empty kind = rw kind refl
meant_numbered (Some g) n s empty kind = rw kind refl
meant_numbered group n s bracket kind = group_numbered (place_in group) group n s refl kind (group_in s) refl
meant_numbered group n s entry kind = entry_numbered group n s kind (has_key s) refl

-- ---- all lines

abbrev pub AreTexts : List (List ℕ) → Type 0
AreTexts ls = AllByRecursion (λ l. is_utf8 l ≡ true) ls

module _ (group : Option (List ℕ)) (n : ℕ) (l : List ℕ) (more : List (List ℕ)) (text : is_utf8 l ≡ true) where
  abbrev s : List ℕ
  s = without_blanks l

  abbrev Next : Type 0
  Next = put_first (n + 1) (line_meant group (n + 1) s) (together (n + 1) (readings_in (place_after (place_in group) l) more))
      ≡ put_first (n + 1) (line_meant group (n + 1) s) (read_below (group_after group s) (n + 1) more)

  abbrev Later : Type 0
  Later = (g : Option (List ℕ)) → together (n + 1) (readings_in (place_in g) more) ≡ read_below g (n + 1) more

  same_place : Later → (g : Option (List ℕ)) → place_after (place_in group) l ≡ place_in g → group_after group s ≡ g → Next
  same_place later g place after =
      ap (put_first (n + 1) (line_meant group (n + 1) s))
      (ap (λ p. together (n + 1) (readings_in p more)) place ∙ (later g ∙ ap (λ h. read_below h (n + 1) more) (sym after)))

  next : Later → (k : LineKind) → line_kind s ≡ k → (o : Option (List ℕ)) → group_in s ≡ o → Next
  next later empty kind o is = same_place later group (sym (stays_by l text (place_in group) empty kind refl)) (rw kind refl)
  next later entry kind o is = same_place later group (sym (stays_by l text (place_in group) entry kind refl)) (rw kind refl)
  next later bracket kind (Some g) is = same_place later (Some g) (sym (comes_in l text (place_in group) g kind is)) (rw (kind, is) refl)
  next later bracket kind None is = rw (kind, is) refl

  with_later : Later → together n (readings_in (place_in group) (l ∷ more)) ≡ read_below group n (l ∷ more)
  with_later later =
      ap (λ r. put_first (n + 1) r (together (n + 1) (readings_in (place_after (place_in group) l) more)))
      (ap (numbered (n + 1)) (reads l text (place_in group)) ∙ meant_numbered group (n + 1) s (line_kind s) refl)
      ∙ next later (line_kind s) refl (group_in s) refl

read_on : (group : Option (List ℕ)) (n : ℕ) (ls : List (List ℕ)) → AreTexts ls → together n (readings_in (place_in group) ls) ≡ read_below group n ls
read_on group n [] texts = refl
read_on group n (l ∷ more) texts = with_later group n l more texts.0 (λ g. read_on g (n + 1) more texts.1)

-- an empty piece at the end is no line
ends_alike : (place : Place) (n : ℕ) (ls : List (List ℕ)) → together n (readings_in place (without_empty_end ls)) ≡ together n (readings_in place ls)
ends_alike place n [] = refl
ends_alike place n ([] ∷ []) =
    ap (λ r. put_first (n + 1) (numbered (n + 1) r) (Ok [])) (sym (says_nothing [] (is_utf8-from_IsUtf8 [] IsUtf8-nil) place refl))
ends_alike place n ((c ∷ l) ∷ []) = let some : (length (c ∷ l) == 0) ≡ false = ne_eqb (length (c ∷ l)) 0 (λ e. omega (arith, e)) in rw some refl
ends_alike place n (l ∷ m ∷ more) =
    ap (put_first (n + 1) (numbered (n + 1) (reading_in place l))) (ends_alike (place_after place l) (n + 1) (m ∷ more))

-- ---- the lines of a text are texts

-- the first line, up to a feed at that place if there is one, and those after it
first_text : (text : List ℕ) → IsUtf8 text → ((rest : List ℕ) → length rest < length text → IsUtf8 rest → AreTexts (slice_split is_feed rest)) →
    (b : Bool) (at : ℕ) → position_or_len is_feed text ≡ at → nat_lt (position_or_len is_feed text) (length text) ≡ b → AreTexts (slice_split is_feed text)
first_text text is later true at p e =
    let first = ltb-true (position_or_len is_feed text) (length text) e in
    let feed : get_or text at 0 ≡ 10 = ap (λ k. get_or text k 0) (sym p) ∙ eqb-true (get_or text (position_or_len is_feed text) 0) 10 (passes_at_first is_feed text 0 first) in
    let inside_it : at < length text = omega (arith, first, p) in
    let front = is_utf8-from_IsUtf8 (take at text) (IsUtf8-take text at is (IsCharBoundary-before_ascii text at inside_it (omega (arith, feed)))) in
    let rest = IsUtf8-drop text (at + 1) is (IsCharBoundary-after_ascii text at is inside_it (omega (arith, feed))) in
    let parts : slice_split is_feed text ≡ take at text ∷ slice_split is_feed (drop (at + 1) text) =
    slice_split_first is_feed text 0 first ∙ (λ i. take (p i) text ∷ slice_split is_feed (drop (p i + 1) text)) in
    subst AreTexts (sym parts) (front, later (drop (at + 1) text) (omega (arith, inside_it, length-drop (at + 1) text)) rest)
first_text text is later false at p e =
    let none = ltb-false (position_or_len is_feed text) (length text) e in
    let whole = slice_split_none is_feed text (All-from_get_or (λ c. is_feed c ≡ false) text 0 (λ k l. fails_before_first is_feed text k 0 (omega (arith, l, none)))) in
    subst AreTexts (sym whole) (is_utf8-from_IsUtf8 text is, tt)

pub texts_in : (fuel : ℕ) (text : List ℕ) → length text < fuel → IsUtf8 text → AreTexts (slice_split is_feed text)
texts_in zero text less is = absurd (omega arith)
texts_in (suc fuel) text less is =
    first_text text is (λ rest shorter. texts_in fuel rest (omega (arith, less, shorter)))
    (nat_lt (position_or_len is_feed text) (length text)) (position_or_len is_feed text) refl refl

-- ---- a whole text

pub reads_text : (bytes : List ℕ) → settings_text_fault bytes ≡ None → IsUtf8 bytes → together 0 (readings_in before (lines_of bytes)) ≡ rows_of bytes
reads_text bytes none utf8 =
    ends_alike before 0 (slice_split is_feed bytes) ∙ (read_on None 0 (slice_split is_feed bytes) (texts_in (length bytes + 1) bytes (omega arith) utf8) ∙ sym (rows_are bytes none))

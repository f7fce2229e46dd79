-- The lines of a dump: its text is these lines, each ended, and each fits on a line.
use Rattle.std.specs.Prelude.{◌≡◌, ℕ, ◌<◌, Bool, true, false, ◌==◌, List, [], ◌∷◌, ◌++◌, length, codes, Option, Some, None, refl, if◌then◌else◌}
use Rattle.std.specs.List.{AllByRecursion}
use Rattle.std.specs.Str.{IsUtf8, bytes_eq}
use Rattle.std.proofs.Common.{sym, ap, ◌∙◌, append_assoc, arith}
use Rattle.std.proofs.lemmas.Str.{IsUtf8-nil, IsUtf8-append}
use Rattle.dconf_model.specs.Keyfiles.{DumpRow, group_name, heading, heading_after, text_after}
use Rattle.dconf_model.proofs.StringTexts.{one_byte}
use Rattle.dconf_model.proofs.EndedLines.{ended, ended-append, HasNoFeed}
use Rattle.dconf_model.proofs.KeyfileLines.{head_line, row_line, head_feedless, row_feedless}
use Rattle.dconf_model.proofs.DumpedRows.{Writes}

-- the heading's lines after a row of a part, if any
abbrev pub head_lines : Option (List ℕ) → List ℕ → List (List ℕ)
head_lines None part = head_line (group_name part) ∷ []
head_lines (Some before) part = if bytes_eq before part then [] else [] ∷ head_line (group_name part) ∷ []

abbrev pub dump_lines : Option (List ℕ) → List DumpRow → List (List ℕ)
dump_lines before [] = []
dump_lines before (r ∷ more) = head_lines before r.part ++ row_line r.key r.text ∷ dump_lines (Some r.part) more

-- ---- the text is the lines

heading_is : (part : List ℕ) → heading part ≡ ended (head_line (group_name part) ∷ [])
heading_is part = ap (λ t. 91 ∷ t) (sym (append_assoc (group_name part) (93 ∷ []) (10 ∷ [])))

after_is : (before : Option (List ℕ)) (part : List ℕ) → heading_after before part ≡ ended (head_lines before part)
after_is None part = heading_is part
after_is (Some before) part = go (bytes_eq before part)
  where
    go : (b : Bool) → (if b then [] else 10 ∷ heading part) ≡ ended (if b then [] else [] ∷ head_line (group_name part) ∷ [])
    go true = refl
    go false = ap (λ t. 10 ∷ t) (heading_is part)

pub text_is : (before : Option (List ℕ)) (rows : List DumpRow) → text_after before rows ≡ ended (dump_lines before rows)
text_is before [] = refl
text_is before (r ∷ more) =
    let heads : List (List ℕ) = head_lines before r.part in
    let rest : List (List ℕ) = dump_lines (Some r.part) more in
    (λ i. after_is before r.part i ++ (r.key ++ 61 ∷ (r.text ++ 10 ∷ text_is (Some r.part) more i)))
    ∙ ap (λ t. ended heads ++ t) (sym (append_assoc r.key (61 ∷ r.text) (10 ∷ ended rest)))
    ∙ sym (ended-append heads (row_line r.key r.text ∷ rest))

-- ---- each line is text without a line feed

abbrev IsLine : List ℕ → Type 0
IsLine l = HasNoFeed l × IsUtf8 l

utf8_between : (c : ℕ) (xs ys : List ℕ) → c < 128 → IsUtf8 xs → IsUtf8 ys → IsUtf8 (xs ++ c ∷ ys)
utf8_between c xs ys l u w = IsUtf8-append xs (c ∷ ys) u (IsUtf8-append (c ∷ []) ys (one_byte c l) w)

utf8_name : (part : List ℕ) → IsUtf8 part → IsUtf8 (group_name part)
utf8_name part u = go (length part == 0)
  where
    go : (b : Bool) → IsUtf8 (if b then codes "/" else part)
    go true = one_byte 47 (omega arith)
    go false = u

head_is_line : (r : DumpRow) → Writes r → IsLine (head_line (group_name r.part))
head_is_line r w = (
  head_feedless (group_name r.part) w.group,
  utf8_between 91 [] (group_name r.part ++ 93 ∷ []) (omega arith) IsUtf8-nil (utf8_between 93 (group_name r.part) [] (omega arith) (utf8_name r.part w.part_utf8) IsUtf8-nil),
)

row_is_line : (r : DumpRow) → Writes r → IsLine (row_line r.key r.text)
row_is_line r w = (row_feedless r.key r.text w.key w.text, utf8_between 61 r.key r.text (omega arith) w.key_utf8 w.text_utf8)

heads_after : (before : Option (List ℕ)) (r : DumpRow) (ls : List (List ℕ)) → Writes r → AllByRecursion IsLine ls → AllByRecursion IsLine (head_lines before r.part ++ ls)
heads_after None r ls w h = (head_is_line r w, h)
heads_after (Some before) r ls w h = go (bytes_eq before r.part)
  where
    go : (b : Bool) → AllByRecursion IsLine ((if b then [] else [] ∷ head_line (group_name r.part) ∷ []) ++ ls)
    go true = h
    go false = ((refl, IsUtf8-nil), (head_is_line r w, h))

all_lines : (before : Option (List ℕ)) (rows : List DumpRow) → AllByRecursion Writes rows → AllByRecursion IsLine (dump_lines before rows)
all_lines before [] w = tt
all_lines before (r ∷ more) w = heads_after before r (row_line r.key r.text ∷ dump_lines (Some r.part) more) w.0 (row_is_line r w.0, all_lines (Some r.part) more w.1)

feedless_of : (ls : List (List ℕ)) → AllByRecursion IsLine ls → AllByRecursion HasNoFeed ls
feedless_of [] h = tt
feedless_of (l ∷ ls) h = (h.0.0, feedless_of ls h.1)

utf8_of : (ls : List (List ℕ)) → AllByRecursion IsLine ls → IsUtf8 (ended ls)
utf8_of [] h = IsUtf8-nil
utf8_of (l ∷ ls) h = utf8_between 10 l (ended ls) (omega arith) h.0.1 (utf8_of ls h.1)

pub dump_feedless : (before : Option (List ℕ)) (rows : List DumpRow) → AllByRecursion Writes rows → AllByRecursion HasNoFeed (dump_lines before rows)
dump_feedless before rows w = feedless_of (dump_lines before rows) (all_lines before rows w)

pub dump_utf8 : (before : Option (List ℕ)) (rows : List DumpRow) → AllByRecursion Writes rows → IsUtf8 (ended (dump_lines before rows))
dump_utf8 before rows w = utf8_of (dump_lines before rows) (all_lines before rows w)

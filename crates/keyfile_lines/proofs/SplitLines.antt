-- The first line of a text, and the lines after it.
use Rattle.std.proofs.Common.{◌≡◌, ◌≢◌, ℕ, ◌+◌, ◌-◌, true, false, List, [], ◌∷◌, length, get_or, take, drop, refl, sym, ap, ◌∙◌, arith, length-drop, ◌==◌}
use Rattle.std.specs.List.{slice_split}
use Rattle.std.proofs.lemmas.Bool.{ne_eqb}
use Rattle.std.proofs.lemmas.List.{take_all}
use Rattle.std.proofs.lemmas.List.Splits.{length-slice_split}
use Rattle.memchr.specs.Find.{NoneBefore, Nowhere, Passes, is_byte}
use Rattle.dconf_model.specs.Lines.{lines_of, without_empty_end}
use Rattle.keyfile_core.specs.Feeds.{is_feed}
use Rattle.keyfile_core.proofs.LineParts.{at_feed as at_part, no_feed as no_part}

-- a line before others stays, even if it is empty
stays : (l : List ℕ) (more : List (List ℕ)) → length more ≢ 0 → without_empty_end (l ∷ more) ≡ l ∷ without_empty_end more
stays l [] some = absurd (some refl)
stays l (m ∷ more) some = refl

pub lines_after : (l rest : List ℕ) (pieces : List (List ℕ)) → pieces ≡ l ∷ slice_split is_feed rest → without_empty_end pieces ≡ l ∷ lines_of rest
lines_after l rest pieces e = ap without_empty_end e ∙ stays l (slice_split is_feed rest) (λ none. omega (arith, none, length-slice_split is_feed rest))

-- the rest of a slice of bytes is its range to the end
pub at_feed : (text : List ℕ) (end : ℕ) → NoneBefore (Passes (is_byte 10) text) 0 (length text) end → is_feed (get_or text end 0) ≡ true →
    lines_of text ≡ take end text ∷ lines_of (take (length text - (end + 1)) (drop (end + 1) text))
at_feed text end none is =
    let whole = take_all (length text - (end + 1)) (drop (end + 1) text) (omega (arith, length-drop (end + 1) text)) in
    lines_after (take end text) (drop (end + 1) text) (slice_split is_feed text) (at_part text end none is)
    ∙ ap (λ rest. take end text ∷ lines_of rest) (sym whole)

pub no_feed : (text : List ℕ) → length text ≢ 0 → Nowhere (Passes (is_byte 10) text) 0 (length text) → lines_of text ≡ text ∷ []
no_feed text some none =
    let whole : (length text == 0) ≡ false = ne_eqb (length text) 0 some in
    ap without_empty_end (no_part text none) ∙ rw whole refl

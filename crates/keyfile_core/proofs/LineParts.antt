-- What a search of a line, or of a text, says of its parts, and what is left behind a line.
use Rattle.std.proofs.Common.{◌≡◌, ◌≤◌, ℕ, ◌+◌, ◌<◌, Bool, true, false, List, [], ◌∷◌, length, get_or, take, drop, Option, Some, None, IfSome, refl, ap, ◌∙◌, arith}
use Rattle.std.specs.Prelude.{option_map}
use denote.Ref.{Bor}
use Rattle.std.specs.List.{list_any, position_or_len, slice_split}
use Rattle.std.proofs.lemmas.List.Elements.{All-from_get_or}
use Rattle.std.proofs.lemmas.List.Folds.{list_any_at, list_any_none}
use Rattle.std.proofs.lemmas.List.Splits.{slice_split_first, slice_split_none}
use Rattle.std.proofs.lemmas.List.Sums.{fails_before_first, passes_at_first, position_or_len_is}
use Rattle.std.proofs.lemmas.Bool.{false_from_ne_true}
use Rattle.memchr.specs.Find.{Nowhere, NoneBefore, Passes, is_byte}
use Rattle.keyfile_core.specs.Feeds.{is_feed, lines_in}

-- ---- the first `=`

pub lacks : (p : ℕ → Bool) (s : List ℕ) → position_or_len p s ≡ length s → list_any p s ≡ false
lacks p s none = list_any_none p s (All-from_get_or (λ c. p c ≡ false) s 0 (λ k l. fails_before_first p s k 0 (omega (arith, none))))

pub has : (p : ℕ → Bool) (s : List ℕ) → position_or_len p s < length s → list_any p s ≡ true
has p s lt = list_any_at p s (position_or_len p s) 0 lt (passes_at_first p s 0 lt)

-- ---- line feeds

fails_before : (text : List ℕ) (end : ℕ) → Nowhere (Passes (is_byte 10) text) 0 end → (k : ℕ) → k < end → is_feed (get_or text k 0) ≡ false
fails_before text end none k l = false_from_ne_true _ (λ e. none k (omega arith) l e)

pub at_feed : (text : List ℕ) (end : ℕ) → NoneBefore (Passes (is_byte 10) text) 0 (length text) end → is_feed (get_or text end 0) ≡ true →
    slice_split is_feed text ≡ take end text ∷ slice_split is_feed (drop (end + 1) text)
at_feed text end none is =
    let first : position_or_len is_feed text ≡ end = position_or_len_is is_feed text end 0 (omega arith) (fails_before text end none.before) (λ _. is) in
    slice_split_first is_feed text 0 (omega (arith, first)) ∙ (λ i. take (first i) text ∷ slice_split is_feed (drop (first i + 1) text))

pub no_feed : (text : List ℕ) → Nowhere (Passes (is_byte 10) text) 0 (length text) → slice_split is_feed text ≡ text ∷ []
no_feed text none = slice_split_none is_feed text (All-from_get_or (λ c. is_feed c ≡ false) text 0 (fails_before text (length text) none))

-- ---- what is left

-- the bytes that are left, and one for the line in which they begin
abbrev pub left : Option (List ℕ) → ℕ
left None = 0
left (Some rest) = length rest + 1

abbrev pub text_of : Option (Bor (List ℕ)) → Option (List ℕ)
text_of o = option_map (λ text. text.now) o

pub nothing_left : (o : Option (Bor (List ℕ))) → ((x : Bor (List ℕ)) → o ≡ Some x → ⊥) → lines_in (text_of o) ≡ []
nothing_left None not = refl
nothing_left (Some x) not = absurd (not x refl)

pub less_left : (o : Option (Bor (List ℕ))) (n : ℕ) → IfSome o (λ rest. length rest.now < n) → left (text_of o) ≤ n
less_left None n less = omega arith
less_left (Some x) n less = omega arith

-- what is left is the next line, and those after it
pub at_next : (o : Option (Bor (List ℕ))) (text : Bor (List ℕ)) (l : List ℕ) (more : List (List ℕ)) → o ≡ Some text → slice_split is_feed text.now ≡ l ∷ more →
    lines_in (text_of o) ≡ l ∷ more
at_next o text l more some parts = ap (λ t. lines_in (text_of t)) some ∙ parts

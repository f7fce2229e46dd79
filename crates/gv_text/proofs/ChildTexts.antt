-- The texts of a container's children, one after the other.
use Rattle.std.proofs.Common.{◌≡◌, ◌≤◌, ℕ, suc, List, [], ◌∷◌, ◌++◌, Bool, true, false, ◌||◌, length, refl, sym, ap, ◌∙◌, arith, append_assoc, append-nil}
use Rattle.std.proofs.lemmas.Bool.{or_left}
use Rattle.gv_model.specs.Tree.{Tree, Trees, trees_len, depth, greatest_depth}
use Rattle.gv_model.specs.Tree.Trees.{none, first}
use Rattle.gv_model.specs.Quoted.{between}
use Rattle.gv_model.specs.Printed.{Text, comma, holds_double, hold_double, joined_by, text_of, texts, tuple_text}
use Rattle.gv_text.specs.Printing.{child_texts, following, rest_annotated}

joined_first : (mark s : Text) (ss : List Text) → joined_by mark (s ∷ ss) ≡ s ++ following mark ss
joined_first mark s [] = sym (append-nil s)
joined_first mark s (r ∷ ss) = ap (λ (l : Text). s ++ (mark ++ l)) (joined_first mark r ss)

-- the texts of the children after the first
abbrev pub rest_texts : Trees → Bool → Bool → List Text
rest_texts vs annotated in_array = texts vs (rest_annotated annotated in_array) (rest_annotated annotated in_array) in_array

-- Of the children vs, whose text goes after `start`, these are left. So far `now` is written.
pub record IsLeft (mark : Text) (vs left : Trees) (annotated in_array : Bool) (start now : Text) : Type 0 where
  pub texts : now ++ following mark (rest_texts left annotated in_array) ≡ start ++ joined_by mark (child_texts vs annotated in_array)
  pub doubles : hold_double vs ≡ hold_double left
  pub depth : greatest_depth left ≤ greatest_depth vs

pub plain_first : (v : Tree) (vs : Trees) → holds_double v ≡ false → hold_double (first v vs) ≡ hold_double vs
unfolding holds_double
plain_first v vs h = ap (λ b. b || hold_double vs) h

less_deep : (v : Tree) (vs : Trees) (n : ℕ) → greatest_depth (first v vs) ≤ n → (depth v ≤ n) × (greatest_depth vs ≤ n)
unfolding depth
less_deep v vs n h = (omega arith, omega arith)

-- the first is written
pub left_first : (mark : Text) (u : Tree) (left : Trees) (annotated in_array : Bool) (start now : Text) → holds_double u ≡ false → now ≡ start ++ text_of u annotated in_array → IsLeft mark (first u left) left annotated in_array start now
unfolding text_of
left_first mark u left annotated in_array start now plain wrote = record {
  texts = ap (λ (l : Text). l ++ following mark (rest_texts left annotated in_array)) wrote
      ∙ (append_assoc start (text_of u annotated in_array) (following mark (rest_texts left annotated in_array))
      ∙ ap (λ (l : Text). start ++ l) (sym (joined_first mark (text_of u annotated in_array) (rest_texts left annotated in_array))));
  doubles = plain_first u left plain;
  depth = (less_deep u left (greatest_depth (first u left)) (omega arith)).1;
}

texts_first : (u : Tree) (left : Trees) (annotated in_array : Bool) → rest_texts (first u left) annotated in_array ≡ text_of u (rest_annotated annotated in_array) in_array ∷ rest_texts left annotated in_array
unfolding text_of
texts_first u left annotated in_array = refl

-- the next one is written
pub left_next : (mark : Text) (vs : Trees) (u : Tree) (left : Trees) (annotated in_array : Bool) (start now mid new : Text) → IsLeft mark vs (first u left) annotated in_array start now
    → mid ≡ now ++ mark → holds_double u ≡ false → new ≡ mid ++ text_of u (rest_annotated annotated in_array) in_array → IsLeft mark vs left annotated in_array start new
left_next mark vs u left annotated in_array start now mid new was marks plain wrote =
    let s = text_of u (rest_annotated annotated in_array) in_array in
    let more = following mark (rest_texts left annotated in_array) in
    record {
      texts = ap (λ (l : Text). l ++ more) (wrote ∙ ap (λ (l : Text). l ++ s) marks)
          ∙ (append_assoc (now ++ mark) s more ∙ (append_assoc now mark (s ++ more)
          ∙ (ap (λ (ss : List Text). now ++ following mark ss) (sym (texts_first u left annotated in_array)) ∙ was.texts)));
      doubles = was.doubles ∙ plain_first u left plain;
      depth = (less_deep u left (greatest_depth vs) was.depth).1;
    }

no_texts : (mark : Text) (annotated in_array : Bool) → following mark (rest_texts none annotated in_array) ≡ []
unfolding text_of
no_texts mark annotated in_array = refl

pub no_doubles : hold_double none ≡ false
unfolding holds_double
no_doubles = refl

-- none is left
pub left_none : (mark : Text) (vs : Trees) (annotated in_array : Bool) (start now : Text) → IsLeft mark vs none annotated in_array start now → (hold_double vs ≡ false) × (now ≡ start ++ joined_by mark (child_texts vs annotated in_array))
left_none mark vs annotated in_array start now was =
    (was.doubles ∙ no_doubles, sym (append-nil now) ∙ (ap (λ (l : Text). now ++ l) (sym (no_texts mark annotated in_array)) ∙ was.texts))

-- there are none at all
pub childless_text : (mark : Text) (annotated in_array : Bool) (start : Text) → (hold_double none ≡ false) × (start ≡ start ++ joined_by mark (child_texts none annotated in_array))
unfolding text_of holds_double
childless_text mark annotated in_array start = (refl, sym (append-nil start))

-- ---- faults

pub first_double : (u : Tree) (left : Trees) → holds_double u ≡ true → hold_double (first u left) ≡ true
unfolding holds_double
first_double u left h = or_left (holds_double u) (hold_double left) h

-- ---- brackets

pub between_written : (left right : ℕ) (s old opened written closed : Text) → opened ≡ old ++ left ∷ [] → written ≡ opened ++ s → closed ≡ written ++ right ∷ [] → closed ≡ old ++ between left s right
between_written left right s old opened written closed opens writes closes =
    closes ∙ (ap (λ (l : Text). l ++ right ∷ []) (writes ∙ ap (λ (l : Text). l ++ s) opens)
    ∙ (append_assoc (old ++ left ∷ []) s (right ∷ []) ∙ append_assoc old (left ∷ []) (s ++ right ∷ [])))

-- ---- tuples

length-texts : (vs : Trees) (annotated rest in_array : Bool) → length (texts vs annotated rest in_array) ≡ trees_len vs
unfolding trees_len text_of
length-texts none annotated rest in_array = refl
length-texts (first v vs) annotated rest in_array = ap suc (length-texts vs rest rest in_array)

one_text : (ss : List Text) → length ss ≡ 1 → tuple_text ss ≡ 40 ∷ (joined_by comma ss ++ 44 ∷ 41 ∷ [])
one_text [] e = absurd (omega arith)
one_text (s ∷ []) e = refl
one_text (s ∷ r ∷ ss) e = absurd (omega arith)

other_texts : (ss : List Text) → (length ss ≡ 1 → ⊥) → tuple_text ss ≡ 40 ∷ (joined_by comma ss ++ 41 ∷ [])
other_texts [] h = refl
other_texts (s ∷ []) h = absurd (h refl)
other_texts (s ∷ r ∷ ss) h = refl

written_after : (close s old opened written closed : Text) → opened ≡ old ++ 40 ∷ [] → written ≡ opened ++ s → closed ≡ written ++ close → closed ≡ old ++ 40 ∷ (s ++ close)
written_after close s old opened written closed opens writes closes =
    closes ∙ (ap (λ (l : Text). l ++ close) (writes ∙ ap (λ (l : Text). l ++ s) opens)
    ∙ (append_assoc (old ++ 40 ∷ []) s close ∙ append_assoc old (40 ∷ []) (s ++ close)))

pub one_member : (vs : Trees) (annotated : Bool) (old opened written closed : Text) → trees_len vs ≡ 1 → opened ≡ old ++ 40 ∷ [] → written ≡ opened ++ joined_by comma (child_texts vs annotated false) → closed ≡ written ++ 44 ∷ 41 ∷ [] → closed ≡ old ++ tuple_text (child_texts vs annotated false)
one_member vs annotated old opened written closed one opens writes closes =
    written_after (44 ∷ 41 ∷ []) (joined_by comma (child_texts vs annotated false)) old opened written closed opens writes closes
    ∙ ap (λ (l : Text). old ++ l) (sym (one_text (child_texts vs annotated false) (length-texts vs annotated annotated false ∙ one)))

pub other_members : (vs : Trees) (annotated : Bool) (old opened written closed : Text) → (trees_len vs ≡ 1 → ⊥) → opened ≡ old ++ 40 ∷ [] → written ≡ opened ++ joined_by comma (child_texts vs annotated false) → closed ≡ written ++ 41 ∷ [] → closed ≡ old ++ tuple_text (child_texts vs annotated false)
other_members vs annotated old opened written closed others opens writes closes =
    written_after (41 ∷ []) (joined_by comma (child_texts vs annotated false)) old opened written closed opens writes closes
    ∙ ap (λ (l : Text). old ++ l) (sym (other_texts (child_texts vs annotated false) (λ e. others (sym (length-texts vs annotated annotated false) ∙ e))))

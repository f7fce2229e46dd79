-- The type at the start of a text.
use Rattle.std.proofs.Common.{ℕ, ◌-◌, ◌+◌, ◌≤◌, ◌<◌, ◌≡◌, List, [], ◌∷◌, ◌++◌, Option, Some, None, refl, sym, ap, ◌∙◌, subst, append_assoc, append-nil, arith, length, length-append, take, get_or, true}
use Rattle.std.proofs.lemmas.Str.{IsCharBoundary-after_ascii}
use Rattle.std.proofs.lemmas.List.{get_or_append_left, take_at}
use Rattle.std.specs.List.{slice_range}
use Rattle.std.specs.Str.{IsUtf8, IsCharBoundary}
use Rattle.gv_model.specs.Ty.{Ty, spelling, nesting}
use Rattle.gv_model.specs.TypeText.{is_type, type_at, type_of_text, is_within_limits}
use Rattle.gv_model.specs.Lexing.{type_prefix}
use Rattle.gv_model.proofs.TypeTextLaws.{one_reading, type_of_text-spelling, limits_of, within_limits}
use Rattle.gv_model.proofs.TypeTextSound.{spelling_of_read}
use Rattle.gv_model.proofs.TypeTextParts.{text_of_type, spelling_is_ascii}
use Rattle.gv_model.proofs.Prefixes.{spelling-positive}
use Rattle.gv_model.proofs.ListLaws.{nil_no_cons}
use Rattle.gv_types.specs.declared.grammar.Halt.{Halt}
use Rattle.gv_types.specs.TypePrefix.{BeginsWithType, HaltsAt}
use Rattle.gv_types.proofs.Stops.{no_type_where_stopped}

-- no prefix of the text is a type's
abbrev pub HasNoTypePrefix : List ℕ → Type 0
HasNoTypePrefix text = (t : Ty) (x : List ℕ) → text ≡ spelling t ++ x → nesting t ≤ 128 → length (spelling t) ≤ 67108864 → ⊥

pub unless_some : {A : Type 0} (r : Option A) → ((t : A) → r ≡ Some t → ⊥) → r ≡ None
unless_some None h = refl
unless_some (Some t) h = absurd (h t refl)

no_type_here : (prefix cs : List ℕ) → HasNoTypePrefix (prefix ++ cs) → type_of_text prefix ≡ None
no_type_here prefix cs h = unless_some (type_of_text prefix) (λ t e.
    let read = spelling_of_read prefix t e in
    let fits = limits_of t prefix read.1 in
    h t cs (ap (λ w. w ++ cs) (sym read.0)) fits.0 (omega (arith, fits.1, ap length read.0)))

pub no_type_prefix : (prefix cs : List ℕ) → HasNoTypePrefix (prefix ++ cs) → type_prefix prefix cs ≡ None
unfolding type_prefix
no_type_prefix prefix [] h = no_type_here prefix [] h
no_type_prefix prefix (c ∷ cs) h =
    let later = no_type_prefix (prefix ++ c ∷ []) cs (subst HasNoTypePrefix (sym (append_assoc prefix (c ∷ []) cs)) h) in
    rw (no_type_here prefix (c ∷ cs) h) later

-- a type's text isn't reached before its last byte
type_not_reached : (t : Ty) (prefix : List ℕ) (y : ℕ) (ys : List ℕ) → prefix ++ y ∷ ys ≡ spelling t → type_of_text prefix ≡ None
type_not_reached t prefix y ys e = unless_some (type_of_text prefix) (λ u is.
    let read = spelling_of_read prefix u is in
    nil_no_cons (sym (one_reading u t (y ∷ ys) [] (ap (λ w. w ++ y ∷ ys) read.0 ∙ (e ∙ sym (append-nil (spelling t))))).1))

pub one_type_prefix : (t : Ty) (prefix x rest : List ℕ) → is_within_limits t (spelling t) ≡ true → prefix ++ x ≡ spelling t → type_prefix prefix (x ++ rest) ≡ Some t
unfolding type_prefix
one_type_prefix t prefix [] [] fits e = ap type_of_text (sym (append-nil prefix) ∙ e) ∙ type_of_text-spelling t fits
one_type_prefix t prefix [] (c ∷ cs) fits e = rw (ap type_of_text (sym (append-nil prefix) ∙ e) ∙ type_of_text-spelling t fits) refl
one_type_prefix t prefix (y ∷ ys) rest fits e =
    let later = one_type_prefix t (prefix ++ y ∷ []) ys rest fits (append_assoc prefix (y ∷ []) ys ∙ e) in
    rw (type_not_reached t prefix y ys e) later

-- ---- what reading says

pub halted_prefix : (text rest : List ℕ) (h : Halt) → HaltsAt 128 text rest h → type_prefix [] text ≡ None
halted_prefix text rest h s = no_type_prefix [] text (λ t x e n l. no_type_where_stopped 128 text rest h t x s e n)

pub too_long_prefix : (text rest : List ℕ) → BeginsWithType 128 text rest → 67108864 < length text - length rest → type_prefix [] text ≡ None
too_long_prefix text rest r long = no_type_prefix [] text (λ t x e n l.
    let same = one_reading r.type t rest x (sym r.whole ∙ e) in
    omega (arith, long, l, ap (λ u. length (spelling u)) same.0, ap length r.whole, length-append (spelling r.type) rest))

last_is_low : (t : Ty) (text rest : List ℕ) (n : ℕ) → text ≡ spelling t ++ rest → n < length (spelling t) → get_or text n 0 < 128
last_is_low t text rest n e l = subst (λ b. b < 128) (sym (ap (λ w. get_or w n 0) e ∙ get_or_append_left (spelling t) rest 0 n l)) (spelling_is_ascii t n)

-- the type that is read within the limits
pub record IsPrefix (text : List ℕ) (n : ℕ) : Type 0 where
  pub checked : is_type (slice_range text 0 n) ≡ true
  pub found : Some (type_at (slice_range text 0 n)) ≡ type_prefix [] text
  pub low : (0 < n) × (n ≤ length text) × (get_or text (n - 1) 0 < 128)

pub prefix_is_read : (text rest : List ℕ) → BeginsWithType 128 text rest → length text - length rest ≤ 67108864 → IsPrefix text (length text - length rest)
prefix_is_read text rest r short =
    let sizes = ap length r.whole ∙ length-append (spelling r.type) rest in
    let size : length text - length rest ≡ length (spelling r.type) = omega (arith, sizes) in
    let prefix : take (length text - length rest - 0) text ≡ spelling r.type = ap (take (length text - length rest - 0)) r.whole ∙ take_at (spelling r.type) rest (length text - length rest - 0) (omega (arith, size)) in
    let fits = within_limits r.type (spelling r.type) r.within (omega (arith, size, short)) in
    let is = text_of_type r.type (take (length text - length rest - 0) text) (sym prefix) (subst (λ w. is_within_limits r.type w ≡ true) (sym prefix) fits) in
    record {
      checked = is.checked;
      found = ap Some is.type ∙ (sym (one_type_prefix r.type [] (spelling r.type) rest fits refl) ∙ ap (type_prefix []) (sym r.whole));
      low = (omega (arith, size, spelling-positive r.type), omega (arith, size, sizes), last_is_low r.type text rest _ r.whole (omega (arith, size, spelling-positive r.type)));
    }

pub cut_after : (text : List ℕ) (n : ℕ) → IsUtf8 text → IsPrefix text n → IsCharBoundary text n
cut_after text n u f =
    subst (IsCharBoundary text) (let z : n - 1 + 1 ≡ n = omega (arith, f.low.0) in z)
    (IsCharBoundary-after_ascii text (n - 1) u (omega (arith, f.low.0, f.low.1)) f.low.2)

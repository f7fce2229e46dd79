-- A text with a fault is no type's.
use Rattle.std.proofs.Common.{ℕ, ◌≤◌, ◌≡◌, List, [], ◌∷◌, ◌++◌, length, Option, Some, None, refl, sym, ap, ◌∙◌, append-nil, arith}
use Rattle.gv_model.specs.Ty.{Ty, spelling, nesting}
use Rattle.gv_model.specs.TypeText.{type_of_text}
use Rattle.gv_model.specs.TypeFault.{Prefix, Fault, IsFault, prefix_text}
use Rattle.gv_model.specs.TypeFault.Prefix.{nothing}
use Rattle.gv_model.specs.TypeFault.Fault.{too_long, empty, bad_char, key_not_basic, too_deep, unclosed, trailing}
use Rattle.gv_model.proofs.TypeTextLaws.{one_reading}
use Rattle.gv_model.proofs.TypeTextSound.{spelling_of_read}
use Rattle.gv_model.proofs.Prefixes.{GoesOnWith, prefix_is_shorter, prefix_goes_on}

-- a type whose text this is, within the limits
record IsReadAs (w : List ℕ) (t : Ty) : Type 0 where
  spelt : spelling t ≡ w
  shallow : nesting t ≤ 128
  short : length w ≤ 67108864

read_as : (w : List ℕ) (t : Ty) → type_of_text w ≡ Some t → IsReadAs w t
read_as w t e =
    let read = spelling_of_read w t e in
    let limits = read.1 in
    record { spelt = read.0; shallow = grind arith; short = grind arith }

goes_on : (w rest : List ℕ) (t : Ty) (f : Prefix) (b : ℕ) → IsReadAs w t → w ≡ prefix_text f ++ b ∷ rest → GoesOnWith t f b
goes_on w rest t f b h e = prefix_goes_on f t [] b rest (append-nil (spelling t) ∙ (h.spelt ∙ e))

not_prefix : (w : List ℕ) (t : Ty) (f : Prefix) → IsReadAs w t → w ≡ prefix_text f → ⊥
not_prefix w t f h e =
    let same : spelling t ≡ prefix_text f = h.spelt ∙ e in
    let shorter = prefix_is_shorter f t [] [] (append-nil (spelling t) ∙ (same ∙ sym (append-nil (prefix_text f)))) in
    omega (arith, ap length same)

not_longer : (w rest : List ℕ) (t u : Ty) (b : ℕ) → IsReadAs w t → w ≡ spelling u ++ b ∷ rest → ⊥
not_longer w rest t u b h e =
    let nothing_after : [] ≡ b ∷ rest = (one_reading t u [] (b ∷ rest) (append-nil (spelling t) ∙ (h.spelt ∙ e))).1 in
    cc

empty_prefix : [] ≡ prefix_text nothing
unfolding prefix_text
empty_prefix = refl

-- a text with a fault is read as no type
faulty : (w : List ℕ) (f : Fault) (t : Ty) → IsFault w f → IsReadAs w t → ⊥
faulty w too_long t h r = omega (arith, r.short)
faulty w empty t h r = not_prefix w t nothing r (h.1 ∙ empty_prefix)
faulty w (bad_char i) t h r = let at = h.1 in at.fault (goes_on w at.rest t at.prefix at.byte r at.whole).allowed
faulty w (key_not_basic i) t h r = let at = h.1 in at.fault.2 ((goes_on w at.rest t at.prefix at.byte r at.whole).key at.fault.0)
faulty w (too_deep i) t h r = let at = h.1 in omega (arith, at.fault.0, r.shallow, (goes_on w at.rest t at.prefix at.byte r at.whole).deep at.fault.1)
faulty w (unclosed i) t h r = not_prefix w t h.1.prefix r h.1.whole
faulty w (trailing i) t h r = not_longer w h.1.rest t h.1.type h.1.byte r h.1.whole

pub faulty_is_no_type : (w : List ℕ) (f : Fault) → IsFault w f → type_of_text w ≡ None
faulty_is_no_type w f h = go (type_of_text w) refl
  where
    go : (o : Option Ty) → type_of_text w ≡ o → o ≡ None
    go None e = refl
    go (Some t) e = absurd (faulty w f t h (read_as w t e))

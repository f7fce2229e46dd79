-- Worked faults of type texts.
use Rattle.std.proofs.Common.{◌≡◌, ◌⊎◌, ◌<◌, ℕ, List, [], ◌∷◌, refl, arith, inl, inr}
use Rattle.std.specs.Prelude.{codes, zero, suc, ◌++◌}
use Rattle.gv_model.specs.Ty.{Ty, Basic, letter, spelling, nesting, spellings}
use Rattle.gv_model.specs.Ty.Ty.{basic, variant, array, maybe, tuple, entry}
use Rattle.gv_model.specs.Ty.Types.{end, member}
use Rattle.gv_model.specs.Ty.Basic.{int32}
use Rattle.gv_model.specs.TypeFault.{Prefix, IsFault, prefix_text, prefix_nesting, open_types, next}
use Rattle.gv_model.specs.TypeFault.Prefix.{nothing, array_of, tuple_with, entry_start}
use Rattle.gv_model.specs.TypeFault.Fault.{empty, bad_char, key_not_basic, too_deep, unclosed, trailing}
use Rattle.gv_model.proofs.ListLaws.{same_head}
use Rattle.gv_model.proofs.Prefixes.{no_type_wants_key}

no_key_v : (k : Basic) → 118 ≡ letter k → ⊥
no_key_v Basic.boolean e = omega arith
no_key_v _ e = omega arith

no_letter_r : (k : Basic) → letter k ≡ 114 → ⊥
no_letter_r Basic.boolean e = omega arith
no_letter_r _ e = omega arith

other_byte : (c : ℕ) (xs ys : List ℕ) → (c < 114) ⊎ (114 < c) → c ∷ xs ≡ 114 ∷ ys → ⊥
other_byte c xs ys h e = let same : c ≡ 114 = same_head e in elim h [ inl l ↦ omega arith | inr g ↦ omega arith ]

no_type_begins_with_r : (t : Ty) (more : List ℕ) → spelling t ≡ 114 ∷ more → ⊥
unfolding spelling
no_type_begins_with_r (basic k) more e = no_letter_r k (same_head e)
no_type_begins_with_r variant more e = other_byte 118 [] more (inr (omega arith)) e
no_type_begins_with_r (array t) more e = other_byte 97 (spelling t) more (inl (omega arith)) e
no_type_begins_with_r (maybe t) more e = other_byte 109 (spelling t) more (inl (omega arith)) e
no_type_begins_with_r (tuple ts) more e = other_byte 40 (spellings ts ++ 41 ∷ []) more (inl (omega arith)) e
no_type_begins_with_r (entry k t) more e = other_byte 123 (letter k ∷ (spelling t ++ 125 ∷ [])) more (inr (omega arith)) e

unfoldable facing : ℕ
unfolding spelling spellings nesting prefix_text prefix_nesting open_types next
facing = 0

no_text : IsFault [] empty
no_text = (omega arith, refl)

key_not_basic_at_two : IsFault (codes "a{vs}") (key_not_basic 2)
unfolding facing
key_not_basic_at_two = (omega arith, record { prefix = array_of entry_start; byte = 118; rest = codes "s}"; whole = refl; place = refl; within = omega arith; fault = (refl, (variant, ([], refl)), λ k. no_key_v k.0 k.1) })

unclosed_at_two : IsFault (codes "(i") (unclosed 2)
unfolding facing
unclosed_at_two = (omega arith, record { prefix = tuple_with (member (basic int32) end) nothing; whole = refl; begun = λ e. absurd cc; place = refl; within = omega arith })

bad_char_at_zero : IsFault (codes "r") (bad_char 0)
unfolding facing
bad_char_at_zero = (omega arith, record { prefix = nothing; byte = 114; rest = []; whole = refl; place = refl; within = omega arith; fault = λ begins. no_type_begins_with_r begins.0 begins.1.0 begins.1.1 })

trailing_at_one : IsFault (codes "ii") (trailing 1)
unfolding facing
trailing_at_one = (omega arith, record { type = basic int32; byte = 105; rest = []; whole = refl; place = refl; within = omega arith })

arrays : ℕ → Prefix
arrays zero = nothing
arrays (suc n) = array_of (arrays n)

too_deep_at_128 : IsFault (prefix_text (arrays 128) ++ codes "i") (too_deep 128)
unfolding facing arrays
too_deep_at_128 = (omega arith, record { prefix = arrays 128; byte = 105; rest = []; whole = refl; place = refl; within = omega arith; fault = (refl, (basic int32, ([], refl)), λ e. absurd (no_type_wants_key e)) })

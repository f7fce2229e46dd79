-- A type has no fixed size exactly where a letter of its text is one of a type without one.
use Rattle.std.proofs.Common.{◌≡◌, ℕ, ◌+◌, true, false, ◌||◌, List, [], ◌∷◌, ◌++◌, max, Option, Some, None, refl, sym, ap, ◌∙◌}
use Rattle.std.specs.Prelude.{is_none, option_and_then, option_map}
use Rattle.std.specs.List.{list_any}
use Rattle.std.proofs.lemmas.List.Folds.{list_any-append}
use Rattle.std.proofs.Math.Bool.{or-false}
use Rattle.gv_model.specs.Ty.{Ty, Types, Basic, letter, spelling, spellings}
use Rattle.gv_model.specs.Ty.Ty.{basic, variant, array, maybe, tuple, entry}
use Rattle.gv_model.specs.Ty.Types.{end, member}
use Rattle.gv_model.specs.Ty.Basic.{boolean, byte, int16, uint16, int32, uint32, int64, uint64, handle, double, string, path, signature}
use Rattle.gv_model.specs.Layout.{alignment, greatest_alignment, basic_size, fixed_end, fixed_size, or_one, padded, round_up}
use Rattle.gv_layout.specs.Letters.{is_open_letter}

open_basic : (k : Basic) → is_open_letter (letter k) ≡ is_none (basic_size k)
open_basic boolean = refl
open_basic _ = refl

-- a letter behind, which is none of those
closed : (xs : List ℕ) (c : ℕ) → is_open_letter c ≡ false → list_any is_open_letter (xs ++ c ∷ []) ≡ list_any is_open_letter xs
closed xs c h = list_any-append is_open_letter xs (c ∷ []) ∙ (ap (λ b. list_any is_open_letter xs || (b || false)) h ∙ or-false (list_any is_open_letter xs))

none_padded : (a : ℕ) (o : Option ℕ) → is_none (padded a o) ≡ is_none o
none_padded a None = refl
none_padded a (Some p) = refl

both : (k t : Option ℕ) (a : ℕ) → is_none (option_and_then (λ p. option_map (λ s. round_up a p + s) t) k) ≡ (is_none k || is_none t)
both None t a = refl
both (Some p) None a = refl
both (Some p) (Some s) a = refl

-- what the first member says, if the others' letters say what they should from every place on
first : (t : Ty) (ts : Types) (p : ℕ) (o : Option ℕ) → list_any is_open_letter (spelling t) ≡ is_none o → ((q : ℕ) → list_any is_open_letter (spellings ts) ≡ is_none (fixed_end ts q))
    → (list_any is_open_letter (spelling t) || list_any is_open_letter (spellings ts)) ≡ is_none (option_and_then (λ s. fixed_end ts (round_up (alignment t) p + s)) o)
first t ts p None h rest = ap (λ b. b || list_any is_open_letter (spellings ts)) h
first t ts p (Some s) h rest = ap (λ b. b || list_any is_open_letter (spellings ts)) h ∙ rest (round_up (alignment t) p + s)

mutual
  unfolding spelling spellings fixed_size fixed_end

  pub open_type : (t : Ty) → list_any is_open_letter (spelling t) ≡ is_none (fixed_size t)
  open_type (basic k) = or-false (is_open_letter (letter k)) ∙ open_basic k
  open_type (tuple ts) = closed (spellings ts) 41 refl ∙ (open_types ts 0 ∙ sym (none_padded (greatest_alignment ts) (fixed_end ts 0)))
  open_type (entry k t) =
      let inside = closed (spelling t) 125 refl ∙ open_type t in
      let sizes = none_padded (max (or_one (basic_size k)) (alignment t)) (option_and_then (λ p. option_map (λ s. round_up (alignment t) p + s) (fixed_size t)) (basic_size k)) in
      ap (λ b. b || list_any is_open_letter (spelling t ++ 125 ∷ [])) (open_basic k) ∙ (ap (λ b. is_none (basic_size k) || b) inside ∙ sym (sizes ∙ both (basic_size k) (fixed_size t) (alignment t)))
  open_type _ = refl

  open_types : (ts : Types) (p : ℕ) → list_any is_open_letter (spellings ts) ≡ is_none (fixed_end ts p)
  open_types end p = refl
  open_types (member t ts) p = list_any-append is_open_letter (spelling t) (spellings ts) ∙ first t ts p (fixed_size t) (open_type t) (λ q. open_types ts q)

found : (o : Option ℕ) → is_none o ≡ true → None ≡ o
found None h = refl
found (Some n) h = absurd cc

pub no_fixed_size : (t : Ty) (text : List ℕ) → text ≡ spelling t → list_any is_open_letter text ≡ true → None ≡ fixed_size t
no_fixed_size t text e h = found (fixed_size t) (sym (open_type t) ∙ (ap (list_any is_open_letter) (sym e) ∙ h))

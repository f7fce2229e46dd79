-- An array of texts, known by its text.
use Rattle.std.proofs.Common.{◌≡◌, ◌⊎◌, inl, inr, ℕ, true, List, [], ◌∷◌, length, get_or, take, drop, ◌-◌, None, refl, sym, ap, ap₂, ◌∙◌, arith}
use Rattle.gv_model.specs.Ty.{Ty, Basic, nesting, spelling}
use Rattle.gv_model.specs.Ty.Ty.{array, basic}
use Rattle.gv_model.specs.Ty.Basic.{string, path, signature}
use Rattle.gv_model.specs.Layout.{alignment, fixed_size}
use Rattle.gv_model.specs.TypeText.{is_within_limits, type_at}
use Rattle.gv_model.proofs.TypeTextLaws.{type_of_text-spelling}
use Rattle.dconfdb_values.proofs.TypedLaws.{typed_at}

pub reads : (t : Ty) → is_within_limits t (spelling t) ≡ true → type_at (spelling t) ≡ t
reads t h = sym (typed_at (spelling t) t (type_of_text-spelling t h))

-- the text of an array of texts, and that of these
pub record IsTexts (text rest : List ℕ) : Type 0 where
  pub type : Ty
  pub whole : type_at text ≡ array type
  pub element : type_at rest ≡ type
  pub spelled : rest ≡ spelling (type_at rest)
  pub sized : fixed_size (type_at rest) ≡ None
  pub aligned : 1 ≡ alignment (type_at rest)

of_kind : (k : Basic) (text rest : List ℕ) → text ≡ spelling (array (basic k)) → rest ≡ spelling (basic k) → is_within_limits (array (basic k)) (spelling (array (basic k))) ≡ true
    → is_within_limits (basic k) (spelling (basic k)) ≡ true → fixed_size (basic k) ≡ None → alignment (basic k) ≡ 1 → IsTexts text rest
of_kind k text rest whole part within inside sized aligned =
    let element : type_at rest ≡ basic k = ap type_at part ∙ reads (basic k) inside in
    record {
      type = basic k;
      whole = ap type_at whole ∙ reads (array (basic k)) within;
      element = element;
      spelled = part ∙ ap spelling (sym element);
      sized = ap fixed_size element ∙ sized;
      aligned = sym (ap alignment element ∙ aligned);
    }

two : (text : List ℕ) (a b : ℕ) → length text ≡ 2 → get_or text 0 0 ≡ a → get_or text 1 0 ≡ b → text ≡ a ∷ b ∷ []
two [] a b e f g = absurd (omega (arith, e))
two (x ∷ []) a b e f g = absurd (omega (arith, e))
two (x ∷ y ∷ []) a b e f g = ap₂ (λ u v. u ∷ v ∷ []) f g
two (x ∷ y ∷ z ∷ xs) a b e f g = absurd (omega (arith, e))

rest_of : (text : List ℕ) (a b : ℕ) → text ≡ a ∷ b ∷ [] → take (length text - 1) (drop 1 text) ≡ b ∷ []
rest_of text a b e = ap (λ t. take (length t - 1) (drop 1 t)) e

pub are_texts : (text : List ℕ) (c : ℕ) → length text ≡ 2 → get_or text 0 0 ≡ 97 → get_or text 1 0 ≡ c → (c ≡ 115) ⊎ ((c ≡ 111) ⊎ (c ≡ 103))
    → IsTexts text (take (length text - 1) (drop 1 text))
unfolding spelling nesting fixed_size alignment
are_texts text c len a b (inl e) = let is = two text 97 115 len a (b ∙ e) in of_kind string text _ is (rest_of text 97 115 is) refl refl refl refl
are_texts text c len a b (inr (inl e)) = let is = two text 97 111 len a (b ∙ e) in of_kind path text _ is (rest_of text 97 111 is) refl refl refl refl
are_texts text c len a b (inr (inr e)) = let is = two text 97 103 len a (b ∙ e) in of_kind signature text _ is (rest_of text 97 103 is) refl refl refl refl

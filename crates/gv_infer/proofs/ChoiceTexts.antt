-- What the text that is written for the least type says of the choice.
use Rattle.std.proofs.Common.{ℕ, ◌≤◌, ◌≡◌, Bool, true, false, Result, Ok, Err, List, [], length, refl, sym, ap, subst, arith}
use Rattle.std.specs.Prelude.{◌↔◌, IsOk, IsTrue, is_err, nat_le, if◌then◌else◌}
use Rattle.std.proofs.lemmas.Bool.{both_ways, true≢false, false≢true}
use Rattle.gv_model.specs.Ty.{Ty, spelling, nesting}
use Rattle.gv_model.specs.TypeText.{is_type, type_at, is_within_limits}
use Rattle.gv_model.specs.Syntax.{Syntax}
use Rattle.gv_model.specs.Grammar.{text_bytes}
use Rattle.gv_model.specs.Patterns.{Pattern, pattern}
use Rattle.gv_model.specs.Chosen.{Choice}
use Rattle.gv_model.specs.Chosen.Choice.{is, no_common_type, ambiguous}
use Rattle.gv_model.specs.LeastTypes.{Least as TheLeast, least_in, choice_from, choice}
use Rattle.gv_model.specs.LeastTypes.Least.{nowhere, least, many}
use Rattle.gv_model.proofs.TypeTextLaws.{one_spelling}
use Rattle.gv_model.proofs.TypeTextParts.{spelling-type_at, text_of_type}
use Rattle.gv_patterns.specs.declared.least.Found.{Found}
use Rattle.gv_patterns.specs.declared.least.Found.TheVariants.{Nowhere, Least, Many}
use Rattle.gv_patterns.specs.LeastTexts.{Written, Spelled, found_of}
use Rattle.gv_model.proofs.TypeWeights.{Short, short_choice}

limits : (t : Ty) (w : List ℕ) → nat_le (nesting t) 128 ≡ true → length w ≤ 67108864 → is_within_limits t w ≡ true
limits t w n h = grind arith

shallow : (t : Ty) (w : List ℕ) → is_within_limits t w ≡ true → nat_le (nesting t) 128 ≡ true
shallow t w h = grind arith

-- a type that is too deep has no text
no_text : (t : Ty) → nat_le (nesting t) 128 ≡ false → is_type (spelling t) ≡ true → ⊥
no_text t deep h =
    let p = spelling-type_at (spelling t) h in
    let same : type_at (spelling t) ≡ t = one_spelling (type_at (spelling t)) t p.0 in
    both_ways _ deep (shallow t (spelling t) (subst (λ u. is_within_limits u (spelling t) ≡ true) same p.1))

-- what reading the text answers
pub refused_text : {A B : Type 0} (r : Result A B) (w text : List ℕ) → w ≡ text → (IsOk r ↔ IsTrue (is_type w)) → true ≡ is_err r → is_type text ≡ true → ⊥
refused_text (Ok a) w text same h e p = true≢false e
refused_text (Err b) w text same h e p = false≢true (h.1 (subst (λ v. is_type v ≡ true) (sym same) p))

pub taken_text : {A B : Type 0} (r : Result A B) (w text : List ℕ) → w ≡ text → (IsOk r ↔ IsTrue (is_type w)) → false ≡ is_err r → is_type text ≡ true
taken_text (Ok a) w text same h e = subst (λ v. is_type v ≡ true) same (h.0 refl)
taken_text (Err b) w text same h e = absurd (true≢false (sym e))

-- how what is found, and whether its text is a type's, tells the choice
pub record Tells (c : Choice) (text : List ℕ) (f : Found) : Type 0 where
  pub none_found : f ≡ Nowhere → c ≡ no_common_type
  pub no_type : (is_type text ≡ true → ⊥) → c ≡ no_common_type
  pub one_of_many : is_type text ≡ true → f ≡ Many → c ≡ ambiguous
  pub alone : is_type text ≡ true → f ≡ Least → c ≡ is (type_at text)

deep_tells : (t : Ty) (f : Found) → nat_le (nesting t) 128 ≡ false → Tells no_common_type (spelling t) f
deep_tells t f e = record {
  none_found = λ h. refl;
  no_type = λ h. refl;
  one_of_many = λ h m. absurd (no_text t e h);
  alone = λ h l. absurd (no_text t e h);
}

least_tells : (t : Ty) → length (spelling t) ≤ 67108864 → Tells (choice_from (least t)) (spelling t) Least
least_tells t short = go (nat_le (nesting t) 128) refl
  where
    go : (b : Bool) → nat_le (nesting t) 128 ≡ b → Tells (if b then is t else no_common_type) (spelling t) Least
    go true e = let text = text_of_type t (spelling t) refl (limits t (spelling t) e short) in record {
      none_found = λ h. absurd cc;
      no_type = λ h. absurd (h text.checked);
      one_of_many = λ h m. absurd cc;
      alone = λ h l. ap is (sym text.type);
    }
    go false e = deep_tells t Least e

many_tells : (t : Ty) → length (spelling t) ≤ 67108864 → Tells (choice_from (many t)) (spelling t) Many
many_tells t short = go (nat_le (nesting t) 128) refl
  where
    go : (b : Bool) → nat_le (nesting t) 128 ≡ b → Tells (if b then ambiguous else no_common_type) (spelling t) Many
    go true e = let text = text_of_type t (spelling t) refl (limits t (spelling t) e short) in record {
      none_found = λ h. absurd cc;
      no_type = λ h. absurd (h text.checked);
      one_of_many = λ h m. refl;
      alone = λ h l. absurd cc;
    }
    go false e = deep_tells t Many e

spelled_tells : (l : TheLeast) (text : List ℕ) → Short l 67108864 → Spelled l [] text → Tells (choice_from l) text (found_of l)
spelled_tells nowhere text short h = record {
  none_found = λ e. refl;
  no_type = λ e. refl;
  one_of_many = λ e m. absurd cc;
  alone = λ e l. absurd cc;
}
spelled_tells (least t) text short h = subst (λ w. Tells (choice_from (least t)) w Least) (sym h) (least_tells t short)
spelled_tells (many t) text short h = subst (λ w. Tells (choice_from (many t)) w Many) (sym h) (many_tells t short)

pub tells : (x : Syntax) (p : Pattern) (before text : List ℕ) (f : Found) → text_bytes x ≤ 16777216 → p ≡ pattern x → before ≡ [] → Written (least_in p) before text f → Tells (choice x) text f
unfolding choice
tells x p before text f bytes e start h =
    let here = subst (λ q. Written (least_in q) [] text f) e (subst (λ w. Written (least_in p) w text f) start h) in
    subst (λ g. Tells (choice_from (least_in (pattern x))) text g) (sym here.found) (spelled_tells (least_in (pattern x)) text (short_choice x bytes) here.text)

-- The contents of `<..>`, typed one after the other.
use Rattle.std.proofs.Common.{ℕ, ◌+◌, ◌<◌, ◌≡◌, List, [], ◌∷◌, ◌++◌, length, drop, get_or, Result, Ok, Err, IfOk, IfErr, IsErrAnd, refl, sym, ap, ◌∙◌, subst}
use Rattle.std.proofs.lemmas.Result.{err_from_is_err_and}
use Rattle.gv_model.specs.Ty.{Ty}
use Rattle.gv_model.specs.Syntax.{Syntax}
use Rattle.gv_model.specs.Syntax.Syntax.{lone, boxed}
use Rattle.gv_model.specs.Chosen.{Choice}
use Rattle.gv_model.specs.Chosen.Choice.{is}
use Rattle.gv_model.specs.LeastTypes.{choice}
use Rattle.gv_model.specs.TextValues.{contents, all_contents, pairs_contents, first_choice, HasChoice}
use Rattle.gv_model.proofs.PatternLaws.{choice_right}
use Rattle.gv_model.proofs.ListLaws.{drop_item}
use Rattle.refused.specs.declared.Refused.{Refused}
use Rattle.refused.specs.declared.Refused.TheVariants.{Fault, Memory}
use Rattle.gv_infer.specs.declared.fault.TypingFlaw.{TypingFlaw}
use Rattle.gv_infer.specs.declared.fault.TypingFlaw.TheVariants.{NoCommonType, Ambiguous}
use Rattle.gv_syntax.specs.TypeTexts.{type_of_owned}
use Rattle.gv_syntax.specs.declared.type_text.TypeText.{TypeText}
use Rattle.gv_syntax.specs.SyntaxNodes.{nodes_of, pairs_of}
use Rattle.gv_infer.specs.Typings.{choice_of, IsTypingFault, IsChoiceFault, AreTyped, IsFirstChoiceFault}

first_append : (choose : Syntax → Choice) (xs ys : List Syntax) (last : Choice) → first_choice choose (xs ++ ys) last ≡ first_choice choose xs (first_choice choose ys last)
first_append choose [] ys last = refl
first_append choose (x ∷ xs) ys last = rw (first_append choose xs ys last) refl

pub none_typed : AreTyped []
none_typed = λ last. refl

pub typed_append : (xs ys : List Syntax) → AreTyped xs → AreTyped ys → AreTyped (xs ++ ys)
typed_append xs ys h g = λ last. first_append choice xs ys last ∙ h (first_choice choice ys last) ∙ g last

pub fault_before : (xs ys : List Syntax) (f : Refused TypingFlaw) → IsFirstChoiceFault xs f → IsFirstChoiceFault (xs ++ ys) f
fault_before xs ys f h = λ last. subst (λ c. IsChoiceFault c f) (sym (first_append choice xs ys last)) (h (first_choice choice ys last))

pub fault_after : (xs ys : List Syntax) (f : Refused TypingFlaw) → AreTyped xs → IsFirstChoiceFault ys f → IsFirstChoiceFault (xs ++ ys) f
fault_after xs ys f h g = λ last. subst (λ c. IsChoiceFault c f) (sym (first_append choice xs ys last ∙ h (first_choice choice ys last))) (g last)

one_is : (choose : Syntax → Choice) (x : Syntax) (t : Ty) (last : Choice) → choose x ≡ is t → first_choice choose (x ∷ []) last ≡ last
one_is choose x t last e = rw e refl

one_has_none : (choose : Syntax → Choice) (x : Syntax) (f : TypingFlaw) (last : Choice) → choose x ≡ choice_of f → first_choice choose (x ∷ []) last ≡ choice_of f
one_has_none choose x NoCommonType last e = rw e refl
one_has_none choose x Ambiguous last e = rw e refl

pub typed_one : (x : Syntax) (t : Ty) → choice x ≡ is t → AreTyped (x ∷ [])
typed_one x t e = λ last. one_is choice x t last e

pub fault_one : (x : Syntax) (f : Refused TypingFlaw) → IsChoiceFault (choice x) f → IsFirstChoiceFault (x ∷ []) f
fault_one x (Fault f) h = λ last. one_has_none choice x f last h
fault_one x Memory h = λ last. tt

-- what comes of the choice, where the contents have types
pub typed_whole : (x : Syntax) (t : Ty) → AreTyped (contents x) → choice x ≡ is t → HasChoice x (is t)
typed_whole x t h e = record { choose = choice; chosen = choice_right; comes = sym (h (choice x) ∙ e) }

pub fault_whole : (x : Syntax) (f : Refused TypingFlaw) → AreTyped (contents x) → IsChoiceFault (choice x) f → IsTypingFault x f
fault_whole x (Fault f) h e = record { choose = choice; chosen = choice_right; comes = sym (h (choice x) ∙ e) }
fault_whole x Memory h e = tt

pub fault_inside : (x : Syntax) (f : Refused TypingFlaw) → IsFirstChoiceFault (contents x) f → IsTypingFault x f
fault_inside x (Fault f) h = record { choose = choice; chosen = choice_right; comes = sym (h (choice x)) }
fault_inside x Memory h = tt

-- ---- in the parts of a syntax

stops : {A : Type 0} (r : Result A (Refused TypingFlaw)) (f : Refused TypingFlaw) (xs : List Syntax) → IsFirstChoiceFault xs f → IsErrAnd r (λ e. e ≡ f) → IfErr r (IsFirstChoiceFault xs)
stops r f xs h stop =
    let p = err_from_is_err_and r stop in
    rw p.1 (subst (IsFirstChoiceFault xs) (sym p.2) h)

fault_then : {A : Type 0} (r : Result A (Refused TypingFlaw)) (xs ys : List Syntax) → ((f : Refused TypingFlaw) → IsFirstChoiceFault xs f → IsFirstChoiceFault ys f) → IfErr r (IsFirstChoiceFault xs) → IfErr r (IsFirstChoiceFault ys)
fault_then (Ok a) xs ys m h = tt
fault_then (Err f) xs ys m h = m f h

of_entry : (x k v : Syntax) → x ≡ lone k v → contents k ++ contents v ≡ contents x
unfolding contents
of_entry x k v e = rw e refl

of_variant : (x y : Syntax) → x ≡ boxed y → contents y ++ y ∷ [] ≡ contents x
unfolding contents
of_variant x y e = rw e refl

fault_of_whole : (xs ys : List Syntax) (f : Refused TypingFlaw) → xs ≡ ys → IsFirstChoiceFault xs f → IsFirstChoiceFault ys f
fault_of_whole xs ys f e h = subst (λ zs. IsFirstChoiceFault zs f) e h

pub stops_in_key : {A : Type 0} (r : Result A (Refused TypingFlaw)) (x k v : Syntax) (f : Refused TypingFlaw) → x ≡ lone k v → IsFirstChoiceFault (contents k) f → IsErrAnd r (λ e. e ≡ f) → IfErr r (IsFirstChoiceFault (contents x))
stops_in_key r x k v f e h stop = stops r f (contents x) (fault_of_whole _ _ f (of_entry x k v e) (fault_before (contents k) (contents v) f h)) stop

pub stops_in_value : {A : Type 0} (r : Result A (Refused TypingFlaw)) (x k v : Syntax) → x ≡ lone k v → AreTyped (contents k) → IfErr r (IsFirstChoiceFault (contents v)) → IfErr r (IsFirstChoiceFault (contents x))
stops_in_value r x k v e typed h = fault_then r (contents v) (contents x) (λ f g. fault_of_whole _ _ f (of_entry x k v e) (fault_after (contents k) (contents v) f typed g)) h

pub stops_inside : {A : Type 0} (r : Result A (Refused TypingFlaw)) (x y : Syntax) (f : Refused TypingFlaw) → x ≡ boxed y → IsFirstChoiceFault (contents y) f → IsErrAnd r (λ e. e ≡ f) → IfErr r (IsFirstChoiceFault (contents x))
stops_inside r x y f e h stop = stops r f (contents x) (fault_of_whole _ _ f (of_variant x y e) (fault_before (contents y) (y ∷ []) f h)) stop

pub stops_itself : {A : Type 0} (r : Result A (Refused TypingFlaw)) (x y : Syntax) (f : Refused TypingFlaw) → x ≡ boxed y → AreTyped (contents y) → IsChoiceFault (choice y) f → IsErrAnd r (λ e. e ≡ f) → IfErr r (IsFirstChoiceFault (contents x))
stops_itself r x y f e typed h stop = stops r f (contents x) (fault_of_whole _ _ f (of_variant x y e) (fault_after (contents y) (y ∷ []) f typed (fault_one y f h))) stop

-- ---- along a list

-- the first that has no type is among the rest
abbrev pub IsLeft : List Syntax → List Syntax → Type 0
IsLeft all rest = (last : Choice) → first_choice choice all last ≡ first_choice choice rest last

pub left_after : (all xs ys rest : List Syntax) → rest ≡ xs ++ ys → IsLeft all rest → AreTyped xs → IsLeft all ys
left_after all xs ys rest e left typed = λ last. left last ∙ ap (λ zs. first_choice choice zs last) e ∙ first_append choice xs ys last ∙ typed (first_choice choice ys last)

pub stops_at : {A : Type 0} (r : Result A (Refused TypingFlaw)) (all xs ys rest : List Syntax) (f : Refused TypingFlaw) → rest ≡ xs ++ ys → IsLeft all rest → IsFirstChoiceFault xs f → IsErrAnd r (λ e. e ≡ f) → IfErr r (IsFirstChoiceFault all)
stops_at r all xs ys rest f e left h stop = stops r f all (λ last. subst (λ c. IsChoiceFault c f) (sym (left last)) (fault_of_whole _ _ f (sym e) (fault_before xs ys f h) last)) stop

pub next_node : (xs : List Syntax) (i : ℕ) (x : Syntax) → i < length xs → x ≡ get_or xs i x → all_contents (nodes_of (drop i xs)) ≡ contents x ++ all_contents (nodes_of (drop (i + 1) xs))
unfolding contents
next_node xs i x lt e = ap (λ l. all_contents (nodes_of l)) (drop_item xs i x lt e)

pub next_pair : (xs : List (Syntax × Syntax)) (i : ℕ) (p : Syntax × Syntax) → i < length xs → p ≡ get_or xs i p → pairs_contents (pairs_of (drop i xs)) ≡ contents p.0 ++ (contents p.1 ++ pairs_contents (pairs_of (drop (i + 1) xs)))
unfolding contents
next_pair xs i p lt e = ap (λ l. pairs_contents (pairs_of l)) (drop_item xs i p lt e)

-- ---- of the whole

pub stops_whole : {A : Type 0} (r : Result A (Refused TypingFlaw)) (x : Syntax) (f : Refused TypingFlaw) → IsFirstChoiceFault (contents x) f → IsErrAnd r (λ e. e ≡ f) → IfErr r (IsTypingFault x)
stops_whole r x f h stop =
    let p = err_from_is_err_and r stop in
    rw p.1 (subst (IsTypingFault x) (sym p.2) (fault_inside x f h))

pub whole_chosen : (r : Result TypeText (Refused TypingFlaw)) (x : Syntax) → AreTyped (contents x) → IfOk r (λ t. choice x ≡ is (type_of_owned t)) → IfOk r (λ t. HasChoice x (is (type_of_owned t)))
whole_chosen (Ok t) x typed h = typed_whole x (type_of_owned t) typed h
whole_chosen (Err f) x typed h = tt

pub whole_at_fault : (r : Result TypeText (Refused TypingFlaw)) (x : Syntax) → AreTyped (contents x) → IfErr r (IsChoiceFault (choice x)) → IfErr r (IsTypingFault x)
whole_at_fault (Ok t) x typed h = tt
whole_at_fault (Err f) x typed h = fault_whole x f typed h

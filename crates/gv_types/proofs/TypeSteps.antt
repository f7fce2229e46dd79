-- One step of reading a type: what was read of a part, and what it is in the whole.
use Rattle.std.proofs.Common.{ℕ, Some, ◌-◌, ◌⊎◌, suc, ◌≤◌, ◌<◌, ◌≡◌, List, [], ◌∷◌, ◌++◌, Result, refl, sym, ap, ◌∙◌, subst, append_assoc, append-nil, arith, inl, inr, length, length-append}
use Rattle.std.specs.Prelude.{MatchResult, IsErrAnd}
use Rattle.std.proofs.lemmas.Result.{MatchResult-weaker, err_from_is_err_and}
use Rattle.gv_model.specs.Ty.{Ty, Basic, Types, spelling, spellings, nesting, letter}
use Rattle.gv_model.specs.Ty.Ty.{basic, variant, array, maybe, tuple, entry}
use Rattle.gv_model.specs.TypeFault.{Prefix, Expected, prefix_text, prefix_nesting, open_types, next, BeginsType, IsKey, IsAllowed}
use Rattle.gv_model.specs.TypeFault.Prefix.{nothing, array_of, maybe_of, tuple_with, entry_start, entry_with, entry_end}
use Rattle.gv_model.specs.TypeText.{mark}
use Rattle.gv_model.proofs.Prefixes.{spelling-positive, no_type_wants_key, member_wants_key}
use Rattle.gv_model.proofs.ListLaws.{same_head}
use Rattle.gv_types.specs.declared.class.BasicType.{BasicType}
use Rattle.gv_types.specs.declared.class.Class.{Class}
use Rattle.gv_types.specs.declared.class.Class.TheVariants as classes
use Rattle.gv_types.specs.Classes.{basic_of, class_of_mark}
use Rattle.gv_types.specs.declared.grammar.Halt.{Halt}
use Rattle.gv_types.specs.declared.grammar.Halt.TheVariants.{Unclosed, BadChar, KeyNotBasic, TooDeep}
use Rattle.gv_types.specs.declared.grammar.Stop.{Stop}
use Rattle.gv_types.specs.declared.grammar.Reading.{Reading}
use Rattle.gv_types.specs.SingleTuples.{single_tuples}
use Rattle.gv_types.specs.TypePrefix.{BeginsWithType, ReadsType, HaltsAfter, HaltsAt, IsNotClosed}
use Rattle.gv_types.proofs.Firsts.{first_is}
use Rattle.gv_types.proofs.MemberLaws.{MembersSoFar, HasRead}

-- what a call gives that reads a type of at most so many levels at the start of a text
abbrev pub IsReadingOf : ℕ → List ℕ → Result Reading Stop → Type 0
IsReadingOf room text r = MatchResult r (λ x. ReadsType room text x.rest.now x.singles) (λ stop. HaltsAt room text stop.rest.now stop.halt)

-- ---- what is read

-- a type of one letter
letter_at : (room : ℕ) (t : Ty) (b : ℕ) (text rest : List ℕ) → spelling t ≡ b ∷ [] → nesting t ≤ room → text ≡ b ∷ rest → BeginsWithType room text rest
letter_at room t b text rest s n e = record { type = t; whole = e ∙ ap (λ x. x ++ rest) (sym s); within = n }

pub reads_letter : (room : ℕ) (t : Ty) (b : ℕ) (text rest : List ℕ) → spelling t ≡ b ∷ [] → nesting t ≤ room → 0 ≡ single_tuples t → text ≡ b ∷ rest → ReadsType room text rest 0
unfolding letter_at
reads_letter room t b text rest s n singles e = record { begins = letter_at room t b text rest s n e; counted = singles }

array_at : (room : ℕ) (text rest : List ℕ) → BeginsWithType room text rest → BeginsWithType (suc room) (97 ∷ text) rest
unfolding spelling nesting
array_at room text rest r = record { type = array r.type; whole = ap (λ x. 97 ∷ x) r.whole; within = let h = r.within in omega arith }

pub reads_array : (room : ℕ) (text rest : List ℕ) (singles : ℕ) → BeginsWithType room text rest × (singles ≡ 0) → ReadsType (suc room) (97 ∷ text) rest singles
unfolding array_at single_tuples
reads_array room text rest singles r = record { begins = array_at room text rest r.0; counted = r.1 }

maybe_at : (room : ℕ) (text rest : List ℕ) → BeginsWithType room text rest → BeginsWithType (suc room) (109 ∷ text) rest
unfolding spelling nesting
maybe_at room text rest r = record { type = maybe r.type; whole = ap (λ x. 109 ∷ x) r.whole; within = let h = r.within in omega arith }

pub reads_maybe : (room : ℕ) (text rest : List ℕ) (singles : ℕ) → BeginsWithType room text rest × (singles ≡ 0) → ReadsType (suc room) (109 ∷ text) rest singles
unfolding maybe_at single_tuples
reads_maybe room text rest singles r = record { begins = maybe_at room text rest r.0; counted = r.1 }

tuple_at : (room : ℕ) (text others rest : List ℕ) → MembersSoFar room text others → others ≡ 41 ∷ rest → BeginsWithType (suc room) (40 ∷ text) rest
unfolding spelling nesting
tuple_at room text others rest m e = record {
  type = tuple m.types;
  whole = ap (λ x. 40 ∷ x) (m.whole ∙ (ap (λ x. spellings m.types ++ x) e ∙ sym (append_assoc (spellings m.types) (41 ∷ []) rest)));
  within = let h = m.within in omega arith;
}

pub reads_tuple : (room : ℕ) (text others rest : List ℕ) (singles : ℕ) → HasRead room text others singles → others ≡ 41 ∷ rest → ReadsType (suc room) (40 ∷ text) rest singles
unfolding tuple_at
reads_tuple room text others rest singles m e = record { begins = tuple_at room text others rest m.members e; counted = m.counted }

-- an entry's text up to its value
key_text : (k : Basic) (b : ℕ) (text value more : List ℕ) → b ≡ letter k → text ≡ b ∷ value → value ≡ more → text ≡ letter k ∷ more
key_text k b text value more is e g = e ∙ (ap (λ x. x ∷ value) is ∙ ap (λ x. letter k ∷ x) g)

entry_at : (room b : ℕ) (text value others rest : List ℕ) → IsKey b → text ≡ b ∷ value → BeginsWithType room value others → others ≡ 125 ∷ rest → BeginsWithType (suc room) (123 ∷ text) rest
unfolding spelling nesting
entry_at room b text value others rest k e r close = record {
  type = entry k.0 r.type;
  whole = ap (λ x. 123 ∷ x) (key_text k.0 b text value ((spelling r.type ++ 125 ∷ []) ++ rest) k.1 e (r.whole ∙ (ap (λ x. spelling r.type ++ x) close ∙ sym (append_assoc (spelling r.type) (125 ∷ []) rest))));
  within = let h = r.within in omega arith;
}

pub reads_entry : (room b : ℕ) (text value others rest : List ℕ) (singles : ℕ) → IsKey b → text ≡ b ∷ value → BeginsWithType room value others → others ≡ 125 ∷ rest → singles ≡ 0 → ReadsType (suc room) (123 ∷ text) rest singles
unfolding entry_at single_tuples
reads_entry room b text value others rest singles k e r close none = record { begins = entry_at room b text value others rest k e r close; counted = none }

-- what is left is shorter
pub reads_shorter : (room : ℕ) (text rest : List ℕ) → BeginsWithType room text rest → length rest < length text
reads_shorter room text rest r = omega (arith, ap length r.whole, length-append (spelling r.type) rest, spelling-positive r.type)

-- ---- where reading stops

pub stops_at_end : (room : ℕ) (text : List ℕ) → text ≡ [] → HaltsAt room text text Unclosed
unfolding prefix_text prefix_nesting
stops_at_end room text e = record { prefix = nothing; whole = refl; within = omega arith; stops = rw e tt }

pub stops_at_bad : (room b : ℕ) (text rest : List ℕ) → text ≡ b ∷ rest → (BeginsType b → ⊥) → HaltsAt room text text BadChar
unfolding prefix_text prefix_nesting next
stops_at_bad room b text rest e h = record { prefix = nothing; whole = refl; within = omega arith; stops = rw e h }

pub stops_at_deep : (room b : ℕ) (text rest : List ℕ) → text ≡ b ∷ rest → room ≡ 0 → BeginsType b → HaltsAt room text text TooDeep
unfolding prefix_text prefix_nesting next open_types
stops_at_deep room b text rest e is h = record { prefix = nothing; whole = refl; within = omega arith; stops = rw e (sym is, h, λ k. absurd (no_type_wants_key k)) }

-- what stops a part stops the whole, where the same comes next
stops_in : (room n : ℕ) (f g : Prefix) (rest : List ℕ) (h : Halt) → next g ≡ next f → (open_types f ≡ room → open_types g ≡ n) → HaltsAfter room f rest h → HaltsAfter n g rest h
stops_in room n f g [] Unclosed e o s = tt
stops_in room n f g (b ∷ rest) BadChar e o s = λ m. s (subst (λ (w : Expected). IsAllowed w b) e m)
stops_in room n f g (b ∷ rest) KeyNotBasic e o s = (e ∙ s.0, s.1, s.2)
stops_in room n f g (b ∷ rest) TooDeep e o s = (o s.0, s.1, λ k. s.2 (sym e ∙ k))
stops_in room n f g rest h e o s = absurd s

pub stops_array : (room : ℕ) (text rest : List ℕ) (h : Halt) → HaltsAt room text rest h → HaltsAt (suc room) (97 ∷ text) rest h
unfolding prefix_text prefix_nesting next open_types
stops_array room text rest h s = record {
  prefix = array_of s.prefix;
  whole = ap (λ x. 97 ∷ x) s.whole;
  within = let n = s.within in omega arith;
  stops = stops_in room (suc room) s.prefix (array_of s.prefix) rest h refl (λ o. ap suc o) s.stops;
}

pub stops_maybe : (room : ℕ) (text rest : List ℕ) (h : Halt) → HaltsAt room text rest h → HaltsAt (suc room) (109 ∷ text) rest h
unfolding prefix_text prefix_nesting next open_types
stops_maybe room text rest h s = record {
  prefix = maybe_of s.prefix;
  whole = ap (λ x. 109 ∷ x) s.whole;
  within = let n = s.within in omega arith;
  stops = stops_in room (suc room) s.prefix (maybe_of s.prefix) rest h refl (λ o. ap suc o) s.stops;
}

-- ---- in a tuple

pub stops_in_tuple : (room : ℕ) (text rest : List ℕ) → MembersSoFar room text rest → rest ≡ [] → HaltsAt (suc room) (40 ∷ text) rest Unclosed
unfolding prefix_text prefix_nesting
stops_in_tuple room text rest m e = record {
  prefix = tuple_with m.types nothing;
  whole = ap (λ x. 40 ∷ x) (m.whole ∙ ap (λ x. x ++ rest) (sym (append-nil (spellings m.types))));
  within = let n = m.within in omega arith;
  stops = rw e tt;
}

-- no bracket is where a member begins
member_stops : (room : ℕ) (ts : Types) (f : Prefix) (b : ℕ) (others rest : List ℕ) (h : Halt) → (b ≡ 41 → ⊥) → b ∷ others ≡ prefix_text f ++ rest → HaltsAfter room f rest h → HaltsAfter (suc room) (tuple_with ts f) rest h
unfolding prefix_text next open_types
member_stops room ts nothing b others [] Unclosed n e s = tt
member_stops room ts nothing b others (c ∷ rest) BadChar n e s = λ m. elim m [ inl begins ↦ s begins | inr is ↦ n (same_head e ∙ is) ]
member_stops room ts nothing b others (c ∷ rest) KeyNotBasic n e s = absurd (no_type_wants_key s.0)
member_stops room ts nothing b others (c ∷ rest) TooDeep n e s = (ap suc s.0, s.1, λ k. absurd (member_wants_key k))
member_stops room ts nothing b others rest h n e s = absurd s
member_stops room ts (array_of f) b others rest h n e s = stops_in room (suc room) (array_of f) (tuple_with ts (array_of f)) rest h refl (λ o. ap suc o) s
member_stops room ts (maybe_of f) b others rest h n e s = stops_in room (suc room) (maybe_of f) (tuple_with ts (maybe_of f)) rest h refl (λ o. ap suc o) s
member_stops room ts (tuple_with us f) b others rest h n e s = stops_in room (suc room) (tuple_with us f) (tuple_with ts (tuple_with us f)) rest h refl (λ o. ap suc o) s
member_stops room ts entry_start b others rest h n e s = stops_in room (suc room) entry_start (tuple_with ts entry_start) rest h refl (λ o. ap suc o) s
member_stops room ts (entry_with k f) b others rest h n e s = stops_in room (suc room) (entry_with k f) (tuple_with ts (entry_with k f)) rest h refl (λ o. ap suc o) s
member_stops room ts (entry_end k t) b others rest h n e s = stops_in room (suc room) (entry_end k t) (tuple_with ts (entry_end k t)) rest h refl (λ o. ap suc o) s

pub stops_at_member : (room b : ℕ) (text others after rest : List ℕ) (h : Halt) → MembersSoFar room text others → others ≡ b ∷ after → (b ≡ 41 → ⊥) → HaltsAt room others rest h → HaltsAt (suc room) (40 ∷ text) rest h
unfolding prefix_text prefix_nesting
stops_at_member room b text others after rest h m e n s = record {
  prefix = tuple_with m.types s.prefix;
  whole = ap (λ x. 40 ∷ x) (m.whole ∙ (ap (λ x. spellings m.types ++ x) s.whole ∙ sym (append_assoc (spellings m.types) (prefix_text s.prefix) rest)));
  within = let k = s.within in let g = m.within in omega arith;
  stops = member_stops room m.types s.prefix b after rest h n (sym e ∙ s.whole) s.stops;
}

-- ---- in an entry

stops_before_key : (room : ℕ) (text : List ℕ) (h : Halt) → HaltsAfter (suc room) entry_start text h → HaltsAt (suc room) (123 ∷ text) text h
unfolding prefix_text prefix_nesting
stops_before_key room text h s = record { prefix = entry_start; whole = refl; within = omega arith; stops = s }

pub no_key : (room : ℕ) (text : List ℕ) → text ≡ [] → HaltsAt (suc room) (123 ∷ text) text Unclosed
no_key room text e = stops_before_key room text Unclosed (rw e tt)

pub key_bad : (room b : ℕ) (text rest : List ℕ) → text ≡ b ∷ rest → (BeginsType b → ⊥) → HaltsAt (suc room) (123 ∷ text) text BadChar
unfolding next
key_bad room b text rest e h = stops_before_key room text BadChar (rw e h)

pub key_not_basic : (room b : ℕ) (text rest : List ℕ) → text ≡ b ∷ rest → BeginsType b → (IsKey b → ⊥) → HaltsAt (suc room) (123 ∷ text) text KeyNotBasic
unfolding next
key_not_basic room b text rest e h n = stops_before_key room text KeyNotBasic (rw e (refl, h, n))

pub key_too_deep : (room b : ℕ) (text rest : List ℕ) → text ≡ b ∷ rest → room ≡ 0 → BeginsType b → IsKey b → HaltsAt (suc room) (123 ∷ text) text TooDeep
unfolding next open_types
key_too_deep room b text rest e is h k = stops_before_key room text TooDeep (rw e (ap suc (sym is), h, λ _. k))

pub stops_at_value : (room b : ℕ) (text value rest : List ℕ) (h : Halt) → IsKey b → 0 < room → text ≡ b ∷ value → HaltsAt room value rest h → HaltsAt (suc room) (123 ∷ text) rest h
unfolding prefix_text prefix_nesting next open_types
stops_at_value room b text value rest h k some e s = record {
  prefix = entry_with k.0 s.prefix;
  whole = ap (λ x. 123 ∷ x) (key_text k.0 b text value (prefix_text s.prefix ++ rest) k.1 e s.whole);
  within = let n = s.within in omega arith;
  stops = stops_in room (suc room) s.prefix (entry_with k.0 s.prefix) rest h refl (λ o. ap suc o) s.stops;
}

close_stops : (n : ℕ) (k : Basic) (t : Ty) (rest : List ℕ) (h : Halt) → IsNotClosed rest h → HaltsAfter n (entry_end k t) rest h
unfolding next
close_stops n k t [] Unclosed s = tt
close_stops n k t (b ∷ rest) BadChar s = s
close_stops n k t rest h s = absurd s

pub stops_at_close : (room b : ℕ) (text value rest : List ℕ) (h : Halt) → IsKey b → text ≡ b ∷ value → BeginsWithType room value rest → IsNotClosed rest h → HaltsAt (suc room) (123 ∷ text) rest h
unfolding prefix_text prefix_nesting
stops_at_close room b text value rest h k e r s = record {
  prefix = entry_end k.0 r.type;
  whole = ap (λ x. 123 ∷ x) (key_text k.0 b text value (spelling r.type ++ rest) k.1 e r.whole);
  within = let n = r.within in omega arith;
  stops = close_stops (suc room) k.0 r.type rest h s;
}

-- ---- what the calls give

-- a call that stops at once
pub stopped_there : (r : Result Reading Stop) (room : ℕ) (text rest : List ℕ) (h : Halt) → MatchResult r (λ _. ⊥) (λ s. (s.halt ≡ h) × (s.rest.now ≡ rest)) → HaltsAt room text rest h → IsReadingOf room text r
stopped_there r room text rest h e at =
    MatchResult-weaker r e (λ _ f. absurd f) (λ s is. subst (λ (l : List ℕ). HaltsAt room text l s.halt) (sym is.1) (subst (λ (k : Halt). HaltsAt room text rest k) (sym is.0) at))

-- a call that hands on where another stopped
pub stopped_as : {X : Type 0} (P : X → Type 0) (r : Result X Stop) (room : ℕ) (text : List ℕ) (s : Stop) → IsErrAnd r (λ y. y ≡ s) → HaltsAt room text s.rest.now s.halt
    → MatchResult r P (λ stop. HaltsAt room text stop.rest.now stop.halt)
stopped_as {X = X} P r room text s e at =
    let p = err_from_is_err_and r e in
    subst (λ (x : Result X Stop). MatchResult x P (λ stop. HaltsAt room text stop.rest.now stop.halt)) (sym p.1) (subst (λ (y : Stop). HaltsAt room text y.rest.now y.halt) (sym p.2) at)

-- a call for the part after the first byte
after_first : (r : Result Reading Stop) (n room b c : ℕ) (text rest : List ℕ) → n ≡ room → b ≡ c → text ≡ b ∷ rest → IsReadingOf n (c ∷ rest) r → IsReadingOf room text r
after_first r n room b c text rest e is at h =
    subst (λ (m : ℕ). IsReadingOf m text r) e (subst (λ (l : List ℕ). IsReadingOf n l r) (sym (at ∙ ap (λ x. x ∷ rest) is)) h)

pub reads_single : (room b : ℕ) (c : Class) (text rest : List ℕ) → class_of_mark (mark b) ≡ Some c → ((k : BasicType) × (c ≡ classes.Basic k)) ⊎ (c ≡ classes.Variant) → (room ≡ 0 → ⊥) → text ≡ b ∷ rest → ReadsType room text rest 0
unfolding spelling nesting single_tuples
reads_single room b c text rest e is some at = elim is [
  | inl k ↦ reads_letter room (basic (basic_of k.0)) b text rest (ap (λ x. x ∷ []) (sym (first_is b c (classes.Basic k.0) e k.1))) (omega arith) refl at
  | inr v ↦ reads_letter room variant b text rest (ap (λ x. x ∷ []) (sym (first_is b c classes.Variant e v))) (omega arith) refl at
]

pub reading_element : (r : Result Reading Stop) (room b : ℕ) (c : Class) (text rest : List ℕ) → class_of_mark (mark b) ≡ Some c → (c ≡ classes.Array) ⊎ (c ≡ classes.Maybe) → (room ≡ 0 → ⊥) → text ≡ b ∷ rest
    → MatchResult r (λ x. BeginsWithType (room - 1) rest x.rest.now × (x.singles ≡ 0)) (λ stop. HaltsAt (room - 1) rest stop.rest.now stop.halt) → IsReadingOf room text r
reading_element r room b c text rest e is some at h = elim is [
  | inl a ↦ after_first r (suc (room - 1)) room b 97 text rest (omega arith) (first_is b c classes.Array e a) at
      (MatchResult-weaker r h (λ x. reads_array (room - 1) rest x.rest.now x.singles) (λ s. stops_array (room - 1) rest s.rest.now s.halt))
  | inr m ↦ after_first r (suc (room - 1)) room b 109 text rest (omega arith) (first_is b c classes.Maybe e m) at
      (MatchResult-weaker r h (λ x. reads_maybe (room - 1) rest x.rest.now x.singles) (λ s. stops_maybe (room - 1) rest s.rest.now s.halt))
]

pub reading_tuple : (r : Result Reading Stop) (room b : ℕ) (c : Class) (text rest : List ℕ) → class_of_mark (mark b) ≡ Some c → c ≡ classes.Tuple → (room ≡ 0 → ⊥) → text ≡ b ∷ rest → IsReadingOf (suc (room - 1)) (40 ∷ rest) r → IsReadingOf room text r
reading_tuple r room b c text rest e is some at h = after_first r (suc (room - 1)) room b 40 text rest (omega arith) (first_is b c classes.Tuple e is) at h

pub reading_entry : (r : Result Reading Stop) (room b : ℕ) (c : Class) (text rest : List ℕ) → class_of_mark (mark b) ≡ Some c → c ≡ classes.Entry → (room ≡ 0 → ⊥) → text ≡ b ∷ rest → IsReadingOf (suc (room - 1)) (123 ∷ rest) r → IsReadingOf room text r
reading_entry r room b c text rest e is some at h = after_first r (suc (room - 1)) room b 123 text rest (omega arith) (first_is b c classes.Entry e is) at h

-- a call for the closing bracket of an entry
pub reading_close : (r : Result Reading Stop) (room b : ℕ) (text value others : List ℕ) → IsKey b → text ≡ b ∷ value → BeginsWithType room value others
    → MatchResult r (λ x. (others ≡ 125 ∷ x.rest.now) × (x.singles ≡ 0)) (λ stop. (stop.rest.now ≡ others) × IsNotClosed others stop.halt) → IsReadingOf (suc room) (123 ∷ text) r
reading_close r room b text value others k e v h = MatchResult-weaker r h
    (λ x at. reads_entry room b text value others x.rest.now x.singles k e v at.0 at.1)
    (λ s at. subst (λ (l : List ℕ). HaltsAt (suc room) (123 ∷ text) l s.halt) (sym at.0) (stops_at_close room b text value others s.halt k e v at.1))

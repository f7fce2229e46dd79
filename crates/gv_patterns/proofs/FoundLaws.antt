-- The text of the least type in a set, written part by part.
use Rattle.std.proofs.Common.{ℕ, ◌≡◌, List, [], ◌∷◌, ◌++◌, refl, sym, ap, ap₂, ◌∙◌, append_assoc, append-nil}
use Rattle.gv_model.specs.Ty.{Ty, Types, Basic, spelling, spellings, letter}
use Rattle.gv_model.specs.Ty.Ty.{basic, array, maybe, tuple, entry}
use Rattle.gv_model.specs.Ty.Types.{end, member}
use Rattle.gv_model.specs.Ty.Basic.{boolean, int32, string}
use Rattle.gv_model.specs.Patterns.{BasicSet, Pattern, Bare}
use Rattle.gv_model.specs.Patterns.Pattern.{anything, never, maybe_of, strict, loose}
use Rattle.gv_model.specs.Patterns.Bare.{basics, a_variant, array_of, tuple_with, entry_of, no_bare}
use Rattle.gv_model.specs.Patterns.BasicSet.{any, numbers, texts, empty, only}
use Rattle.gv_model.specs.LeastTypes.{Least as TheLeast, Leasts, least_with, least_basics, least_entry, least_tuple, least_member, least_in, least_bare, leasts_in}
use Rattle.gv_model.specs.LeastTypes.Least.{nowhere, least, many}
use Rattle.gv_model.specs.LeastTypes.Leasts.{nowhere_each, least_each, many_each}
use Rattle.std.specs.Prelude.{Result, Ok, Err, IfOk}
use Rattle.std.specs.declared.alloc.AllocError.{AllocError}
use Rattle.gv_patterns.specs.declared.least.Found.{Found}
use Rattle.gv_patterns.specs.declared.least.Found.TheVariants.{Nowhere, Least, Many}
use Rattle.gv_patterns.specs.Forms.{patterns_of}
use Rattle.gv_patterns.specs.LeastTexts.{found_of, found_each, both_found, Spelled, SpelledEach, Written, WrittenEach}

-- a letter, and then the text of the type under it
pub written_under : (f : Ty → Ty) (c : ℕ) (l : TheLeast) (before between after : List ℕ) (found : Found) → ((t : Ty) → spelling (f t) ≡ c ∷ spelling t) → between ≡ before ++ c ∷ [] → Written l between after found → Written (least_with f l) before after found
written_under f c l before between after found s e w = record { found = w.found ∙ same l; text = spelled l w.text }
  where
    same : (l : TheLeast) → found_of l ≡ found_of (least_with f l)
    same nowhere = refl
    same (least t) = refl
    same (many t) = refl

    whole : (t : Ty) → after ≡ between ++ spelling t → after ≡ before ++ spelling (f t)
    whole t h = h ∙ ap (λ (x : List ℕ). x ++ spelling t) e ∙ append_assoc before (c ∷ []) (spelling t) ∙ ap (λ (x : List ℕ). before ++ x) (sym (s t))

    spelled : (l : TheLeast) → Spelled l between after → Spelled (least_with f l) before after
    spelled nowhere h = tt
    spelled (least t) h = whole t h
    spelled (many t) h = whole t h

pub written_array : (l : TheLeast) (before between after : List ℕ) (found : Found) → between ≡ before ++ 97 ∷ [] → Written l between after found → Written (least_with array l) before after found
unfolding spelling
written_array l before between after found e w = written_under array 97 l before between after found (λ t. refl) e w

pub written_maybe : (l : TheLeast) (before between after : List ℕ) (found : Found) → between ≡ before ++ 109 ∷ [] → Written l between after found → Written (least_with maybe l) before after found
unfolding spelling
written_maybe l before between after found e w = written_under maybe 109 l before between after found (λ t. refl) e w

-- the members of a tuple, between brackets
pub written_tuple : (l : Leasts) (before opened full after : List ℕ) (found : Found) → opened ≡ before ++ 40 ∷ [] → after ≡ full ++ 41 ∷ [] → WrittenEach l opened full found → Written (least_tuple l) before after found
unfolding spelling
written_tuple l before opened full after found e g w = record { found = w.found ∙ same l; text = spelled l w.text }
  where
    same : (l : Leasts) → found_each l ≡ found_of (least_tuple l)
    same nowhere_each = refl
    same (least_each ts) = refl
    same (many_each ts) = refl

    whole : (ts : Types) → full ≡ opened ++ spellings ts → after ≡ before ++ spelling (tuple ts)
    whole ts h = g ∙ ap (λ (x : List ℕ). x ++ 41 ∷ []) (h ∙ ap (λ (x : List ℕ). x ++ spellings ts) e ∙ append_assoc before (40 ∷ []) (spellings ts)) ∙ append_assoc before (40 ∷ spellings ts) (41 ∷ [])

    spelled : (l : Leasts) → SpelledEach l opened full → Spelled (least_tuple l) before after
    spelled nowhere_each h = tt
    spelled (least_each ts) h = whole ts h
    spelled (many_each ts) h = whole ts h

-- one more member first
pub written_member : (l : TheLeast) (ls : Leasts) (before between after : List ℕ) (f g : Found) → Written l before between f → WrittenEach ls between after g → WrittenEach (least_member l ls) before after (both_found f g)
unfolding spelling
written_member l ls before between after f g w v = record { found = ap₂ both_found w.found v.found ∙ same l ls; text = spelled l ls w.text v.text }
  where
    same : (l : TheLeast) (ls : Leasts) → both_found (found_of l) (found_each ls) ≡ found_each (least_member l ls)
    same nowhere ls = refl
    same (least t) nowhere_each = refl
    same (least t) (least_each ts) = refl
    same (least t) (many_each ts) = refl
    same (many t) nowhere_each = refl
    same (many t) (least_each ts) = refl
    same (many t) (many_each ts) = refl

    whole : (t : Ty) (ts : Types) → between ≡ before ++ spelling t → after ≡ between ++ spellings ts → after ≡ before ++ spellings (member t ts)
    whole t ts h k = k ∙ ap (λ (x : List ℕ). x ++ spellings ts) h ∙ append_assoc before (spelling t) (spellings ts)

    spelled : (l : TheLeast) (ls : Leasts) → Spelled l before between → SpelledEach ls between after → SpelledEach (least_member l ls) before after
    spelled nowhere ls h k = tt
    spelled (least t) nowhere_each h k = tt
    spelled (least t) (least_each ts) h k = whole t ts h k
    spelled (least t) (many_each ts) h k = whole t ts h k
    spelled (many t) nowhere_each h k = tt
    spelled (many t) (least_each ts) h k = whole t ts h k
    spelled (many t) (many_each ts) h k = whole t ts h k

pub both_assoc : (f g h : Found) → both_found (both_found f g) h ≡ both_found f (both_found g h)
both_assoc Nowhere g h = refl
both_assoc Least g h = refl
both_assoc Many Nowhere h = refl
both_assoc Many Least h = refl
both_assoc Many Many Nowhere = refl
both_assoc Many Many Least = refl
both_assoc Many Many Many = refl

pub both_least : (f : Found) → both_found f Least ≡ f
both_least Nowhere = refl
both_least Least = refl
both_least Many = refl

-- no more members
pub written_end : (text : List ℕ) → WrittenEach (least_each end) text text Least
unfolding spelling
written_end text = record { found = refl; text = sym (append-nil text) }

-- however the rest of a tuple's members is written, all of them are
abbrev pub GoesOn : Leasts → Leasts → List ℕ → List ℕ → Found → Type 0
GoesOn rest all before now f = (after : List ℕ) (g : Found) → WrittenEach rest now after g → WrittenEach all before after (both_found f g)

pub goes_on : (l : TheLeast) (rest all : Leasts) (before now later : List ℕ) (f g : Found) → Written l now later g → GoesOn (least_member l rest) all before now f → GoesOn rest all before later (both_found f g)
goes_on l rest all before now later f g w go = λ after h v. subst_found (go after (both_found g h) (written_member l rest now later after g h w v)) (sym (both_assoc f g h))
  where
    subst_found : {after : List ℕ} {a b : Found} → WrittenEach all before after a → a ≡ b → WrittenEach all before after b
    subst_found w e = record { found = sym e ∙ w.found; text = w.text }

pub gone_on : (all : Leasts) (before now : List ℕ) (f : Found) → GoesOn (least_each end) all before now f → WrittenEach all before now f
gone_on all before now f go = let w = go now Least (written_end now) in record { found = sym (both_least f) ∙ w.found; text = w.text }

entry_text : (k : Basic) (t : Ty) (before opened keyed valued after : List ℕ) → opened ≡ before ++ 123 ∷ [] → after ≡ valued ++ 125 ∷ [] → keyed ≡ opened ++ spelling (basic k) → valued ≡ keyed ++ spelling t → after ≡ before ++ spelling (entry k t)
unfolding spelling
entry_text k t before opened keyed valued after e g h i =
    g ∙ ap (λ (x : List ℕ). x ++ 125 ∷ []) (i ∙ ap (λ (x : List ℕ). x ++ spelling t)
    (h ∙ ap (λ (x : List ℕ). x ++ letter k ∷ []) e ∙ append_assoc before (123 ∷ []) (letter k ∷ [])) ∙ append_assoc before (123 ∷ letter k ∷ []) (spelling t))
    ∙ append_assoc before (123 ∷ letter k ∷ spelling t) (125 ∷ [])

-- a key and a value, between braces
pub written_entry : (s : BasicSet) (l : TheLeast) (before opened keyed valued after : List ℕ) (f g : Found) → opened ≡ before ++ 123 ∷ [] → after ≡ valued ++ 125 ∷ []
    → Written (least_basics basic s) opened keyed f → Written l keyed valued g
    → Written (least_entry (least_basics basic s) (λ k. least_with (entry k) l)) before after (both_found f g)
unfolding spelling
written_entry s l before opened keyed valued after f g e d w v = record { found = ap₂ both_found w.found v.found ∙ same s l; text = spelled s l w.text v.text }
  where
    same : (s : BasicSet) (l : TheLeast) → both_found (found_of (least_basics basic s)) (found_of l) ≡ found_of (least_entry (least_basics basic s) (λ k. least_with (entry k) l))
    same any nowhere = refl
    same any (least t) = refl
    same any (many t) = refl
    same numbers nowhere = refl
    same numbers (least t) = refl
    same numbers (many t) = refl
    same texts nowhere = refl
    same texts (least t) = refl
    same texts (many t) = refl
    same empty l = refl
    same (only k) nowhere = refl
    same (only k) (least t) = refl
    same (only k) (many t) = refl

    spelled : (s : BasicSet) (l : TheLeast) → Spelled (least_basics basic s) opened keyed → Spelled l keyed valued → Spelled (least_entry (least_basics basic s) (λ k. least_with (entry k) l)) before after
    spelled any nowhere h i = tt
    spelled any (least t) h i = entry_text boolean t before opened keyed valued after e d h i
    spelled any (many t) h i = entry_text boolean t before opened keyed valued after e d h i
    spelled numbers nowhere h i = tt
    spelled numbers (least t) h i = entry_text int32 t before opened keyed valued after e d h i
    spelled numbers (many t) h i = entry_text int32 t before opened keyed valued after e d h i
    spelled texts nowhere h i = tt
    spelled texts (least t) h i = entry_text string t before opened keyed valued after e d h i
    spelled texts (many t) h i = entry_text string t before opened keyed valued after e d h i
    spelled empty l h i = tt
    spelled (only k) nowhere h i = tt
    spelled (only k) (least t) h i = entry_text k t before opened keyed valued after e d h i
    spelled (only k) (many t) h i = entry_text k t before opened keyed valued after e d h i

-- The same, said of a set that is known to be of a form

if_ok : (r : Result Found AllocError) (P Q : Found → Type 0) → ((f : Found) → P f → Q f) → IfOk r P → IfOk r Q
if_ok (Ok f) P Q g h = g f h
if_ok (Err e) P Q g h = tt

pub basic_any : (s : BasicSet) (before after : List ℕ) → s ≡ any → after ≡ before ++ 98 ∷ [] → Written (least_basics basic s) before after Many
unfolding spelling
basic_any s before after e h = rw e (record { found = refl; text = h })

pub basic_numbers : (s : BasicSet) (before after : List ℕ) → s ≡ numbers → after ≡ before ++ 105 ∷ [] → Written (least_basics basic s) before after Least
unfolding spelling
basic_numbers s before after e h = rw e (record { found = refl; text = h })

pub basic_texts : (s : BasicSet) (before after : List ℕ) → s ≡ texts → after ≡ before ++ 115 ∷ [] → Written (least_basics basic s) before after Least
unfolding spelling
basic_texts s before after e h = rw e (record { found = refl; text = h })

pub basic_only : (s : BasicSet) (k : Basic) (before text after : List ℕ) → s ≡ only k → text ≡ letter k ∷ [] → after ≡ before ++ text → Written (least_basics basic s) before after Least
unfolding spelling
basic_only s k before text after e g h = rw e (record { found = refl; text = h ∙ ap (λ (x : List ℕ). before ++ x) g })

pub bare_basics : (c : Bare) (s : BasicSet) (r : Result Found AllocError) (before after : List ℕ) → c ≡ basics s → IfOk r (Written (least_basics basic s) before after) → IfOk r (Written (least_bare c) before after)
unfolding least_in
bare_basics c s r before after e h = rw e h

pub bare_variant : (c : Bare) (before after : List ℕ) → c ≡ a_variant → after ≡ before ++ 118 ∷ [] → Written (least_bare c) before after Least
unfolding least_in spelling
bare_variant c before after e h = rw e (record { found = refl; text = h })

pub bare_array : (c : Bare) (p q : Pattern) (r : Result Found AllocError) (before between after : List ℕ) → c ≡ array_of p → q ≡ p → between ≡ before ++ 97 ∷ [] → IfOk r (Written (least_in q) between after) → IfOk r (Written (least_bare c) before after)
unfolding least_in
bare_array c p q r before between after e d h w = rw e (rw (sym d) (if_ok r _ _ (λ f v. written_array (least_in q) before between after f h v) w))

pub bare_tuple : (c : Bare) (ps qs : List Pattern) (before opened full after : List ℕ) (f : Found) → c ≡ tuple_with (patterns_of ps) → qs ≡ ps → opened ≡ before ++ 40 ∷ [] → after ≡ full ++ 41 ∷ [] → WrittenEach (leasts_in (patterns_of qs)) opened full f → Written (least_bare c) before after f
unfolding least_in
bare_tuple c ps qs before opened full after f e d g h w = rw e (rw (sym d) (written_tuple (leasts_in (patterns_of qs)) before opened full after f g h w))

pub bare_entry : (c : Bare) (s : BasicSet) (p q : Pattern) (before opened keyed valued after : List ℕ) (f g : Found) → c ≡ entry_of s p → q ≡ p
    → opened ≡ before ++ 123 ∷ [] → after ≡ valued ++ 125 ∷ [] → Written (least_basics basic s) opened keyed f → Written (least_in q) keyed valued g
    → Written (least_bare c) before after (both_found f g)
unfolding least_in
bare_entry c s p q before opened keyed valued after f g e d h i w v = rw e (rw (sym d) (written_entry s (least_in q) before opened keyed valued after f g h i w v))

pub bare_none : (c : Bare) (before after : List ℕ) → c ≡ no_bare → Written (least_bare c) before after Nowhere
unfolding least_in
bare_none c before after e = rw e (record { found = refl; text = tt })

pub pattern_any : (p : Pattern) (before after : List ℕ) → p ≡ anything → after ≡ before ++ 118 ∷ [] → Written (least_in p) before after Many
unfolding least_in spelling
pattern_any p before after e h = rw e (record { found = refl; text = h })

pub pattern_none : (p : Pattern) (before after : List ℕ) → p ≡ never → Written (least_in p) before after Nowhere
unfolding least_in
pattern_none p before after e = rw e (record { found = refl; text = tt })

pub pattern_maybe : (c p q : Pattern) (r : Result Found AllocError) (before between after : List ℕ) → c ≡ maybe_of p → q ≡ p → between ≡ before ++ 109 ∷ [] → IfOk r (Written (least_in q) between after) → IfOk r (Written (least_in c) before after)
unfolding least_in
pattern_maybe c p q r before between after e d h w = rw e (rw (sym d) (if_ok r _ _ (λ f v. written_maybe (least_in q) before between after f h v) w))

pub pattern_strict : (p : Pattern) (c : Bare) (r : Result Found AllocError) (before after : List ℕ) → p ≡ strict c → IfOk r (Written (least_bare c) before after) → IfOk r (Written (least_in p) before after)
unfolding least_in
pattern_strict p c r before after e h = rw e h

pub pattern_loose : (p : Pattern) (c : Bare) (r : Result Found AllocError) (before after : List ℕ) → p ≡ loose c → IfOk r (Written (least_bare c) before after) → IfOk r (Written (least_in p) before after)
unfolding least_in
pattern_loose p c r before after e h = rw e h

-- The newest edit of each key is found, whatever was put; and each says which one it covers.
use Rattle.std.proofs.Common.{ℕ, ◌≡◌, ◌≢◌, ◌<◌, Bool, true, false, cond, List, [], ◌∷◌, ◌++◌, length, replicate, set, get_or, refl, ap, sym, ◌∙◌, subst, eqb}
use Rattle.std.specs.List.{AllByRecursion}
use Rattle.std.proofs.lemmas.Bool.{eqb-true, eqb-false}
use Rattle.std.proofs.lemmas.Option.{slice_get-get_or}
use Rattle.std.proofs.lemmas.List.{get_or-set_same, get_or-set_other, get_or-replicate, length-set, length-replicate}
use Rattle.dconf_waiting.specs.Newest.{found, found_by}
use Rattle.dconf_waiting.specs.WaitingLaws.{Put, RanPuts, last_of, TheNewestIsFound}

found_is : (t : List ℕ) (key : ℕ) → key < length t → found t key ≡ get_or t key 0
found_is t key inside = ap found_by (slice_get-get_or t key 0 inside)

set_inside : (t : List ℕ) (k n key : ℕ) → key < length t → key < length (set t k n)
set_inside t k n key inside = subst (λ l. key < l) (sym (length-set t k n)) inside

found_set : (t : List ℕ) (k n key : ℕ) → key < length t → found (set t k n) key ≡ cond (eqb k key) n (found t key)
found_set t k n key inside = by (eqb k key) refl
  where
    read : found (set t k n) key ≡ get_or (set t k n) key 0
    read = found_is (set t k n) key (set_inside t k n key inside)

    by : (b : Bool) → eqb k key ≡ b → found (set t k n) key ≡ cond b n (found t key)
    by true e =
        let same : k ≡ key = eqb-true k key e in
        read ∙ (ap (λ j. get_or (set t j n) key 0) same ∙ get_or-set_same t key n 0 inside)
    by false e =
        let other : key ≢ k = λ (is : key ≡ k). eqb-false k key e (sym is) in
        read ∙ (get_or-set_other t k key n 0 other ∙ sym (found_is t key inside))

found_after : (puts : List Put) (t after : List ℕ) → RanPuts puts t after → (key : ℕ) → key < length t → found after key ≡ last_of key puts (found t key)
found_after [] t after h key inside = ap (λ (x : List ℕ). found x key) h
found_after (p ∷ more) t after h key inside =
    let next_is : h.0 ≡ set t p.key p.number = h.1.after_is in
    let within : key < length h.0 = subst (λ (x : List ℕ). key < length x) (sym next_is) (set_inside t p.key p.number key inside) in
    found_after more h.0 after h.2 key within
    ∙ ap (λ n. last_of key more n) (ap (λ (x : List ℕ). found x key) next_is ∙ found_set t p.key p.number key inside)

length_after : (puts : List Put) (t after : List ℕ) → RanPuts puts t after → length after ≡ length t
length_after [] t after h = ap (λ (x : List ℕ). length x) h
length_after (p ∷ more) t after h =
    length_after more h.0 after h.2 ∙ (ap (λ (x : List ℕ). length x) h.1.after_is ∙ length-set t p.key p.number)

before_is : (first rest : List Put) (p : Put) (t after : List ℕ) → RanPuts (first ++ p ∷ rest) t after → p.key < length t → p.before ≡ last_of p.key first (found t p.key)
before_is [] rest p t after h inside = h.1.before_is
before_is (q ∷ first) rest p t after h inside =
    let next_is : h.0 ≡ set t q.key q.number = h.1.after_is in
    let within : p.key < length h.0 = subst (λ (x : List ℕ). p.key < length x) (sym next_is) (set_inside t q.key q.number p.key inside) in
    before_is first rest p h.0 after h.2 within
    ∙ ap (λ n. last_of p.key first n) (ap (λ (x : List ℕ). found x p.key) next_is ∙ found_set t q.key q.number p.key inside)

last_append : (key : ℕ) (first rest : List Put) (none : ℕ) → last_of key (first ++ rest) none ≡ last_of key rest (last_of key first none)
last_append key [] rest none = refl
last_append key (p ∷ first) rest none = last_append key first rest (cond (eqb p.key key) p.number none)

passed_over : (key number none : ℕ) (b : Bool) → b ≡ false → cond b number none ≡ none
passed_over key number none true e = cc
passed_over key number none false e = refl

is_not : (k key : ℕ) (b : Bool) → eqb k key ≡ b → k ≢ key → b ≡ false
is_not k key true e other = absurd (other (eqb-true k key e))
is_not k key false e other = refl

no_other : (key : ℕ) (rest : List Put) (none : ℕ) → AllByRecursion (λ (later : Put). later.key ≢ key) rest → last_of key rest none ≡ none
no_other key [] none all = refl
no_other key (p ∷ rest) none all =
    ap (λ n. last_of key rest n) (passed_over key p.number none (eqb p.key key) (is_not p.key key (eqb p.key key) refl all.0)) ∙ no_other key rest none all.1

abbrev none_yet : ℕ → List ℕ
none_yet count = replicate count 0

empty : (count key : ℕ) → key < length (none_yet count) → found (none_yet count) key ≡ 0
empty count key inside =
    let within : key < count = subst (λ l. key < l) (length-replicate count 0) inside in
    found_is (none_yet count) key inside ∙ get_or-replicate count key 0 0 within

pub the_newest_is_found : TheNewestIsFound
the_newest_is_found count puts after h =
    let long : length after ≡ length (none_yet count) = length_after puts (none_yet count) after h in
    record {
      newest = λ key inside.
          let within : key < length (none_yet count) = subst (λ l. key < l) long inside in
          found_after puts (none_yet count) after h key within ∙ ap (λ n. last_of key puts n) (empty count key within);
      uncovers = λ first rest p e inside others.
          let within : p.key < length (none_yet count) = subst (λ l. p.key < l) long inside in
          before_is first rest p (none_yet count) after (subst (λ (ps : List Put). RanPuts ps (none_yet count) after) e h) within
          ∙ (ap (λ n. last_of p.key first n) (empty count p.key within)
          ∙ (sym (no_other p.key rest (last_of p.key first 0) others) ∙ sym (last_append p.key first rest 0)));
    }

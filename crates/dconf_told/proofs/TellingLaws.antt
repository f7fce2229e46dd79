-- Exactly what is seen otherwise is told.
use Rattle.std.specs.Prelude.{◌↔◌, IsTrue, Contains, cond, filter, map, slice_index_or}
use Rattle.std.proofs.Common.{◌≡◌, ◌≢◌, ◌⊎◌, ◌∙◌, ◌&&◌, ◌||◌, ◌++◌, ◌==◌, ◌+◌, ◌<◌, ℕ, zero, suc, Bool, true, false, List, [], ◌∷◌, Option, Some, None, drop, length, not, ap, sym, refl, subst, inl, inr, arith}
use Rattle.std.specs.List.{list_any}
use Rattle.std.specs.Str.{bytes_eq, is_utf8}
use Rattle.std.specs.FinMap.{empty, keys}
use Rattle.std.proofs.lemmas.Bool.{and_parts, or_cases}
use Rattle.std.proofs.lemmas.List.Folds.{list_any-append}
use Rattle.std.proofs.lemmas.List.{drop_more}
use Rattle.std.proofs.lemmas.List.Elements.{Contains-append_cases, Contains-append_left, Contains-append_right}
use Rattle.std.proofs.lemmas.List.Sums.{fold-append}
use Rattle.std.proofs.lemmas.Str.{IsUtf8-from_is_utf8, is_utf8-from_IsUtf8}
use Rattle.gv_model.specs.Tree.{Tree}
use Rattle.dconf_model.specs.Layers.{Layers, visible, without_user}
use Rattle.dconf_model.specs.Order.{IsRising, listing}
use Rattle.dconf_model.specs.Paths.{is_key_path}
use Rattle.dconf_model.specs.Salvaging.{IsKeyText}
use Rattle.dconf_model.specs.Stores.Saying.{silent}
use Rattle.dconf_model.proofs.Listings.{listing_from, listing_has, none_of_none}
use Rattle.dconf_model.proofs.ListingOrder.{find_text, found_text, listing_is_once_each}
use Rattle.dconf_model.proofs.ParentLaws.{by_bool}
use Rattle.dconf_model.proofs.PathMaps.{and_false, eq_turned, no_truth, same_bool}
use Rattle.dconf_model.proofs.SameBytes.{same_path}
use Rattle.dconf_layers.specs.TextSets.{TextSet, with_text, with_texts}
use Rattle.dconf_layers.proofs.PathTests.{any_passing}
use Rattle.dconf_layers.proofs.TextSetLaws.{keys_are_listed}
use Rattle.dconf_differences.specs.Differing.{same_value}
use Rattle.dconf_differences.proofs.SameValueLaws.{values_told}
use Rattle.dconf_seen.specs.Waiting.{counting, fitting, may_write, seen_as, seen_beside}
use Rattle.dconf_told.specs.Seeing.{edit_value, is_of, layers_in, or_unset, said_of, shown_to}
use Rattle.dconf_told.specs.Telling.{AreTold, HasAllOthers, IsSeenOtherwise, any_name, any_names, asked_otherwise, asks_any, is_key_text, layers_otherwise, named_otherwise, seen_after, seen_before, shown_otherwise}
use Rattle.dconf_told.specs.declared.news.DconfdbKeyAsked.{DconfdbKeyAsked}
use Rattle.dconf_told.specs.declared.seen.DconfdbView.{DconfdbView}

-- ---- truths

pub both_true : (a b : Bool) → a ≡ true → b ≡ true → (a && b) ≡ true
both_true true b e f = f
both_true false b e f = absurd (no_truth e)

is_not : (b : Bool) → not b ≡ true → b ≡ false
is_not true e = absurd (no_truth e)
is_not false e = refl

pub key_told : (p : List ℕ) → (is_key_text p ≡ true) ↔ IsKeyText p
key_told p = (
  λ e. let b = and_parts (is_utf8 p) (is_key_path p) e in (IsUtf8-from_is_utf8 p b.0, b.1),
  λ h. both_true (is_utf8 p) (is_key_path p) (is_utf8-from_IsUtf8 p h.0) h.1,
)

-- ---- elements

one_of : {X : Type 0} (x : X) (xs : List X) (y : X) → Contains (x ∷ xs) y → (x ≡ y) ⊎ Contains xs y
one_of x xs y (zero, less, e) = inl e
one_of x xs y (suc k, less, e) = inr (k, omega (arith, less), e)

later : {X : Type 0} (x : X) (xs : List X) (y : X) → Contains xs y → Contains (x ∷ xs) y
later x xs y h = Contains-append_right (x ∷ []) xs y h

abbrev NamedBy : {X : Type 0} → (X → List ℕ) → (X → Bool) → List X → List ℕ → Type 0
NamedBy {X} name f xs p = (x : X) × Contains xs x × (f x ≡ true) × (name x ≡ p)

module _ {X : Type 0} (name : X → List ℕ) (f : X → Bool) where
  first_named : (x : X) (xs : List X) (p : List ℕ) → (Contains (map name (filter f xs)) p → NamedBy name f xs p) → (b : Bool) → f x ≡ b →
      Contains (map name (cond b (x ∷ filter f xs) (filter f xs))) p → NamedBy name f (x ∷ xs) p
  first_named x xs p rest true e k = elim (one_of (name x) (map name (filter f xs)) p k) [
    | inl n ↦ (x, (0, omega arith, refl), e, n)
    | inr m ↦ let w = rest m in (w.0, later x xs w.0 w.1, w.2, w.3)
  ]
  first_named x xs p rest false e k = let w = rest k in (w.0, later x xs w.0 w.1, w.2, w.3)

  named_from : (xs : List X) (p : List ℕ) → Contains (map name (filter f xs)) p → NamedBy name f xs p
  named_from [] p h = absurd (none_of_none p h)
  named_from (x ∷ xs) p h = first_named x xs p (named_from xs p) (f x) refl h

  here_named : (y : X) (ys : List X) (p : List ℕ) → name y ≡ p → (b : Bool) → b ≡ true → Contains (map name (cond b (y ∷ filter f ys) (filter f ys))) p
  here_named y ys p n true e = (0, omega arith, n)
  here_named y ys p n false e = absurd (no_truth e)

  later_named : (y : X) (ys : List X) (p : List ℕ) → Contains (map name (filter f ys)) p → (b : Bool) → Contains (map name (cond b (y ∷ filter f ys) (filter f ys))) p
  later_named y ys p k true = later (name y) (map name (filter f ys)) p k
  later_named y ys p k false = k

  named_has : (xs : List X) (x : X) (p : List ℕ) → Contains xs x → f x ≡ true → name x ≡ p → Contains (map name (filter f xs)) p
  named_has [] x p h e n = absurd (let lt = h.1 in omega (arith, lt))
  named_has (y ∷ ys) x p h e n = elim (one_of y ys x h) [
    | inl same ↦ here_named y ys p (ap name same ∙ n) (f y) (ap f same ∙ e)
    | inr there ↦ later_named y ys p (named_has ys x p there e n) (f y)
  ]

-- ---- a key that nothing waits of, asked for of any type

shown_whole : (o others : Option Tree) → fitting (is_of []) o others ≡ o
shown_whole None others = refl
shown_whole (Some v) others = refl

seen_bare : (l : Layers) (p : List ℕ) → seen_as (is_of []) l silent p ≡ visible l p
seen_bare l p = go (may_write l p)
  where
    go : (b : Bool) → fitting (is_of []) (seen_beside l p (counting b silent)) (visible (without_user l) p) ≡ visible l p
    go true = shown_whole (visible l p) (visible (without_user l) p)
    go false = shown_whole (visible l p) (visible (without_user l) p)

pub bare_told : (l m : Layers) (a : DconfdbKeyAsked) (p : List ℕ) → a.path.now ≡ p → a.type_text.now ≡ [] → a.before.waits ≡ false → a.after.waits ≡ false →
    asked_otherwise l m a ≡ layers_otherwise l m p
bare_told l m a p named any before after =
    let first : seen_before l a ≡ visible l p =
    (λ i. seen_as (is_of (any i)) l (cond (before i) (or_unset (edit_value a.before)) silent) (named i)) ∙ seen_bare l p in
    let second : seen_after m a ≡ visible m p =
    (λ i. seen_as (is_of (any i)) m (cond (after i) (or_unset (edit_value a.after)) silent) (named i)) ∙ seen_bare m p in
    λ i. is_key_text (named i) && not (same_value (first i) (second i))

-- ---- keys that are asked for of any type

or_none : (b : Bool) → (b || false) ≡ b
or_none true = refl
or_none false = refl

one_name : (any key : Bool) (a p : List ℕ) → (bytes_eq p a ≡ true → key ≡ true) → list_any (bytes_eq p) (cond (any && key) (a ∷ []) []) ≡ (any && bytes_eq a p)
one_name false key a p h = refl
one_name true true a p h = or_none (bytes_eq p a) ∙ eq_turned p a
one_name true false a p h = by_bool (bytes_eq p a) (false ≡ bytes_eq a p)
    (λ yes. absurd (no_truth (h yes)))
    (λ other. sym (eq_turned a p ∙ other))

pub any_told : (asked : List DconfdbKeyAsked) (p : List ℕ) → is_key_text p ≡ true → list_any (bytes_eq p) (any_names asked) ≡ asks_any asked p
any_told [] p key = refl
any_told (a ∷ asked) p key =
    list_any-append (bytes_eq p) (any_name a) (any_names asked)
    ∙ (λ i. one_name (length a.type_text.now == 0) (is_key_text a.path.now) a.path.now p (λ same. ap is_key_text (sym (same_path p a.path.now same)) ∙ key) i || any_told asked p key i)

named_key : (b : Bool) (a p : List ℕ) → (b ≡ true → is_key_text a ≡ true) → list_any (bytes_eq p) (cond b (a ∷ []) []) ≡ true → is_key_text p ≡ true
named_key false a p h e = absurd (no_truth e)
named_key true a p h e = ap is_key_text (same_path p a (sym (or_none (bytes_eq p a)) ∙ e)) ∙ h refl

pub any_is_key : (asked : List DconfdbKeyAsked) (p : List ℕ) → list_any (bytes_eq p) (any_names asked) ≡ true → is_key_text p ≡ true
any_is_key [] p e = absurd (no_truth e)
any_is_key (a ∷ asked) p e =
    elim (or_cases (list_any (bytes_eq p) (any_name a)) (list_any (bytes_eq p) (any_names asked)) (sym (list_any-append (bytes_eq p) (any_name a) (any_names asked)) ∙ e)) [
      | inl here ↦ named_key (length a.type_text.now == 0 && is_key_text a.path.now) a.path.now p
          (λ both. (and_parts (length a.type_text.now == 0) (is_key_text a.path.now) both).1) here
      | inr there ↦ any_is_key asked p there
    ]

pub named_any : (a : DconfdbKeyAsked) → (length a.type_text.now == 0) ≡ true → IsKeyText a.path.now → any_name a ≡ a.path.now ∷ []
named_any a any key = λ i. cond (any i && (key_told a.path.now).1 key i) (a.path.now ∷ []) []

pub no_key_named : (a : DconfdbKeyAsked) → (IsKeyText a.path.now → ⊥) → any_name a ≡ []
no_key_named a none =
    let other : is_key_text a.path.now ≡ false = by_bool (is_key_text a.path.now) (is_key_text a.path.now ≡ false) (λ yes. absurd (none ((key_told a.path.now).0 yes))) (λ no_key. no_key) in
    ap (λ b. cond b (a.path.now ∷ []) []) (and_false (length a.type_text.now == 0) (is_key_text a.path.now) other)

-- what was searched for among them
pub any_searched : (asked : List DconfdbKeyAsked) (texts : List (List ℕ)) (p : List ℕ) → texts ≡ listing (any_names asked) → list_any (bytes_eq p) texts ≡ list_any (bytes_eq p) (any_names asked)
any_searched asked texts p is = ap (list_any (bytes_eq p)) is ∙ (listing_is_once_each (any_names asked)).same p

pub any_rise : (asked : List DconfdbKeyAsked) (texts : List (List ℕ)) → texts ≡ listing (any_names asked) → IsRising texts
any_rise asked texts is = subst IsRising (sym is) (listing_is_once_each (any_names asked)).rising

pub one_any : (a : DconfdbKeyAsked) (more : List DconfdbKeyAsked) (s : TextSet) → with_texts (any_names (a ∷ more)) s ≡ with_texts (any_names more) (with_texts (any_name a) s)
one_any a more s = fold-append with_text s (any_name a) (any_names more)

-- a key that is asked for is told by that, and any other by the layers
pub asked_is_left : (l m : Layers) (asked : List DconfdbKeyAsked) (p : List ℕ) → list_any (bytes_eq p) (any_names asked) ≡ true → shown_otherwise l m asked p ≡ false
asked_is_left l m asked p has =
    ap (λ b. not b && layers_otherwise l m p) (sym (any_told asked p (any_is_key asked p has)) ∙ has)

pub other_is_shown : (l m : Layers) (asked : List DconfdbKeyAsked) (p : List ℕ) → list_any (bytes_eq p) (any_names asked) ≡ false → layers_otherwise l m p ≡ shown_otherwise l m asked p
other_is_shown l m asked p none =
    by_bool (is_key_text p) (layers_otherwise l m p ≡ shown_otherwise l m asked p)
    (λ key. sym (ap (λ b. not b && layers_otherwise l m p) (sym (any_told asked p key) ∙ none)))
    (λ other. let nothing : layers_otherwise l m p ≡ false = ap (λ b. b && not (same_value (visible l p) (visible m p))) other in
    nothing ∙ sym (and_false (not (asks_any asked p)) (layers_otherwise l m p) nothing))

-- ---- who is told

module _ (l m : Layers) where
  asked_told : (a : DconfdbKeyAsked) → (asked_otherwise l m a ≡ true) ↔ (IsKeyText a.path.now × (seen_before l a ≢ seen_after m a))
  asked_told a = (
    λ e. let b = and_parts (is_key_text a.path.now) (not (same_value (seen_before l a) (seen_after m a))) e in
        ((key_told a.path.now).0 b.0, (values_told (seen_before l a) (seen_after m a)).0 b.1),
    λ h. both_true (is_key_text a.path.now) (not (same_value (seen_before l a) (seen_after m a))) ((key_told a.path.now).1 h.0) ((values_told (seen_before l a) (seen_after m a)).1 h.1),
  )

  layers_told : (p : List ℕ) → (layers_otherwise l m p ≡ true) ↔ (IsKeyText p × (visible l p ≢ visible m p))
  layers_told p = (
    λ e. let b = and_parts (is_key_text p) (not (same_value (visible l p) (visible m p))) e in ((key_told p).0 b.0, (values_told (visible l p) (visible m p)).0 b.1),
    λ h. both_true (is_key_text p) (not (same_value (visible l p) (visible m p))) ((key_told p).1 h.0) ((values_told (visible l p) (visible m p)).1 h.1),
  )

  module _ (asked : List DconfdbKeyAsked) (others : List (List ℕ)) where
    abbrev kept : List (List ℕ)
    kept = filter (shown_otherwise l m asked) others

    otherwise_of_told : (p : List ℕ) → Contains (named_otherwise l m asked ++ kept) p → IsSeenOtherwise l m asked p
    otherwise_of_told p h = elim (Contains-append_cases (named_otherwise l m asked) kept p h) [
      | inl n ↦
          let w = named_from (λ (a : DconfdbKeyAsked). a.path.now) (asked_otherwise l m) asked p n in
          let is = (asked_told w.0).0 w.2 in
          inl (w.0, w.1, record { named = w.3; key = subst IsKeyText w.3 is.0; other = is.1 })
      | inr o ↦
          let both = and_parts (shown_otherwise l m asked p) (list_any (bytes_eq p) others) (sym (any_passing p (shown_otherwise l m asked) others) ∙ find_text p kept o) in
          let parts = and_parts (not (asks_any asked p)) (layers_otherwise l m p) both.0 in
          let is = (layers_told p).0 parts.1 in
          inr (is_not (asks_any asked p) parts.0, is.0, is.1)
    ]

    told_of_otherwise : HasAllOthers l m others → (p : List ℕ) → IsSeenOtherwise l m asked p → Contains (named_otherwise l m asked ++ kept) p
    told_of_otherwise all p (inl w) =
        let key : IsKeyText w.0.path.now = subst IsKeyText (sym w.2.named) w.2.key in
        Contains-append_left (named_otherwise l m asked) kept p
        (named_has (λ (a : DconfdbKeyAsked). a.path.now) (asked_otherwise l m) asked w.0 p w.1 ((asked_told w.0).1 (key, w.2.other)) w.2.named)
    told_of_otherwise all p (inr w) =
        let shown : shown_otherwise l m asked p ≡ true = both_true (not (asks_any asked p)) (layers_otherwise l m p) (ap not w.0) ((layers_told p).1 (w.1, w.2)) in
        Contains-append_right (named_otherwise l m asked) kept p
        (found_text p kept (any_passing p (shown_otherwise l m asked) others ∙ both_true (shown_otherwise l m asked p) (list_any (bytes_eq p) others) shown (find_text p others (all p w.2))))

    pub told_exactly : HasAllOthers l m others → AreTold l m asked (listing (named_otherwise l m asked ++ kept))
    told_exactly all = record {
      rising = (listing_is_once_each (named_otherwise l m asked ++ kept)).rising;
      exact = λ p. (
        λ h. otherwise_of_told p (listing_from (named_otherwise l m asked ++ kept) p h),
        λ s. listing_has (named_otherwise l m asked ++ kept) p (told_of_otherwise all p s),
      );
    }

    -- what was gathered of both
    pub told_list : HasAllOthers l m others → (first second : TextSet) → first ≡ with_texts (named_otherwise l m asked) empty → second ≡ with_texts kept first →
        (paths : List (List ℕ)) → paths ≡ keys second → AreTold l m asked paths
    told_list all first second f s paths is =
        let gathered : second ≡ with_texts (named_otherwise l m asked ++ kept) empty = s ∙ (ap (with_texts kept) f ∙ sym (fold-append with_text empty (named_otherwise l m asked) kept)) in
        subst (AreTold l m asked) (sym (is ∙ (ap (λ (t : TextSet). keys t) gathered ∙ keys_are_listed (named_otherwise l m asked ++ kept)))) (told_exactly all)

  -- what was asked of it
  pub alike_told : (a : DconfdbKeyAsked) (s t : DconfdbView) (alike : Bool) → layers_in s ≡ l → s.edit ≡ a.before → layers_in t ≡ m → t.edit ≡ a.after →
      IsTrue alike ↔ (IsKeyText a.path.now → shown_to a.type_text.now s a.path.now ≡ shown_to a.type_text.now t a.path.now) → not alike ≡ asked_otherwise l m a
  alike_told a s t alike ls es mt et h =
      let first : shown_to a.type_text.now s a.path.now ≡ seen_before l a = λ i. seen_as (is_of a.type_text.now) (ls i) (said_of (es i)) a.path.now in
      let second : shown_to a.type_text.now t a.path.now ≡ seen_after m a = λ i. seen_as (is_of a.type_text.now) (mt i) (said_of (et i)) a.path.now in
      same_bool (not alike) (asked_otherwise l m a)
      (λ e. (asked_told a).1 (
        by_bool (is_key_text a.path.now) (IsKeyText a.path.now) (λ yes. (key_told a.path.now).0 yes)
            (λ other. absurd (no_truth (sym (is_not alike e) ∙ h.1 (λ k. absurd (no_truth (sym other ∙ (key_told a.path.now).1 k)))))),
        λ same. no_truth (sym (is_not alike e) ∙ h.1 (λ k. first ∙ (same ∙ sym second))),
      ))
      (λ e. let is = (asked_told a).0 e in
      by_bool alike (not alike ≡ true) (λ yes. absurd (is.1 (sym first ∙ (h.0 yes is.0 ∙ second)))) (λ other. ap not other))

  -- what is no key's path shows nothing
  pub no_key_told : (a : DconfdbKeyAsked) → (IsKeyText a.path.now → ⊥) → asked_otherwise l m a ≡ false
  no_key_told a n = by_bool (asked_otherwise l m a) (asked_otherwise l m a ≡ false) (λ yes. absurd (n ((asked_told a).0 yes).0)) (λ other. other)

  pub none_named : (a : DconfdbKeyAsked) (s : TextSet) → asked_otherwise l m a ≡ false → s ≡ with_texts (named_otherwise l m (a ∷ [])) s
  none_named a s e = ap (λ b. with_texts (map {B = List ℕ} (λ (a : DconfdbKeyAsked). a.path.now) (cond b (a ∷ []) [])) s) (sym e)

  -- one after another
  pub asked_one : (a : DconfdbKeyAsked) (more : List DconfdbKeyAsked) (s : TextSet) → with_texts (named_otherwise l m (a ∷ more)) s ≡ with_texts (named_otherwise l m more) (with_texts (named_otherwise l m (a ∷ [])) s)
  asked_one a more s = go (asked_otherwise l m a)
    where
      go : (b : Bool) → with_texts (map {B = List ℕ} (λ (a : DconfdbKeyAsked). a.path.now) (cond b (a ∷ filter (asked_otherwise l m) more) (filter (asked_otherwise l m) more))) s
          ≡ with_texts (named_otherwise l m more) (with_texts (map {B = List ℕ} (λ (a : DconfdbKeyAsked). a.path.now) (cond b (a ∷ []) [])) s)
      go true = refl
      go false = refl

  pub asked_step : (asked : List DconfdbKeyAsked) (i : ℕ) (d : DconfdbKeyAsked) → i < length asked → (s new total : TextSet) → with_texts (named_otherwise l m (drop i asked)) s ≡ total →
      new ≡ with_texts (named_otherwise l m (slice_index_or asked i d ∷ [])) s → with_texts (named_otherwise l m (drop (i + 1) asked)) new ≡ total
  asked_step asked i d lt s new total before added =
      let here : drop i asked ≡ slice_index_or asked i d ∷ drop (i + 1) asked = drop_more asked i d lt in
      ap (with_texts (named_otherwise l m (drop (i + 1) asked))) added
      ∙ (sym (asked_one (slice_index_or asked i d) (drop (i + 1) asked) s) ∙ (ap (λ (left : List DconfdbKeyAsked). with_texts (named_otherwise l m left) s) (sym here) ∙ before))

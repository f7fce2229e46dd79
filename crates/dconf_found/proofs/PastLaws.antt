-- What was done to a folder that was found, call by call.
use Rattle.std.proofs.Common.{◌≡◌, ℕ, Bool, true, false, Result, Ok, Err, OnOk, OnErr, IfSome, IsSome, Option, Some, None, List, [], ◌∷◌, ◌++◌, cond, IsErrOf, refl, sym, ◌∙◌, ap, subst}
use Rattle.std.specs.List.{list_any}
use Rattle.std.specs.Prelude.{◌||◌, map}
use Rattle.std.specs.String.{string_bytes}
use Rattle.std.specs.declared.string.String.{String}
use Rattle.dconf_model.specs.Folders.{Event, file_of, files_made}
use Rattle.dconf_model.specs.Folders.Event.{create, link, touch}
use Rattle.dconf_model.proofs.SameBytes.{path_itself}
use Rattle.dconf_folders.specs.declared.fault.FolderFault.{FolderFault}
use Rattle.dconf_found.specs.FoundFolders.{AreShown, IsPast, held_by, held_of, inner_of, lookup_of, shown_by, shown_of}
use Rattle.dconf_found.specs.FoundFolders.Deed.{both, unasked, aside}
use Rattle.dconf_found.specs.declared.found.FoundFolder.{FoundFolder}

-- it is looked up in the same way, and began as the same
pub record IsBeside {F : Type 0} (f g : FoundFolder F) : Type 0 where
  pub lookup : lookup_of g ≡ lookup_of f
  pub shown : shown_of g ≡ shown_of f
  pub held : held_of g ≡ held_of f

module _ {F : Type 0} (Past : F → List Event → Type 0) (f g : FoundFolder F) (es : List Event) (beside : IsBeside f g) (past : IsPast Past f es) where
  shown_still : AreShown (lookup_of g) (held_of g) (shown_of g)
  shown_still =
      subst (λ l. AreShown l (held_of g) (shown_of g)) (sym beside.lookup)
      (subst (λ h. AreShown (lookup_of f) h (shown_of g)) (sym beside.held)
      (subst (λ s. AreShown (lookup_of f) (held_of f) s) (sym beside.shown) past.shown))

  es_still : es ≡ shown_by past.deeds ++ shown_of g
  es_still = past.es_is ∙ ap (λ s. shown_by past.deeds ++ s) (sym beside.shown)

  -- nothing was done to it
  pub kept : Past (inner_of g) (held_by past.deeds ++ held_of f) → (g.is_written ≡ false → f.is_written ≡ false)
      → IfSome g.own (λ name. IsSome (file_of es (string_bytes name))) → IsPast Past g es
  kept inner written own = record {
    deeds = past.deeds;
    es_is = es_still;
    inner = subst (λ h. Past (inner_of g) (held_by past.deeds ++ h)) (sym beside.held) inner;
    shown = shown_still;
    unwritten = λ is. past.unwritten (written is);
    own = own;
  }

  -- this was done to the inner folder
  pub did : (e : Event) → Past (inner_of g) (e ∷ held_by past.deeds ++ held_of f) → g.is_written ≡ true
      → IfSome g.own (λ name. IsSome (file_of (e ∷ es) (string_bytes name))) → IsPast Past g (e ∷ es)
  did e inner written own = record {
    deeds = both e ∷ past.deeds;
    es_is = ap (λ (x : List Event). e ∷ x) es_still;
    inner = subst (λ h. Past (inner_of g) (e ∷ held_by past.deeds ++ h)) (sym beside.held) inner;
    shown = shown_still;
    unwritten = λ is. let bad : true ≡ false = sym written ∙ is in cc;
    own = own;
  }

  -- an append or a sync was not asked of it
  pub refused : (name : List ℕ) → Past (inner_of g) (held_by past.deeds ++ held_of f) → g.is_written ≡ true
      → IfSome g.own (λ name. IsSome (file_of es (string_bytes name))) → IsPast Past g (touch name ∷ es)
  refused name inner written own = record {
    deeds = unasked name ∷ past.deeds;
    es_is = ap (λ (x : List Event). touch name ∷ x) es_still;
    inner = subst (λ h. Past (inner_of g) (held_by past.deeds ++ h)) (sym beside.held) inner;
    shown = shown_still;
    unwritten = λ is. let bad : true ≡ false = sym written ∙ is in cc;
    own = own;
  }

  -- a file got another name there
  pub was_set_aside : (name other : List ℕ) → Past (inner_of g) (link name other ∷ held_by past.deeds ++ held_of f) → g.is_written ≡ true
      → IfSome g.own (λ name. IsSome (file_of es (string_bytes name))) → IsPast Past g es
  was_set_aside name other inner written own = record {
    deeds = aside name other ∷ past.deeds;
    es_is = es_still;
    inner = subst (λ h. Past (inner_of g) (link name other ∷ held_by past.deeds ++ h)) (sym beside.held) inner;
    shown = shown_still;
    unwritten = λ is. let bad : true ≡ false = sym written ∙ is in cc;
    own = own;
  }

-- ---- by the answer of a call

pub ok_from : {T E : Type 0} (r s : Result T E) (P Q : Type 0) → r ≡ s → OnOk s P → (P → Q) → OnOk r Q
ok_from (Ok x) s P Q e p f = f (subst (λ y. OnOk y P) (sym e) p)
ok_from (Err x) s P Q e p f = tt

pub err_from : {T E : Type 0} (r s : Result T E) (P Q : Type 0) → r ≡ s → OnErr s P → (P → Q) → OnErr r Q
err_from (Ok x) s P Q e p f = tt
err_from (Err x) s P Q e p f = f (subst (λ y. OnErr y P) (sym e) p)

pub ok_both : {T E : Type 0} (r s : Result T E) (P P' Q : Type 0) → r ≡ s → OnOk s P → OnOk s P' → (P → P' → Q) → OnOk r Q
ok_both (Ok x) s P P' Q e p p' f = f (subst (λ y. OnOk y P) (sym e) p) (subst (λ y. OnOk y P') (sym e) p')
ok_both (Err x) s P P' Q e p p' f = tt

pub err_both : {T E : Type 0} (r s : Result T E) (P P' Q : Type 0) → r ≡ s → OnErr s P → OnErr s P' → (P → P' → Q) → OnErr r Q
err_both (Ok x) s P P' Q e p p' f = tt
err_both (Err x) s P P' Q e p p' f = f (subst (λ y. OnErr y P) (sym e) p) (subst (λ y. OnErr y P') (sym e) p')

pub written : (b : Bool) → true ≡ false → b ≡ false
written b e = cc

-- ---- the name of the file that was made

pub none_is : {Z : Type 0} (o : Option (String Z)) (P : String Z → Type 0) → o ≡ None → IfSome o P
none_is o P e = subst (λ x. IfSome x P) (sym e) tt

pub none_after : {T Z : Type 0} (r : Result T FolderFault) (fault : FolderFault) (o : Option (String Z)) (P : String Z → Type 0)
    → IsErrOf r fault → OnErr r (o ≡ None) → IfSome o P
none_after r fault o P is none = none_is o P (subst (λ y. OnErr y (o ≡ None)) is none)

pub made_is_there : {Z : Type 0} (es : List Event) (name : List ℕ) (own : String Z) (o : Option (String Z)) → o ≡ Some own → string_bytes own ≡ name
    → IfSome o (λ it. IsSome (file_of (create name ∷ es) (string_bytes it)))
made_is_there es name own o e same =
    subst (λ x. IfSome x (λ it. IsSome (file_of (create name ∷ es) (string_bytes it)))) (sym e)
    (subst (λ (b : Bool). IsSome (cond b (Some (files_made es)) (file_of es (string_bytes own)))) (sym (path_itself (string_bytes own) name same)) refl)

-- ---- what is lost

pub any_of_map : {X Y : Type 0} (test : Y → Bool) (f : X → Y) (xs : List X) → list_any (λ x. test (f x)) xs ≡ list_any test (map f xs)
any_of_map test f [] = refl
any_of_map test f (x ∷ xs) = ap (λ (b : Bool). test (f x) || b) (any_of_map test f xs)

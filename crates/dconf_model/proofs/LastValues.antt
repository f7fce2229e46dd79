-- The value that the last row of a path gives: in a map that the rows are put in, and in rows that are left out.
use Rattle.std.specs.Prelude.{◌≡◌, ℕ, Bool, true, false, List, [], ◌∷◌, Option, Some, None, cond, refl, option_map, filter, filter_map}
use Rattle.std.proofs.Common.{ap, sym, ◌∙◌, subst}
use Rattle.std.specs.List.{AllByRecursion, last_or}
use Rattle.std.specs.Option.{option_or}
use Rattle.std.specs.Str.{bytes_eq}
use Rattle.std.specs.FinMap.{get, insert}
use Rattle.gv_model.specs.Tree.{Tree}
use Rattle.dconf_model.proofs.ParentLaws.{by_bool}
use Rattle.dconf_model.specs.Values.{stored}
use Rattle.dconf_model.specs.Sources.{Assigned, value_if_at, last_value}
use Rattle.dconf_model.specs.Changes.{Values, with_all}
use Rattle.dconf_model.specs.Stores.{IsLimitedValue}
use Rattle.dconf_model.proofs.PathMaps.{get_inserted}
use Rattle.dconf_model.proofs.SameBytes.{same_path}
use Rattle.dconf_model.proofs.HeldLaws.{IsWholeOption}

-- the last value of rows, or else this
abbrev pub last_from : Option Tree → List Assigned → List ℕ → Option Tree
last_from o rows p = last_or o (filter_map (value_if_at p) rows)

abbrev pub next_value : Option Tree → Assigned → List ℕ → Option Tree
next_value o row p = cond (bytes_eq row.path p) (Some row.value) o

pub last_step : (o : Option Tree) (row : Assigned) (rows : List Assigned) (p : List ℕ) → last_from o (row ∷ rows) p ≡ last_from (next_value o row p) rows p
last_step o row rows p = go (bytes_eq row.path p) refl
  where
    go : (b : Bool) → bytes_eq row.path p ≡ b → last_from o (row ∷ rows) p ≡ last_from (next_value o row p) rows p
    go true same = rw same refl
    go false other = rw other refl

get_step : (o : Option Tree) (m : Values) (row : Assigned) (p : List ℕ) (base : Option (List ℕ)) → get m p ≡ option_or (option_map stored o) base →
    get (insert m row.path (stored row.value)) p ≡ option_or (option_map stored (next_value o row p)) base
get_step o m row p base e = get_inserted m row.path (stored row.value) p ∙ go (bytes_eq row.path p)
  where
    go : (b : Bool) → cond b (Some (stored row.value)) (get m p) ≡ option_or (option_map stored (cond b (Some row.value) o)) base
    go true = refl
    go false = e

get_from : (o : Option Tree) (m : Values) (rows : List Assigned) (p : List ℕ) (base : Option (List ℕ)) → get m p ≡ option_or (option_map stored o) base →
    get (with_all rows m) p ≡ option_or (option_map stored (last_from o rows p)) base
get_from o m [] p base e = e
get_from o m (row ∷ rows) p base e =
    get_from (next_value o row p) (insert m row.path (stored row.value)) rows p base (get_step o m row p base e)
    ∙ ap (λ v. option_or (option_map stored v) base) (sym (last_step o row rows p))

-- the last row's value, or else the map's
pub get_all : (rows : List Assigned) (m : Values) (p : List ℕ) → get (with_all rows m) p ≡ option_or (option_map stored (last_value rows p)) (get m p)
get_all rows m p = get_from None m rows p (get m p) refl

-- ---- a value of whole rows is whole

next_whole : (o : Option Tree) (row : Assigned) (p : List ℕ) → IsWholeOption o → IsLimitedValue row.value → IsWholeOption (next_value o row p)
next_whole o row p h k = go (bytes_eq row.path p)
  where
    go : (b : Bool) → IsWholeOption (cond b (Some row.value) o)
    go true = k
    go false = h

whole_from : (o : Option Tree) (rows : List Assigned) (p : List ℕ) → IsWholeOption o → AllByRecursion (λ row. IsLimitedValue row.value) rows → IsWholeOption (last_from o rows p)
whole_from o [] p h k = h
whole_from o (row ∷ rows) p h k =
    subst IsWholeOption (sym (last_step o row rows p)) (whole_from (next_value o row p) rows p (next_whole o row p h k.0) k.1)

pub last_whole : (rows : List Assigned) (p : List ℕ) → AllByRecursion (λ row. IsLimitedValue row.value) rows → IsWholeOption (last_value rows p)
last_whole rows p h = whole_from None rows p tt h

-- ---- rows that are left out by their paths

-- where the path is not left out, nothing changes there
kept_from : (keep : List ℕ → Bool) (o : Option Tree) (rows : List Assigned) (p : List ℕ) → keep p ≡ true →
    last_from o (filter (λ row. keep row.path) rows) p ≡ last_from o rows p
kept_from keep o [] p e = refl
kept_from keep o (row ∷ rows) p e =
    by_bool (keep row.path) (last_from o (filter (λ row. keep row.path) (row ∷ rows)) p ≡ last_from o (row ∷ rows) p)
    (λ kept. rw kept (last_step o row (filter (λ row. keep row.path) rows) p ∙ (kept_from keep (next_value o row p) rows p e ∙ sym (last_step o row rows p))))
    (λ out. rw out (kept_from keep o rows p e ∙ (ap (λ v. last_from v rows p) (sym (passed out)) ∙ sym (last_step o row rows p))))
  where
    passed : keep row.path ≡ false → next_value o row p ≡ o
    passed out = by_bool (bytes_eq row.path p) (next_value o row p ≡ o)
        (λ same. let bad : true ≡ false = sym e ∙ (sym (ap keep (same_path row.path p same)) ∙ out) in absurd cc)
        (λ other. ap (λ b. cond b (Some row.value) o) other)

pub last_kept : (keep : List ℕ → Bool) (rows : List Assigned) (p : List ℕ) → keep p ≡ true → last_value (filter (λ row. keep row.path) rows) p ≡ last_value rows p
last_kept keep rows p e = kept_from keep None rows p e

-- where all rows' paths pass a test that this one fails, none has a row at it
pub last_none : (test : List ℕ → Bool) (rows : List Assigned) (p : List ℕ) → AllByRecursion (λ row. test row.path ≡ true) rows → test p ≡ false → last_value rows p ≡ None
last_none test [] p h e = refl
last_none test (row ∷ rows) p h e =
    by_bool (bytes_eq row.path p) (last_value (row ∷ rows) p ≡ None)
    (λ same. let bad : true ≡ false = sym h.0 ∙ (ap test (same_path row.path p same) ∙ e) in absurd cc)
    (λ other. last_step None row rows p ∙ (ap (λ b. last_from (cond b (Some row.value) None) rows p) other ∙ last_none test rows p h.1 e))

pub all_kept : (keep : List ℕ → Bool) (rows : List Assigned) → AllByRecursion (λ row. keep row.path ≡ true) (filter (λ row. keep row.path) rows)
all_kept keep [] = tt
all_kept keep (row ∷ rows) =
    by_bool (keep row.path) (AllByRecursion (λ row. keep row.path ≡ true) (filter (λ row. keep row.path) (row ∷ rows)))
    (λ kept. rw kept (kept, all_kept keep rows))
    (λ out. rw out (all_kept keep rows))

pub whole_kept : (keep : List ℕ → Bool) (rows : List Assigned) → AllByRecursion (λ row. IsLimitedValue row.value) rows → AllByRecursion (λ row. IsLimitedValue row.value) (filter (λ row. keep row.path) rows)
whole_kept keep [] h = tt
whole_kept keep (row ∷ rows) h =
    by_bool (keep row.path) (AllByRecursion (λ row. IsLimitedValue row.value) (filter (λ row. keep row.path) (row ∷ rows)))
    (λ kept. rw kept (h.0, whole_kept keep rows h.1))
    (λ out. rw out (whole_kept keep rows h.1))

-- What accepted changes do to the first layer at a path: what is said of it where it is not locked, and nothing where it is.
use Rattle.std.specs.Prelude.{◌≡◌, ℕ, ◌+◌, Bool, true, false, not, nat_lt, List, [], ◌∷◌, Option, Some, None, Result, Ok, Err, cond, refl, option_map, option_and_then, filter}
use Rattle.std.proofs.Common.{ap, sym, ◌∙◌, subst}
use Rattle.std.specs.List.{AllByRecursion}
use Rattle.std.specs.Option.{option_or}
use Rattle.std.specs.Str.{bytes_eq}
use Rattle.std.specs.FinMap.{get, remove, retain_keys}
use Rattle.gv_model.specs.Tree.{Tree}
use Rattle.dconf_model.specs.Settings.{Settings}
use Rattle.dconf_model.proofs.ParentLaws.{by_bool}
use Rattle.dconf_model.specs.Locks.{is_below}
use Rattle.dconf_model.specs.Values.{stored, held_value}
use Rattle.dconf_model.specs.Sources.{Assigned, last_value}
use Rattle.dconf_model.specs.Layers.{Layers, greatest_from, locks_path}
use Rattle.dconf_model.specs.Changes.{Change, Refusal, Values, with_all, changed, apply, or_as_before, load_all, set_all, all_storable, first_locked, unless_locked, paths_of}
use Rattle.dconf_model.specs.Changes.Change.{set_value, reset_value, reset_below_directory, load_values}
use Rattle.dconf_model.specs.Stores.{sets_if, saying_of, heard, IsLimitedValue, IsWholeChange}
use Rattle.dconf_model.specs.Stores.Saying.{silent, unset, sets}
use Rattle.dconf_model.proofs.PathMaps.{get_removed, get_retained}
use Rattle.dconf_model.proofs.SameBytes.{same_path}
use Rattle.dconf_model.proofs.HeldLaws.{IsWholeOption}
use Rattle.dconf_model.proofs.ValueLaws.{stored_is_held}
use Rattle.dconf_model.proofs.LastValues.{last_step, get_all, last_whole, last_kept, last_none, all_kept, whole_kept}

-- layers of which the first may be written
abbrev pub store : Settings → List Settings → Layers
store s later = record { layers = s ∷ later; writable = true }

abbrev pub with_values : Settings → Values → Settings
with_values s values = record { values = values; locks = s.locks }

-- one of the later layers locks the path
abbrev pub shut : List Settings → List ℕ → Bool
shut later path = nat_lt 0 (greatest_from 1 (locks_path path) later)

-- the value at a path
abbrev pub value_at : Values → List ℕ → Option Tree
value_at values path = option_and_then held_value (get values path)

pub record HasEffect (later : List Settings) (path : List ℕ) (old new : Values) (after : Option Tree) : Type 0 where
  pub free : shut later path ≡ false → value_at new path ≡ after
  pub kept : shut later path ≡ true → get new path ≡ get old path

-- ---- rows that are set

held_or : (o : Option Tree) (base : Option (List ℕ)) → IsWholeOption o → option_and_then held_value (option_or (option_map stored o) base) ≡ heard (option_and_then held_value base) (sets_if o)
held_or None base h = refl
held_or (Some v) base h = stored_is_held v h.0 h.1

abbrev AreOpen : List Settings → List Assigned → Type 0
AreOpen later rows = AllByRecursion (λ row. not (shut later row.path) ≡ true) rows

set_effect : (later : List Settings) (rows : List Assigned) (path : List ℕ) (m : Values) → AreOpen later rows → AllByRecursion (λ row. IsLimitedValue row.value) rows →
    HasEffect later path m (with_all rows m) (heard (value_at m path) (sets_if (last_value rows path)))
set_effect later rows path m unlocked whole = record {
  free = λ _. ap (option_and_then held_value) (get_all rows m path) ∙ held_or (last_value rows path) (get m path) (last_whole rows path whole);
  kept = λ e.
      get_all rows m path
      ∙ ap (λ o. option_or (option_map stored o) (get m path)) (last_none (λ p. not (shut later p)) rows path unlocked (ap not e));
}

-- ---- one change

-- the layers after it, and what they have at each path
abbrev pub Stepped : Settings → List Settings → Layers → Change → Type 0
Stepped s later new change =
    (values : Values) × (new ≡ store (with_values s values) later)
    × ((path : List ℕ) → HasEffect later path s.values values (heard (value_at s.values path) (saying_of path change)))

-- a change's result is that it gives these layers
abbrev Gives : Result Layers Refusal → Layers → Type 0
Gives r new = r ≡ Ok new

no_new : (r : Refusal) (new : Layers) → Gives (Err r) new → ⊥
no_new r new e = cc

the_new : (old a b : Layers) → Gives (Ok a) b → b ≡ a
the_new old a b e = sym (ap (or_as_before old) e)

-- rows that are set are stored
set_new : (s : Settings) (later : List Settings) (rows : List Assigned) (new : Layers) → Gives (set_all (store s later) rows) new → new ≡ store (with_values s (with_all rows s.values)) later
set_new s later rows new e =
    by_bool (all_storable rows) (new ≡ store (with_values s (with_all rows s.values)) later)
    (λ yes. the_new (store s later) (changed (with_all rows) (store s later)) new (rw yes at e))
    (λ no_room. absurd (no_new Refusal.too_large new (rw no_room at e)))

-- none of these paths is locked
abbrev AreOpenPaths : List Settings → List (List ℕ) → Type 0
AreOpenPaths later ps = AllByRecursion (λ p. not (shut later p) ≡ true) ps

abbrev UnlessLocked : List Settings → List (List ℕ) → Result Layers Refusal → Layers → Type 0
UnlessLocked later ps r new = AreOpenPaths later ps × Gives r new

not_locked : (s : Settings) (later : List Settings) (n : ℕ) (ps : List (List ℕ)) (r : Result Layers Refusal) (new : Layers) →
    Gives (unless_locked (first_locked (store s later) n ps) r) new → UnlessLocked later ps r new
not_locked s later n [] r new e = (tt, e)
not_locked s later n (p ∷ ps) r new e =
    by_bool (shut later p) (UnlessLocked later (p ∷ ps) r new)
    (λ yes. absurd (no_new (Refusal.locked n) new (rw yes at e)))
    (λ free. let rest = not_locked s later (n + 1) ps r new (rw free at e) in ((ap not free, rest.0), rest.1))

open_rows : (later : List Settings) (rows : List Assigned) → AreOpenPaths later (paths_of rows) → AreOpen later rows
open_rows later [] h = tt
open_rows later (row ∷ rows) h = (h.0, open_rows later rows h.1)

-- rows that are loaded, and not forced
load_new : (s : Settings) (later : List Settings) (rows : List Assigned) (new : Layers) → Gives (load_all (store s later) rows false) new →
    AreOpen later rows × (new ≡ store (with_values s (with_all rows s.values)) later)
load_new s later rows new e =
    let parts = not_locked s later 0 (paths_of rows) (set_all (store s later) rows) new e in
    (open_rows later rows parts.0, set_new s later rows new parts.1)

-- ---- each change

-- one row says what a written value says
one_row : (p path : List ℕ) (v : Tree) → sets_if (last_value (record { path = p; value = v } ∷ []) path) ≡ saying_of path (set_value p v)
one_row p path v = ap sets_if (last_step None (record { path = p; value = v }) [] path) ∙ go (bytes_eq p path)
  where
    go : (b : Bool) → sets_if (cond b (Some v) None) ≡ cond b (sets v) silent
    go true = refl
    go false = refl

write_step : (s : Settings) (later : List Settings) (p : List ℕ) (v : Tree) (new : Layers) → IsLimitedValue v →
    Gives (apply (store s later) (set_value p v)) new → Stepped s later new (set_value p v)
write_step s later p v new whole e =
    let rows : List Assigned = record { path = p; value = v } ∷ [] in
    let parts = load_new s later rows new e in (
      with_all rows s.values,
      parts.1,
      λ path.
          subst (λ word. HasEffect later path s.values (with_all rows s.values) (heard (value_at s.values path) word)) (one_row p path v)
          (set_effect later rows path s.values parts.0 (whole, tt)),
    )

load_step : (s : Settings) (later : List Settings) (rows : List Assigned) (force : Bool) (new : Layers) → AllByRecursion (λ row. IsLimitedValue row.value) rows →
    Gives (apply (store s later) (load_values rows force)) new → Stepped s later new (load_values rows force)
load_step s later rows false new whole e =
    let parts = load_new s later rows new e in
    (with_all rows s.values, parts.1, λ path. set_effect later rows path s.values parts.0 whole)
load_step s later rows true new whole e =
    let keep : List ℕ → Bool = λ p. not (shut later p) in
    let left : List Assigned = filter (λ row. keep row.path) rows in (
      with_all left s.values,
      set_new s later left new e,
      λ path.
          (let effect = set_effect later left path s.values (all_kept keep rows) (whole_kept keep rows whole) in
          record {
            free = λ f. effect.free f ∙ ap (λ o. heard (value_at s.values path) (sets_if o)) (last_kept keep rows path (ap not f));
            kept = effect.kept;
          }),
    )

reset_step : (s : Settings) (later : List Settings) (p : List ℕ) (new : Layers) →
    Gives (apply (store s later) (reset_value p)) new → Stepped s later new (reset_value p)
reset_step s later p new e =
    let parts = not_locked s later 0 (p ∷ []) (Ok (changed (λ values. remove values p) (store s later))) new e in (
      remove s.values p,
      the_new (store s later) (changed (λ values. remove values p) (store s later)) new parts.1,
      λ path. record {
        free = λ _. ap (option_and_then held_value) (get_removed s.values p path) ∙ unset_if path (bytes_eq p path);
        kept = λ f. get_removed s.values p path ∙ ap (λ b. cond b None (get s.values path)) (other path parts.0.0 f);
      },
    )
  where
    unset_if : (path : List ℕ) (b : Bool) → option_and_then held_value (cond b None (get s.values path)) ≡ heard (value_at s.values path) (cond b unset silent)
    unset_if path true = refl
    unset_if path false = refl

    other : (path : List ℕ) → not (shut later p) ≡ true → shut later path ≡ true → bytes_eq p path ≡ false
    other path free f =
        by_bool (bytes_eq p path) (bytes_eq p path ≡ false)
        (λ same. let bad : false ≡ true = sym (ap not (ap (shut later) (same_path p path same) ∙ f)) ∙ free in absurd cc)
        (λ e. e)

below_step : (s : Settings) (later : List Settings) (directory : List ℕ) (new : Layers) →
    Gives (apply (store s later) (reset_below_directory directory)) new → Stepped s later new (reset_below_directory directory)
below_step s later directory new e =
    let keep : List ℕ → Bool = λ path. cond (is_below path directory) (shut later path) true in (
      retain_keys s.values keep,
      the_new (store s later) (changed (λ values. retain_keys values keep) (store s later)) new e,
      λ path. record {
        free = λ f. ap (option_and_then held_value) (get_retained s.values keep path) ∙ (ap (λ b. option_and_then held_value (cond (cond (is_below path directory) b true) (get s.values path) None)) f ∙ unset_if path (is_below path directory));
        kept = λ f. get_retained s.values keep path ∙ (ap (λ b. cond (cond (is_below path directory) b true) (get s.values path) None) f ∙ all_stay path (is_below path directory));
      },
    )
  where
    unset_if : (path : List ℕ) (b : Bool) → option_and_then held_value (cond (cond b false true) (get s.values path) None) ≡ heard (value_at s.values path) (cond b unset silent)
    unset_if path true = refl
    unset_if path false = refl

    all_stay : (path : List ℕ) (b : Bool) → cond (cond b true true) (get s.values path) None ≡ get s.values path
    all_stay path true = refl
    all_stay path false = refl

pub step_of : (s : Settings) (later : List Settings) (change : Change) (new : Layers) → IsWholeChange change →
    Gives (apply (store s later) change) new → Stepped s later new change
step_of s later (set_value p v) new whole e = write_step s later p v new whole e
step_of s later (reset_value p) new whole e = reset_step s later p new e
step_of s later (reset_below_directory directory) new whole e = below_step s later directory new e
step_of s later (load_values rows force) new whole e = load_step s later rows force new whole e

-- Changes of the first layer: what they give where they are accepted, and by the changes beside it.
use Rattle.std.proofs.Common.{ℕ, ◌≡◌, ◌+◌, Bool, true, false, cond, List, [], ◌∷◌, Option, Some, None, Ok, Err, map, option_map, refl, sym, ◌∙◌, ap, ◌&&◌}
use Rattle.std.specs.FinMap.{insert, remove}
use Rattle.gv_model.specs.Tree.{Tree}
use Rattle.dconf_model.specs.Layers.{Layers, is_locked}
use Rattle.dconf_model.specs.Values.{stored, is_storable}
use Rattle.dconf_model.specs.Sources.{Assigned}
use Rattle.dconf_model.specs.Changes.{Values, Refusal, apply, changed, with_all, first_locked, unless_locked, all_storable, set_all, load_all, paths_of}
use Rattle.dconf_model.specs.Changes.Change.{set_value, reset_value, load_values}
use Rattle.dconf_model.specs.Changes.Refusal.{not_writable, locked, too_large}
use Rattle.dconf_model.proofs.ParentLaws.{by_bool}
use Rattle.refused.specs.Faults.{OfFault}
use Rattle.refused.specs.declared.Refused.{Refused}
use Rattle.refused.specs.declared.Refused.TheVariants.{Fault, Memory}
use Rattle.dconf_engine.specs.declared.change_fault.ChangeFlaw.{ChangeFlaw}
use Rattle.dconf_layers.specs.declared.layer.Layer.{Layer}
use Rattle.dconf_engine.specs.EngineLayers.{layers_of}
use Rattle.dconf_layers.specs.LayerSettings.{settings_of}
use Rattle.dconf_engine.specs.ChangeFaults.{refusal_of, Refuses, path_refusal, rows_refusal}
use Rattle.std.specs.List.{position_from}
use Rattle.dconf_path.specs.declared.path.KeyPath.{KeyPath}
use Rattle.dconf_path.specs.Paths.{key_text}
use Rattle.dconf_engine.specs.Loads.{rows_of, not_locked}
use Rattle.dconf_engine.specs.Unsaved.{Unsaved, with_changes}

-- ---- the first layer's values

-- what a change of the first layer's values gives, where the changes beside it make the same of any values
pub changed_beside : (f : Values → Values) (c new : Unsaved) (items : List Layer) (writable : Bool) (l : Layers) → layers_of c items writable ≡ l →
    ((v : Values) → with_changes new v ≡ f (with_changes c v)) → changed f l ≡ layers_of new items writable
changed_beside f c new [] writable l is h = ap (changed f) (sym is)
changed_beside f c new (layer ∷ items) writable l is h =
    let s = settings_of layer in
    ap (changed f) (sym is) ∙ ap (λ (v : Values). record { layers = record { values = v; locks = s.locks } ∷ map settings_of items; writable = writable }) (sym (h s.values))

-- ---- one path

abbrev IsFree : Layers → List ℕ → Type 0
IsFree l p = (l.writable ≡ true) × (is_locked l p ≡ false)

free_if : (w k : Bool) → cond w (cond k (Some (locked 0)) None) (Some not_writable) ≡ None → (w ≡ true) × (k ≡ false)
free_if true true e = absurd cc
free_if true false e = (refl, refl)
free_if false k e = absurd cc

free : (l : Layers) (p : List ℕ) → path_refusal l p ≡ None → IsFree l p
free l p e = free_if l.writable (is_locked l p) e

pub write_accepted : (l : Layers) (p : List ℕ) (v : Tree) → path_refusal l p ≡ None → is_storable v ≡ true →
    apply l (set_value p v) ≡ Ok (changed (λ m. insert m p (stored v)) l)
write_accepted l p v e small =
    let f = free l p e in
    let rows : List Assigned = record { path = p; value = v } ∷ [] in
    ap (λ b. cond b (unless_locked (first_locked l 0 (p ∷ [])) (set_all l rows)) (Err not_writable)) f.0
    ∙ ap (λ b. unless_locked (cond b (Some 0) None) (set_all l rows)) f.1
    ∙ ap (λ b. cond (b && true) (Ok (changed (with_all rows) l)) (Err too_large)) small

pub reset_accepted : (l : Layers) (p : List ℕ) → path_refusal l p ≡ None → apply l (reset_value p) ≡ Ok (changed (λ m. remove m p) l)
reset_accepted l p e =
    let f = free l p e in
    ap (λ b. cond b (unless_locked (first_locked l 0 (p ∷ [])) (Ok (changed (λ m. remove m p) l))) (Err not_writable)) f.0
    ∙ ap (λ b. unless_locked (cond b (Some 0) None) (Ok (changed (λ m. remove m p) l))) f.1

-- ---- rows

none_locked : (l : Layers) (n : ℕ) (rows : List Assigned) → first_locked l n (paths_of rows) ≡ None → not_locked l rows ≡ rows
none_locked l n [] e = refl
none_locked l n (row ∷ rows) e =
    by_bool (is_locked l row.path) (not_locked l (row ∷ rows) ≡ row ∷ rows)
    (λ yes. let bad : Some n ≡ None = sym (ap (λ b. cond b (Some n) (first_locked l (n + 1) (paths_of rows))) yes) ∙ e in absurd cc)
    (λ out.
    let rest : first_locked l (n + 1) (paths_of rows) ≡ None = sym (ap (λ b. cond b (Some n) (first_locked l (n + 1) (paths_of rows))) out) ∙ e in
    rw out (ap (λ rs. row ∷ rs) (none_locked l (n + 1) rows rest)))

rows_may : (w f : Bool) (o : Option ℕ) → cond w (cond f None (option_map locked o)) (Some not_writable) ≡ None → (w ≡ true) × (cond f None o ≡ None)
rows_may true true o e = (refl, refl)
rows_may true false None e = (refl, refl)
rows_may true false (Some n) e = absurd cc
rows_may false f o e = absurd cc

rows_given : (l : Layers) (rows : List Assigned) (f : Bool) → cond f None (first_locked l 0 (paths_of rows)) ≡ None → load_all l rows f ≡ set_all l (not_locked l rows)
rows_given l rows true e = refl
rows_given l rows false e = ap (λ o. unless_locked o (set_all l rows)) e ∙ ap (set_all l) (sym (none_locked l 0 rows e))

-- what rows give that may be loaded
pub load_given : (l : Layers) (rows : List Assigned) (force : Bool) → rows_refusal l rows force ≡ None → apply l (load_values rows force) ≡ set_all l (not_locked l rows)
load_given l rows force e =
    let may = rows_may l.writable force (first_locked l 0 (paths_of rows)) e in
    ap (λ b. cond b (load_all l rows force) (Err not_writable)) may.0 ∙ rows_given l rows force may.1

pub load_accepted : (l : Layers) (rows : List Assigned) (force : Bool) → rows_refusal l rows force ≡ None → all_storable (not_locked l rows) ≡ true →
    apply l (load_values rows force) ≡ Ok (changed (with_all (not_locked l rows)) l)
load_accepted l rows force e small =
    load_given l rows force e ∙ ap (λ b. cond b (Ok (changed (with_all (not_locked l rows)) l)) (Err too_large)) small

pub load_too_large : (l : Layers) (rows : List Assigned) (force : Bool) → rows_refusal l rows force ≡ None → all_storable (not_locked l rows) ≡ false →
    apply l (load_values rows force) ≡ Err too_large
load_too_large l rows force e large =
    load_given l rows force e ∙ ap (λ b. cond b (Ok (changed (with_all (not_locked l rows)) l)) (Err too_large)) large

-- what is refused while the rows' bytes are made
pub load_too_large_as : (l : Layers) (rows : List Assigned) (force : Bool) (fault : Refused ChangeFlaw) → rows_refusal l rows force ≡ None →
    OfFault (λ flaw. (refusal_of flaw ≡ too_large) × (all_storable (not_locked l rows) ≡ false)) fault → Refuses (apply l (load_values rows force)) fault
load_too_large_as l rows force (Fault flaw) e k = load_too_large l rows force e k.1 ∙ ap (λ (q : Refusal). Err q) (sym k.0)
load_too_large_as l rows force Memory e k = tt

pub first_locked_at : (l : Layers) (n : ℕ) (rows : List (KeyPath × Tree)) → position_from (λ (row : KeyPath × Tree). is_locked l (key_text row.0)) n rows ≡ first_locked l n (paths_of (rows_of rows))
first_locked_at l n [] = refl
first_locked_at l n (row ∷ rows) = ap (λ o. cond (is_locked l (key_text row.0)) (Some n) o) (first_locked_at l (n + 1) rows)

-- A change leaves it as it was whether the first layer may be written.
use Rattle.std.specs.Prelude.{◌≡◌, ℕ, Bool, true, false, cond, List, [], ◌∷◌, map, Option, Some, None, Result, Ok, Err, filter, not, refl}
use Rattle.std.proofs.Common.{◌∙◌, ap, subst}
use Rattle.dconf_model.specs.Bytes.{MaybeBytes}
use Rattle.dconf_model.specs.Sources.{Assigned}
use Rattle.dconf_model.specs.Layers.{Layers, is_locked}
use Rattle.dconf_model.specs.Changes.{Change, Refusal, all_storable, apply, change_written, changed, first_locked, load_all, paths_of, set_all, unless_locked, with_all}
use Rattle.dconf_model.specs.Changes.Change.{set_value, reset_value, reset_below_directory, load_values}
use Rattle.dconf_model.specs.Changes.Refusal.{too_large, not_writable}
use Rattle.dconf_model.specs.Stores.{DidDeeds}
use Rattle.dconf_model.specs.Stores.Deed.{changed as changing}

abbrev IsAsWritable : Layers → Result Layers Refusal → Type 0
IsAsWritable l (Ok m) = m.writable ≡ l.writable
IsAsWritable l (Err e) = Unit {0}

either : (l : Layers) (b : Bool) (r q : Result Layers Refusal) → IsAsWritable l r → IsAsWritable l q → IsAsWritable l (cond b r q)
either l true r q h k = h
either l false r q h k = k

unless : (l : Layers) (o : Option ℕ) (r : Result Layers Refusal) → IsAsWritable l r → IsAsWritable l (unless_locked o r)
unless l (Some i) r h = tt
unless l None r h = h

set : (l : Layers) (rows : List Assigned) → IsAsWritable l (set_all l rows)
set l rows = either l (all_storable rows) (Ok (changed (with_all rows) l)) (Err too_large) refl tt

load : (l : Layers) (rows : List Assigned) (force : Bool) → IsAsWritable l (load_all l rows force)
load l rows true = set l (filter (λ row. not (is_locked l row.path)) rows)
load l rows false = unless l (first_locked l 0 (paths_of rows)) (set_all l rows) (set l rows)

change : (l : Layers) (c : Change) → IsAsWritable l (change_written l c)
change l (set_value path v) = load l (record { path = path; value = v } ∷ []) false
change l (reset_value path) = unless l (first_locked l 0 (path ∷ [])) _ refl
change l (reset_below_directory directory) = refl
change l (load_values rows force) = load l rows force

one_change : (l m : Layers) (c : Change) → apply l c ≡ Ok m → m.writable ≡ l.writable
one_change l m c e = subst (IsAsWritable l) e (either l l.writable (change_written l c) (Err not_writable) (change l c) tt)

pub changes_keep_it : (others : List MaybeBytes) (l m : Layers) (cs : List Change) → DidDeeds others l (map changing cs) m → m.writable ≡ l.writable
changes_keep_it others l m [] did = ap (λ (l : Layers). l.writable) did
changes_keep_it others l m (c ∷ cs) did = changes_keep_it others did.0 m cs did.2 ∙ one_change l did.0 c did.1.1

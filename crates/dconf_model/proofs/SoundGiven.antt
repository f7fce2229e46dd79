-- What any sound file gives, as rows and locks.
use Rattle.std.specs.Prelude.{◌≡◌, ℕ, Bool, true, false, ◌||◌, List, [], ◌∷◌, map, Option, Some, None, cond, refl, is_some, option_and_then}
use Rattle.std.proofs.Common.{ap, sym, ◌∙◌}
use Rattle.std.specs.List.{list_any}
use Rattle.std.specs.Option.{option_or}
use Rattle.std.specs.Str.{bytes_eq}
use Rattle.std.specs.FinMap.{get, keys}
use Rattle.gv_model.specs.Tree.{Tree}
use Rattle.dconf_model.specs.Settings.{Settings}
use Rattle.dconf_model.specs.Values.{held_value}
use Rattle.dconf_model.specs.Locks.{LockLine}
use Rattle.dconf_model.specs.Sources.{Assigned, Given}
use Rattle.dconf_model.specs.Databases.{settings_in}
use Rattle.dconf_model.specs.Changes.{Values}
use Rattle.dconf_model.specs.Stores.{GivesRows, SoundGives}
use Rattle.dconf_model.proofs.SameBytes.{same_path}
use Rattle.dconf_model.proofs.PathMaps.{key_in, eq_turned}
use Rattle.dconf_model.proofs.LastValues.{last_from, last_step}
use Rattle.dconf_model.proofs.ChangeEffects.{value_at}
use Rattle.dconf_model.proofs.SettingsIn.{says_what_is_in_it}

abbrev row_if : List ℕ → Option Tree → List Assigned → List Assigned
row_if k None more = more
row_if k (Some v) more = record { path = k; value = v } ∷ more

abbrev rows_at : Values → List (List ℕ) → List Assigned
rows_at m [] = []
rows_at m (k ∷ ks) = row_if k (value_at m k) (rows_at m ks)

-- the path's own value, whatever was before
own : (a : Bool) (w o : Option Tree) (v : Tree) → w ≡ Some v → cond a (option_or w (Some v)) (Some v) ≡ option_or w o
own true w o v e = ap (λ w. option_or w (Some v)) e ∙ sym (ap (λ w. option_or w o) e)
own false w o v e = sym (ap (λ w. option_or w o) e)

nothing_own : (a : Bool) (w o : Option Tree) → w ≡ None → cond a (option_or w o) o ≡ option_or w o
nothing_own true w o e = refl
nothing_own false w o e = sym (ap (λ w. option_or w o) e)

rows_from : (o : Option Tree) (m : Values) (ks : List (List ℕ)) (p : List ℕ) → last_from o (rows_at m ks) p ≡ cond (list_any (bytes_eq p) ks) (option_or (value_at m p) o) o
rows_from o m [] p = refl
rows_from o m (k ∷ ks) p = go (λ o. rows_from o m ks p) (bytes_eq k p) refl (value_at m k) refl
  where
    go : ((o : Option Tree) → last_from o (rows_at m ks) p ≡ cond (list_any (bytes_eq p) ks) (option_or (value_at m p) o) o) → (b : Bool) → bytes_eq k p ≡ b → (w : Option Tree) → value_at m k ≡ w →
        last_from o (row_if k w (rows_at m ks)) p ≡ cond (bytes_eq p k || list_any (bytes_eq p) ks) (option_or (value_at m p) o) o
    go rest true e (Some v) f =
        last_step o (record { path = k; value = v }) (rows_at m ks) p
        ∙ (ap (λ b. last_from (cond b (Some v) o) (rows_at m ks) p) e
        ∙ (rest (Some v)
        ∙ (own (list_any (bytes_eq p) ks) (value_at m p) o v (ap (value_at m) (sym (same_path k p e)) ∙ f)
        ∙ sym (ap (λ b. cond (b || list_any (bytes_eq p) ks) (option_or (value_at m p) o) o) (eq_turned p k ∙ e)))))
    go rest true e None f =
        rest o
        ∙ (nothing_own (list_any (bytes_eq p) ks) (value_at m p) o (ap (value_at m) (sym (same_path k p e)) ∙ f)
        ∙ sym (ap (λ b. cond (b || list_any (bytes_eq p) ks) (option_or (value_at m p) o) o) (eq_turned p k ∙ e)))
    go rest false e (Some v) f =
        last_step o (record { path = k; value = v }) (rows_at m ks) p
        ∙ (ap (λ b. last_from (cond b (Some v) o) (rows_at m ks) p) e
        ∙ (rest o
        ∙ sym (ap (λ b. cond (b || list_any (bytes_eq p) ks) (option_or (value_at m p) o) o) (eq_turned p k ∙ e))))
    go rest false e None f =
        rest o ∙ sym (ap (λ b. cond (b || list_any (bytes_eq p) ks) (option_or (value_at m p) o) o) (eq_turned p k ∙ e))

where_there : (o : Option (List ℕ)) → option_and_then held_value o ≡ cond (is_some o) (option_or (option_and_then held_value o) None) None
where_there None = refl
where_there (Some bytes) = or_none (held_value bytes)
  where
    or_none : (o : Option Tree) → o ≡ option_or o None
    or_none None = refl
    or_none (Some v) = refl

locks_at : (p : List ℕ) (ks : List (List ℕ)) → list_any (bytes_eq p) ks ≡ list_any (λ (lock : LockLine). bytes_eq lock.path p) (map (λ k. record { path = k; line = 0 }) ks)
locks_at p [] = refl
locks_at p (k ∷ ks) = ap (λ b. b || list_any (bytes_eq p) ks) (eq_turned p k) ∙ ap (λ b. bytes_eq k p || b) (locks_at p ks)

-- settings give rows and locks
pub gives_some : (s : Settings) → (g : Given) × GivesRows s g
gives_some s = (
  record { values = rows_at s.values (keys s.values); locks = map (λ k. record { path = k; line = 0 }) (keys s.locks) },
  record {
    values = λ path.
        where_there (get s.values path)
        ∙ (ap (λ b. cond b (option_or (value_at s.values path) None) None) (key_in s.values path)
        ∙ sym (rows_from None s.values (keys s.values) path));
    locks = λ path. key_in s.locks path ∙ locks_at path (keys s.locks);
  },
)

pub sound_gives : SoundGives
sound_gives file database sound =
    let s = settings_in file in
    let some = gives_some s in
    (some.0, (s, (database, sound, says_what_is_in_it file database sound), some.1))

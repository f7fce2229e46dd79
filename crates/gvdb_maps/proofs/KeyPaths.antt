-- The paths of values stay the paths of keys, those of locks paths.
use Rattle.std.proofs.Common.{ℕ, ◌≡◌, Bool, true, false, cond, List, [], Option, Some, None, is_some, IsTrue, refl, sym, ◌∙◌, ap, subst, ◌||◌, not, Vec, Bor, ◌∷◌, Result, Ok, Err}
use Rattle.std.specs.List.{All}
use Rattle.std.specs.Cmp.Lexicographic.{slice_cmp}
use Rattle.std.specs.Ordering.{nat_cmp, eq_by_cmp}
use Rattle.std.specs.Cmp.{eq_by_cmp_equiv}
use Rattle.std.specs.FinMap.{contains_key, keys, insert, get-empty, get-insert, contains_key-keys, slice_cmp-IsAntisymmetric, nat_cmp-IsAntisymmetric, from_entries, empty}
use Rattle.std.proofs.lemmas.Cmp.{nat_list_cmp_total}
use Rattle.std.proofs.lemmas.List.Elements.{All-contains_itself, All-nil, All-rest, All-head}
use Rattle.std.proofs.lemmas.Map.Views.{tells_apart, list_any-from_Contains}
use Rattle.std.proofs.lemmas.Bool.{true≢false, and_parts}
use Rattle.std.specs.Option.{MatchOption}
use Rattle.std.specs.Result.{IsOk, IfOk, result_ok}
use Rattle.dconf_path.specs.declared.lock_path.LockPath.{LockPath}
use Rattle.dconf_path.specs.declared.lock_path.LockPath.TheVariants.{Key, Directory}
use Rattle.dconf_path.specs.declared.fault.PathFault.{PathFault}
use Rattle.dconf_path.specs.Paths.{key_text, directory_text, lock_text}
use Rattle.std.specs.String.{string_bytes}
use Rattle.std.specs.BTreeMap.{BTreeMap}
use Rattle.std.specs.BTreeSet.{BTreeSet}
use Rattle.std.specs.declared.string.String.{String}
use Rattle.std.specs.declared.alloc.Global.{Global}
use Rattle.gvdb_maps.specs.Maps.{settings_of, values_of, locks_of, value_entries, lock_entries, texts}
use Rattle.dconf_model.specs.Paths.{is_path, is_key_path, ends_with_slash}
use Rattle.dconf_model.specs.Settings.{AtPaths, Lock, Settings, IsSettings, no_settings, with_value, with_lock}

-- every path that something is kept at passes the test
abbrev KeptAt : {X : Type 0} → (List ℕ → Bool) → AtPaths X → Type 0
KeptAt test m = (path : List ℕ) → IsTrue (contains_key m path) → IsTrue (test path)

pub no_paths : IsSettings no_settings
no_paths = record {
  valued = λ q h. absurd (true≢false (sym h ∙ ap is_some (get-empty (slice_cmp nat_cmp) q)));
  locked = λ q h. absurd (true≢false (sym h ∙ ap is_some (get-empty (slice_cmp nat_cmp) q)));
}

of_either : (test : List ℕ → Bool) (path q : List ℕ) (before : Bool) → IsTrue (test path) → (IsTrue before → IsTrue (test q)) → (b : Bool) → eq_by_cmp (slice_cmp nat_cmp) q path ≡ b → IsTrue (b || before) → IsTrue (test q)
of_either test path q before is earlier true same h = subst (λ (x : List ℕ). IsTrue (test x)) (sym (tells_apart (slice_cmp-IsAntisymmetric nat_cmp-IsAntisymmetric) q path same)) is
of_either test path q before is earlier false same h = earlier h

some_of : {X : Type 0} (b : Bool) (v : X) (o : Option X) → is_some (cond b (Some v) o) ≡ (b || is_some o)
some_of true v o = refl
some_of false v o = refl

kept_with : {X : Type 0} (test : List ℕ → Bool) (m : AtPaths X) (path : List ℕ) (v : X) → KeptAt test m → IsTrue (test path) → KeptAt test (insert m path v)
kept_with test m path v kept is q h =
    of_either test path q (contains_key m q) is (kept q) _ refl (sym (ap is_some (get-insert nat_list_cmp_total m path v q) ∙ some_of _ v _) ∙ h)

pub valued_at_path : (s : Settings) (path value : List ℕ) → IsSettings s → IsTrue (is_key_path path) → IsSettings (with_value s path value)
valued_at_path s path value kept is = record { valued = kept_with is_key_path s.values path value kept.valued is; locked = kept.locked }

pub locked_at_path : (s : Settings) (path : List ℕ) → IsSettings s → IsTrue (is_path path) → IsSettings (with_lock s path)
locked_at_path s path kept is = record { valued = kept.valued; locked = kept_with is_path s.locks path tt kept.locked is }

-- what holds of each path that is found holds of each that is listed
pub listed_pass : {X : Type 0} (test : List ℕ → Bool) (m : AtPaths X) → KeptAt test m → All (λ path. IsTrue (test path)) (keys m)
listed_pass test m kept k d inside =
    let found = list_any-from_Contains (eq_by_cmp_equiv nat_list_cmp_total) _ (keys m) (All-contains_itself (keys m) k d inside) in
    kept _ (contains_key-keys m _ ∙ found)

pub none_kept : (m : BTreeMap (String Global) (Vec ℕ Global)) (s : BTreeSet (String Global)) → m.entries ≡ [] → s.keys ≡ [] → IsSettings (settings_of m s)
none_kept m s no_values no_locks =
    subst (λ (es : List (String Global × Vec ℕ Global)). IsSettings (record { values = from_entries (value_entries es); locks = locks_of s })) (sym no_values)
    (subst (λ (ks : List (String Global)). IsSettings (record { values = empty; locks = from_entries (lock_entries ks) })) (sym no_locks) no_paths)

pub kept_where_inserted : (m n : BTreeMap (String Global) (Vec ℕ Global)) (locks : BTreeSet (String Global)) (path value : List ℕ) → IsSettings (settings_of m locks) → IsTrue (is_key_path path) → values_of n ≡ insert (values_of m) path value → IsSettings (settings_of n locks)
kept_where_inserted m n locks path value kept is e =
    subst (λ (v : AtPaths (List ℕ)). IsSettings (record { values = v; locks = locks_of locks })) (sym e) (valued_at_path (settings_of m locks) path value kept is)

pub kept_where_locked : (v : AtPaths (List ℕ)) (s n : BTreeSet (String Global)) (path : List ℕ) → IsSettings (record { values = v; locks = locks_of s }) → IsTrue (is_path path)
    → locks_of n ≡ insert (locks_of s) path tt → IsSettings (record { values = v; locks = locks_of n })
kept_where_locked v s n path kept is e =
    subst (λ (l : AtPaths Lock). IsSettings (record { values = v; locks = l })) (sym e) (locked_at_path (record { values = v; locks = locks_of s }) path kept is)

-- the text of a lock's path is a path
pub lock_is_path : (lock : LockPath) → IsTrue (is_path (lock_text lock))
lock_is_path (Key path) = (and_parts (is_path (key_text path)) (not (ends_with_slash (key_text path))) path.is_of_key).0
lock_is_path (Directory path) = (and_parts (is_path (directory_text path)) (ends_with_slash (directory_text path)) path.is_of_directory).0

-- ---- texts that pass a test, as an iterator gives them

module _ (test : List ℕ → Bool) where
  abbrev Pass : List (List ℕ) → Type 0
  Pass paths = All (λ path. IsTrue (test path)) paths

  -- what is left after the first
  pub rest_pass : (before after : List (String Global)) (first : Option (Bor (String Global))) → MatchOption first ((before ≡ []) × (after ≡ [])) (λ x. before ≡ x.now ∷ after) → Pass (texts before) → Pass (texts after)
  rest_pass before after None none kept = subst (λ (ks : List (String Global)). Pass (texts ks)) (sym none.1) (All-nil (λ path. IsTrue (test path)))
  rest_pass before after (Some x) is kept = All-rest (λ path. IsTrue (test path)) (string_bytes x.now) (texts after) (texts before) (ap texts is) kept

  first_passes : (before after : List (String Global)) (first : String Global) → before ≡ first ∷ after → Pass (texts before) → IsTrue (test (string_bytes first))
  first_passes before after first is kept = All-head (λ path. IsTrue (test path)) (string_bytes first) (texts after) (subst (λ (ks : List (String Global)). Pass (texts ks)) is kept)

  -- the first text is taken as a path
  pub taken_as_path : {P : Type 0} (text_of : P → List ℕ) (before after : List (String Global)) (first : String Global) (text : List ℕ) (read : Result P PathFault) (taken : Option P)
      → taken ≡ result_ok read → before ≡ first ∷ after → Pass (texts before) → text ≡ string_bytes first → (IsTrue (test text) → IsOk read) → IfOk read (λ p. text_of p ≡ text)
      → MatchOption taken ((texts before ≡ []) × (texts after ≡ [])) (λ p. texts before ≡ text_of p ∷ texts after)
  taken_as_path {P} text_of before after first text (Ok path) taken is_ok is kept named accepts found =
      subst (λ (o : Option P). MatchOption o ((texts before ≡ []) × (texts after ≡ [])) (λ p. texts before ≡ text_of p ∷ texts after)) (sym is_ok)
      (ap texts is ∙ ap (λ (t : List ℕ). t ∷ texts after) (sym named ∙ sym found))
  taken_as_path text_of before after first text (Err fault) taken is_ok is kept named accepts found =
      absurd (true≢false (sym (accepts (subst (λ (x : List ℕ). IsTrue (test x)) (sym named) (first_passes before after first is kept)))))

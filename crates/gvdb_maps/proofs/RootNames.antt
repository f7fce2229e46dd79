-- The names of a root table: before the first path, path by path, and after the last.
use Rattle.std.proofs.Common.{◌≡◌, ◌≢◌, ◌<◌, ◌≤◌, ◌+◌, ℕ, suc, List, [], ◌∷◌, ◌++◌, length, get_or, take, drop, Some, sym, ap, ◌∙◌, subst, arith, codes, length-append, true, false, is_some, zero, Option, None, refl, inl, inr}
use Rattle.std.specs.Prelude.{IsTrue, IsUtf8, Contains, slice_index}
use Rattle.std.specs.FinMap.{keys, get, contains_key}
use Rattle.std.proofs.lemmas.Grind.{common_steps}
use Rattle.std.proofs.lemmas.List.{append-nil, append_assoc, take-take, take_at, take_more, length-take-le, take-append-drop, get_or-take, length_push, take_all}
use Rattle.std.proofs.lemmas.List.Elements.{All-append, All-push, All-nil}
use Rattle.dconf_model.specs.Table.{value_kind, list_kind, table_kind}
use Rattle.dconf_model.specs.Settings.{Settings}
use Rattle.dconf_model.specs.Plans.{IsDirectoryOf, IsRootName, HasLocks}
use Rattle.dconf_model.specs.Plans.IsRootName.{key, directory, top, locks}
use Rattle.dconf_model.proofs.NameOrder.{before_prefix}
use Rattle.dconf_model.proofs.PathLaws.{ends_in, slash_is_ascii, slash_no_zero}
use Rattle.gvdb_maps.specs.declared.names.Named.{Named}
use Rattle.gvdb_maps.specs.PlanWords.{kind_of, entry_of, name_at, IsBefore, IsSlash, AreRootNames, HoldsValue, HoldValues, IsThere, IsDirectoryAt, IsBeyond, last_name, IsNewDirectory, IsAdded, AreNamesWith, AreNamesOf, IsFit, AreGood}
use Rattle.gvdb_maps.proofs.PathTexts.{IsText, text_of_key}
use Rattle.gvdb_maps.proofs.PushedNames.{pushed, last_pushed, placed_top, good_push, none_missing, all_good}
use Rattle.gvdb_maps.proofs.KeysRise.{Rise, rise_rest, first_before, listed_is_kept, keys_rise, kept_at}
use Rattle.std.specs.Option.{MatchOption}
use Rattle.std.proofs.lemmas.Str.{IsUtf8-from_ascii}
use Rattle.dconf_model.specs.Bytes.{hash_of}
use Rattle.dconf_path.specs.declared.lock_path.LockPath.{LockPath}
use Rattle.dconf_path.specs.Paths.{lock_text}
use Rattle.gvdb_maps.specs.Maps.{AreKeyPaths}
use Rattle.gvdb_maps.proofs.Adding.{prefix_before, not_last, directory_pushed}

-- with these paths left; `last` is the last that is done, or `/`
pub record AreNamesSoFar (s : Settings) (names : List Named) (at : ℕ) (last : List ℕ) (left : List (List ℕ)) : Type 0 where
  pub done : List (List ℕ)
  pub listed : keys s.values ≡ done ++ left
  pub of_done : AreNamesWith s names done
  pub last_is : last_name names ≡ last
  pub lies : IsDirectoryAt names last at
  pub innermost : (i : ℕ) → IsSlash last i → i < length (name_at names at)
  pub rising : Rise left
  pub before : (k : ℕ) → k < length left → IsBefore last (get_or left k [])

-- ---- the directory of the next path

-- a slash of a text is one of the other's, as far as they are in common
slash_in_prefix : (text prefix : List ℕ) (i : ℕ) → take (length prefix) text ≡ prefix → i < length prefix → IsSlash text i → IsSlash prefix i
slash_in_prefix text prefix i is less s = grind (arith, common_steps)

-- of each slash of the directory's name up to which it is as the text, the other's name has it too
abbrev pub IsMost : List Named → ℕ → List ℕ → ℕ → Type 0
IsMost names at text result = (i : ℕ) → IsSlash (name_at names at) i → take (i + 1) (name_at names at) ≡ take (i + 1) text → i < length (name_at names result)

not_in_prefix : (names : List Named) (last text : List ℕ) (at result i : ℕ) → IsDirectoryAt names last at → ((j : ℕ) → IsSlash last j → j < length (name_at names at))
    → IsMost names at text result → IsSlash text i → length (name_at names result) ≤ i → (rest : List ℕ) → last ≢ take (i + 1) text ++ rest
not_in_prefix names last text at result i lies innermost most s after rest is =
    let here = s.here in
    let size : length (take (i + 1) text) ≡ i + 1 = length-take-le (i + 1) text (omega (arith, here)) in
    let whole : length last ≡ length (take (i + 1) text) + length rest = ap (λ (x : List ℕ). length x) is ∙ length-append (take (i + 1) text) rest in
    let same : take (i + 1) last ≡ take (i + 1) text = ap (λ (x : List ℕ). take (i + 1) x) is ∙ take_at (take (i + 1) text) rest (i + 1) size in
    let slash : IsSlash last i = record {
      here = omega (arith, whole, size);
      slash = sym (get_or-take (i + 1) last i 0 (omega arith)) ∙ (ap (λ (x : List ℕ). get_or x i 0) same ∙ (get_or-take (i + 1) text i 0 (omega arith) ∙ s.slash));
    } in
    let before = innermost i slash in
    let inner = most i (slash_in_prefix last (name_at names at) i lies.prefix before slash)
    (ap (λ (x : List ℕ). take (i + 1) x) (sym lies.prefix) ∙ (take-take (i + 1) (length (name_at names at)) last (omega (arith, before)) ∙ same)) in
    omega (arith, inner, after)

-- the last name precedes the path, and those of its directories that are not there yet
pub next_beyond : (s : Settings) (names : List Named) (at : ℕ) (last text : List ℕ) (left rest : List (List ℕ)) (result : ℕ) → AreNamesSoFar s names at last left → left ≡ text ∷ rest
    → IsMost names at text result → IsBeyond (last_name names) text (length (name_at names result))
next_beyond s names at last text left rest result so is most =
    let some : length left ≡ suc (length rest) = ap (λ (l : List (List ℕ)). length l) is in
    let before : IsBefore last text = subst (λ (l : List (List ℕ)). IsBefore last (get_or l 0 [])) is (so.before 0 (omega (arith, some))) in
    subst (λ (x : List ℕ). IsBeyond x text (length (name_at names result))) (sym so.last_is) (record {
      path = before;
      directories = λ i s after.
          before_prefix last (take (i + 1) text) (drop (i + 1) text)
          (subst (λ (x : List ℕ). IsBefore last x) (sym (take-append-drop (i + 1) text)) before)
          (not_in_prefix names last text at result i so.lies so.innermost most s after);
    })

-- ---- one path more

pub there_kept : (names more : List Named) (name : List ℕ) (kind : ℕ) → IsThere names name kind → IsThere (names ++ more) name kind
there_kept names more name kind t = grind (arith, common_steps)

pub there_pushed : (names : List Named) (n : Named) → IsThere (names ++ n ∷ []) n.name.now (kind_of n.content)
there_pushed names n = grind (arith, common_steps, length_push, pushed)

-- a prefix that ends at a slash is a directory
pub prefix_is_directory : (text : List ℕ) (i : ℕ) → IsSlash text i → IsDirectoryOf (take (i + 1) text) text
prefix_is_directory text i s = record {
  more = drop (i + 1) text;
  whole = sym (take-append-drop (i + 1) text);
  slash = ends_in (take (i + 1) text) (take i text) (take_more text i 0 s.here ∙ ap (λ (c : ℕ). take i text ++ c ∷ []) s.slash);
}

new_name : (s : Settings) (text : List ℕ) → IsTrue (contains_key s.values text) → (n : Named) → IsNewDirectory text n → IsRootName s n.name.now
new_name s text kept n new = directory text kept (subst (λ (x : List ℕ). IsDirectoryOf x text) (sym new.1.2) (prefix_is_directory text new.1.0 new.1.1))

module _ (s : Settings) (old names : List Named) (last text value : List ℕ) (rest : List (List ℕ)) (at next : ℕ) (so : AreNamesSoFar s old at last (text ∷ rest)) (added : IsAdded old names text value next) (value_is : IsTrue (contains_key s.values text) → get s.values text ≡ Some value) where
  kept_here : IsTrue (contains_key s.values text)
  kept_here = listed_is_kept s.values so.done rest text so.listed

  abbrev new : List Named
  new = added.more ++ added.path ∷ []

  each_root : AreRootNames s names
  each_root =
      rw added.whole
      (All-append (λ n. IsRootName s n.name.now) old new so.of_done.each
      (All-push (λ n. IsRootName s n.name.now) added.more added.path (λ k d here. new_name s text kept_here (get_or added.more k d) (added.directories k d here)) (rw added.is_path.0 (key kept_here))))

  each_value : HoldValues s names
  each_value =
      rw added.whole
      (All-append (HoldsValue s) old new so.of_done.values
      (All-push (HoldsValue s) added.more added.path
      (λ k d here kind. let list = (added.directories k d here).0 in let bad : 118 ≡ 76 = sym kind ∙ list in absurd (omega (arith, bad)))
      (λ kind. ap (get s.values) added.is_path.0 ∙ (value_is kept_here ∙ ap (λ (b : List ℕ). Some b) (sym added.is_path.2)))))

  still_there : (name : List ℕ) (kind : ℕ) → IsThere old name kind → IsThere names name kind
  still_there name kind t = rw added.whole (there_kept old new name kind t)

  assoc : names ≡ (old ++ added.more) ++ added.path ∷ []
  assoc = added.whole ∙ sym (append_assoc old added.more (added.path ∷ []))

  path_there : IsThere names text value_kind
  path_there = rw (assoc, sym added.is_path.0, sym added.is_path.1) (there_pushed (old ++ added.more) added.path)

  pub names_more : IsText text → AreNamesSoFar s names next text rest
  names_more path = record {
    done = so.done ++ text ∷ [];
    listed = so.listed ∙ sym (append_assoc so.done (text ∷ []) rest);
    of_done = record {
      good = added.good;
      each = each_root;
      values = each_value;
      keys = All-push (λ p. IsThere names p value_kind) so.done text (λ k d here. still_there _ value_kind (so.of_done.keys k d here)) path_there;
      top = still_there (codes "/") list_kind so.of_done.top;
      locks = λ some. still_there (codes ".locks") table_kind (so.of_done.locks some);
    };
    last_is = ap (λ (l : List Named). last_name l) assoc ∙ (last_pushed (old ++ added.more) added.path ∙ added.is_path.0);
    lies = added.lies;
    innermost = added.innermost;
    rising = rise_rest text rest so.rising;
    before = first_before text rest so.rising;
  }

-- ---- after the last path

pub all_names : (s : Settings) (names : List Named) (at : ℕ) (last : List ℕ) (left : List (List ℕ)) → left ≡ [] → AreNamesSoFar s names at last left → AreNamesOf s names
all_names s names at last left none so = subst (AreNamesWith s names) (sym (so.listed ∙ (ap (λ (l : List (List ℕ)). so.done ++ l) none ∙ append-nil so.done))) so.of_done

-- what is at the top
pub record IsTopName (n : Named) (name : List ℕ) (kind : ℕ) : Type 0 where
  pub name_is : n.name.now ≡ name
  pub from : n.from ≡ 0
  pub hash : n.hash ≡ hash_of name
  pub parent : n.parent ≡ None
  pub of_kind : kind_of n.content ≡ kind

pub is_top : (n : Named) (name : List ℕ) (kind : ℕ) → n.hash ≡ hash_of name → n.from ≡ 0 → entry_of n ≡ record { name = name; key = name; parent = None; kind = kind } → IsTopName n name kind
is_top n name kind hash from is = grind (arith, common_steps)

fit_top : (n : Named) (name : List ℕ) (kind : ℕ) → IsTopName n name kind → 0 < length name → length name ≤ 65535 → IsUtf8 name → ¬ Contains name 0 → IsFit n
fit_top n name kind t some short utf8 no_nul = grind (arith, common_steps)

fit_slash : (n : Named) → IsTopName n (codes "/") list_kind → IsFit n
fit_slash n t = fit_top n (codes "/") list_kind t (omega arith) (omega arith) (IsUtf8-from_ascii (codes "/") slash_is_ascii) (λ h. slash_no_zero h.0 h.1 h.2)

-- `/` comes before each path
root_before : (text : List ℕ) → IsText text → IsBefore (codes "/") text
root_before text path = grind (arith, common_steps, take_all, take_more, prefix_before, not_last)

root_before_keys : (s : Settings) → AreKeyPaths (keys s.values) → (k : ℕ) → k < length (keys s.values) → IsBefore (codes "/") (get_or (keys s.values) k [])
root_before_keys s paths k here = root_before (get_or (keys s.values) k []) (text_of_key (get_or (keys s.values) k []) (paths k [] here))

-- ---- the names at the top: `/`, after `.locks` where there are locks

locks_are_ascii : (i : ℕ) → slice_index (codes ".locks") i < 128
locks_are_ascii zero = omega arith
locks_are_ascii (suc zero) = omega arith
locks_are_ascii (suc (suc zero)) = omega arith
locks_are_ascii (suc (suc (suc zero))) = omega arith
locks_are_ascii (suc (suc (suc (suc zero)))) = omega arith
locks_are_ascii (suc (suc (suc (suc (suc zero))))) = omega arith
locks_are_ascii (suc (suc (suc (suc (suc (suc i)))))) = omega arith

locks_no_zero : (k : ℕ) → k < 6 → get_or (codes ".locks") k 0 ≡ 0 → ⊥
locks_no_zero zero here at = omega (arith, at)
locks_no_zero (suc zero) here at = omega (arith, at)
locks_no_zero (suc (suc zero)) here at = omega (arith, at)
locks_no_zero (suc (suc (suc zero))) here at = omega (arith, at)
locks_no_zero (suc (suc (suc (suc zero)))) here at = omega (arith, at)
locks_no_zero (suc (suc (suc (suc (suc zero))))) here at = omega (arith, at)
locks_no_zero (suc (suc (suc (suc (suc (suc k)))))) here at = omega (arith, here)

fit_locks : (n : Named) → IsTopName n (codes ".locks") table_kind → IsFit n
fit_locks n t = fit_top n (codes ".locks") table_kind t (omega arith) (omega arith) (IsUtf8-from_ascii (codes ".locks") locks_are_ascii) (λ h. locks_no_zero h.0 h.1 h.2)

top_key : (n : Named) (name : List ℕ) (kind : ℕ) → IsTopName n name kind → (entry_of n).key ≡ name
top_key n name kind t = ap (λ (k : ℕ). drop k n.name.now) t.from ∙ t.name_is

-- what precedes `/`: nothing, or `.locks` where there are locks
pub record AreBeforeSlash (s : Settings) (names : List Named) : Type 0 where
  pub good : AreGood names
  pub each : AreRootNames s names
  pub values : HoldValues s names
  pub locks : HasLocks s → IsThere names (codes ".locks") table_kind
  pub before : (i : ℕ) → i < length names → IsBefore (name_at names i) (codes "/")

no_names : AreGood []
no_names = record {
  placed = λ i here. absurd (omega (arith, here));
  ascending = λ i j less here. absurd (omega (arith, here));
  children = λ i here list. absurd (omega (arith, here));
}

pub none_before : (s : Settings) → (HasLocks s → ⊥) → AreBeforeSlash s []
none_before s unlocked = record {
  good = no_names;
  each = All-nil (λ n. IsRootName s n.name.now);
  values = All-nil (HoldsValue s);
  locks = λ some. absurd (unlocked some);
  before = λ i here. absurd (omega (arith, here));
}

pub locks_before : (s : Settings) (l : Named) → IsTopName l (codes ".locks") table_kind → HasLocks s → AreBeforeSlash s (l ∷ [])
locks_before s l t locked =
    record {
      good =
          all_good [] l
          (good_push [] l 0 (none_missing [] 0 no_names) (placed_top [] l t.parent (fit_locks l t) t.from (inr (t.of_kind, top_key l (codes ".locks") table_kind t)))
          (λ i here. absurd (omega (arith, here))) (λ here. absurd (omega (arith, here))))
          (λ list. let is = t.of_kind in let bad : table_kind ≡ list_kind = sym is ∙ list in absurd (omega (arith, bad)));
      each = All-push (λ n. IsRootName s n.name.now) [] l (All-nil (λ n. IsRootName s n.name.now)) (locks t.name_is locked);
      values = All-push (HoldsValue s) [] l (All-nil (HoldsValue s)) (λ value. let bad : table_kind ≡ value_kind = sym t.of_kind ∙ value in absurd (omega (arith, bad)));
      locks = λ some. record { at = 0; counted = omega arith; named = t.name_is; of_kind = t.of_kind };
      before = λ i here.
          let e : i ≡ 0 = omega (arith, here) in
          subst (λ (k : ℕ). IsBefore (name_at (l ∷ []) k) (codes "/")) (sym e) (subst (λ (x : List ℕ). IsBefore x (codes "/")) (sym t.name_is) refl);
    }

-- `/` is the next one
pub start : (s : Settings) (names : List Named) (n : Named) → AreBeforeSlash s names → IsTopName n (codes "/") list_kind → AreKeyPaths (keys s.values) → AreNamesSoFar s (names ++ n ∷ []) (length names) (codes "/") (keys s.values)
start s names n b t paths = record {
  done = [];
  listed = refl;
  of_done = record {
    good =
        all_good names n
        (good_push names n (length names) (none_missing names (length names) b.good) (placed_top names n t.parent (fit_slash n t) t.from (inl (t.of_kind, top_key n (codes "/") list_kind t)))
        (λ i here. rw t.name_is (b.before i here)) (λ here. absurd (omega (arith, here))))
        (λ list. t.name_is);
    each = All-push (λ n. IsRootName s n.name.now) names n b.each (top t.name_is);
    values = All-push (HoldsValue s) names n b.values (λ value. let bad : list_kind ≡ value_kind = sym t.of_kind ∙ value in absurd (omega (arith, bad)));
    keys = All-nil (λ path. IsThere (names ++ n ∷ []) path value_kind);
    top = rw (sym t.name_is, sym t.of_kind) (there_pushed names n);
    locks = λ some. there_kept names (n ∷ []) (codes ".locks") table_kind (b.locks some);
  };
  last_is = last_pushed names n ∙ t.name_is;
  lies = directory_pushed names (codes "/") n 0 t.name_is t.of_kind (omega arith);
  innermost = λ i slash.
      let len : length (name_at (names ++ n ∷ []) (length names)) ≡ 1 = ap (λ (x : Named). length x.name.now) (pushed names n) ∙ ap (λ (x : List ℕ). length x) t.name_is in
      let here = slash.here in
      omega (arith, here, len);
  rising = keys_rise s.values;
  before = root_before_keys s paths;
}

-- the first of the locks, if there is one
abbrev IsFirst : List (List ℕ) → List (List ℕ) → Option LockPath → Type 0
IsFirst left after first = MatchOption first ((left ≡ []) × (after ≡ [])) (λ path. left ≡ lock_text path ∷ after)

pub some_lock : (s : Settings) (left after : List (List ℕ)) (first : Option LockPath) → left ≡ keys s.locks → IsFirst left after first → is_some first ≡ true → HasLocks s
some_lock s left after None is steps some = let bad : false ≡ true = some in cc
some_lock s left after (Some path) is steps some = (lock_text path, listed_is_kept s.locks [] after (lock_text path) (sym is ∙ steps))

pub no_lock : (s : Settings) (left after : List (List ℕ)) (first : Option LockPath) → left ≡ keys s.locks → IsFirst left after first → is_some first ≡ false → HasLocks s → ⊥
no_lock s left after None is steps none locked = grind (arith, common_steps, kept_at, locks)
no_lock s left after (Some path) is steps none locked = grind (arith, common_steps, kept_at, locks)

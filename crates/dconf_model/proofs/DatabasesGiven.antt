-- What opened databases give: their levels, their first values and the numbers of their databases
-- are those of rows and locks.
use Rattle.std.specs.Prelude.{◌≡◌, ℕ, zero, suc, ◌+◌, Bool, true, List, [], ◌∷◌, map, drop, Option, Some, None, Result, Ok, cond, refl, option_map, option_and_then, is_some}
use Rattle.std.proofs.Common.{ap, sym, ◌∙◌, subst}
use Rattle.std.specs.List.{list_any}
use Rattle.std.specs.Option.{option_or}
use Rattle.std.specs.FinMap.{get, keys, get-empty}
use Rattle.std.specs.Cmp.Lexicographic.{slice_cmp}
use Rattle.std.specs.Ordering.{nat_cmp}
use Rattle.gv_model.specs.Tree.{Tree}
use Rattle.dconf_model.specs.Bytes.{MaybeBytes}
use Rattle.dconf_model.specs.Settings.{Settings, no_settings}
use Rattle.dconf_model.specs.Locks.{covers}
use Rattle.dconf_model.specs.Values.{held_value}
use Rattle.dconf_model.specs.Sources.{Given, FileFault, last_value, taken, first_file}
use Rattle.dconf_model.specs.Databases.{IsMadeOfGiven, IsLayer, AreLayers}
use Rattle.dconf_model.specs.Layers.{Place, greatest_from, locks_path, later_or, first_from, place_or}
use Rattle.dconf_model.specs.Stores.{GivesRows, AllGive, FilesGive, MissingGivesNothing, CompiledGives, level_given, first_given, first_number}
use Rattle.dconf_model.proofs.PathMaps.{key_in, same_test, no_truth}
use Rattle.dconf_model.proofs.DatabaseLaws.{says_one_thing, written_says_settings}
use Rattle.dconf_model.proofs.SourceLocks.{any_path, turned, locked_paths}
use Rattle.dconf_model.proofs.LastValues.{last_whole}
use Rattle.dconf_model.proofs.HeldLaws.{is_held, held_of_stored, held_there}
use Rattle.dconf_model.proofs.WholeRows.{given_whole}

-- a file's layer is one
pub one_layer : (item : MaybeBytes) (s t : Settings) → IsLayer item s → IsLayer item t → s ≡ t
one_layer None s t h k = h ∙ sym k
one_layer (Some file) s t h k = says_one_thing file s t h.2 k.2

-- files that give are layers that give
pub files_give : (items : List MaybeBytes) (gs : List Given) (ss : List Settings) → FilesGive items gs → AreLayers items ss → AllGive ss gs
files_give [] [] [] h k = tt
files_give [] [] (s ∷ ss) h k = absurd k
files_give [] (g ∷ gs) ss h k = absurd h
files_give (item ∷ items) [] ss h k = absurd h
files_give (item ∷ items) (g ∷ gs) [] h k = absurd k
files_give (item ∷ items) (g ∷ gs) (s ∷ ss) h k =
    (subst (λ (t : Settings). GivesRows t g) (one_layer item h.0.0 s h.0.1 k.0) h.0.2, files_give items gs ss h.1 k.1)

-- ---- kinds of databases

pub missing_gives_nothing : MissingGivesNothing
missing_gives_nothing = (
  no_settings,
  refl,
  record {
    values = λ path. ap (option_and_then held_value) (get-empty (slice_cmp nat_cmp) path);
    locks = λ path. ap is_some (get-empty (slice_cmp nat_cmp) path);
  },
)

pub compiled_gives : CompiledGives
compiled_gives files locks g file e h =
    let by : IsMadeOfGiven (Ok g) (first_file (taken files)) (Ok file) =
    subst (λ (r : Result Given FileFault). IsMadeOfGiven r (first_file (taken files)) (Ok file)) e h in
    let written = written_says_settings by.0 file (locked_paths files locks g by.0 e by.1) by.2 in (
      by.0,
      (by.2.opens, by.2.sound, written),
      record {
        values = λ path.
            ap (option_and_then held_value) (by.1.values path)
            ∙ held_of_stored (last_value g.values path) (last_whole g.values path (given_whole files locks g e));
        locks = by.1.locks;
      },
    )

-- ---- levels

same_locks : (s : Settings) (g : Given) → GivesRows s g → (f : List ℕ → Bool) → list_any f (keys s.locks) ≡ list_any (λ lock. f lock.path) g.locks
same_locks s g h f =
    same_test f (keys s.locks) (map (λ lock. lock.path) g.locks) (λ p. sym (key_in s.locks p) ∙ (h.locks p ∙ turned p g.locks)) ∙ any_path f g.locks

pub level_gives : (from : ℕ) (ss : List Settings) (gs : List Given) (path : List ℕ) → AllGive ss gs → greatest_from from (locks_path path) ss ≡ level_given from gs path
level_gives from [] [] path h = refl
level_gives from [] (g ∷ gs) path h = absurd h
level_gives from (s ∷ ss) [] path h = absurd h
level_gives from (s ∷ ss) (g ∷ gs) path h =
    ap (λ n. later_or n (cond (locks_path path s) from 0)) (level_gives (from + 1) ss gs path h.1)
    ∙ ap (λ b. later_or (level_given (from + 1) gs path) (cond b from 0)) (same_locks s g h.0 (λ lock. covers lock path))

-- ---- values

-- the value at the first place that has one
abbrev pub value_from_layers : ℕ → List Settings → List ℕ → Option Tree
value_from_layers i ss path = option_and_then held_value (option_map (λ p. p.1) (first_from i ss path))

-- what is there is taken
first_there : {X : Type 0} (o later : Option X) → is_some o ≡ true → o ≡ option_or o later
first_there (Some x) later e = refl
first_there None later e = absurd (no_truth e)

-- a layer before others
pub value_before : (i : ℕ) (s : Settings) (ss : List Settings) (path : List ℕ) →
    value_from_layers i (s ∷ ss) path ≡ option_or (option_and_then held_value (get s.values path)) (value_from_layers (i + 1) ss path)
value_before i s ss path = go (get s.values path)
  where
    go : (o : Option (List ℕ)) → option_and_then held_value (option_map (λ p. p.1) (place_or i o (first_from (i + 1) ss path))) ≡ option_or (option_and_then held_value o) (value_from_layers (i + 1) ss path)
    go None = refl
    go (Some bytes) = first_there (held_value bytes) (value_from_layers (i + 1) ss path) (is_held bytes)

pub first_gives : (i : ℕ) (ss : List Settings) (gs : List Given) (path : List ℕ) → AllGive ss gs → value_from_layers i ss path ≡ first_given gs path
first_gives i [] [] path h = refl
first_gives i [] (g ∷ gs) path h = absurd h
first_gives i (s ∷ ss) [] path h = absurd h
first_gives i (s ∷ ss) (g ∷ gs) path h =
    value_before i s ss path
    ∙ (ap (λ o. option_or o (value_from_layers (i + 1) ss path)) (h.0.values path)
    ∙ ap (option_or (last_value g.values path)) (first_gives (i + 1) ss gs path h.1))

pub dropped_give : (n : ℕ) (ss : List Settings) (gs : List Given) → AllGive ss gs → AllGive (drop n ss) (drop n gs)
dropped_give zero ss gs h = h
dropped_give (suc n) [] [] h = h
dropped_give (suc n) [] (g ∷ gs) h = absurd h
dropped_give (suc n) (s ∷ ss) [] h = absurd h
dropped_give (suc n) (s ∷ ss) (g ∷ gs) h = dropped_give n ss gs h.1

-- a layer has the paths that are given
pub has_given : (s : Settings) (g : Given) (p : List ℕ) → GivesRows s g → is_some (get s.values p) ≡ is_some (last_value g.values p)
has_given s g p h = sym (held_there (get s.values p)) ∙ ap is_some (h.values p)

-- ---- numbers

abbrev pub number_of : Option Place → Option ℕ
number_of o = option_map (λ p. p.0) o

pub number_before : (i : ℕ) (o : Option (List ℕ)) (later : Option Place) → number_of (place_or i o later) ≡ cond (is_some o) (Some i) (number_of later)
number_before i None later = refl
number_before i (Some bytes) later = refl

pub number_gives : (i : ℕ) (ss : List Settings) (gs : List Given) (path : List ℕ) → AllGive ss gs → number_of (first_from i ss path) ≡ first_number i gs path
number_gives i [] [] path h = refl
number_gives i [] (g ∷ gs) path h = absurd h
number_gives i (s ∷ ss) [] path h = absurd h
number_gives i (s ∷ ss) (g ∷ gs) path h =
    number_before i (get s.values path) (first_from (i + 1) ss path)
    ∙ (ap (λ b. cond b (Some i) (number_of (first_from (i + 1) ss path))) (has_given s g path h.0)
    ∙ ap (cond (is_some (last_value g.values path)) (Some i)) (number_gives (i + 1) ss gs path h.1))

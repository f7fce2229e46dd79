-- A store after turns of programs of any kind, where files of it may be bad.
use Rattle.std.proofs.Common.{◌≡◌, ◌∷◌, ◌∙◌, [], inl, inr, ℕ, true, List, Option, Some, None, nat_lt, drop, refl, sym, ap, subst, map}
use Rattle.std.specs.Prelude.{option_and_then}
use Rattle.std.specs.FinMap.{get}
use Rattle.std.specs.List.{AllByRecursion}
use Rattle.dconf_model.specs.Bytes.{MaybeBytes}
use Rattle.dconf_model.specs.Changes.{Change, apply, saved}
use Rattle.dconf_model.specs.Commands.{Command}
use Rattle.dconf_model.specs.Databases.{AreLayers, IsDatabaseOf, IsGood, IsLayer}
use Rattle.dconf_model.specs.Folders.{read_content}
use Rattle.dconf_model.specs.Layers.{Layers, greatest_from, locks_path}
use Rattle.dconf_model.specs.Outcomes.{Outcome, Replacement, SavesSaying}
use Rattle.dconf_model.specs.Profiles.{Database, database_file, has_writable, user_file}
use Rattle.dconf_model.specs.Programs.{FolderHolds, asked_change}
use Rattle.dconf_model.specs.Reads.{Input}
use Rattle.dconf_model.specs.Settings.{Settings, no_settings}
use Rattle.dconf_model.specs.Sources.{Given, last_value}
use Rattle.dconf_model.specs.Stores.{AllGive, GivesRows, IsWholeChange, OwnValues, StoreHolds, own_after, own_changed}
use Rattle.dconf_model.specs.Values.{held_value}
use Rattle.dconf_model.proofs.DatabasesGiven.{level_gives}
use Rattle.dconf_model.proofs.Histories.{MayRun}
use Rattle.dconf_model.proofs.ProgramLaws.{Refuses, store_if_read}
use Rattle.dconf_model.proofs.RunChanges.{Makes, asked_whole, changing_of, comes_to, saved_again}
use Rattle.dconf_model.proofs.SoundGiven.{sound_gives}
use Rattle.dconf_model.proofs.StandingPrints.{default_seen, locks_from, locks_to}
use Rattle.dconf_model.proofs.StoreListings.{names_from, names_to}
use Rattle.dconf_model.proofs.StoreValues.{after_change, origin_seen, own_joined, value_seen}
use Rattle.dconf_turn.proofs.SurvivalLaws.{no_turn_is_lost}
use Rattle.dconfdb_calls.specs.Changed.{AreMadeInTurn, change_meant}
use Rattle.dconfdb_calls.specs.declared.changes.DconfdbChange.{DconfdbChange}
use Rattle.dconfdb_calls.specs.MixedTurns.{Asked, RunMakes, ShowsGiven, changes_asked}
use Rattle.dconfdb_calls.specs.MixedTurns.Asked.{calls, runs}
use Rattle.dconfdb_calls.specs.Turns.{MakesFile}
use Rattle.dconf_runs.specs.BadFiles.{AreCounted, CountGives, CountsAs, CountsGive, CountedTurnMakes, MixedTurnsMendAll}
use Rattle.dconf_runs.proofs.CountedFiles.{counts_are_sound, files_count_alike}

-- ---- how a store stands

-- what counts of the user's file has these values
abbrev HasOwn : MaybeBytes → OwnValues → Type 0
HasOwn c own = (it : MaybeBytes) (s : Settings) → CountsAs c it → IsLayer it s → (path : List ℕ) → option_and_then held_value (get s.values path) ≡ own path

-- and what counts of the others gives so
abbrev OthersGive : List MaybeBytes → List Given → Type 0
OthersGive files gs = (others : List MaybeBytes) (later : List Settings) → AreCounted files others → AreLayers others later → AllGive later gs

own_given : (c : MaybeBytes) (g : Given) → CountGives c g → HasOwn c (last_value g.values)
own_given c g give it s is layer path =
    let same : s ≡ give.2.0 = files_count_alike c it give.0 s give.2.0 is give.1 layer give.2.1 in
    subst (λ (x : Settings). option_and_then held_value (get x.values path) ≡ last_value g.values path) (sym same) (give.2.2.values path)

others_given : (files : List MaybeBytes) (gs : List Given) → CountsGive files gs → OthersGive files gs
others_given [] [] give [] [] are layers = tt
others_given [] [] give [] (s ∷ later) are layers = absurd layers
others_given [] [] give (o ∷ others) later are layers = absurd are
others_given [] (g ∷ gs) give others later are layers = absurd give
others_given (file ∷ files) [] give others later are layers = absurd give
others_given (file ∷ files) (g ∷ gs) give [] later are layers = absurd are
others_given (file ∷ files) (g ∷ gs) give (o ∷ others) [] are layers = absurd layers
others_given (file ∷ files) (g ∷ gs) give (o ∷ others) (s ∷ later) are layers =
    let first = give.0 in
    let same : s ≡ first.2.0 = files_count_alike file o first.0 s first.2.0 are.0 first.1 layers.0 first.2.1 in
    (subst (λ (x : Settings). GivesRows x g) (sym same) first.2.2, others_given files gs give.1 others later are.1 layers.1)

-- what counts can be opened
layer_of : (it : MaybeBytes) → IsGood it → (s : Settings) × IsLayer it s
layer_of None good = (no_settings, refl)
layer_of (Some file) good = let g = sound_gives file good.0 good.1 in (g.1.0, g.1.1)

layers_of : (files others : List MaybeBytes) → AreCounted files others → (later : List Settings) × AreLayers others later
layers_of [] [] are = ([], tt)
layers_of [] (o ∷ others) are = absurd are
layers_of (file ∷ files) [] are = absurd are
layers_of (file ∷ files) (o ∷ others) are =
    let s = layer_of o (counts_are_sound file o are.0) in
    let rest = layers_of files others are.1 in (s.0 ∷ rest.0, (s.1, rest.1))

module _ (files : List MaybeBytes) (gs : List Given) (give : OthersGive files gs) where
  module _ (c : MaybeBytes) (own : OwnValues) (has : HasOwn c own) (it : MaybeBytes) (others : List MaybeBytes) (is : CountsAs c it) (are : AreCounted files others) where
    holds_at : (l : Layers) (layers : List Settings) → l.layers ≡ layers → AreLayers (it ∷ others) layers → StoreHolds others own gs l
    holds_at l [] same opened = absurd opened
    holds_at l (s ∷ later) same opened = record {
      first = s;
      later = later;
      layers = same;
      others_are = opened.1;
      gives = give others later are opened.1;
      own_is = has it s is opened.0;
    }

    holds : (l : Layers) → AreLayers (it ∷ others) l.layers → StoreHolds others own gs l
    holds l opened = holds_at l l.layers refl opened

  -- ---- what is saved

  itself : (file : List ℕ) → IsGood (Some file) → CountsAs (Some file) (Some file)
  itself file good = inr (inl (good, refl))

  own_saved : (others : List MaybeBytes) (own : OwnValues) (m : Layers) (file : List ℕ) → StoreHolds others own gs m → IsDatabaseOf (saved m.layers) file
      → HasOwn (Some file) own
  own_saved others own m file h made it s is layer path =
      let again = saved_again others own gs m file h made in
      let held = again.held true in
      let first : held.first ≡ again.settings = first_of held.first again.settings held.later again.later held.layers in
      let good : IsGood (Some file) = (made.opens, made.sound) in
      let same : s ≡ again.settings = files_count_alike (Some file) it (Some file) s again.settings is (itself file good) layer again.layers.0 in
      subst (λ (x : Settings). option_and_then held_value (get x.values path) ≡ own path) (first ∙ sym same) (held.own_is path)
    where
      first_of : (a b : Settings) (more rest : List Settings) → b ∷ rest ≡ a ∷ more → a ≡ b
      first_of a b more rest e = cc

  at_new : (new : MaybeBytes) (file : List ℕ) (own : OwnValues) → new ≡ Some file → HasOwn (Some file) own → HasOwn new own
  at_new new file own is has = subst (λ (x : MaybeBytes). HasOwn x own) (sym is) has

  -- ---- a turn by the calls

  changed_all : (others : List MaybeBytes) (own : OwnValues) (cs : List DconfdbChange) (l m : Layers) → StoreHolds others own gs l → AreMadeInTurn cs l m
      → StoreHolds others (own_after gs own (map change_meant cs)) gs m
  changed_all others own [] l m h same = subst (StoreHolds others own gs) same h
  changed_all others own (c ∷ cs) l m h made =
      let next = after_change others own gs l made.0 h (change_meant c) made.1 made.3 in
      changed_all others (own_changed gs own (change_meant c)) cs made.0 m next made.4

  by_calls : (c it new : MaybeBytes) (others : List MaybeBytes) (own : OwnValues) (changes : List DconfdbChange) → HasOwn c own → CountsAs c it → AreCounted files others
      → MakesFile others it changes new → HasOwn new (own_after gs own (map change_meant changes))
  by_calls c it new others own changes has is are made =
      let h = holds c own has it others is are made.before made.opened in
      let all = changed_all others own changes made.before made.changed.after h made.changed.changed in
      at_new new made.file (own_after gs own (map change_meant changes)) made.new_is
      (own_saved others (own_after gs own (map change_meant changes)) made.changed.after made.file all made.changed.saved_is)

  -- ---- a run of the command

  abbrev bytes_or_none : Option Replacement → List ℕ
  bytes_or_none None = []
  bytes_or_none (Some r) = r.bytes

  some_is_none : (r : Replacement) → Some r ≡ None → ⊥
  some_is_none r e = cc

  module _ (profile : List ℕ) (d : Database) (ds : List Database) (c it new : MaybeBytes) (others : List MaybeBytes) (own : OwnValues) (command : Command)
      (input : Input) (has : HasOwn c own) (is : CountsAs c it) (are : AreCounted files others) (r : RunMakes profile d ds others it command input new) where
    abbrev after : OwnValues
    after = own_after gs own (asked_change command input)

    abbrev first : (s : Settings) × IsLayer it s
    first = layer_of it (counts_are_sound c it is)

    abbrev rest : (later : List Settings) × AreLayers others later
    rest = layers_of files others are

    abbrev store : Layers
    store = record { layers = first.0 ∷ rest.0; writable = has_writable (d ∷ ds) }

    abbrev folder_holds : FolderHolds (read_content r.folder) profile d ds own gs
    folder_holds = record {
      text = r.stands.text;
      profile_is = r.stands.profile_is;
      names = r.stands.names;
      first = it;
      others = others;
      read = r.stands.read;
      opened = store;
      layers = (first.1, rest.1);
      writable = refl;
      held = holds c own has it others is are store (first.1, rest.1);
    }

    abbrev o : Outcome
    o = r.makes.0

    not_refused : Refuses o → ⊥
    not_refused why = some_is_none (record { name = database_file d; bytes = r.file }) (sym r.makes.2 ∙ ap (λ (x : Outcome). x.change) why.1)

    own_by : (change : Change) → asked_change command input ≡ change ∷ [] → Makes (database_file d) (apply folder_holds.opened change) o → HasOwn new after
    own_by change asks made =
        let whole = (subst (AllByRecursion IsWholeChange) asks (asked_whole profile command input r.changes)).0 in
        let h = after_change others own gs folder_holds.opened made.0 folder_holds.held change whole made.2 in
        let same : r.file ≡ made.1 = ap bytes_or_none (sym r.makes.2 ∙ ap (λ (x : Outcome). x.change) made.5) in
        at_new new made.1 after (r.new_is ∙ ap (λ (x : List ℕ). Some x) same)
        (subst (λ cs. HasOwn (Some made.1) (own_after gs own cs)) (sym asks) (own_saved others (own_changed gs own change) made.0 made.1 h made.3))

    by_run : HasOwn new after
    by_run = elim (changing_of r.reads profile command input o r.changes r.makes.1) [
      | inl why ↦ absurd (not_refused why)
      | inr ch ↦ elim (store_if_read r.folder r.reads profile d ds own gs folder_holds (λ databases l. SavesSaying ch.3 ch.1 (user_file databases) (apply l ch.0)) o r.given ch.4) [
        | inl why ↦ absurd (not_refused why)
        | inr on ↦ elim (comes_to (apply folder_holds.opened ch.0) ch.3 ch.1 (database_file d) o on) [
          | inl why ↦ absurd (not_refused why)
          | inr made ↦ own_by ch.0 ch.2 made
        ]
      ]
    ]

  -- ---- one after another

  module _ (profile : List ℕ) (d : Database) (ds : List Database) where
    after_turns : (own : OwnValues) (c last : MaybeBytes) (kept : List Asked) → HasOwn c own → MayRun (CountedTurnMakes profile d ds files) c kept last →
        HasOwn last (own_after gs own (changes_asked kept))
    after_turns own c last [] has is = subst (λ (x : MaybeBytes). HasOwn x own) (sym is) has
    after_turns own c last (calls changes ∷ more) has ran =
        let after = own_after gs own (map change_meant changes) in
        let turn = ran.1 in
        subst (λ x. HasOwn last x) (own_joined gs own (map change_meant changes) (changes_asked more))
        (after_turns after ran.0 last more (by_calls c turn.0 ran.0 turn.1 own changes has turn.2 turn.3 turn.4) ran.2)
    after_turns own c last (runs command input ∷ more) has ran =
        let after = own_after gs own (asked_change command input) in
        let turn = ran.1 in
        subst (λ x. HasOwn last x) (own_joined gs own (asked_change command input) (changes_asked more))
        (after_turns after ran.0 last more (by_run profile d ds c turn.0 ran.0 turn.1 own command input has turn.2 turn.3 turn.4) ran.2)

  shown : (others : List MaybeBytes) (own : OwnValues) (l : Layers) → StoreHolds others own gs l → ShowsGiven own gs l
  shown others own l h = record {
    value = value_seen others own gs l h;
    from = origin_seen others own gs l h;
    otherwise = λ path. default_seen others own gs l h l.writable refl path;
    locked = λ path. ap (λ ls. nat_lt 0 (greatest_from 1 (locks_path path) (drop 1 ls))) h.layers ∙ ap (nat_lt 0) (level_gives 1 h.later gs path h.gives);
    children = λ directory part. (names_from others own gs l h directory part, names_to others own gs l h directory part);
    locks = λ directory lock. (locks_from others own gs l h directory lock, locks_to others own gs l h directory lock);
  }

pub mixed_turns_mend_all : MixedTurnsMendAll
mixed_turns_mend_all profile d ds files lock old new happened c g gs apart settled give came left =
    let first = read_content old (database_file d) in
    let own = last_value g.values in
    let kept = no_turn_is_lost (CountedTurnMakes profile d ds files) (database_file d) lock old new happened c apart settled came left in
    let others_give = others_given files gs give.1 in
    let has = after_turns files gs others_give profile d ds own first c kept.0 (own_given first g give.0) kept.2 in
    let last = own_after gs own (changes_asked kept.0) in
    (kept.0, kept.1, λ it others l is are opened. shown files gs others_give others last l (holds files gs others_give c last has it others is are l opened))

-- A store after turns of programs of any kind.
use Rattle.std.proofs.Common.{◌≡◌, ◌⊎◌, ◌∷◌, ◌∙◌, [], inl, inr, ℕ, true, List, Option, Some, None, nat_lt, drop, refl, sym, ap, subst, map}
use Rattle.std.specs.List.{AllByRecursion}
use Rattle.dconf_model.specs.Bytes.{MaybeBytes}
use Rattle.dconf_model.specs.Changes.{Change, apply, saved}
use Rattle.dconf_model.specs.Commands.{Command}
use Rattle.dconf_model.specs.Databases.{AreLayers, IsDatabaseOf}
use Rattle.dconf_model.specs.Folders.{Event, read_content}
use Rattle.dconf_model.specs.Layers.{Layers, greatest_from, locks_path}
use Rattle.dconf_model.specs.Outcomes.{Outcome, Replacement, SavesSaying}
use Rattle.dconf_model.specs.Profiles.{Database, database_file, has_writable, user_file}
use Rattle.dconf_model.specs.Programs.{FolderHolds, asked_change}
use Rattle.dconf_model.specs.Reads.{Input}
use Rattle.dconf_model.specs.Settings.{Settings}
use Rattle.dconf_model.specs.Sources.{Given, last_value}
use Rattle.dconf_model.specs.Stores.{FilesGive, IsWholeChange, OwnValues, StoreHolds, own_after, own_changed}
use Rattle.dconf_model.proofs.DatabasesGiven.{level_gives}
use Rattle.dconf_model.proofs.Histories.{MayRun}
use Rattle.dconf_model.proofs.ProgramLaws.{Refuses, store_if_read}
use Rattle.dconf_model.proofs.ReopenLaws.{one_list}
use Rattle.dconf_model.proofs.RunChanges.{Makes, asked_whole, changing_of, comes_to, saved_again}
use Rattle.dconf_model.proofs.StandingPrints.{default_seen, locks_from, locks_to}
use Rattle.dconf_model.proofs.StoreListings.{names_from, names_to}
use Rattle.dconf_model.proofs.StoreValues.{after_change, opened_holds, origin_seen, own_joined, value_seen}
use Rattle.dconf_turn.specs.Hosts.{DidStep, IsLockMade, IsNoted}
use Rattle.dconf_turn.specs.Histories.{RanSteps, Taken}
use Rattle.dconf_turn.specs.Jobs.{Job}
use Rattle.dconf_turn.specs.declared.turn.Turn.{Turn}
use Rattle.dconf_turn.specs.declared.step.Answer.{Answer}
use Rattle.dconf_turn.specs.declared.step.Answer.TheVariants.{Yes, No}
use Rattle.dconf_turn.specs.declared.step.Step.{Step}
use Rattle.dconf_turn.specs.declared.step.Step.TheVariants.{Lock, Read, Make, Create, Append, Sync, SetAside, Exchange, Rename, SyncFolder, Remove, Settle, Note, Unlock, Done}
use Rattle.dconf_turn.proofs.SurvivalLaws.{no_turn_is_lost}
use Rattle.dconfdb_calls.proofs.AfterTurns.{after_all}
use Rattle.dconfdb_calls.specs.Changed.{change_meant}
use Rattle.dconfdb_calls.specs.MixedTurns.{Asked, MixedTurnsGiveAll, RunMakes, ShowsGiven, TurnMakes, UnlockedTurnsCount, changes_asked}
use Rattle.dconfdb_calls.specs.MixedTurns.Asked.{calls, runs}
use Rattle.dconfdb_calls.specs.Turns.{MakesFile}

-- ---- how a store stands

module _ (others : List MaybeBytes) (gs : List Given) where
  -- the user's file can be opened beside these, and has these values
  record Standing (c : MaybeBytes) (own : OwnValues) : Type 0 where
    layers : List Settings
    are : AreLayers (c ∷ others) layers
    held : StoreHolds others own gs (record { layers = layers; writable = true })

  -- however it is opened
  held_by : (c : MaybeBytes) (own : OwnValues) (s : Standing c own) (l : Layers) → AreLayers (c ∷ others) l.layers → StoreHolds others own gs l
  held_by c own s l are = record {
    first = s.held.first;
    later = s.held.later;
    layers = one_list (c ∷ others) l.layers s.layers are s.are ∙ s.held.layers;
    others_are = s.held.others_are;
    gives = s.held.gives;
    own_is = s.held.own_is;
  }

  -- once it is saved
  saved_stands : (own : OwnValues) (m : Layers) (file : List ℕ) → StoreHolds others own gs m → IsDatabaseOf (saved m.layers) file → Standing (Some file) own
  saved_stands own m file h made =
      let again = saved_again others own gs m file h made in
      record { layers = again.settings ∷ again.later; are = again.layers; held = again.held true }

  stands_at : (c d : MaybeBytes) (own : OwnValues) → d ≡ c → Standing c own → Standing d own
  stands_at c d own is s = subst (λ x. Standing x own) (sym is) s

  -- ---- a turn by the calls

  by_calls : (old new : MaybeBytes) (own : OwnValues) (changes : List _) → Standing old own → MakesFile others old changes new →
      Standing new (own_after gs own (map change_meant changes))
  by_calls old new own changes s made =
      let all = after_all others gs own changes made.before made.changed.after (held_by old own s made.before made.opened) made.changed.changed in
      stands_at (Some made.file) new (own_after gs own (map change_meant changes)) made.new_is
      (saved_stands (own_after gs own (map change_meant changes)) made.changed.after made.file all made.changed.saved_is)

  -- ---- a run of the command

  abbrev bytes_or_none : Option Replacement → List ℕ
  bytes_or_none None = []
  bytes_or_none (Some r) = r.bytes

  some_is_none : (r : Replacement) → Some r ≡ None → ⊥
  some_is_none r e = cc

  module _ (profile : List ℕ) (d : Database) (ds : List Database) (old new : MaybeBytes) (own : OwnValues) (command : Command) (input : Input)
      (s : Standing old own) (r : RunMakes profile d ds others old command input new) where
    abbrev after : OwnValues
    after = own_after gs own (asked_change command input)

    abbrev folder_holds : FolderHolds (read_content r.folder) profile d ds own gs
    folder_holds = record {
      text = r.stands.text;
      profile_is = r.stands.profile_is;
      names = r.stands.names;
      first = old;
      others = others;
      read = r.stands.read;
      opened = record { layers = s.layers; writable = has_writable (d ∷ ds) };
      layers = s.are;
      writable = refl;
      held = held_by old own s (record { layers = s.layers; writable = has_writable (d ∷ ds) }) s.are;
    }

    abbrev o : Outcome
    o = r.makes.0

    not_refused : Refuses o → ⊥
    not_refused why = some_is_none (record { name = database_file d; bytes = r.file }) (sym r.makes.2 ∙ ap (λ (x : Outcome). x.change) why.1)

    stands_after : (change : Change) → asked_change command input ≡ change ∷ [] → Makes (database_file d) (apply folder_holds.opened change) o → Standing new after
    stands_after change asks made =
        let whole = (subst (AllByRecursion IsWholeChange) asks (asked_whole profile command input r.changes)).0 in
        let h = after_change others own gs folder_holds.opened made.0 folder_holds.held change whole made.2 in
        let same : r.file ≡ made.1 = ap bytes_or_none (sym r.makes.2 ∙ ap (λ (x : Outcome). x.change) made.5) in
        stands_at (Some made.1) new after (r.new_is ∙ ap (λ (x : List ℕ). Some x) same)
        (subst (λ cs. Standing (Some made.1) (own_after gs own cs)) (sym asks) (saved_stands (own_changed gs own change) made.0 made.1 h made.3))

    by_run : Standing new after
    by_run = elim (changing_of r.reads profile command input o r.changes r.makes.1) [
      | inl why ↦ absurd (not_refused why)
      | inr c ↦ elim (store_if_read r.folder r.reads profile d ds own gs folder_holds (λ databases l. SavesSaying c.3 c.1 (user_file databases) (apply l c.0)) o r.given c.4) [
        | inl why ↦ absurd (not_refused why)
        | inr on ↦ elim (comes_to (apply folder_holds.opened c.0) c.3 c.1 (database_file d) o on) [
          | inl why ↦ absurd (not_refused why)
          | inr made ↦ stands_after c.0 c.2 made
        ]
      ]
    ]

  -- ---- one after another

  module _ (profile : List ℕ) (d : Database) (ds : List Database) where
    after_turns : (own : OwnValues) (first last : MaybeBytes) (kept : List Asked) → Standing first own → MayRun (TurnMakes profile d ds others) first kept last →
        Standing last (own_after gs own (changes_asked kept))
    after_turns own first last [] s is = stands_at first last own is s
    after_turns own first last (calls changes ∷ more) s ran =
        let after = own_after gs own (map change_meant changes) in
        subst (λ x. Standing last x) (own_joined gs own (map change_meant changes) (changes_asked more))
        (after_turns after ran.0 last more (by_calls first ran.0 own changes s ran.1) ran.2)
    after_turns own first last (runs command input ∷ more) s ran =
        let after = own_after gs own (asked_change command input) in
        subst (λ x. Standing last x) (own_joined gs own (asked_change command input) (changes_asked more))
        (after_turns after ran.0 last more (by_run profile d ds first ran.0 own command input s ran.1) ran.2)

  shown : (c : MaybeBytes) (own : OwnValues) (s : Standing c own) (l : Layers) → AreLayers (c ∷ others) l.layers → ShowsGiven own gs l
  shown c own s l are =
      let h = held_by c own s l are in
      record {
        value = value_seen others own gs l h;
        from = origin_seen others own gs l h;
        otherwise = λ path. default_seen others own gs l h l.writable refl path;
        locked = λ path. ap (λ ls. nat_lt 0 (greatest_from 1 (locks_path path) (drop 1 ls))) h.layers ∙ ap (nat_lt 0) (level_gives 1 h.later gs path h.gives);
        children = λ directory part. (names_from others own gs l h directory part, names_to others own gs l h directory part);
        locks = λ directory lock. (locks_from others own gs l h directory lock, locks_to others own gs l h directory lock);
      }

-- files that give something can be opened
opened : (files : List MaybeBytes) (gs : List Given) → FilesGive files gs → (layers : List Settings) × AreLayers files layers
opened [] [] give = ([], tt)
opened (file ∷ files) (g ∷ gs) give = let rest = opened files gs give.1 in (give.0.0 ∷ rest.0, (give.0.1, rest.1))
opened [] (g ∷ gs) give = absurd give
opened (file ∷ files) [] give = absurd give

first_stands : (first : MaybeBytes) (others : List MaybeBytes) (g : Given) (gs : List Given) → FilesGive (first ∷ others) (g ∷ gs) → Standing others gs first (last_value g.values)
first_stands first others g gs give =
    let o = opened (first ∷ others) (g ∷ gs) give in
    let l : Layers = record { layers = o.0; writable = true } in
    record { layers = o.0; are = o.1; held = opened_holds first others g gs l (record { layers = o.1; gives = give }) }

pub mixed_turns_give_all : MixedTurnsGiveAll
mixed_turns_give_all profile d ds others lock old new happened c g gs apart settled give came left =
    let first = read_content old (database_file d) in
    let own = last_value g.values in
    let kept = no_turn_is_lost (TurnMakes profile d ds others) (database_file d) lock old new happened c apart settled came left in
    let s = after_turns others gs profile d ds own first c kept.0 (first_stands first others g gs give) kept.2 in
    (kept.0, kept.1, λ l are. shown others gs c (own_after gs own (changes_asked kept.0)) s l are)

-- ---- a turn that does nothing to the lock's file

module _ (name bytes : List ℕ) (lock : Option (List ℕ)) where
  abbrev bare : Job
  bare = record { name = name; bytes = bytes; lock = None }

  abbrev locking : Job
  locking = record { name = name; bytes = bytes; lock = lock }

  no_lock : (es now : List Event) → (now ≡ es) ⊎ IsLockMade None es now → now ≡ es
  no_lock es now (inl same) = same
  no_lock es now (inr made) = let bad : None ≡ Some made.0 = made.1 in cc

  no_note : (es now : List Event) → (now ≡ es) ⊎ IsNoted None es now → now ≡ es
  no_note es now (inl same) = same
  no_note es now (inr made) = let bad : None ≡ Some made.0 = made.2 in cc

  did_so : (step : Step) (answer : Answer) (es now : List Event) → DidStep step answer bare es now → DidStep step answer locking es now
  did_so Lock answer es now did = inl (no_lock es now did)
  did_so Note answer es now did = inl (no_note es now did)
  did_so Make (Yes n) es now did = did
  did_so Make (No f) es now did = did
  did_so (Create m) (Yes n) es now did = did
  did_so (Create m) (No f) es now did = did
  did_so (Append at) (Yes n) es now did = did
  did_so (Append at) (No f) es now did = did
  did_so (Sync b) (Yes n) es now did = did
  did_so (Sync b) (No f) es now did = did
  did_so SetAside (Yes n) es now did = did
  did_so SetAside (No f) es now did = did
  did_so Exchange (Yes n) es now did = did
  did_so Exchange (No f) es now did = did
  did_so Rename (Yes n) es now did = did
  did_so Rename (No f) es now did = did
  did_so SyncFolder (Yes n) es now did = did
  did_so SyncFolder (No f) es now did = did
  did_so Remove (Yes n) es now did = did
  did_so Remove (No f) es now did = did
  did_so Settle (Yes n) es now did = did
  did_so Settle (No f) es now did = did
  did_so Read answer es now did = did
  did_so Unlock answer es now did = did
  did_so (Done o) answer es now did = did

  ran_so : (taken : List Taken) (t u : Turn) (es now : List Event) → RanSteps taken t u bare es now → RanSteps taken t u locking es now
  ran_so [] t u es now ran = ran
  ran_so (s ∷ more) t u es now ran = (ran.0, ran.1, did_so s.step s.answer es s.now ran.2, (ran.3.0, ran.3.1, ran_so more ran.3.0 u s.now now ran.3.2))

pub unlocked_turns_count : UnlockedTurnsCount
unlocked_turns_count u name bytes lock old new d = record {
  taken = d.taken;
  begun = d.begun;
  is_begun = d.is_begun;
  ran = ran_so name bytes lock d.taken d.begun u old new d.ran;
}

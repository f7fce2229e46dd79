-- What is left of the user's database by runs: each is a step of a history, and what a history
-- keeps is what is said.
use Rattle.std.specs.Prelude.{◌≡◌, ◌⊎◌, ℕ, List, [], ◌∷◌, ◌++◌, length, Some, None, Ok, refl, nat_lt, Bool, cond, true, false, option_and_then}
use Rattle.std.proofs.Common.{ap, sym, ◌∙◌, subst, inl, inr}
use Rattle.std.specs.List.{AllByRecursion}
use Rattle.std.specs.FinMap.{get}
use Rattle.dconf_model.specs.Bytes.{MaybeBytes, longest_file}
use Rattle.dconf_model.specs.FaultTexts.{device_text}
use Rattle.dconf_model.specs.Settings.{Settings, no_settings}
use Rattle.dconf_model.specs.Values.{held_value}
use Rattle.dconf_model.specs.Folders.{Event, MayLeave, MayHaveLeft, IsSettled, Grows, read_content}
use Rattle.dconf_model.specs.Replacing.{MayReplace, ReadsWhole, Replaced, MaybeReplaced}
use Rattle.dconf_model.specs.Commands.{Command}
use Rattle.dconf_model.specs.Profiles.{Database, database_file, user_file, has_writable, profile_of}
use Rattle.dconf_model.specs.Reads.{FileRead, Input, read_of}
use Rattle.dconf_model.specs.Reads.FileRead.{no_file, holds, over_size}
use Rattle.dconf_model.specs.Sources.{Given}
use Rattle.dconf_model.specs.Databases.{IsLayer, AreLayers, IsDatabaseOf}
use Rattle.dconf_model.specs.Layers.{Layers}
use Rattle.dconf_model.specs.Changes.{Change, apply, saved}
use Rattle.dconf_model.specs.Outcomes.{Outcome, Output, SavesSaying, changing, refused_output}
use Rattle.dconf_model.specs.Runs.{Ran, RunEnding, Did, AnswersIn, output_of}
use Rattle.dconf_model.specs.Runs.RunEnding.{as_meant, device}
use Rattle.dconf_model.specs.Stores.{IsWholeChange, OwnValues, own_changed, own_after, AllGive, StoreHolds}
use Rattle.dconf_model.specs.Programs.{FolderHolds, AreRead, IsApart, AreApart, IsChangeOf, found, asked_change}
use Rattle.dconf_model.specs.Survivals.{RunEnd, Attempt, CrashedSince, CameTo, CameInTurn, AskedCommand, MayBeKept, MayBeLeftOut, AreKept, asked_changes, AreSettled, NothingIsLost, NextRunFindsAll}
use Rattle.dconf_model.specs.Survivals.RunEnd.{ended, stopped as cut_off, crashed as cut_short}
use Rattle.dconf_model.specs.Survivals.AreKept.{no_attempt, keeps, leaves_out}
use Rattle.dconf_model.proofs.Histories.{Ending, Step, History, Kept, KeptBy, KeepsFirst, MayRun, IsWholeAtAnyMoment}
use Rattle.dconf_model.proofs.Histories.Ending.{done, refused, faulted, stopped, crashed}
use Rattle.dconf_model.proofs.HistoryLaws.{never_lost}
use Rattle.dconf_model.proofs.FolderLaws.{unchanged, counts_now, only_now, longer, seen_may}
use Rattle.dconf_model.proofs.ReopenLaws.{one_list}
use Rattle.dconf_model.proofs.StoreValues.{after_change}
use Rattle.dconf_model.proofs.ProgramLaws.{Refuses, store_if_read}
use Rattle.dconf_model.proofs.RunChanges.{Makes, comes_to, changing_of, asked_whole, reads_kept, read_back, saved_again}

-- ---- files that can be read

pub record CanBeRead (c : MaybeBytes) : Type 0 where
  pub read : read_of c ≡ found c
  pub settings : Settings
  pub layer : IsLayer c settings

-- a read that finds bytes found all that is there
no_file_is : (bytes : List ℕ) → holds bytes ≡ no_file → ⊥
no_file_is bytes e = cc

too_big_is : (item : MaybeBytes) → over_size ≡ found item → ⊥
too_big_is None e = cc
too_big_is (Some bytes) e = cc

no_file_holds : (item : MaybeBytes) → no_file ≡ found item → None ≡ item
no_file_holds None e = refl
no_file_holds (Some bytes) e = absurd (no_file_is bytes (sym e))

abbrev bytes_or : List ℕ → FileRead → List ℕ
bytes_or other (holds bytes) = bytes
bytes_or other r = other

all_there : (bytes : List ℕ) (item : MaybeBytes) → holds bytes ≡ found item → Some bytes ≡ item
all_there bytes None e = absurd (no_file_is bytes e)
all_there bytes (Some other) e = ap (λ b. Some b) (ap (bytes_or bytes) e)

pub found_all : (c item : MaybeBytes) → read_of c ≡ found item → c ≡ item
found_all None item e = no_file_holds item e
found_all (Some bytes) item e = go (nat_lt longest_file (length bytes)) e
  where
    go : (b : Bool) → cond b over_size (holds bytes) ≡ found item → Some bytes ≡ item
    go true e = absurd (too_big_is item e)
    go false e = all_there bytes item e

-- ---- what a command makes of the user's file

-- beside these databases, the command's change of the file is saved as that
pub record MaySave (others : List MaybeBytes) (c : MaybeBytes) (asked : AskedCommand) (e : MaybeBytes) : Type 0 where
  pub change : Change
  pub asks : asked_change asked.0 asked.1 ≡ change ∷ []
  pub whole : IsWholeChange change
  pub opened : Layers
  pub after : Layers
  pub bytes : List ℕ
  pub layers : AreLayers (c ∷ others) opened.layers
  pub accepted : apply opened change ≡ Ok after
  pub saved_is : IsDatabaseOf (saved after.layers) bytes
  pub left : e ≡ Some bytes

-- what stands is said of the layers alone
still_holds : (others : List MaybeBytes) (own : OwnValues) (gs : List Given) (c : MaybeBytes) (l m : Layers) →
    AreLayers (c ∷ others) l.layers → AreLayers (c ∷ others) m.layers → StoreHolds others own gs l → StoreHolds others own gs m
still_holds others own gs c l m k n h = record {
  first = h.first;
  later = h.later;
  layers = one_list (c ∷ others) m.layers l.layers n k ∙ h.layers;
  others_are = h.others_are;
  gives = h.gives;
  own_is = h.own_is;
}

-- what a chain of commands makes says their changes, in order
pub kept_are_said : (others : List MaybeBytes) (own : OwnValues) (gs : List Given) (c e : MaybeBytes) (kept : List AskedCommand) (l m : Layers) →
    AreLayers (c ∷ others) l.layers → StoreHolds others own gs l → MayRun (MaySave others) c kept e → AreLayers (e ∷ others) m.layers →
    StoreHolds others (own_after gs own (asked_changes kept)) gs m
kept_are_said others own gs c e [] l m k h run n = still_holds others own gs c l m k (subst (λ c. AreLayers (c ∷ others) m.layers) run n) h
kept_are_said others own gs c e (asked ∷ more) l m k h run n =
    let by = run.1 in
    let before = still_holds others own gs c l by.opened k by.layers h in
    let own1 : OwnValues = own_changed gs own by.change in
    let again = saved_again others own1 gs by.after by.bytes (after_change others own gs by.opened by.after before by.change by.whole by.accepted) by.saved_is in
    let now : Layers = record { layers = again.settings ∷ again.later; writable = true } in
    let rest = kept_are_said others own1 gs run.0 e more now m (subst (λ c. AreLayers (c ∷ others) now.layers) (sym by.left) again.layers) (again.held true) run.2 n in
    subst (λ own. StoreHolds others own gs m) (ap (λ cs. own_after gs own (cs ++ asked_changes more)) (sym by.asks)) rest

-- ---- what a run did

-- nothing, where it answered 1, or the user's file was replaced, or the device failed at it
record Made (command : Command) (input : Input) (old new : List Event) (output : Output) (user : List ℕ) (opened : Layers) : Type 0 where
  pub change : Change
  pub asks : asked_change command input ≡ change ∷ []
  pub after : Layers
  pub bytes : List ℕ
  pub accepted : apply opened change ≡ Ok after
  pub saved_is : IsDatabaseOf (saved after.layers) bytes
  pub how : ((output.status ≡ 0) × Replaced old new user bytes) ⊎ ((output ≡ refused_output (device_text user)) × MaybeReplaced old new user bytes)

abbrev RunDid : Command → Input → List Event → List Event → Output → List ℕ → Layers → Type 0
RunDid command input old new output user opened = ((output.status ≡ 1) × (new ≡ old)) ⊎ Made command input old new output user opened

module _ (profile : List ℕ) (d : Database) (ds : List Database) (own : OwnValues) (gs : List Given) (command : Command) (input : Input)
    (old new : List Event) (output : Output) (h : FolderHolds (read_content old) profile d ds own gs) where
  refused_did : (o : Outcome) (e : RunEnding) → Refuses o → Did o.change e old new → output ≡ output_of o e → (output.status ≡ 1) × (new ≡ old)
  refused_did o as_meant why did is = (
    ap (λ (p : Output). p.status) (is ∙ ap (λ (o : Outcome). o.output) why.1),
    subst (λ c. Did c as_meant old new) (ap (λ (o : Outcome). o.change) why.1) did,
  )
  refused_did o device why did is = absurd (subst (λ c. Did c device old new) (ap (λ (o : Outcome). o.change) why.1) did)

  made_did : (o : Outcome) (e : RunEnding) (change : Change) → asked_change command input ≡ change ∷ [] → Makes (database_file d) (apply h.opened change) o →
      Did o.change e old new → output ≡ output_of o e → Made command input old new output (database_file d) h.opened
  made_did o e change asks made did is = record {
    change = change;
    asks = asks;
    after = made.0;
    bytes = made.1;
    accepted = made.2;
    saved_is = made.3;
    how = by_end e (subst (λ c. Did c e old new) (ap (λ (o : Outcome). o.change) made.5) did) (is ∙ ap (λ o. output_of o e) made.5);
  }
    where
      by_end : (e : RunEnding) → Did (changing (database_file d) made.1 made.4).change e old new → output ≡ output_of (changing (database_file d) made.1 made.4) e →
          ((output.status ≡ 0) × Replaced old new (database_file d) made.1)
          ⊎ ((output ≡ refused_output (device_text (database_file d))) × MaybeReplaced old new (database_file d) made.1)
      by_end as_meant did is = inl (ap (λ (p : Output). p.status) is, did)
      by_end device did is = inr (is, did)

  run_did : IsChangeOf profile command → Ran command input old new output → RunDid command input old new output (database_file d) h.opened
  run_did of r = from r.answers
    where
      from : AnswersIn command input r.reads old new output → RunDid command input old new output (database_file d) h.opened
      from (inr m) = inl (ap (λ (p : Output). p.status) m.0, m.1)
      from (inl p) =
          let o = p.0.outcome in
          elim (changing_of r.reads profile command input o of p.0.is) [
            | inl why ↦ inl (refused_did o p.0.ending why p.1 p.0.output_is)
            | inr c ↦ elim (store_if_read old r.reads profile d ds own gs h (λ databases l. SavesSaying c.3 c.1 (user_file databases) (apply l c.0)) o r.given c.4) [
              | inl why ↦ inl (refused_did o p.0.ending why p.1 p.0.output_is)
              | inr on ↦ elim (comes_to (apply h.opened c.0) c.3 c.1 (database_file d) o on) [
                | inl why ↦ inl (refused_did o p.0.ending why p.1 p.0.output_is)
                | inr made ↦ inr (made_did o p.0.ending c.0 c.2 made p.1 p.0.output_is)
              ]
            ]
          ]

-- ---- a folder that runs go on with

-- what came of a run is a step that ended so
abbrev pub CameSo : List ℕ → RunEnd → Ending → Type 0
CameSo user (ended output) done = output.status ≡ 0
CameSo user (ended output) refused = output.status ≡ 1
CameSo user (ended output) faulted = output ≡ refused_output (device_text user)
CameSo user (ended output) _ = ⊥
CameSo user cut_off stopped = Unit {0}
CameSo user cut_off _ = ⊥
CameSo user cut_short crashed = Unit {0}
CameSo user cut_short _ = ⊥

module _ (profile : List ℕ) (d : Database) (ds : List Database) (gs : List Given) (text : List ℕ) (names : profile_of text ≡ Ok (d ∷ ds))
    (others : List MaybeBytes) (later : List Settings) (layers : AreLayers others later) (give : AllGive later gs) (apart : AreApart profile d ds) where
  -- the profile and the other databases stay as they are, and the user's file can be read,
  -- whatever a crash leaves of it
  pub record Ready (es : List Event) : Type 0 where
    pub profile_is : read_of (read_content es profile) ≡ holds text
    pub read : AreRead (read_content es) ds others
    pub profile_settled : IsSettled es profile (read_content es profile)
    pub others_settled : AllByRecursion (λ other. IsSettled es (database_file other) (read_content es (database_file other))) ds
    pub user : (c : MaybeBytes) → MayLeave es (database_file d) c → CanBeRead c

  abbrev pub now_own : (es : List Event) → Ready es → OwnValues
  now_own es r path = option_and_then held_value (get (r.user (read_content es (database_file d)) (seen_may es (database_file d))).settings.values path)

  abbrev pub holds_now : (es : List Event) (r : Ready es) → FolderHolds (read_content es) profile d ds (now_own es r) gs
  holds_now es r =
      let can = r.user (read_content es (database_file d)) (seen_may es (database_file d)) in
      record {
        text = text;
        profile_is = r.profile_is;
        names = names;
        first = read_content es (database_file d);
        others = others;
        read = (can.read, r.read);
        opened = record { layers = can.settings ∷ later; writable = has_writable (d ∷ ds) };
        layers = (can.layer, layers);
        writable = refl;
        held = record { first = can.settings; later = later; layers = refl; others_are = layers; gives = give; own_is = λ path. refl };
      }

  -- what a crash may leave at any moment of a run
  record Moment (old cut : List Event) (asked : AskedCommand) : Type 0 where
    grown : Grows old cut
    own : (c : MaybeBytes) → MayHaveLeft cut (length old) (database_file d) c →
        MayLeave old (database_file d) c ⊎ (MaySave others (read_content old (database_file d)) asked c × CanBeRead c)
    away : (name : List ℕ) → IsApart (database_file d) name → (c : MaybeBytes) → MayHaveLeft cut (length old) name c → MayLeave old name c
    reads : (name : List ℕ) → IsApart (database_file d) name → read_content cut name ≡ read_content old name

  module _ (old : List Event) (r : Ready old) (command : Command) (input : Input) (of : IsChangeOf profile command) where
    made_by : (new : List Event) (output : Output) (m : Made command input old new output (database_file d) (holds_now old r).opened) (c : MaybeBytes) → c ≡ Some m.bytes →
        MaySave others (read_content old (database_file d)) (command, input) c × CanBeRead c
    made_by new output m c left =
        let h = holds_now old r in
        let whole = (subst (AllByRecursion IsWholeChange) m.asks (asked_whole profile command input of)).0 in
        let own1 = own_changed gs (now_own old r) m.change in
        let again = saved_again others own1 gs m.after m.bytes (after_change others (now_own old r) gs h.opened m.after h.held m.change whole m.accepted) m.saved_is in (
          record {
            change = m.change;
            asks = m.asks;
            whole = whole;
            opened = h.opened;
            after = m.after;
            bytes = m.bytes;
            layers = h.layers;
            accepted = m.accepted;
            saved_is = m.saved_is;
            left = left;
          },
          subst CanBeRead (sym left) (record { read = read_back m.bytes (saved m.after.layers) m.saved_is; settings = again.settings; layer = again.layers.0 }),
        )

    moment_of : (new : List Event) (output : Output) (m : Made command input old new output (database_file d) (holds_now old r).opened) →
        MayReplace old new (database_file d) m.bytes → ReadsWhole old new (database_file d) m.bytes → Moment old new (command, input)
    moment_of new output m may whole = record {
      grown = may.grown;
      own = λ c k. elim (may.own c k) [ inl before ↦ inl before | inr left ↦ inr (made_by new output m c left) ];
      away = λ name a c k. may.others name c a.own a.fresh k;
      reads = λ name a. whole.others name a.own a.fresh;
    }

    moment : (new : List Event) (output : Output) → RunDid command input old new output (database_file d) (holds_now old r).opened → Moment old new (command, input)
    moment new output (inl nothing) = record {
      grown = ([], nothing.1);
      own = λ c k. inl (unchanged old new (database_file d) c nothing.1 k);
      away = λ name a c k. unchanged old new name c nothing.1 k;
      reads = λ name a. ap (λ es. read_content es name) nothing.1;
    }
    moment new output (inr m) = elim m.how [
      | inl all ↦ moment_of new output m all.1.any_moment all.1.others
      | inr some ↦ moment_of new output m some.1.any_moment some.1.whole
    ]

    -- ---- the folder afterwards

    settled_after : (new : List Event) → Moment old new (command, input) → (name : List ℕ) → IsApart (database_file d) name →
        IsSettled old name (read_content old name) → IsSettled new name (read_content new name)
    settled_after new m name a settled x left =
        settled x (m.away name a x (counts_now new (length old) name x (longer old new m.grown) left)) ∙ sym (m.reads name a)

    all_settled : (new : List Event) → Moment old new (command, input) → (dbs : List Database) →
        AllByRecursion (λ other. IsApart (database_file d) (database_file other)) dbs →
        AllByRecursion (λ other. IsSettled old (database_file other) (read_content old (database_file other))) dbs →
        AllByRecursion (λ other. IsSettled new (database_file other) (read_content new (database_file other))) dbs
    all_settled new m [] a h = tt
    all_settled new m (other ∷ dbs) a h = (settled_after new m (database_file other) a.0 h.0, all_settled new m dbs a.1 h.1)

    ready_after : (new : List Event) → Moment old new (command, input) → Ready new
    ready_after new m = record {
      profile_is = ap read_of (m.reads profile apart.profile_is) ∙ r.profile_is;
      read = reads_kept old new (database_file d) ds others m.reads apart.databases r.read;
      profile_settled = settled_after new m profile apart.profile_is r.profile_settled;
      others_settled = all_settled new m ds apart.databases r.others_settled;
      user = λ c left. elim (m.own c (counts_now new (length old) (database_file d) c (longer old new m.grown) left)) [
        | inl before ↦ r.user c before
        | inr made ↦ made.1
      ];
    }

    -- ---- after a crash

    same_after : (cut new : List Event) → Moment old cut (command, input) → CrashedSince old cut new → (name : List ℕ) → IsApart (database_file d) name →
        IsSettled old name (read_content old name) → read_content new name ≡ read_content old name
    same_after cut new m crash name a settled = settled (read_content new name) (m.away name a (read_content new name) (crash.left name))

    reads_after : (cut new : List Event) → Moment old cut (command, input) → CrashedSince old cut new → (dbs : List Database) (items : List MaybeBytes) →
        AllByRecursion (λ other. IsApart (database_file d) (database_file other)) dbs →
        AllByRecursion (λ other. IsSettled old (database_file other) (read_content old (database_file other))) dbs →
        AreRead (read_content old) dbs items → AreRead (read_content new) dbs items
    reads_after cut new m crash [] [] a h k = tt
    reads_after cut new m crash [] (item ∷ items) a h k = absurd k
    reads_after cut new m crash (other ∷ dbs) [] a h k = absurd k
    reads_after cut new m crash (other ∷ dbs) (item ∷ items) a h k =
        (ap read_of (same_after cut new m crash (database_file other) a.0 h.0) ∙ k.0, reads_after cut new m crash dbs items a.1 h.1 k.1)

    crash_settles : (cut new : List Event) → CrashedSince old cut new → (dbs : List Database) →
        AllByRecursion (λ other. IsSettled new (database_file other) (read_content new (database_file other))) dbs
    crash_settles cut new crash [] = tt
    crash_settles cut new crash (other ∷ dbs) = (crash.settled (database_file other), crash_settles cut new crash dbs)

    ready_crashed : (cut new : List Event) → Moment old cut (command, input) → CrashedSince old cut new → Ready new
    ready_crashed cut new m crash = record {
      profile_is = ap read_of (same_after cut new m crash profile apart.profile_is r.profile_settled) ∙ r.profile_is;
      read = reads_after cut new m crash ds others apart.databases r.others_settled r.read;
      profile_settled = crash.settled profile;
      others_settled = crash_settles cut new crash ds;
      user = λ c left. (let same : c ≡ read_content new (database_file d) = crash.settled (database_file d) c left in
          subst CanBeRead (sym same) (elim (m.own (read_content new (database_file d)) (crash.left (database_file d))) [
            | inl before ↦ r.user (read_content new (database_file d)) before
            | inr made ↦ made.1
          ]));
    }

    -- ---- steps

    abbrev Whole : List Event → Type 0
    Whole new = IsWholeAtAnyMoment (MaySave others) (database_file d) old new (command, input)

    whole_of : (new : List Event) → Moment old new (command, input) → Whole new
    whole_of new m = record {
      grown = m.grown;
      any_moment = λ c k. elim (m.own c k) [ inl before ↦ inl before | inr made ↦ inr made.0 ];
    }

    abbrev IsStep : List Event → Output → Type 0
    IsStep new output = (e : Ending) × CameSo (database_file d) (ended output) e × Step (MaySave others) (database_file d) old (command, input) e new

    step_of : (new : List Event) (output : Output) → RunDid command input old new output (database_file d) (holds_now old r).opened → IsStep new output
    step_of new output (inl nothing) =
        (refused, nothing.0, ((λ c m. subst (λ es. MayLeave es (database_file d) c) nothing.1 m), ap (λ es. read_content es (database_file d)) nothing.1))
    step_of new output (inr m) = elim m.how [
      | inl all ↦ (done, all.0, (Some m.bytes, (made_by new output m (Some m.bytes) refl).0, all.1.settled, all.1.read))
      | inr some ↦ (
        faulted,
        some.0,
        (
          whole_of new (moment_of new output m some.1.any_moment some.1.whole),
          elim some.1.whole.own [
            | inl same ↦ inl same
            | inr left ↦ inr (made_by new output m (read_content new (database_file d)) left).0
          ],
        ),
      )
    ]

    stopped_step : (cut new : List Event) → Moment old cut (command, input) → CrashedSince old cut new →
        Step (MaySave others) (database_file d) old (command, input) stopped new
    stopped_step cut new m crash =
        (cut, whole_of cut m, (read_content new (database_file d), crash.left (database_file d), crash.settled (database_file d), refl))

  -- ---- a list of runs

  abbrev AreSteps : List Attempt → List (AskedCommand × Ending) → Type 0
  AreSteps [] [] = Unit {0}
  AreSteps (a ∷ more) (s ∷ steps) = (s.0 ≡ (a.command, a.input)) × CameSo (database_file d) a.end s.1 × AreSteps more steps
  AreSteps attempts steps = ⊥

  record Lived (attempts : List Attempt) (old new : List Event) : Type 0 where
    steps : List (AskedCommand × Ending)
    are : AreSteps attempts steps
    history : History (MaySave others) (database_file d) old steps new
    ready : Ready new

  pub record LivedOne (a : Attempt) (old new : List Event) : Type 0 where
    pub end : Ending
    pub so : CameSo (database_file d) a.end end
    pub step : Step (MaySave others) (database_file d) old (a.command, a.input) end new
    pub ready : Ready new

  pub lived_one : (a : Attempt) (old new : List Event) → Ready old → IsChangeOf profile a.command → CameTo a.command a.input a.end old new → LivedOne a old new
  lived_one a old new r of came = by_end a.end refl came
    where
      by_end : (end : RunEnd) → a.end ≡ end → CameTo a.command a.input end old new → LivedOne a old new
      by_end (ended output) e ran =
          let did = run_did profile d ds (now_own old r) gs a.command a.input old new output (holds_now old r) of ran in
          let step = step_of old r a.command a.input of new output did in
          record {
            end = step.0;
            so = subst (λ end. CameSo (database_file d) end step.0) (sym e) step.1;
            step = step.2;
            ready = ready_after old r a.command a.input of new (moment old r a.command a.input of new output did);
          }
      by_end cut_off e ran =
          let did = run_did profile d ds (now_own old r) gs a.command a.input old ran.0 ran.1 (holds_now old r) of ran.2 in
          let m = moment old r a.command a.input of ran.0 ran.1 did in
          record {
            end = stopped;
            so = subst (λ end. CameSo (database_file d) end stopped) (sym e) tt;
            step = stopped_step old r a.command a.input of ran.0 new m ran.3;
            ready = ready_crashed old r a.command a.input of ran.0 new m ran.3;
          }
      by_end cut_short e crash =
          let user = database_file d in
          record {
            end = crashed;
            so = subst (λ end. CameSo user end crashed) (sym e) tt;
            step = (read_content new user, only_now old user (read_content new user) (crash.left user), crash.settled user, refl);
            ready = ready_crashed old r a.command a.input of old new
                (moment old r a.command a.input of old (refused_output []) (inl (refl, refl))) crash;
          }

  all_lived : (attempts : List Attempt) (old new : List Event) → Ready old → AllByRecursion (λ a. IsChangeOf profile a.command) attempts →
      CameInTurn old attempts new → Lived attempts old new
  all_lived [] old new r of came = record { steps = []; are = tt; history = came; ready = subst Ready (sym came) r }
  all_lived (a ∷ more) old new r of came =
      let one = lived_one a old came.0 r of.0 came.1 in
      let rest = all_lived more came.0 new one.ready of.1 came.2 in
      record {
        steps = ((a.command, a.input), one.end) ∷ rest.steps;
        are = (refl, one.so, rest.are);
        history = (came.0, one.step, rest.history);
        ready = rest.ready;
      }

  -- ---- what is kept

  first_kept : (a : Attempt) (more : List Attempt) (asked : AskedCommand) (steps : List (AskedCommand × Ending)) (kept : List AskedCommand) → asked ≡ (a.command, a.input) →
      MayBeKept (database_file d) a.end → ((all : List AskedCommand) → Kept steps all → AreKept (database_file d) more all) → KeepsFirst asked (Kept steps) kept →
      AreKept (database_file d) (a ∷ more) kept
  first_kept a more asked steps kept same may later h =
      let whole : kept ≡ (a.command, a.input) ∷ h.0 = h.1 ∙ ap (λ asked. asked ∷ h.0) same in
      subst (AreKept (database_file d) (a ∷ more)) (sym whole) (keeps a more h.0 may (later h.0 h.2))

  kept_so : (attempts : List Attempt) (steps : List (AskedCommand × Ending)) (kept : List AskedCommand) → AreSteps attempts steps → Kept steps kept → AreKept (database_file d) attempts kept
  kept_so [] [] kept are h = subst (AreKept (database_file d) []) (sym h) no_attempt
  kept_so [] (s ∷ steps) kept are h = absurd are
  kept_so (a ∷ more) [] kept are h = absurd are
  kept_so (a ∷ more) (s ∷ steps) kept are h = by_end (λ all. kept_so more steps all are.2) a.end refl s.1 are.1 h
    where
      Later : Type 0
      Later = (all : List AskedCommand) → Kept steps all → AreKept (database_file d) more all

      first : Later → (end : RunEnd) → a.end ≡ end → MayBeKept (database_file d) end → KeepsFirst s.0 (Kept steps) kept → AreKept (database_file d) (a ∷ more) kept
      first later end e may h = first_kept a more s.0 steps kept are.0 (subst (MayBeKept (database_file d)) (sym e) may) later h

      without : Later → (end : RunEnd) → a.end ≡ end → MayBeLeftOut end → Kept steps kept → AreKept (database_file d) (a ∷ more) kept
      without later end e may h = leaves_out a more kept (subst MayBeLeftOut (sym e) may) (later kept h)

      by_end : Later → (end : RunEnd) → a.end ≡ end → (e : Ending) → CameSo (database_file d) end e → KeptBy e s.0 (Kept steps) kept → AreKept (database_file d) (a ∷ more) kept
      by_end later (ended output) e done so h = first later (ended output) e (inl so) h
      by_end later (ended output) e refused so h = without later (ended output) e so h
      by_end later (ended output) e faulted so (inl out) = without later (ended output) e (ap (λ (o : Output). o.status) so) out
      by_end later (ended output) e faulted so (inr kept_it) = first later (ended output) e (inr so) kept_it
      by_end later (ended output) e stopped so h = absurd so
      by_end later (ended output) e crashed so h = absurd so
      by_end later cut_off e done so h = absurd so
      by_end later cut_off e refused so h = absurd so
      by_end later cut_off e faulted so h = absurd so
      by_end later cut_off e stopped so (inl out) = without later cut_off e tt out
      by_end later cut_off e stopped so (inr kept_it) = first later cut_off e tt kept_it
      by_end later cut_off e crashed so h = absurd so
      by_end later cut_short e done so h = absurd so
      by_end later cut_short e refused so h = absurd so
      by_end later cut_short e faulted so h = absurd so
      by_end later cut_short e stopped so h = absurd so
      by_end later cut_short e crashed so h = without later cut_short e tt h

-- ---- the folder at first

pub first_layer : (c : MaybeBytes) (others : List MaybeBytes) (ls : List Settings) (s : Settings) (later : List Settings) → ls ≡ s ∷ later → AreLayers (c ∷ others) ls → IsLayer c s
first_layer c others ls s later e h = (subst (AreLayers (c ∷ others)) e h).0

module _ (profile : List ℕ) (d : Database) (ds : List Database) (own : OwnValues) (gs : List Given) (old : List Event) (apart : AreApart profile d ds)
    (h : FolderHolds (read_content old) profile d ds own gs) (settled : AreSettled old profile d ds) where
  first_is : read_content old (database_file d) ≡ h.first
  first_is = found_all (read_content old (database_file d)) h.first h.read.0

  abbrev IsReady : List Event → Type 0
  IsReady es = Ready profile d ds gs h.text h.names h.others h.held.later h.held.others_are h.held.gives apart es

  ready_at_first : IsReady old
  ready_at_first = record {
    profile_is = h.profile_is;
    read = h.read.1;
    profile_settled = settled.profile_is;
    others_settled = settled.others;
    user = λ c left. (let same : c ≡ h.first = settled.user c left ∙ first_is in
        subst CanBeRead (sym same) (record {
          read = ap read_of (sym first_is) ∙ h.read.0;
          settings = h.held.first;
          layer = first_layer h.first h.others h.opened.layers h.held.first h.held.later h.held.layers h.layers;
        }));
  }

  record Outlived (attempts : List Attempt) (new : List Event) (c : MaybeBytes) : Type 0 where
    kept : List AskedCommand
    are : AreKept (database_file d) attempts kept
    can : CanBeRead c
    held : (writable : Bool) → StoreHolds h.others (own_after gs own (asked_changes kept)) gs (record { layers = can.settings ∷ h.held.later; writable = writable })
    ready : IsReady new

  outlived : (attempts : List Attempt) (new : List Event) (c : MaybeBytes) → AllByRecursion (λ a. IsChangeOf profile a.command) attempts →
      CameInTurn old attempts new → MayLeave new (database_file d) c → Outlived attempts new c
  outlived attempts new c of came left =
      let lived = all_lived profile d ds gs h.text h.names h.others h.held.later h.held.others_are h.held.gives apart attempts old new ready_at_first of came in
      let all = never_lost (MaySave h.others) (database_file d) old new lived.steps c settled.user lived.history left in
      let can = lived.ready.user c left in
      let opened = subst (λ c. AreLayers (c ∷ h.others) h.opened.layers) (sym first_is) h.layers in
      record {
        kept = all.0;
        are = kept_so profile d ds gs h.text h.names h.others h.held.later h.held.others_are h.held.gives apart attempts lived.steps all.0 lived.are all.1;
        can = can;
        held = λ writable. kept_are_said h.others own gs (read_content old (database_file d)) c all.0 h.opened
            (record { layers = can.settings ∷ h.held.later; writable = writable }) opened h.held all.2 (can.layer, h.held.others_are);
        ready = lived.ready;
      }

abbrev pub first_of_layers : List Settings → Settings
first_of_layers [] = no_settings
first_of_layers (s ∷ ss) = s

pub nothing_is_lost : NothingIsLost
nothing_is_lost profile d ds own gs attempts old new c apart h settled of came left =
    let out = outlived profile d ds own gs old apart h settled attempts new c of came left in
    let st = out.held true in (
      out.kept,
      out.are,
      (
        out.can.settings,
        out.can.layer,
        λ path.
            ap (λ (s : Settings). option_and_then held_value (get s.values path)) (ap first_of_layers st.layers) ∙ st.own_is path,
      ),
    )

pub next_run_finds_all : NextRunFindsAll
next_run_finds_all profile d ds own gs attempts old new apart h settled of came =
    let user = read_content new (database_file d) in
    let out = outlived profile d ds own gs old apart h settled attempts new user of came (seen_may new (database_file d)) in (
      out.kept,
      out.are,
      record {
        text = h.text;
        profile_is = out.ready.profile_is;
        names = h.names;
        first = user;
        others = h.others;
        read = (out.can.read, out.ready.read);
        opened = record { layers = out.can.settings ∷ h.held.later; writable = has_writable (d ∷ ds) };
        layers = (out.can.layer, h.held.others_are);
        writable = refl;
        held = out.held (has_writable (d ∷ ds));
      },
    )

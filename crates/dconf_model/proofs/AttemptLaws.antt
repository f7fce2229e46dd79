-- Attempts one after another, some at fault, some stopped, and crashes between them: what a crash
-- leaves after them goes back, one by one, to what stood first.
use Rattle.std.specs.Prelude.{◌≡◌, ◌≢◌, ◌⊎◌, ℕ, Bool, true, false, cond, List, [], ◌∷◌, ◌++◌, length, Option, Some, None, Ok, refl, option_and_then}
use Rattle.std.proofs.Common.{ap, sym, ◌∙◌, subst, inl, inr}
use Rattle.std.specs.List.{AllByRecursion}
use Rattle.std.specs.Str.{bytes_eq}
use Rattle.std.specs.Cmp.Lexicographic.{bytes_decides}
use Rattle.std.proofs.lemmas.Bool.{true≢false}
use Rattle.std.specs.FinMap.{get}
use Rattle.dconf_model.specs.Bytes.{MaybeBytes}
use Rattle.dconf_model.specs.FaultTexts.{device_text}
use Rattle.dconf_model.specs.Settings.{Settings}
use Rattle.dconf_model.specs.Values.{held_value}
use Rattle.dconf_model.specs.Folders.{Event, MayLeave, IsSettled, read_content}
use Rattle.dconf_model.specs.Replacing.{MayReplace, Replaced, MaybeReplaced, new_name}
use Rattle.dconf_model.specs.Profiles.{Database, database_file, profile_of}
use Rattle.dconf_model.specs.Reads.{Input, ReadResults, read_of}
use Rattle.dconf_model.specs.Reads.FileRead.{holds}
use Rattle.dconf_model.specs.Sources.{Given, last_value}
use Rattle.dconf_model.specs.Databases.{AreLayers}
use Rattle.dconf_model.specs.Layers.{Layers}
use Rattle.dconf_model.specs.Commands.{Command}
use Rattle.dconf_model.specs.Outcomes.{Outcome, Output, Replacement, IsOutcome, refused_output}
use Rattle.dconf_model.specs.Runs.{AnswersIn, Did, Ran, ReadsFrom, RunEnding, output_of}
use Rattle.dconf_model.specs.Runs.RunEnding.{as_meant, device}
use Rattle.dconf_model.specs.Stores.{OwnValues, AllGive, FileGives, own_after}
use Rattle.dconf_model.specs.Programs.{AreApart, AreRead, FolderHolds, IsApart, IsChangeOf, OnlyReads, asked_change, given_compiled, own_compiled}
use Rattle.dconf_model.specs.Survivals.{AreSettled, AskedCommand, Attempt, CameInTurn, CameTo, CrashedSince, FileHolds, MayBeKept, MayBeLeftOut, RunEnd}
use Rattle.dconf_model.specs.Survivals.RunEnd.{ended, stopped as cut_off, crashed as cut_short}
use Rattle.dconf_model.specs.Standings.{FolderStands, MayBeTried, MayPut, MayStandInTurn, MayStepTo, NextRunFindsAllOf, NothingIsLostOfAll, PutsFile, PutsRows, Standing}
use Rattle.dconf_model.specs.Standings.PutsFile.{compiling, repairing}
use Rattle.dconf_model.specs.Standings.PutsRows.{compiling as compiled_rows, repairing as repaired_rows}
use Rattle.dconf_model.proofs.Histories.{Ending, Step}
use Rattle.dconf_model.proofs.Histories.Ending.{done, refused, faulted, stopped, crashed}
use Rattle.dconf_model.proofs.FolderLaws.{unchanged, counts_now, longer, seen_may}
use Rattle.dconf_model.proofs.DatabasesGiven.{one_layer}
use Rattle.dconf_model.proofs.ProgramLaws.{Refuses}
use Rattle.dconf_model.proofs.ReadingRuns.{reading_leaves}
use Rattle.dconf_model.proofs.CompiledFolders.{Makes, compile_makes, repair_makes}
use Rattle.dconf_model.proofs.StandingLaws.{puts_none}
use Rattle.dconf_model.proofs.SurvivalLaws.{CanBeRead, CameSo, MaySave, Ready, found_all, first_layer, first_of_layers, holds_now, kept_are_said, lived_one, now_own}

-- ---- what a file held_so

one_own : (c : MaybeBytes) (own other : OwnValues) → FileHolds c own → FileHolds c other → own ≡ other
one_own c own other h k =
    λ i path. (sym (h.2 path) ∙ (ap (λ (s : Settings). option_and_then held_value (get s.values path)) (one_layer c h.0 k.0 h.1 k.1) ∙ k.2 path)) i

abbrev can_hold : (c : MaybeBytes) → CanBeRead c → OwnValues
can_hold c can path = option_and_then held_value (get can.settings.values path)

holds_so : (c : MaybeBytes) (can : CanBeRead c) → FileHolds c (can_hold c can)
holds_so c can = (can.settings, can.layer, λ path. refl)

abbrev standing : OwnValues → List Given → Standing
standing own gs = record { own = own; others = gs }

module _ (profile : List ℕ) (d : Database) (ds : List Database) (apart : AreApart profile d ds) where
  abbrev user : List ℕ
  user = database_file d

  -- ---- a folder that attempts go on with

  record Alive (es : List Event) (gs : List Given) : Type 0 where
    text : List ℕ
    names : profile_of text ≡ Ok (d ∷ ds)
    others : List MaybeBytes
    later : List Settings
    layers : AreLayers others later
    give : AllGive later gs
    ready : Ready profile d ds gs text names others later layers give apart es

  abbrev own_now : (es : List Event) (gs : List Given) → Alive es gs → OwnValues
  own_now es gs a = now_own profile d ds gs a.text a.names a.others a.later a.layers a.give apart es a.ready

  abbrev stands_now : (es : List Event) (gs : List Given) (a : Alive es gs) → FolderHolds (read_content es) profile d ds (own_now es gs a) gs
  stands_now es gs a = holds_now profile d ds gs a.text a.names a.others a.later a.layers a.give apart es a.ready

  found_now : (es : List Event) (gs : List Given) (a : Alive es gs) → FileHolds (read_content es user) (own_now es gs a)
  found_now es gs a = holds_so (read_content es user) (a.ready.user (read_content es user) (seen_may es user))

  -- what a crash leaves of the user's file comes from what one might have left before
  record Back (old : List Event) (gs after : List Given) (a : Attempt) (own : OwnValues) : Type 0 where
    file : MaybeBytes
    before : OwnValues
    left : MayLeave old user file
    holds_it : FileHolds file before
    steps : MayStepTo (read_content old) d ds a (standing before gs) (standing own after)

  record Went (old new : List Event) (gs : List Given) (a : Attempt) : Type 0 where
    after : List Given
    alive : Alive new after
    back : (c : MaybeBytes) (own : OwnValues) → MayLeave new user c → FileHolds c own → Back old gs after a own

  left_out : (old : List Event) (gs : List Given) (a : Attempt) (c : MaybeBytes) (own : OwnValues) → MayBeLeftOut a.end ⊎ OnlyReads a.command → MayLeave old user c → FileHolds c own →
      Back old gs gs a own
  left_out old gs a c own (inl may) left held_so = record { file = c; before = own; left = left; holds_it = held_so; steps = inr (inl (may, refl)) }
  left_out old gs a c own (inr reads) left held_so = record { file = c; before = own; left = left; holds_it = held_so; steps = inr (inr (reads, refl)) }

  -- ---- a change of the user's file

  done_is_kept : (end : RunEnd) → CameSo user end done → MayBeKept user end
  done_is_kept (ended output) so = inl so
  done_is_kept cut_off so = absurd so
  done_is_kept cut_short so = absurd so

  refused_is_out : (end : RunEnd) → CameSo user end refused → MayBeLeftOut end
  refused_is_out (ended output) so = so
  refused_is_out cut_off so = absurd so
  refused_is_out cut_short so = absurd so

  faulted_is_kept : (end : RunEnd) → CameSo user end faulted → MayBeKept user end
  faulted_is_kept (ended output) so = inr so
  faulted_is_kept cut_off so = absurd so
  faulted_is_kept cut_short so = absurd so

  faulted_is_out : (end : RunEnd) → CameSo user end faulted → MayBeLeftOut end
  faulted_is_out (ended output) so = ap (λ (o : Output). o.status) so
  faulted_is_out cut_off so = absurd so
  faulted_is_out cut_short so = absurd so

  stopped_is_kept : (end : RunEnd) → CameSo user end stopped → MayBeKept user end
  stopped_is_kept (ended output) so = absurd so
  stopped_is_kept cut_off so = tt
  stopped_is_kept cut_short so = absurd so

  stopped_is_out : (end : RunEnd) → CameSo user end stopped → MayBeLeftOut end
  stopped_is_out (ended output) so = absurd so
  stopped_is_out cut_off so = tt
  stopped_is_out cut_short so = absurd so

  crashed_is_out : (end : RunEnd) → CameSo user end crashed → MayBeLeftOut end
  crashed_is_out (ended output) so = absurd so
  crashed_is_out cut_off so = absurd so
  crashed_is_out cut_short so = tt

  module _ (old new : List Event) (gs : List Given) (alive : Alive old gs) (a : Attempt) (of : IsChangeOf profile a.command) where
    abbrev Asks : AskedCommand
    Asks = (a.command, a.input)

    change_kept : (c : MaybeBytes) (own : OwnValues) → CanBeRead c → FileHolds c own → MayBeKept user a.end →
        MaySave alive.others (read_content old user) Asks c → Back old gs gs a own
    change_kept c own can held_so may saves =
        let h = stands_now old gs alive in
        let own0 = own_now old gs alive in
        let m : Layers = record { layers = can.settings ∷ alive.later; writable = true } in
        let st = kept_are_said alive.others own0 gs (read_content old user) c (Asks ∷ []) h.opened m h.layers h.held (c, saves, refl) (can.layer, alive.layers) in
        let asked = asked_change a.command a.input in
        let plain : asked ++ [] ≡ asked = ap (λ cs. cs ++ []) saves.asks ∙ sym saves.asks in
        let is : own ≡ own_after gs own0 (asked ++ []) =
        one_own c own (own_after gs own0 (asked ++ [])) held_so
        (can.settings, can.layer, λ path. ap (λ (s : Settings). option_and_then held_value (get s.values path)) (ap first_of_layers st.layers) ∙ st.own_is path) in
        let now : own ≡ own_after gs own0 asked = is ∙ ap (own_after gs own0) plain in
        record {
          file = read_content old user;
          before = own0;
          left = seen_may old user;
          holds_it = found_now old gs alive;
          steps = inl (may, inr (λ out. puts_none profile a.command out (inl of), ap (λ own. standing own gs) now));
        }

    change_back : (e : Ending) → CameSo user a.end e → Step (MaySave alive.others) user old Asks e new → (c : MaybeBytes) (own : OwnValues) → CanBeRead c →
        MayLeave new user c → FileHolds c own → Back old gs gs a own
    change_back done so step c own can left held_so =
        let same : c ≡ step.0 = step.2 c left in
        change_kept c own can held_so (done_is_kept a.end so) (subst (MaySave alive.others (read_content old user) Asks) (sym same) step.1)
    change_back refused so step c own can left held_so = left_out old gs a c own (inl (refused_is_out a.end so)) (step.0 c left) held_so
    change_back faulted so step c own can left held_so =
        elim (step.0.any_moment c (counts_now new (length old) user c (longer old new step.0.grown) left)) [
          | inl before ↦ left_out old gs a c own (inl (faulted_is_out a.end so)) before held_so
          | inr saves ↦ change_kept c own can held_so (faulted_is_kept a.end so) saves
        ]
    change_back stopped so step c own can left held_so =
        let same : c ≡ step.2.0 = step.2.2 c left in
        elim (step.1.any_moment step.2.0 step.2.1) [
          | inl before ↦ left_out old gs a c own (inl (stopped_is_out a.end so)) (subst (MayLeave old user) (sym same) before) held_so
          | inr saves ↦ change_kept c own can held_so (stopped_is_kept a.end so) (subst (MaySave alive.others (read_content old user) Asks) (sym same) saves)
        ]
    change_back crashed so step c own can left held_so =
        let same : c ≡ step.0 = step.2 c left in
        left_out old gs a c own (inl (crashed_is_out a.end so)) (subst (MayLeave old user) (sym same) step.1) held_so

    change_went : CameTo a.command a.input a.end old new → Went old new gs a
    change_went came =
        let one = lived_one profile d ds gs alive.text alive.names alive.others alive.later alive.layers alive.give apart a old new alive.ready of came in
        record {
          after = gs;
          alive = record {
            text = alive.text;
            names = alive.names;
            others = alive.others;
            later = alive.later;
            layers = alive.layers;
            give = alive.give;
            ready = one.ready;
          };
          back = λ c own left held_so. change_back one.end one.so one.step c own (one.ready.user c left) left held_so;
        }

  -- ---- an attempt after which a crash leaves what it might have left before

  abbrev ComesBack : List Event → List Event → List ℕ → Type 0
  ComesBack old new name = (c : MaybeBytes) → MayLeave new name c → MayLeave old name c

  back_settled : (old new : List Event) (name : List ℕ) → ComesBack old new name → IsSettled old name (read_content old name) → IsSettled new name (read_content new name)
  back_settled old new name back settled c left =
      settled c (back c left) ∙ sym (settled (read_content new name) (back (read_content new name) (seen_may new name)))

  back_reads : (old new : List Event) (name : List ℕ) → ComesBack old new name → IsSettled old name (read_content old name) → read_content new name ≡ read_content old name
  back_reads old new name back settled = settled (read_content new name) (back (read_content new name) (seen_may new name))

  all_read : (old new : List Event) (dbs : List Database) (items : List MaybeBytes) → AllByRecursion (λ other. ComesBack old new (database_file other)) dbs →
      AllByRecursion (λ other. IsSettled old (database_file other) (read_content old (database_file other))) dbs →
      AreRead (read_content old) dbs items → AreRead (read_content new) dbs items
  all_read old new [] [] back settled h = tt
  all_read old new [] (item ∷ items) back settled h = absurd h
  all_read old new (other ∷ dbs) [] back settled h = absurd h
  all_read old new (other ∷ dbs) (item ∷ items) back settled h =
      (ap read_of (back_reads old new (database_file other) back.0 settled.0) ∙ h.0, all_read old new dbs items back.1 settled.1 h.1)

  all_settled : (old new : List Event) (dbs : List Database) → AllByRecursion (λ other. ComesBack old new (database_file other)) dbs →
      AllByRecursion (λ other. IsSettled old (database_file other) (read_content old (database_file other))) dbs →
      AllByRecursion (λ other. IsSettled new (database_file other) (read_content new (database_file other))) dbs
  all_settled old new [] back settled = tt
  all_settled old new (other ∷ dbs) back settled = (back_settled old new (database_file other) back.0 settled.0, all_settled old new dbs back.1 settled.1)

  nothing_went : (old new : List Event) (gs : List Given) (a : Attempt) → Alive old gs → MayBeLeftOut a.end ⊎ OnlyReads a.command → ComesBack old new profile → ComesBack old new user →
      AllByRecursion (λ other. ComesBack old new (database_file other)) ds → Went old new gs a
  nothing_went old new gs a alive may profile_back user_back back = record {
    after = gs;
    alive = record {
      text = alive.text;
      names = alive.names;
      others = alive.others;
      later = alive.later;
      layers = alive.layers;
      give = alive.give;
      ready = record {
        profile_is = ap read_of (back_reads old new profile profile_back alive.ready.profile_settled) ∙ alive.ready.profile_is;
        read = all_read old new ds alive.others back alive.ready.others_settled alive.ready.read;
        profile_settled = back_settled old new profile profile_back alive.ready.profile_settled;
        others_settled = all_settled old new ds back alive.ready.others_settled;
        user = λ c left. alive.ready.user c (user_back c left);
      };
    };
    back = λ c own left held_so. left_out old gs a c own may (user_back c left) held_so;
  }

  all_back : (old new : List Event) (dbs : List Database) → ((name : List ℕ) → ComesBack old new name) → AllByRecursion (λ other. ComesBack old new (database_file other)) dbs
  all_back old new [] back = tt
  all_back old new (other ∷ dbs) back = (back (database_file other), all_back old new dbs back)

  -- nothing was done, or a crash came after that
  same_back : (old new : List Event) → new ≡ old → (name : List ℕ) → ComesBack old new name
  same_back old new same name c left = subst (λ es. MayLeave es name c) same left

  crash_back : (old cut new : List Event) → cut ≡ old → CrashedSince old cut new → (name : List ℕ) → ComesBack old new name
  crash_back old cut new same crash name c left =
      subst (MayLeave old name) (sym (crash.settled name c left)) (unchanged old cut name (read_content new name) same (crash.left name))

  nothing_done : (old new : List Event) (gs : List Given) (a : Attempt) → Alive old gs → MayBeLeftOut a.end ⊎ OnlyReads a.command → ((name : List ℕ) → ComesBack old new name) → Went old new gs a
  nothing_done old new gs a alive may back = nothing_went old new gs a alive may (back profile) (back user) (all_back old new ds back)

  -- ---- one that only reads

  reads_leave : (command : Command) (input : Input) (old new : List Event) (output : Output) → OnlyReads command → Ran command input old new output → new ≡ old
  reads_leave command input old new output only r = from r.answers
    where
      by_end : (change : Option Replacement) → change ≡ None → (e : RunEnding) → Did change e old new → new ≡ old
      by_end change none as_meant did = subst (λ change. Did change as_meant old new) none did
      by_end change none device did = absurd (subst (λ change. Did change device old new) none did)

      from : AnswersIn command input r.reads old new output → new ≡ old
      from (inr m) = m.1
      from (inl p) = by_end p.0.outcome.change (reading_leaves command r.reads input p.0.outcome only p.0.is) p.0.ending p.1

  read_went : (old new : List Event) (gs : List Given) (a : Attempt) → Alive old gs → OnlyReads a.command → CameTo a.command a.input a.end old new → Went old new gs a
  read_went old new gs a alive only came = nothing_done old new gs a alive (inr only) (by_end a.end came)
    where
      by_end : (end : RunEnd) → CameTo a.command a.input end old new → (name : List ℕ) → ComesBack old new name
      by_end (ended output) ran = same_back old new (reads_leave a.command a.input old new output only ran)
      by_end cut_off ran = crash_back old ran.0 new (reads_leave a.command a.input old ran.0 ran.1 only ran.2) ran.3
      by_end cut_short crash = crash_back old old new refl crash

  -- ---- one that puts a file in place

  record IsMadeFor (command : Command) (old new : List Event) (output : Output) (out : List ℕ) : Type 0 where
    g : Given
    bytes : List ℕ
    rows : PutsRows (read_content old) command out g
    fits : read_of (Some bytes) ≡ holds bytes
    gives : FileGives (Some bytes) g
    how : ((output.status ≡ 0) × Replaced old new out bytes) ⊎ ((output ≡ refused_output (device_text out)) × MaybeReplaced old new out bytes)

  abbrev PutDid : Command → List Event → List Event → Output → List ℕ → Type 0
  PutDid command old new output out = ((output.status ≡ 1) × (new ≡ old)) ⊎ IsMadeFor command old new output out

  makes_rows : (command : Command) (input : Input) (old : List Event) (reads : ReadResults) (out : List ℕ) (o : Outcome) → PutsFile command out → ReadsFrom old reads →
      IsOutcome command reads input o → Refuses o ⊎ ((g : Given) × PutsRows (read_content old) command out g × Makes out g o)
  makes_rows _ input old reads _ o (compiling out lock_names names) from is = elim (compile_makes old reads out lock_names names input o from is) [
    | inl why ↦ inl why
    | inr made ↦ inr (made.0, compiled_rows out lock_names names made.0 made.1, made.2)
  ]
  makes_rows _ input old reads _ o (repairing file out) from is = elim (repair_makes old reads file out input o from is) [
    | inl why ↦ inl why
    | inr made ↦ inr (made.0, repaired_rows file out made.0 made.1, made.2)
  ]

  put_did : (command : Command) (input : Input) (old new : List Event) (output : Output) (out : List ℕ) → PutsFile command out → Ran command input old new output →
      PutDid command old new output out
  put_did command input old new output out file r = from r.answers
    where
      refused_did : (o : Outcome) (e : RunEnding) → Refuses o → Did o.change e old new → output ≡ output_of o e → (output.status ≡ 1) × (new ≡ old)
      refused_did o as_meant why did is = (
        ap (λ (p : Output). p.status) (is ∙ ap (λ (o : Outcome). o.output) why.1),
        subst (λ c. Did c as_meant old new) (ap (λ (o : Outcome). o.change) why.1) did,
      )
      refused_did o device why did is = absurd (subst (λ c. Did c device old new) (ap (λ (o : Outcome). o.change) why.1) did)

      how : (o : Outcome) (e : RunEnding) (g : Given) (m : Makes out g o) → Did o.change e old new → output ≡ output_of o e →
          ((output.status ≡ 0) × Replaced old new out m.bytes) ⊎ ((output ≡ refused_output (device_text out)) × MaybeReplaced old new out m.bytes)
      how o as_meant g m did is =
          inl (ap (λ (p : Output). p.status) (is ∙ ap (λ o. (output_of o as_meant)) m.is), subst (λ c. Did c as_meant old new) (ap (λ (o : Outcome). o.change) m.is) did)
      how o device g m did is =
          inr (is ∙ ap (λ o. (output_of o device)) m.is, subst (λ c. Did c device old new) (ap (λ (o : Outcome). o.change) m.is) did)

      from : AnswersIn command input r.reads old new output → PutDid command old new output out
      from (inr m) = inl (ap (λ (p : Output). p.status) m.0, m.1)
      from (inl p) = elim (makes_rows command input old r.reads out p.0.outcome file r.given p.0.is) [
        | inl why ↦ inl (refused_did p.0.outcome p.0.ending why p.1 p.0.output_is)
        | inr made ↦ inr (record {
          g = made.0;
          bytes = made.2.bytes;
          rows = made.1;
          fits = made.2.fits;
          gives = made.2.gives;
          how = how p.0.outcome p.0.ending made.0 made.2 p.1 p.0.output_is;
        })
      ]

  -- the file is in place
  record InPlace (old new : List Event) (out bytes : List ℕ) : Type 0 where
    away : (name : List ℕ) → IsApart out name → ComesBack old new name
    own : (c : MaybeBytes) → MayLeave new out c → c ≡ Some bytes

  in_place : (old new : List Event) (out bytes : List ℕ) → Replaced old new out bytes → InPlace old new out bytes
  in_place old new out bytes r = record {
    away = λ name a c left. r.any_moment.others name c a.own a.fresh (counts_now new (length old) name c (longer old new r.any_moment.grown) left);
    own = r.settled;
  }

  module _ (old new : List Event) (gs : List Given) (alive : Alive old gs) (a : Attempt) (out : List ℕ) (may : MayPut profile (d ∷ ds) out) (g : Given) (bytes : List ℕ)
      (rows : PutsRows (read_content old) a.command out g) (fits : read_of (Some bytes) ≡ holds bytes) (gives : FileGives (Some bytes) g) (put : InPlace old new out bytes) where
    abbrev Gets : List ℕ → Type 0
    Gets name = ((name ≡ out) × (read_content new name ≡ Some bytes)) ⊎ ((name ≢ out) × ComesBack old new name)

    gets : (name : List ℕ) (b : Bool) → bytes_eq name out ≡ b → name ≢ new_name out → Gets name
    gets name true e fresh =
        let same : name ≡ out = (bytes_decides name out).0 e in
        inl (same, subst (λ n. read_content new n ≡ Some bytes) (sym same) (put.own (read_content new out) (seen_may new out)))
    gets name false e fresh =
        let other : name ≢ out = λ same. true≢false (sym ((bytes_decides name out).1 same) ∙ e) in
        inr (other, put.away name (record { own = other; fresh = fresh }))

    put_settled : (name : List ℕ) → Gets name → IsSettled old name (read_content old name) → IsSettled new name (read_content new name)
    put_settled name (inl own) settled c left =
        put.own c (subst (λ n. MayLeave new n c) own.0 left) ∙ sym own.1
    put_settled name (inr other) settled c left = back_settled old new name other.1 settled c left

    record Later (dbs : List Database) (hs : List Given) : Type 0 where
      items : List MaybeBytes
      settings : List Settings
      layers : AreLayers items settings
      give : AllGive settings hs
      read : AreRead (read_content new) dbs items
      settled : AllByRecursion (λ other. IsSettled new (database_file other) (read_content new (database_file other))) dbs

    later_put : (dbs : List Database) (items : List MaybeBytes) (ss : List Settings) (hs : List Given) → AllByRecursion (λ other. database_file other ≢ new_name out) dbs →
        AllByRecursion (λ other. IsSettled old (database_file other) (read_content old (database_file other))) dbs →
        AreRead (read_content old) dbs items → AreLayers items ss → AllGive ss hs → Later dbs (given_compiled out g dbs hs)
    later_put [] [] [] [] fresh settled r l h = record { items = []; settings = []; layers = tt; give = tt; read = tt; settled = tt }
    later_put [] [] [] (x ∷ hs) fresh settled r l h = absurd h
    later_put [] [] (s ∷ ss) hs fresh settled r l h = absurd l
    later_put [] (item ∷ items) ss hs fresh settled r l h = absurd r
    later_put (other ∷ dbs) [] ss hs fresh settled r l h = absurd r
    later_put (other ∷ dbs) (item ∷ items) [] hs fresh settled r l h = absurd l
    later_put (other ∷ dbs) (item ∷ items) (s ∷ ss) [] fresh settled r l h = absurd h
    later_put (other ∷ dbs) (item ∷ items) (s ∷ ss) (x ∷ hs) fresh settled r l h =
        one (later_put dbs items ss hs fresh.1 settled.1 r.1 l.1 h.1) (bytes_eq (database_file other) out) refl
      where
        one : Later dbs (given_compiled out g dbs hs) → (b : Bool) → bytes_eq (database_file other) out ≡ b → Later (other ∷ dbs) (cond b g x ∷ given_compiled out g dbs hs)
        one rest true e = by (gets (database_file other) true e fresh.0)
          where
            by : Gets (database_file other) → Later (other ∷ dbs) (g ∷ given_compiled out g dbs hs)
            by (inl own) = record {
              items = Some bytes ∷ rest.items;
              settings = gives.0 ∷ rest.settings;
              layers = (gives.1, rest.layers);
              give = (gives.2, rest.give);
              read = (ap read_of own.1 ∙ fits, rest.read);
              settled = (put_settled (database_file other) (inl own) settled.0, rest.settled);
            }
            by (inr away) = absurd (away.0 ((bytes_decides (database_file other) out).0 e))
        one rest false e = by (gets (database_file other) false e fresh.0)
          where
            by : Gets (database_file other) → Later (other ∷ dbs) (x ∷ given_compiled out g dbs hs)
            by (inl own) = absurd (true≢false (sym ((bytes_decides (database_file other) out).1 own.0) ∙ e))
            by (inr away) = record {
              items = item ∷ rest.items;
              settings = s ∷ rest.settings;
              layers = (l.0, rest.layers);
              give = (h.0, rest.give);
              read = (ap read_of (back_reads old new (database_file other) away.1 settled.0) ∙ r.0, rest.read);
              settled = (put_settled (database_file other) (inr away) settled.0, rest.settled);
            }

    put_kept : MayBeKept user a.end → Went old new gs a
    put_kept kept = by_user (bytes_eq user out) refl
      where
        later : Later ds (given_compiled out g ds gs)
        later = later_put ds alive.others alive.later gs may.databases_are.1 alive.ready.others_settled alive.ready.read alive.layers alive.give

        alive_with : ((c : MaybeBytes) → MayLeave new user c → CanBeRead c) → Alive new (given_compiled out g ds gs)
        alive_with can = record {
          text = alive.text;
          names = alive.names;
          others = later.items;
          later = later.settings;
          layers = later.layers;
          give = later.give;
          ready = record {
            profile_is = ap read_of (back_reads old new profile (put.away profile may.profile_is) alive.ready.profile_settled) ∙ alive.ready.profile_is;
            read = later.read;
            profile_settled = back_settled old new profile (put.away profile may.profile_is) alive.ready.profile_settled;
            others_settled = later.settled;
            user = can;
          };
        }

        steps : (before own : OwnValues) → own ≡ own_compiled out g d before →
            MayStepTo (read_content old) d ds a (standing before gs) (standing own (given_compiled out g ds gs))
        steps before own e = inl (kept, inl (out, g, rows, ap (λ own. standing own (given_compiled out g ds gs)) e))

        by_user : (b : Bool) → bytes_eq user out ≡ b → Went old new gs a
        by_user true e =
            let same : user ≡ out = (bytes_decides user out).0 e in
            let all : (c : MaybeBytes) → MayLeave new user c → c ≡ Some bytes = λ c left. put.own c (subst (λ n. MayLeave new n c) same left) in
            record {
              after = given_compiled out g ds gs;
              alive = alive_with (λ c left. subst CanBeRead (sym (all c left)) (record { read = fits; settings = gives.0; layer = gives.1 }));
              back = λ c own left held_so. record {
                file = read_content old user;
                before = own_now old gs alive;
                left = seen_may old user;
                holds_it = found_now old gs alive;
                steps = steps (own_now old gs alive) own
                    (one_own (Some bytes) own (last_value g.values) (subst (λ c. FileHolds c own) (all c left) held_so) (gives.0, gives.1, gives.2.values)
                    ∙ sym (ap (λ b. cond b (last_value g.values) (own_now old gs alive)) e));
              };
            }
        by_user false e =
            let other : user ≢ out = λ same. true≢false (sym ((bytes_decides user out).1 same) ∙ e) in
            let back = put.away user (record { own = other; fresh = may.databases_are.0 }) in
            record {
              after = given_compiled out g ds gs;
              alive = alive_with (λ c left. alive.ready.user c (back c left));
              back = λ c own left held_so. record {
                file = c;
                before = own;
                left = back c left;
                holds_it = held_so;
                steps = steps own own (sym (ap (λ b. cond b (last_value g.values) own) e));
              };
            }

  -- a crash left the file as it was, or the new one
  crash_puts : (old cut new : List Event) (out bytes : List ℕ) → MayReplace old cut out bytes → CrashedSince old cut new →
      ((name : List ℕ) → name ≢ new_name out → ComesBack old new name) ⊎ InPlace old new out bytes
  crash_puts old cut new out bytes may crash = elim (may.own (read_content new out) (crash.left out)) [
    | inl before ↦ inl (λ name fresh c left. subst (MayLeave old name) (sym (crash.settled name c left)) (as_before name (bytes_eq name out) refl fresh before))
    | inr made ↦ inr (record {
      away = λ name a c left. subst (MayLeave old name) (sym (crash.settled name c left)) (may.others name (read_content new name) a.own a.fresh (crash.left name));
      own = λ c left. crash.settled out c left ∙ made;
    })
  ]
    where
      as_before : (name : List ℕ) (b : Bool) → bytes_eq name out ≡ b → name ≢ new_name out → MayLeave old out (read_content new out) → MayLeave old name (read_content new name)
      as_before name true e fresh before =
          subst (λ n. MayLeave old n (read_content new n)) (sym ((bytes_decides name out).0 e)) before
      as_before name false e fresh before =
          may.others name (read_content new name) (λ same. true≢false (sym ((bytes_decides name out).1 same) ∙ e)) fresh (crash.left name)

  fresh_back : (old new : List Event) (out : List ℕ) (dbs : List Database) → ((name : List ℕ) → name ≢ new_name out → ComesBack old new name) →
      AllByRecursion (λ other. database_file other ≢ new_name out) dbs → AllByRecursion (λ other. ComesBack old new (database_file other)) dbs
  fresh_back old new out [] back fresh = tt
  fresh_back old new out (other ∷ dbs) back fresh = (back (database_file other) fresh.0, fresh_back old new out dbs back fresh.1)

  put_went : (old new : List Event) (gs : List Given) (a : Attempt) (out : List ℕ) → Alive old gs → PutsFile a.command out → MayPut profile (d ∷ ds) out →
      a.end ≢ ended (refused_output (device_text out)) → CameTo a.command a.input a.end old new → Went old new gs a
  put_went old new gs a out alive file may no_fault came = by_end a.end refl came
    where
      by_crash : (cut : List Event) → CrashedSince old cut new → a.end ≡ cut_off → (output : Output) → (m : IsMadeFor a.command old cut output out) → MayReplace old cut out m.bytes → Went old new gs a
      by_crash cut crash e output m replaces = elim (crash_puts old cut new out m.bytes replaces crash) [
        | inl back ↦ nothing_went old new gs a alive (inl (subst MayBeLeftOut (sym e) tt)) (back profile may.profile_is.fresh) (back user may.databases_are.0)
            (fresh_back old new out ds back may.databases_are.1)
        | inr put ↦ put_kept old new gs alive a out may m.g m.bytes m.rows m.fits m.gives put (subst (MayBeKept user) (sym e) tt)
      ]

      by_end : (end : RunEnd) → a.end ≡ end → CameTo a.command a.input end old new → Went old new gs a
      by_end (ended output) e ran = elim (put_did a.command a.input old new output out file ran) [
        | inl nothing ↦ nothing_done old new gs a alive (inl (subst MayBeLeftOut (sym e) nothing.0)) (same_back old new nothing.1)
        | inr m ↦ elim m.how [
          | inl all ↦ put_kept old new gs alive a out may m.g m.bytes m.rows m.fits m.gives (in_place old new out m.bytes all.1) (subst (MayBeKept user) (sym e) (inl all.0))
          | inr some ↦ absurd (no_fault (e ∙ ap ended some.0))
        ]
      ]
      by_end cut_off e ran = elim (put_did a.command a.input old ran.0 ran.1 out file ran.2) [
        | inl nothing ↦ nothing_done old new gs a alive (inl (subst MayBeLeftOut (sym e) tt)) (crash_back old ran.0 new nothing.1 ran.3)
        | inr m ↦ elim m.how [
          | inl all ↦ by_crash ran.0 ran.3 e ran.1 m all.1.any_moment
          | inr some ↦ by_crash ran.0 ran.3 e ran.1 m some.1.any_moment
        ]
      ]
      by_end cut_short e crash = nothing_done old new gs a alive (inl (subst MayBeLeftOut (sym e) tt)) (crash_back old old new refl crash)

  -- ---- a list of attempts

  went : (old new : List Event) (gs : List Given) (a : Attempt) → Alive old gs → MayBeTried profile (d ∷ ds) a → CameTo a.command a.input a.end old new → Went old new gs a
  went old new gs a alive (inl plain) came = elim plain [
    | inl of ↦ change_went old new gs alive a of came
    | inr only ↦ read_went old new gs a alive only came
  ]
  went old new gs a alive (inr file) came = put_went old new gs a file.0 alive file.1 file.2 file.3 came

  record AllBack (old new : List Event) (gs after : List Given) (attempts : List Attempt) (own : OwnValues) : Type 0 where
    file : MaybeBytes
    before : OwnValues
    left : MayLeave old user file
    holds_it : FileHolds file before
    steps : MayStandInTurn d ds old attempts new (standing before gs) (standing own after)

  record AllWent (old new : List Event) (gs : List Given) (attempts : List Attempt) : Type 0 where
    after : List Given
    alive : Alive new after
    back : (c : MaybeBytes) (own : OwnValues) → MayLeave new user c → FileHolds c own → AllBack old new gs after attempts own

  all_went : (attempts : List Attempt) (old new : List Event) (gs : List Given) → Alive old gs → AllByRecursion (MayBeTried profile (d ∷ ds)) attempts → CameInTurn old attempts new →
      AllWent old new gs attempts
  all_went [] old new gs alive of came = record {
    after = gs;
    alive = subst (λ es. Alive es gs) (sym came) alive;
    back = λ c own left held_so. record { file = c; before = own; left = subst (λ es. MayLeave es user c) came left; holds_it = held_so; steps = (came, refl) };
  }
  all_went (a ∷ more) old new gs alive of came =
      let one = went old came.0 gs a alive of.0 came.1 in
      let rest = all_went more came.0 new one.after one.alive of.1 came.2 in
      record {
        after = rest.after;
        alive = rest.alive;
        back = λ c own left held_so.
            let r = rest.back c own left held_so in
            let b = one.back r.file r.before r.left r.holds_it in
            record {
              file = b.file;
              before = b.before;
              left = b.left;
              holds_it = b.holds_it;
              steps = (came.0, standing r.before one.after, came.1, b.steps, r.steps);
            };
      }

  -- ---- the folder at first

  module _ (s : Standing) (old : List Event) (h : FolderStands (read_content old) profile d ds s) (settled : AreSettled old profile d ds) where
    first_is : read_content old user ≡ h.first
    first_is = found_all (read_content old user) h.first h.read.0

    first_can : CanBeRead (read_content old user)
    first_can = subst CanBeRead (sym first_is) (record {
      read = ap read_of (sym first_is) ∙ h.read.0;
      settings = h.held.first;
      layer = first_layer h.first h.others h.opened.layers h.held.first h.held.later h.held.layers h.layers;
    })

    first_holds : FileHolds (read_content old user) s.own
    first_holds = subst (λ c. FileHolds c s.own) (sym first_is)
        (h.held.first, first_layer h.first h.others h.opened.layers h.held.first h.held.later h.held.layers h.layers, h.held.own_is)

    alive_first : Alive old s.others
    alive_first = record {
      text = h.text;
      names = h.names;
      others = h.others;
      later = h.held.later;
      layers = h.held.others_are;
      give = h.held.gives;
      ready = record {
        profile_is = h.profile_is;
        read = h.read.1;
        profile_settled = settled.profile_is;
        others_settled = settled.others;
        user = λ c left. subst CanBeRead (sym (settled.user c left)) first_can;
      };
    }

    outlived : (attempts : List Attempt) (new : List Event) (c : MaybeBytes) (own : OwnValues) → AllByRecursion (MayBeTried profile (d ∷ ds)) attempts →
        (came : CameInTurn old attempts new) → (all : AllWent old new s.others attempts) → MayLeave new user c → FileHolds c own →
        MayStandInTurn d ds old attempts new s (standing own all.after)
    outlived attempts new c own of came all left held_so =
        let b = all.back c own left held_so in
        let same : b.before ≡ s.own =
        one_own (read_content old user) b.before s.own (subst (λ c. FileHolds c b.before) (settled.user b.file b.left) b.holds_it) first_holds in
        subst (λ own0. MayStandInTurn d ds old attempts new (standing own0 s.others) (standing own all.after)) same b.steps

pub nothing_is_lost_of_all : NothingIsLostOfAll
nothing_is_lost_of_all profile d ds s attempts old new c apart h settled of came left =
    let all = all_went profile d ds apart attempts old new s.others (alive_first profile d ds apart s old h settled) of came in
    let can = all.alive.ready.user c left in
    let own = can_hold c can in
    (standing own all.after, outlived profile d ds apart s old h settled attempts new c own of came all left (holds_so c can), holds_so c can)

pub next_run_finds_all_of : NextRunFindsAllOf
next_run_finds_all_of profile d ds s attempts old new apart h settled of came =
    let user = database_file d in
    let all = all_went profile d ds apart attempts old new s.others (alive_first profile d ds apart s old h settled) of came in
    let own = own_now profile d ds apart new all.after all.alive in (
      standing own all.after,
      outlived profile d ds apart s old h settled attempts new (read_content new user) own of came all (seen_may new user)
          (found_now profile d ds apart new all.after all.alive),
      stands_now profile d ds apart new all.after all.alive,
    )

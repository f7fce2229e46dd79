-- A folder whose files give rows stands, and a run of `compile` carries that on.
use Rattle.std.specs.Prelude.{◌≡◌, ◌≢◌, ◌⊎◌, ◌+◌, ℕ, Bool, true, false, cond, nat_lt, length, codes, List, [], ◌∷◌, Some, None, Result, Ok, Err, refl}
use Rattle.std.proofs.Common.{ap, sym, ◌∙◌, subst, inl, inr}
use Rattle.std.specs.List.{AllByRecursion}
use Rattle.std.specs.Str.{bytes_eq}
use Rattle.std.specs.Cmp.Lexicographic.{bytes_decides}
use Rattle.std.proofs.lemmas.Bool.{true≢false}
use Rattle.dconf_model.specs.Bytes.{MaybeBytes, longest_file}
use Rattle.dconf_model.specs.Settings.{Settings}
use Rattle.dconf_model.specs.FaultTexts.{device_text, no_file_text, line_fault_text, open_fault_text}
use Rattle.dconf_model.specs.Folders.{Event, read_content}
use Rattle.dconf_model.specs.Replacing.{new_name, Replaced}
use Rattle.dconf_model.specs.Profiles.{Database, database_file, has_writable}
use Rattle.dconf_model.specs.Commands.{Command}
use Rattle.dconf_model.specs.Commands.Command.{compile, repair}
use Rattle.dconf_model.specs.Reads.{Content, FileRead, Input, ReadResults, read_of, steady}
use Rattle.dconf_model.specs.Reads.FileRead.{holds, over_size, failed}
use Rattle.dconf_model.specs.Sources.{Source, Given, FileFault, given, last_value, taken, first_file}
use Rattle.dconf_model.specs.Opening.{IsDatabase}
use Rattle.dconf_model.specs.Salvaging.{IsSalvaged}
use Rattle.dconf_model.specs.Databases.{AreLayers, IsCompiled, IsDatabaseOf, IsMadeOfGiven}
use Rattle.dconf_model.specs.Outcomes.{Gives, Outcome, Output, IsOutcome, WithFiles, OrNoRead, Compiles, Repairs, compile_output, changing, file_name, kept_text}
use Rattle.dconf_model.specs.Runs.{Did, DidAsMeant, ReadsFrom}
use Rattle.dconf_model.specs.Runs.RunEnding.{as_meant}
use Rattle.dconf_model.specs.Stores.{OwnValues, AllGive, FileGives}
use Rattle.dconf_model.specs.Programs.{AreRead, FolderHolds, NameGives, NamesGive, GivenHolds, NoFileGivesNothing, AreSources, IsApart, IsPut, SalvageGives, SourcesGive, CompileGives, own_compiled, given_compiled, CompileSteps, RepairGives, RepairSteps}
use Rattle.dconf_model.proofs.DatabasesGiven.{missing_gives_nothing, compiled_gives}
use Rattle.dconf_model.proofs.SoundGiven.{gives_some}
use Rattle.dconf_model.proofs.ProgramLaws.{Refuses}
use Rattle.dconf_model.proofs.DatabaseLaws.{written_says_settings}
use Rattle.dconf_model.proofs.SettledLaws.{settled_by}
use Rattle.dconf_model.proofs.RunChanges.{not_less, read_back}

-- ---- a folder of files that give

record Gathered (content : Content) (ds : List Database) (gs : List Given) : Type 0 where
  items : List MaybeBytes
  read : AreRead content ds items
  settings : List Settings
  layers : AreLayers items settings
  give : AllGive settings gs

gathered : (content : Content) (ds : List Database) (gs : List Given) → NamesGive content ds gs → Gathered content ds gs
gathered content [] [] h = record { items = []; read = tt; settings = []; layers = tt; give = tt }
gathered content [] (g ∷ gs) h = absurd h
gathered content (d ∷ ds) [] h = absurd h
gathered content (d ∷ ds) (g ∷ gs) h =
    let rest = gathered content ds gs h.1 in
    record {
      items = h.0.0 ∷ rest.items;
      read = (h.0.1, rest.read);
      settings = h.0.2.0 ∷ rest.settings;
      layers = (h.0.2.1, rest.layers);
      give = (h.0.2.2, rest.give);
    }

pub given_holds : GivenHolds
given_holds content profile text d ds g gs profile_is names h =
    let rest = gathered content ds gs h.1 in
    let first = h.0.2 in
    record {
      text = text;
      profile_is = profile_is;
      names = names;
      first = h.0.0;
      others = rest.items;
      read = (h.0.1, rest.read);
      opened = record { layers = first.0 ∷ rest.settings; writable = has_writable (d ∷ ds) };
      layers = (first.1, rest.layers);
      writable = refl;
      held = record { first = first.0; later = rest.settings; layers = refl; others_are = rest.layers; gives = rest.give; own_is = first.2.values };
    }

pub no_file_gives_nothing : NoFileGivesNothing
no_file_gives_nothing content name none = (None, ap read_of none, missing_gives_nothing)

-- what the files of a folder that stands give
names_give : (content : Content) (ds : List Database) (items : List MaybeBytes) (ss : List Settings) (gs : List Given) → AreRead content ds items →
    AreLayers items ss → AllGive ss gs → NamesGive content ds gs
names_give content [] [] [] [] r l h = tt
names_give content [] [] [] (g ∷ gs) r l h = absurd h
names_give content [] [] (s ∷ ss) gs r l h = absurd l
names_give content [] (item ∷ items) ss gs r l h = absurd r
names_give content (d ∷ ds) [] ss gs r l h = absurd r
names_give content (d ∷ ds) (item ∷ items) [] gs r l h = absurd l
names_give content (d ∷ ds) (item ∷ items) (s ∷ ss) [] r l h = absurd h
names_give content (d ∷ ds) (item ∷ items) (s ∷ ss) (g ∷ gs) r l h =
    ((item, r.0, (s, l.0, h.0)), names_give content ds items ss gs r.1 l.1 h.1)

-- and the first one's own values, as rows
record GivesNow (content : Content) (d : Database) (ds : List Database) (own : OwnValues) (gs : List Given) : Type 0 where
  now : Given
  gives : NamesGive content (d ∷ ds) (now ∷ gs)
  same : last_value now.values ≡ own

gives_now : (content : Content) (profile : List ℕ) (d : Database) (ds : List Database) (own : OwnValues) (gs : List Given) →
    FolderHolds content profile d ds own gs → GivesNow content d ds own gs
gives_now content profile d ds own gs h =
    let s = h.held.first in
    let some = gives_some s in
    let layers = subst (AreLayers (h.first ∷ h.others)) h.held.layers h.layers in
    record {
      now = some.0;
      gives = ((h.first, h.read.0, (s, layers.0, some.1)), names_give content ds h.others h.held.later gs h.read.1 layers.1 h.held.gives);
      same = λ i path. (sym (some.1.values path) ∙ h.held.own_is path) i;
    }

-- ---- files that are read

module _ (es : List Event) (name : List ℕ) (Go : List ℕ → Gives) (o : Outcome) where
  abbrev Found : Type 0
  Found = Refuses o ⊎ ((bytes : List ℕ) × (read_content es name ≡ Some bytes) × Go bytes o)

  by_size : (bytes : List ℕ) → read_content es name ≡ Some bytes → (b : Bool) → OrNoRead name (cond b over_size (holds bytes)) Go o → Found
  by_size bytes e true h = inl (codes "TooBig", h)
  by_size bytes e false h = inr (bytes, e, h)

  by_content : (c : MaybeBytes) → read_content es name ≡ c → OrNoRead name (read_of c) Go o → Found
  by_content None e h = inl (no_file_text name, h)
  by_content (Some bytes) e h = by_size bytes e (nat_lt longest_file (length bytes)) h

  -- it is refused, or goes on with what is there
  with_file : (r : FileRead) → (r ≡ read_of (read_content es name)) ⊎ (r ≡ failed) → OrNoRead name r Go o → Found
  with_file r (inl given) h = by_content (read_content es name) refl (subst (λ r. OrNoRead name r Go o) given h)
  with_file r (inr fails) h = inl (device_text name, subst (λ r. OrNoRead name r Go o) fails h)

with_files : (es : List Event) (reads : ReadResults) (n : ℕ) (names : List (List ℕ)) (Go : List Source → Gives) (o : Outcome) → ReadsFrom es reads →
    WithFiles reads n names Go o → Refuses o ⊎ ((files : List Source) × AreSources (read_content es) names files × Go files o)
with_files es reads n [] Go o from h = inr ([], tt, h)
with_files es reads n (name ∷ more) Go o from h =
    elim (with_file es name (λ bytes. WithFiles reads (n + 1) more (λ files. Go (record { name = name; bytes = bytes } ∷ files))) o (reads n name) (from n name) h) [
      | inl why ↦ inl why
      | inr found ↦ elim (with_files es reads (n + 1) more (λ files. Go (record { name = name; bytes = found.0 } ∷ files)) o from found.2) [
        | inl why ↦ inl why
        | inr rest ↦ inr (record { name = name; bytes = found.0 } ∷ rest.0, (refl, found.1, rest.1), rest.2)
      ]
    ]

-- in a folder whose reads don't fail
none_fails : (es : List Event) → ReadsFrom es (steady (read_content es))
none_fails es n name = inl refl

-- ---- what is put in place

-- an outcome that puts a file in place, which is read and gives so
pub record Makes (out : List ℕ) (g : Given) (o : Outcome) : Type 0 where
  pub bytes : List ℕ
  pub text : List ℕ
  pub fits : read_of (Some bytes) ≡ holds bytes
  pub gives : FileGives (Some bytes) g
  pub is : o ≡ changing out bytes text

put_by : (old new : List Event) (out bytes : List ℕ) (g : Given) → Replaced old new out bytes → read_of (Some bytes) ≡ holds bytes → FileGives (Some bytes) g → IsPut old new out g
put_by old new out bytes g r fits gives = record {
  gives = (Some bytes, ap read_of r.read ∙ fits, gives);
  others = λ name apart. r.others.others name apart.own apart.fresh;
  settled = settled_by old new out bytes r;
}

module _ {command : Command} {input : Input} {old new : List Event} {output : Output} (a : DidAsMeant command input old new output) where
  refused_calmly : Refuses a.outcome → (output.status ≡ 1) × (new ≡ old)
  refused_calmly why = (
    ap (λ (o : Output). o.status) (a.output_is ∙ ap (λ (o : Outcome). o.output) why.1),
    subst (λ change. Did change as_meant old new) (ap (λ (o : Outcome). o.change) why.1) a.did,
  )

  put_calmly : (out : List ℕ) (g : Given) → Makes out g a.outcome → (output.status ≡ 0) × IsPut old new out g
  put_calmly out g made = (
    ap (λ (o : Output). o.status) (a.output_is ∙ ap (λ (o : Outcome). o.output) made.is),
    put_by old new out made.bytes g (subst (λ change. Did change as_meant old new) (ap (λ (o : Outcome). o.change) made.is) a.did) made.fits made.gives,
  )

-- ---- what is compiled

abbrev failed_file : FileFault → Result (List ℕ) FileFault
failed_file f = Err f

no_bytes : (bytes : List ℕ) (f : FileFault) → Ok bytes ≡ failed_file f → ⊥
no_bytes bytes f e = cc

makes_of : (out : List ℕ) (files locks : List Source) (o : Outcome) → Compiles out files locks o →
    Refuses o ⊎ ((g : Given) × (given files locks ≡ Ok g) × Makes out g o)
makes_of out files locks o h = by_result h.0 h.1 h.2
  where
    by_given : (bytes : List ℕ) → o ≡ changing out bytes [] → IsCompiled files locks (Ok bytes) → (r : Result Given FileFault) → given files locks ≡ r →
        IsMadeOfGiven r (first_file (taken files)) (Ok bytes) → (g : Given) × (given files locks ≡ Ok g) × Makes out g o
    by_given bytes is compiled (Err f) e made = absurd (no_bytes bytes f made)
    by_given bytes is compiled (Ok g) e made = (
      g,
      e,
      record {
        bytes = bytes;
        text = [];
        fits = ap (λ b. cond b over_size (holds bytes)) (not_less longest_file (length bytes) made.2.fits);
        gives = compiled_gives files locks g bytes e compiled;
        is = is;
      },
    )

    by_result : (r : Result (List ℕ) FileFault) → IsCompiled files locks r → o ≡ compile_output out files locks r →
        Refuses o ⊎ ((g : Given) × (given files locks ≡ Ok g) × Makes out g o)
    by_result (Err f) compiled is = inl (line_fault_text (file_name files locks f.file) f.line f.cause, is)
    by_result (Ok bytes) compiled is = inr (by_given bytes is compiled (given files locks) refl compiled)

pub compile_makes : (es : List Event) (reads : ReadResults) (out : List ℕ) (lock_names : List (List ℕ)) (names : List (List ℕ)) (input : Input) (o : Outcome) →
    ReadsFrom es reads → IsOutcome (compile out lock_names names) reads input o →
    Refuses o ⊎ ((g : Given) × SourcesGive (read_content es) lock_names names g × Makes out g o)
compile_makes es reads out lock_names names input o from is =
    let Locks : List Source → Gives = λ files. WithFiles reads (length names) lock_names (λ locks. Compiles out files locks) in
    elim (with_files es reads 0 names Locks o from is) [
      | inl why ↦ inl why
      | inr files ↦ elim (with_files es reads (length names) lock_names (λ locks. Compiles out files.0 locks) o from files.2) [
        | inl why ↦ inl why
        | inr locks ↦ elim (makes_of out files.0 locks.0 o locks.2) [
          | inl why ↦ inl why
          | inr made ↦ inr (made.0, record { files = files.0; locks = locks.0; files_are = files.1; locks_are = locks.1; given_is = made.1 }, made.2)
        ]
      ]
    ]

pub compile_gives : CompileGives
compile_gives out lock_names names input old new output (inr m) = inr (ap (λ (o : Output). o.status) m.0, m.1)
compile_gives out lock_names names input old new output (inl a) =
    elim (compile_makes old (steady (read_content old)) out lock_names names input a.outcome (none_fails old) a.is) [
      | inl why ↦ inr (refused_calmly a why)
      | inr made ↦ (let put = put_calmly a out made.0 made.2 in inl (put.0, (made.0, record { sources = made.1; put = put.1 })))
    ]

-- ---- what is repaired

pub repair_makes : (es : List Event) (reads : ReadResults) (file out : List ℕ) (input : Input) (o : Outcome) → ReadsFrom es reads → IsOutcome (repair file out) reads input o →
    Refuses o ⊎ ((g : Given) × SalvageGives (read_content es) file g × Makes out g o)
repair_makes es reads file out input o from is =
    elim (with_file es file (Repairs out) o (reads 0 file) (from 0 file) is) [
      | inl why ↦ inl why
      | inr found ↦ elim found.2 [
        | inl none ↦ inl (open_fault_text none.0, none.2)
        | inr salvaged ↦ elim salvaged.1.2 [
          | inl big ↦ inl (codes "TooBig", big.1)
          | inr made ↦ inr (done_by found.0 found.1 salvaged.0 salvaged.1.0 salvaged.1.1 made.0 made.1 made.2)
        ]
      ]
    ]
  where
    done_by : (bytes : List ℕ) → read_content es file ≡ Some bytes → IsDatabase bytes → (s : Settings) → IsSalvaged bytes s → (made : List ℕ) → IsDatabaseOf s made →
        o ≡ changing out made (kept_text s) → (g : Given) × SalvageGives (read_content es) file g × Makes out g o
    done_by bytes there opens s salvaged made is_made is =
        let some = gives_some s in
        let says = written_says_settings s made (λ path locked. ((salvaged.locks path).0 locked).0.1) is_made in (
          some.0,
          record { bytes = bytes; there = there; opens = opens; settings = s; salvaged = salvaged; gives = some.1 },
          record { bytes = made; text = kept_text s; fits = read_back made s is_made; gives = (s, (is_made.opens, is_made.sound, says), some.1); is = is },
        )

pub repair_gives : RepairGives
repair_gives file out input old new output (inr m) = inr (ap (λ (o : Output). o.status) m.0, m.1)
repair_gives file out input old new output (inl a) =
    elim (repair_makes old (steady (read_content old)) file out input a.outcome (none_fails old) a.is) [
      | inl why ↦ inr (refused_calmly a why)
      | inr made ↦ (let put = put_calmly a out made.0 made.2 in inl (put.0, (made.0, record { salvage = made.1; put = put.1 })))
    ]

-- ---- the folder afterwards

module _ (old new : List Event) (out : List ℕ) (g : Given) (c : IsPut old new out g) where
  other_gives : (name : List ℕ) (h : Given) → name ≢ out → name ≢ new_name out → NameGives (read_content old) name h → NameGives (read_content new) name h
  other_gives name h own fresh gives = (gives.0, ap read_of (c.others name (record { own = own; fresh = fresh })) ∙ gives.1, gives.2)

  one_gives : (name : List ℕ) (h : Given) (b : Bool) → bytes_eq name out ≡ b → name ≢ new_name out → NameGives (read_content old) name h →
      NameGives (read_content new) name (cond b g h)
  one_gives name h true e fresh gives = subst (λ name. NameGives (read_content new) name g) (sym ((bytes_decides name out).0 e)) c.gives
  one_gives name h false e fresh gives = other_gives name h (λ same. true≢false (sym ((bytes_decides name out).1 same) ∙ e)) fresh gives

  all_give : (ds : List Database) (gs : List Given) → AllByRecursion (λ other. database_file other ≢ new_name out) ds → NamesGive (read_content old) ds gs →
      NamesGive (read_content new) ds (given_compiled out g ds gs)
  all_give [] [] fresh h = tt
  all_give [] (x ∷ gs) fresh h = absurd h
  all_give (d ∷ ds) [] fresh h = absurd h
  all_give (d ∷ ds) (x ∷ gs) fresh h =
      (one_gives (database_file d) x (bytes_eq (database_file d) out) refl fresh.0 h.0, all_give ds gs fresh.1 h.1)

values_of : (b : Bool) (g now : Given) (own : OwnValues) → last_value now.values ≡ own → last_value (cond b g now).values ≡ cond b (last_value g.values) own
values_of true g now own e = refl
values_of false g now own e = e

pub put_steps : (profile : List ℕ) (d : Database) (ds : List Database) (own : OwnValues) (gs : List Given) (out : List ℕ) (g : Given) (old new : List Event) →
    FolderHolds (read_content old) profile d ds own gs → IsApart out profile →
    AllByRecursion (λ other. database_file other ≢ new_name out) (d ∷ ds) → IsPut old new out g →
    FolderHolds (read_content new) profile d ds (own_compiled out g d own) (given_compiled out g ds gs)
put_steps profile d ds own gs out g old new h apart fresh c =
    let n = gives_now (read_content old) profile d ds own gs h in
    let b = bytes_eq (database_file d) out in
    let first = one_gives old new out g c (database_file d) n.now b refl fresh.0 n.gives.0 in
    let rest = all_give old new out g c ds gs fresh.1 n.gives.1 in
    subst (λ own. FolderHolds (read_content new) profile d ds own (given_compiled out g ds gs)) (values_of b g n.now own n.same)
    (given_holds (read_content new) profile h.text d ds (cond b g n.now) (given_compiled out g ds gs)
    (ap read_of (c.others profile apart) ∙ h.profile_is) h.names (first, rest))

pub compile_steps : CompileSteps
compile_steps profile d ds own gs out lock_names names g old new h apart fresh c = put_steps profile d ds own gs out g old new h apart fresh c.put

pub repair_steps : RepairSteps
repair_steps profile d ds own gs file out g old new h apart fresh c = put_steps profile d ds own gs out g old new h apart fresh c.put

-- What a run did, by what its command decided and by how the answer came about.
use Rattle.std.proofs.Common.{◌≡◌, ◌+◌, ◌∷◌, ◌⊎◌, ◌∙◌, inl, inr, ℕ, Bool, true, false, zero, suc, List, [], Option, Some, None, Ok, Err, refl, sym, ap, subst, arith, unwrap_or}
use Rattle.std.specs.Prelude.{◌≢◌, IfSome, IsTrue, codes, slice_get}
use Rattle.std.specs.Str.{bytes_eq}
use Rattle.std.proofs.Math.Dec.{eqb}
use Rattle.std.proofs.lemmas.Bool.Decides.{eqb_tells}
use Rattle.std.proofs.lemmas.Slice.Eq.{bytes_eq-Decides}
use Rattle.dconf_folders.specs.declared.folder.Folder.{Ghosts}
use Rattle.dconf_model.specs.Folders.{Event, read_content}
use Rattle.dconf_model.specs.FaultTexts.{device_text}
use Rattle.dconf_model.specs.Replacing.{MaybeReplaced, ReadsWhole, new_name}
use Rattle.dconf_model.specs.Commands.{Command}
use Rattle.dconf_model.specs.Reads.{FileRead, Input, ReadResults, read_of, steady}
use Rattle.dconf_model.specs.Reads.FileRead.{no_file, holds, over_size, failed}
use Rattle.dconf_model.specs.Outcomes.{IsOutcome, Outcome, Output, Replacement, refused, refused_output}
use Rattle.dconf_model.specs.Runs.{Answers as AnswersAny, AnswersIn, Did, MayMake, NoMemory, Ran, RanCalmly, ReadsFrom, device_output}
use Rattle.dconf_model.specs.Runs.{RunEnding}
use Rattle.dconf_model.specs.Runs.RunEnding.{as_meant, device}
use Rattle.dconf_streams.specs.declared.answer.Answer.TheVariants as answers
use Rattle.refused.specs.declared.Refused.TheVariants as refusals
use Rattle.dconf_streams.specs.Answers.{Answered, RefusesFor, outcome_of}
use Rattle.dconf_cli.specs.Endings.{Ends, EndsBy}
use Rattle.dconf_streams.specs.Readings.{AllRead, AreReadFrom, Decides, Gave, IsKept, Reading, Tells}
use Rattle.dconf_cli.specs.Runs.{IsFormed, IsOwn, KeepsFiles, KeepsWithoutMemory, NamesFile, RanAnywhere, SaysFailedInput}
use Rattle.dconf_streams.specs.Streams.{NoneFailed}
use Rattle.dconf_cli.proofs.StreamsLeft.{not_rose}

-- ---- reads of a folder of which some may fail

or_failed : FileRead → FileRead → FileRead
or_failed no_file given = given
or_failed (holds bytes) given = given
or_failed over_size given = given
or_failed failed given = failed

is_given : (gave given : FileRead) → (gave ≡ given) ⊎ (gave ≡ failed) → or_failed gave given ≡ gave
unfolding or_failed
is_given no_file given (inl e) = sym e
is_given no_file given (inr e) = cc
is_given (holds bytes) given (inl e) = sym e
is_given (holds bytes) given (inr e) = cc
is_given over_size given (inl e) = sym e
is_given over_size given (inr e) = cc
is_given failed given h = refl

either : (gave given : FileRead) → (or_failed gave given ≡ given) ⊎ (or_failed gave given ≡ failed)
unfolding or_failed
either no_file given = inl refl
either (holds bytes) given = inl refl
either over_size given = inl refl
either failed given = inr refl

module _ (es : List Event) where
  reads_in : List Reading → ReadResults
  reads_in [] n name = read_of (read_content es name)
  reads_in (r ∷ more) zero name = or_failed r.gave (read_of (read_content es name))
  reads_in (r ∷ more) (suc n) name = reads_in more n name

  gave_in : (log : List Reading) (k : ℕ) (reads : ReadResults) → ((i m : ℕ) (name : List ℕ) → m ≡ k + i → reads m name ≡ reads_in log i name)
      → AreReadFrom es log → Gave reads k log
  unfolding reads_in
  gave_in [] k reads same are = tt
  gave_in (r ∷ more) k reads same are = (
    same zero k r.name (omega arith) ∙ is_given r.gave (read_of (read_content es r.name)) are.0,
    gave_in more (k + 1) reads (λ i m name e. same (suc i) m name (omega arith)) are.1,
  )

  gave_all : (log : List Reading) → AreReadFrom es log → Gave (reads_in log) 0 log
  gave_all log are = gave_in log 0 (reads_in log) (λ i m name e. let same : m ≡ i = omega arith in ap (λ (n : ℕ). reads_in log n name) same) are

  given_in : (log : List Reading) → ReadsFrom es (reads_in log)
  unfolding reads_in
  given_in [] n name = inl refl
  given_in (r ∷ more) zero name = either r.gave (read_of (read_content es name))
  given_in (r ∷ more) (suc n) name = given_in more n name

  pub gave_steadily : (log : List Reading) (k : ℕ) → AreReadFrom es log → AllRead log → Gave (steady (read_content es)) k log
  gave_steadily [] k are all = tt
  gave_steadily (r ∷ more) k are all = (read are.0, gave_steadily more (k + 1) are.1 all.1)
    where
      read : (r.gave ≡ read_of (read_content es r.name)) ⊎ (r.gave ≡ failed) → read_of (read_content es r.name) ≡ r.gave
      read (inl e) = sym e
      read (inr e) = absurd (all.0 e)

-- ---- outcomes of answers

changes_done : (answer : Answered) → IfSome (outcome_of answer) (λ o. (o.change ≡ None) ⊎ (o.output.status ≡ 0))
changes_done (Ok (answers.Done text)) = inl refl
changes_done (Ok (answers.Changed file bytes text)) = inr refl
changes_done (Err (refusals.Fault line)) = inl refl
changes_done (Err refusals.Memory) = tt

outcome_formed : (answer : Answered) → IfSome (outcome_of answer) (λ o. IsFormed o.output)
outcome_formed (Ok (answers.Done text)) = inl (refl, refl)
outcome_formed (Ok (answers.Changed file bytes text)) = inl (refl, refl)
outcome_formed (Err (refusals.Fault line)) = inr (refl, refl)
outcome_formed (Err refusals.Memory) = tt

line_status : (output : Output) (why : List ℕ) → output ≡ refused_output why → output.status ≡ 1
line_status output why e = ap (λ (o : Output). o.status) e

line_formed : (output : Output) (why : List ℕ) → output ≡ refused_output why → IsFormed output
line_formed output why e = inr (line_status output why e, ap (λ (o : Output). o.out) e)

-- the one for a file isn't the one for memory
other_lines : (name : List ℕ) → refused_output (device_text name) ≡ refused_output (codes "Memory") → ⊥
other_lines name e = let bad : 68 ≡ 77 = ap (λ (o : Output). unwrap_or (slice_get o.err 7) 0) e in omega (arith, bad)

not_both : (n : ℕ) → n ≡ 0 → n ≡ 1 → ⊥
not_both n z o = omega arith

-- ---- how an outcome came about

module _ {F : Type 0} (ghosts : Ghosts F) (command : Command) (input : Input) (mid new : F) (output : Output) where
  -- in a folder of these events, for an outcome by these reads
  record Ended (reads : ReadResults) (es : List Event) : Type 0 where
    now : List Event
    is : ghosts.past new now
    answers_in : AnswersIn command input reads es now output
    refused : output.status ≡ 1 → (now ≡ es) ⊎ ((name : List ℕ) × (bytes : List ℕ) × (output ≡ refused_output (device_text name)) × MaybeReplaced es now name bytes)

  module _ (reads : ReadResults) (es : List Event) (es_is : ghosts.past mid es) where
    unchanged : NoMemory output → new ≡ mid → Ended reads es
    unchanged none same = record { now = es; is = subst (λ f. ghosts.past f es) (sym same) es_is; answers_in = inr (none, refl); refused = λ _. inl refl }

    ended_by : (o : Outcome) (change : Option Replacement) → o.change ≡ change → IsOutcome command reads input o
        → (o.change ≡ None) ⊎ (o.output.status ≡ 0) → EndsBy ghosts mid new o change output → Ended reads es
    ended_by o None same is done e = record {
      now = es;
      is = subst (λ f. ghosts.past f es) (sym e.1) es_is;
      answers_in = inl (record { outcome = o; ending = as_meant; is = is; output_is = e.0 }, subst (λ c. Did c as_meant es es) (sym same) refl);
      refused = λ _. inl refl;
    }
    ended_by o (Some r) same is (inl none) e = let bad : None ≡ Some r = sym none ∙ same in cc
    ended_by o (Some r) same is (inr zero_is) (inl e) =
        let after = e.2 es es_is in
        record {
          now = after.0;
          is = after.1;
          answers_in = inl (record { outcome = o; ending = as_meant; is = is; output_is = e.0 }, subst (λ c. Did c as_meant es after.0) (sym same) after.2);
          refused = λ one. absurd (not_both output.status (ap (λ (x : Output). x.status) e.0 ∙ zero_is) one);
        }
    ended_by o (Some r) same is (inr zero_is) (inr (inl e)) =
        let after = e.2 es es_is in
        record {
          now = after.0;
          is = after.1;
          answers_in = inl (
            record { outcome = o; ending = device; is = is; output_is = subst (λ c. output ≡ device_output o.output c) (sym same) e.0 },
            subst (λ c. Did c device es after.0) (sym same) after.2,
          );
          refused = λ _. inr (r.name, r.bytes, e.0, after.2);
        }
    ended_by o (Some r) same is (inr zero_is) (inr (inr e)) = unchanged e.0 e.1

    ended : (o : Option Outcome) → IfSome o (λ x. IsOutcome command reads input x) → IfSome o (λ x. (x.change ≡ None) ⊎ (x.output.status ≡ 0))
        → Ends ghosts mid new o output → Ended reads es
    ended None is done e = unchanged e.0 e.1
    ended (Some o) is done e = ended_by o o.change refl is done e

    -- where nothing failed
    calmly_by : NoneFailed (ghosts.failed mid) (ghosts.failed new) → reads ≡ steady (read_content es) → (o : Outcome) (change : Option Replacement) → o.change ≡ change
        → IsOutcome command (steady (read_content es)) input o → EndsBy ghosts mid new o change output → (now : List Event) × ghosts.past new now × RanCalmly command input es now output
    calmly_by none rs o None same is e = (
      es,
      subst (λ f. ghosts.past f es) (sym e.1) es_is,
      inl (record { outcome = o; is = is; did = subst (λ c. Did c as_meant es es) (sym same) refl; output_is = e.0 }),
    )
    calmly_by none rs o (Some r) same is (inl e) =
        let after = e.2 es es_is in
        (after.0, after.1, inl (record { outcome = o; is = is; did = subst (λ c. Did c as_meant es after.0) (sym same) after.2; output_is = e.0 }))
    calmly_by none rs o (Some r) same is (inr (inl e)) = absurd (not_rose _ _ none e.1)
    calmly_by none rs o (Some r) same is (inr (inr e)) = (es, subst (λ f. ghosts.past f es) (sym e.1) es_is, inr (e.0, refl))

    calmly : NoneFailed (ghosts.failed mid) (ghosts.failed new) → reads ≡ steady (read_content es) → (o : Option Outcome)
        → IfSome o (λ x. IsOutcome command (steady (read_content es)) input x) → Ends ghosts mid new o output
        → (now : List Event) × ghosts.past new now × RanCalmly command input es now output
    calmly none rs None is e = (es, subst (λ f. ghosts.past f es) (sym e.1) es_is, inr (e.0, refl))
    calmly none rs (Some o) is e = calmly_by none rs o o.change refl is e

  -- in any folder
  anyhow_by : (reads : ReadResults) (o : Outcome) (change : Option Replacement) → o.change ≡ change → IsOutcome command reads input o
      → EndsBy ghosts mid new o change output → AnswersAny command input reads output
  anyhow_by reads o None same is e = inl (record { outcome = o; ending = as_meant; is = is; output_is = e.0 })
  anyhow_by reads o (Some r) same is (inl e) = inl (record { outcome = o; ending = as_meant; is = is; output_is = e.0 })
  anyhow_by reads o (Some r) same is (inr (inl e)) =
      inl (record { outcome = o; ending = device; is = is; output_is = subst (λ c. output ≡ device_output o.output c) (sym same) e.0 })
  anyhow_by reads o (Some r) same is (inr (inr e)) = inr e.0

  anyhow : (reads : ReadResults) (o : Option Outcome) → IfSome o (λ x. IsOutcome command reads input x) → Ends ghosts mid new o output
      → AnswersAny command input reads output
  anyhow reads None is e = inr e.0
  anyhow reads (Some o) is e = anyhow_by reads o o.change refl is e

  -- a refusal leaves the folder as it is
  refusal_stays : (o : Option Outcome) (why : List ℕ) → IfSome o (λ x. x ≡ refused why) → Ends ghosts mid new o output → new ≡ mid
  refusal_stays None why is e = e.1
  refusal_stays (Some o) why is e = (subst (λ (x : Outcome). EndsBy ghosts mid new x x.change output) is e).1

  refusal_says : (o : Option Outcome) (why : List ℕ) → IfSome o (λ x. x ≡ refused why) → Ends ghosts mid new o output
      → (output ≡ refused_output why) ⊎ NoMemory output
  refusal_says None why is e = inr e.0
  refusal_says (Some o) why is e = inl (subst (λ (x : Outcome). EndsBy ghosts mid new x x.change output) is e).0

  -- and so does the line for memory
  memory_stays_by : (o : Outcome) (change : Option Replacement) → o.change ≡ change → (o.change ≡ None) ⊎ (o.output.status ≡ 0) → NoMemory output
      → EndsBy ghosts mid new o change output → new ≡ mid
  memory_stays_by o None same done none e = e.1
  memory_stays_by o (Some r) same (inl is) none e = let bad : None ≡ Some r = sym is ∙ same in cc
  memory_stays_by o (Some r) same (inr zero_is) none (inl e) =
      absurd (not_both output.status (ap (λ (x : Output). x.status) e.0 ∙ zero_is) (line_status output (codes "Memory") none))
  memory_stays_by o (Some r) same (inr zero_is) none (inr (inl e)) = absurd (other_lines r.name (sym e.0 ∙ none))
  memory_stays_by o (Some r) same (inr zero_is) none (inr (inr e)) = e.1

  memory_stays : (o : Option Outcome) → IfSome o (λ x. (x.change ≡ None) ⊎ (x.output.status ≡ 0)) → NoMemory output → Ends ghosts mid new o output
      → new ≡ mid
  memory_stays None done none e = e.1
  memory_stays (Some o) done none e = memory_stays_by o o.change refl done none e

  formed_by : (o : Outcome) (change : Option Replacement) → IsFormed o.output → EndsBy ghosts mid new o change output → IsFormed output
  formed_by o None form e = subst (λ (x : Output). IsFormed x) (sym e.0) form
  formed_by o (Some r) form (inl e) = subst (λ (x : Output). IsFormed x) (sym e.0) form
  formed_by o (Some r) form (inr (inl e)) = line_formed output (device_text r.name) e.0
  formed_by o (Some r) form (inr (inr e)) = line_formed output (codes "Memory") e.0

  formed : (o : Option Outcome) → IfSome o (λ x. IsFormed x.output) → Ends ghosts mid new o output → IsFormed output
  formed None form e = line_formed output (codes "Memory") e.0
  formed (Some o) form e = formed_by o o.change form e

  -- status 0 comes only where no failure rose
  kept_by : (o : Outcome) (change : Option Replacement) → output.status ≡ 0 → EndsBy ghosts mid new o change output → ghosts.failed new ≡ ghosts.failed mid
  kept_by o None zero_is e = ap ghosts.failed e.1
  kept_by o (Some r) zero_is (inl e) = e.1
  kept_by o (Some r) zero_is (inr (inl e)) = absurd (not_both output.status zero_is (line_status output (device_text r.name) e.0))
  kept_by o (Some r) zero_is (inr (inr e)) = ap ghosts.failed e.1

  kept : (o : Option Outcome) → output.status ≡ 0 → Ends ghosts mid new o output → ghosts.failed new ≡ ghosts.failed mid
  kept None zero_is e = ap ghosts.failed e.1
  kept (Some o) zero_is e = kept_by o o.change zero_is e

  -- a failure that rose while a file was replaced
  broke_by : (o : Outcome) (change : Option Replacement) → o.change ≡ change → ghosts.failed new ≢ ghosts.failed mid → (log : List Reading)
      → ((reads : ReadResults) → Gave reads 0 log → IsOutcome command reads input o) → EndsBy ghosts mid new o change output
      → NamesFile command input log output ⊎ NoMemory output
  broke_by o None same rose log is e = absurd (rose (ap ghosts.failed e.1))
  broke_by o (Some r) same rose log is (inl e) = absurd (rose e.1)
  broke_by o (Some r) same rose log is (inr (inl e)) = inl (r.name, e.0, inr (λ reads gave. (r.bytes, (o, is reads gave, same))))
  broke_by o (Some r) same rose log is (inr (inr e)) = absurd (rose (ap ghosts.failed e.1))

  broke : (o : Option Outcome) → ghosts.failed new ≢ ghosts.failed mid → (log : List Reading)
      → ((reads : ReadResults) → Gave reads 0 log → IfSome o (λ x. IsOutcome command reads input x)) → Ends ghosts mid new o output
      → NamesFile command input log output ⊎ NoMemory output
  broke None rose log is e = absurd (rose (ap ghosts.failed e.1))
  broke (Some o) rose log is e = broke_by o o.change refl rose log is e

-- ---- a run

-- no file but the command's own reads otherwise
others_keep : (command : Command) (input : Input) (reads : ReadResults) (es now : List Event) (output : Output) → ReadsFrom es reads
    → AnswersIn command input reads es now output → (name : List ℕ) → (read_content now name ≡ read_content es name) ⊎ IsOwn command input es name
others_keep command input reads es now output given (inr none) name = inl (ap (λ (x : List Event). read_content x name) none.1)
others_keep command input reads es now output given (inl did) name = by_change did.0.outcome.change refl did.0.ending did.1
  where
    whole : (r : Replacement) → did.0.outcome.change ≡ Some r → ReadsWhole es now r.name r.bytes → (own fresh : Bool) → bytes_eq name r.name ≡ own
        → bytes_eq name (new_name r.name) ≡ fresh → (read_content now name ≡ read_content es name) ⊎ IsOwn command input es name
    whole r same reads_whole true fresh own_is fresh_is =
        let is : name ≡ r.name = (bytes_eq-Decides name r.name).0 own_is in
        inr (reads, given, inl (r.bytes, subst (λ n. MayMake command input reads n r.bytes) (sym is) (did.0.outcome, did.0.is, same)))
    whole r same reads_whole false true own_is fresh_is =
        inr (reads, given, inr (r.name, r.bytes, (did.0.outcome, did.0.is, same), (bytes_eq-Decides name (new_name r.name)).0 fresh_is))
    whole r same reads_whole false false own_is fresh_is =
        let not_own : name ≡ r.name → ⊥ = λ e. let bad : true ≡ false = sym ((bytes_eq-Decides name r.name).1 e) ∙ own_is in cc in
        let not_fresh : name ≡ new_name r.name → ⊥ = λ e. let bad : true ≡ false = sym ((bytes_eq-Decides name (new_name r.name)).1 e) ∙ fresh_is in cc in
        inl (reads_whole.others name not_own not_fresh)

    by_change : (change : Option Replacement) → did.0.outcome.change ≡ change → (ending : RunEnding) → Did change ending es now
        → (read_content now name ≡ read_content es name) ⊎ IsOwn command input es name
    by_change None same as_meant d = inl (ap (λ (x : List Event). read_content x name) d)
    by_change None same device d = absurd d
    by_change (Some r) same as_meant d = whole r same d.others _ _ refl refl
    by_change (Some r) same device d = whole r same d.whole _ _ refl refl

module _ {F : Type 0} (ghosts : Ghosts F) (command : Command) (input : Input) (old mid new : F) (answer : Answered) (output : Output)
    (d : Decides ghosts old mid 0 (λ reads. IsOutcome command reads input) answer) (e : Ends ghosts mid new (outcome_of answer) output) where
  pub ran : IsTrue (ghosts.honest mid) → (es : List Event) → ghosts.past old es → (now : List Event) × ghosts.past new now × Ran command input es now output × KeepsFiles command input es now output
  ran t es es_is =
      let known = d.known t es es_is in
      let reads = reads_in es d.log in
      let end : Ended ghosts command input mid new output reads es =
      ended ghosts command input mid new output reads es (d.kept.past es es_is) (outcome_of answer) (d.answers reads (gave_all es d.log known)) (changes_done answer) e in
      let given = given_in es d.log in (
        end.now,
        end.is,
        record { reads = reads; given = given; answers = end.answers_in },
        record {
          others = others_keep command input reads es end.now output given end.answers_in;
          refused = end.refused;
        },
      )

  none_rose : NoneFailed (ghosts.failed old) (ghosts.failed new) → Tells (ghosts.failed old) (ghosts.failed mid) d.log answer → AllRead d.log × (ghosts.failed mid ≡ ghosts.failed old)
  none_rose none (inl all) = all
  none_rose none (inr broken) =
      let stays : new ≡ mid = refusal_stays ghosts command input mid new output (outcome_of answer) (device_text broken.0) broken.3 e in
      absurd (not_rose _ _ (subst (λ (n : ℕ). NoneFailed (ghosts.failed old) n) (ap ghosts.failed stays) none) broken.2)

  pub ran_calmly : IsTrue (ghosts.honest mid) → NoneFailed (ghosts.failed old) (ghosts.failed new) → (es : List Event) → ghosts.past old es
      → (now : List Event) × ghosts.past new now × RanCalmly command input es now output
  ran_calmly t none es es_is =
      let known = d.known t es es_is in
      let all = none_rose none d.tells in
      calmly ghosts command input mid new output (steady (read_content es)) es (d.kept.past es es_is) (subst (λ (n : ℕ). NoneFailed n (ghosts.failed new)) (sym all.1) none) refl
      (outcome_of answer) (d.answers (steady (read_content es)) (gave_steadily es d.log 0 known all.0)) e

  named : ghosts.failed new ≢ ghosts.failed old → Tells (ghosts.failed old) (ghosts.failed mid) d.log answer → NamesFile command input d.log output ⊎ NoMemory output
  named rose (inl all) =
      broke ghosts command input mid new output (outcome_of answer) (λ same. rose (same ∙ all.1)) d.log d.answers e
  named rose (inr broken) = says (refusal_says ghosts command input mid new output (outcome_of answer) (device_text broken.0) broken.3 e)
    where
      says : (output ≡ refused_output (device_text broken.0)) ⊎ NoMemory output → NamesFile command input d.log output ⊎ NoMemory output
      says (inl is) = inl (broken.0, is, inl broken.1)
      says (inr none) = inr none

  pub ran_anywhere : RanAnywhere (ghosts.failed old) (ghosts.failed new) command input output
  ran_anywhere = record {
    log = d.log;
    answers = λ reads gave. anyhow ghosts command input mid new output reads (outcome_of answer) (d.answers reads gave) e;
    device = λ rose. named rose d.tells;
    form = formed ghosts command input mid new output (outcome_of answer) (outcome_formed answer) e;
  }

  pub keeps_without_memory : KeepsWithoutMemory ghosts old new output
  keeps_without_memory none =
      let stays : new ≡ mid = memory_stays ghosts command input mid new output (outcome_of answer) (changes_done answer) none e in
      subst (λ (f : F). IsKept ghosts old f) (sym stays) d.kept

  pub zero_keeps : output.status ≡ 0 → ghosts.failed new ≡ ghosts.failed old
  zero_keeps zero_is = go d.tells
    where
      failing : (why : List ℕ) → (output ≡ refused_output why) ⊎ NoMemory output → ghosts.failed new ≡ ghosts.failed old
      failing why (inl is) = absurd (not_both output.status zero_is (line_status output why is))
      failing why (inr is) = absurd (not_both output.status zero_is (line_status output (codes "Memory") is))

      go : Tells (ghosts.failed old) (ghosts.failed mid) d.log answer → ghosts.failed new ≡ ghosts.failed old
      go (inl all) = kept ghosts command input mid new output (outcome_of answer) zero_is e ∙ all.1
      go (inr broken) = failing (device_text broken.0) (refusal_says ghosts command input mid new output (outcome_of answer) (device_text broken.0) broken.3 e)

  -- it is not 0 where the input failed
  pub zero_keeps_input : (failed_old failed_new : ℕ) → (failed_new ≢ failed_old → RefusesFor answer (device_text (codes "input")))
      → output.status ≡ 0 → failed_new ≡ failed_old
  zero_keeps_input failed_old failed_new says zero_is = go (eqb_tells failed_new failed_old)
    where
      failing : (output ≡ refused_output (device_text (codes "input"))) ⊎ NoMemory output → failed_new ≡ failed_old
      failing (inl is) = absurd (not_both output.status zero_is (line_status output (device_text (codes "input")) is))
      failing (inr is) = absurd (not_both output.status zero_is (line_status output (codes "Memory") is))

      go : ((eqb failed_new failed_old ≡ true) × (failed_new ≡ failed_old)) ⊎ ((eqb failed_new failed_old ≡ false) × (failed_new ≢ failed_old)) → failed_new ≡ failed_old
      go (inl same) = same.1
      go (inr other) =
          failing (refusal_says ghosts command input mid new output (outcome_of answer) (device_text (codes "input")) (says other.1) e)

  -- of an input that failed the output says so
  pub says_failed_input : RefusesFor answer (device_text (codes "input")) → SaysFailedInput output
  says_failed_input says = refusal_says ghosts command input mid new output (outcome_of answer) (device_text (codes "input")) says e

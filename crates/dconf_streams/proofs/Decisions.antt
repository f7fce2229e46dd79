-- What a command decides, put together from its reads and from what it makes of their bytes.
use Rattle.std.proofs.Common.{◌≡◌, ◌≤◌, inl, inr, ℕ, List, [], length, true, false, Option, Some, None, Err, refl, sym, ◌∙◌, arith}
use Rattle.std.specs.Prelude.{◌≢◌, IfSome, IsTrue, codes, nat_lt, option_map, vec_items}
use Rattle.std.specs.declared.vec.Vec.{Vec}
use Rattle.std.proofs.lemmas.Option.{IfSome_then}
use Rattle.dconf_folders.specs.declared.folder.Folder.{Ghosts}
use Rattle.dconf_model.specs.Bytes.{longest_file}
use Rattle.dconf_model.specs.Folders.{Event, read_content}
use Rattle.dconf_model.specs.FaultTexts.{device_text, no_file_text}
use Rattle.dconf_model.specs.Outcomes.{OrNoDatabase, OrNoRead, Outcome, Refused, WithFile}
use Rattle.dconf_model.specs.Reads.{FileRead, IsOverSize, ReadResults, read_of}
use Rattle.dconf_model.specs.Reads.FileRead.{no_file, holds, over_size, failed}
use Rattle.refused.specs.declared.Refused.TheVariants.{Memory}
use Rattle.dconf_streams.specs.Answers.{Answered, GivesOutcome, RefusesFor, outcome_of}
use Rattle.dconf_streams.specs.Readings.{Decides, HasRead, IsKept, Nothing, NothingIfAny, found_read, one_read}
use Rattle.dconf_folders.specs.Failures.{IsOneMore}

-- ---- answers

pub answers_also : (answer : Answered) (Makes Also : Outcome → Type 0) → ((o : Outcome) → Makes o → Also o) → GivesOutcome answer Makes → GivesOutcome answer Also
answers_also answer Makes Also also h = IfSome_then (outcome_of answer) h also

-- ---- what a read gave

pub not_failed : (bytes : List ℕ) → holds bytes ≢ failed
not_failed bytes e = cc

pub nothing_is_any : (name : List ℕ) (gave : FileRead) (Go : List ℕ → Outcome → Type 0) (o : Outcome) → OrNoRead name gave Nothing o → OrNoRead name gave Go o
nothing_is_any name (holds bytes) Go o h = absurd h
nothing_is_any name _ Go o h = h

-- ---- one time after another

module _ {F : Type 0} (ghosts : Ghosts F) where
  pub at_once : (folder : F) → IsKept ghosts folder folder
  at_once folder = record { past = λ es is. is; honest = λ t. t; turn = refl }

  pub kept_both : (old mid new : F) → IsKept ghosts old mid → IsKept ghosts mid new → IsKept ghosts old new
  kept_both old mid new a b = record { past = λ es is. b.past es (a.past es is); honest = λ t. a.honest (b.honest t); turn = b.turn ∙ a.turn }

-- ---- a command's decision

module _ {F : Type 0} (ghosts : Ghosts F) where
  -- the same, said of more outcomes
  pub decides_also : (old new : F) (n : ℕ) (answer : Answered) (Makes Also : ReadResults → Outcome → Type 0) → ((reads : ReadResults) (o : Outcome) → Makes reads o → Also reads o)
      → Decides ghosts old new n Makes answer → Decides ghosts old new n Also answer
  decides_also old new n answer Makes Also also d = record {
    log = d.log;
    kept = d.kept;
    known = d.known;
    tells = d.tells;
    answers = λ reads gave. answers_also answer (Makes reads) (Also reads) (also reads) (d.answers reads gave);
  }

  -- before anything is read
  pub decides_at_once : (folder : F) (n : ℕ) (answer : Answered) (Makes : ReadResults → Outcome → Type 0) → ((reads : ReadResults) → GivesOutcome answer (Makes reads))
      → Decides ghosts folder folder n Makes answer
  decides_at_once folder n answer Makes each = record {
    log = [];
    kept = at_once ghosts folder;
    known = λ _ es is. tt;
    tells = inl (tt, refl);
    answers = λ reads _. each reads;
  }

  -- by the bytes of one file
  pub decides_by_file : (old new : F) (n : ℕ) (name bytes : List ℕ) (answer : Answered) (Go : List ℕ → Outcome → Type 0)
      → HasRead ghosts old new (one_read name (holds bytes)) → GivesOutcome answer (Go bytes)
      → Decides ghosts old new n (λ reads. WithFile reads n name Go) answer
  decides_by_file old new n name bytes answer Go has_read h = record {
    log = one_read name (holds bytes);
    kept = has_read.kept;
    known = has_read.known;
    tells = inl ((not_failed bytes, tt), has_read.none_failed);
    answers = λ reads gave. answers_also answer (Go bytes) (WithFile reads n name Go) (λ o g. rw gave.0 g) h;
  }

  -- without the bytes of the file
  pub decides_without_file : (old new : F) (n : ℕ) (name : List ℕ) (answer : Answered) (Go : List ℕ → Outcome → Type 0)
      → Decides ghosts old new n (λ reads. WithFile reads n name Nothing) answer
      → Decides ghosts old new n (λ reads. WithFile reads n name Go) answer
  decides_without_file old new n name answer Go d =
      decides_also old new n answer (λ reads. WithFile reads n name Nothing) (λ reads. WithFile reads n name Go) (λ reads o h. nothing_is_any name (reads n name) Go o h) d

-- ---- one read

-- a file that was read is not too long
pub read_whole : (held found : Option (List ℕ)) → found ≡ held → IfSome found (λ bytes. length bytes ≤ longest_file) → found_read found ≡ read_of held
read_whole held None e short = rw (sym e) refl
read_whole held (Some bytes) e short = let small : nat_lt longest_file (length bytes) ≡ false = grind arith in rw (sym e, small) refl

pub read_over : (held : Option (List ℕ)) → IsOverSize held → over_size ≡ read_of held
read_over None much = absurd much
read_over (Some bytes) much = let large : nat_lt longest_file (length bytes) ≡ true = grind arith in rw large refl

pub found_not_failed : (found : Option (List ℕ)) → found_read found ≢ failed
found_not_failed None e = cc
found_not_failed (Some bytes) e = cc

module _ {F : Type 0} (ghosts : Ghosts F) (old new : F) (name : List ℕ) (keeps : IsKept ghosts old new) where
  pub has_read : (found : Option (List ℕ)) → (IsTrue (ghosts.honest new) → (es : List Event) → ghosts.past old es → found ≡ read_content es name) → IfSome found (λ bytes. length bytes ≤ longest_file)
      → ghosts.failed new ≡ ghosts.failed old → HasRead ghosts old new (one_read name (found_read found))
  has_read found is short same = record {
    kept = keeps;
    known = λ t es p. (inl (read_whole (read_content es name) found (is t es p) short), tt);
    none_failed = same;
  }

  pub decides_broken : (n : ℕ) (answer : Answered) → IsOneMore (ghosts.failed old) (ghosts.failed new) → RefusesFor answer (device_text name)
      → Decides ghosts old new n (λ reads. OrNoDatabase name (reads n name) NothingIfAny) answer
  decides_broken n answer rose refuses = record {
    log = one_read name failed;
    kept = keeps;
    known = λ _ es p. (inr refl, tt);
    tells = inr (name, (refl, refl), rose, refuses);
    answers = λ reads gave. answers_also answer (Refused (device_text name)) (OrNoDatabase name (reads n name) NothingIfAny) (λ o r. rw gave.0 r) refuses;
  }

  pub decides_over_size : (n : ℕ) (answer : Answered) → (IsTrue (ghosts.honest new) → (es : List Event) → ghosts.past old es → IsOverSize (read_content es name)) → ghosts.failed new ≡ ghosts.failed old
      → RefusesFor answer (codes "TooBig") → Decides ghosts old new n (λ reads. OrNoDatabase name (reads n name) NothingIfAny) answer
  decides_over_size n answer much same refuses = record {
    log = one_read name over_size;
    kept = keeps;
    known = λ t es p. (inl (read_over (read_content es name) (much t es p)), tt);
    tells = inl (((λ e. cc), tt), same);
    answers = λ reads gave. answers_also answer (Refused (codes "TooBig")) (OrNoDatabase name (reads n name) NothingIfAny) (λ o r. rw gave.0 r) refuses;
  }

  pub decides_no_memory : (n : ℕ) → ghosts.failed new ≡ ghosts.failed old → (Makes : ReadResults → Outcome → Type 0) → Decides ghosts old new n Makes (Err Memory)
  decides_no_memory n same Makes = record {
    log = [];
    kept = keeps;
    known = λ _ es p. tt;
    tells = inl (tt, same);
    answers = λ reads gave. tt;
  }

module _ {F : Type 0} (ghosts : Ghosts F) (old new : F) (name : List ℕ) where
  -- a file that may not be missing
  pub decides_no_file : (n : ℕ) (answer : Answered) → HasRead ghosts old new (one_read name no_file) → RefusesFor answer (no_file_text name)
      → Decides ghosts old new n (λ reads. WithFile reads n name Nothing) answer
  decides_no_file n answer h refuses = record {
    log = one_read name no_file;
    kept = h.kept;
    known = h.known;
    tells = inl (((λ e. cc), tt), h.none_failed);
    answers = λ reads gave. answers_also answer (Refused (no_file_text name)) (WithFile reads n name Nothing) (λ o r. rw gave.0 r) refuses;
  }

  none_needed : (gave : FileRead) (o : Outcome) → OrNoDatabase name gave NothingIfAny o → OrNoRead name gave Nothing o
  none_needed no_file o h = absurd h
  none_needed _ o h = h

  pub decides_without : (n : ℕ) (answer : Answered) → Decides ghosts old new n (λ reads. OrNoDatabase name (reads n name) NothingIfAny) answer
      → Decides ghosts old new n (λ reads. WithFile reads n name Nothing) answer
  decides_without n answer d =
      decides_also ghosts old new n answer (λ reads. OrNoDatabase name (reads n name) NothingIfAny) (λ reads. WithFile reads n name Nothing)
      (λ reads o h. none_needed (reads n name) o h) d

pub short_items : {Z : Type 0} (found : Option (Vec ℕ Z)) → IfSome found (λ v. length (vec_items v) ≤ longest_file)
    → IfSome (option_map vec_items found) (λ bytes. length bytes ≤ longest_file)
short_items None short = tt
short_items (Some v) short = short

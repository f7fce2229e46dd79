-- A path among the words of a command, which is looked at first.
use Rattle.std.proofs.Common.{◌≡◌, ◌∙◌, ℕ, List, true, Option, Some, None, refl, sym, subst}
use Rattle.std.specs.Prelude.{is_none}
use Rattle.dconf_folders.specs.declared.folder.Folder.{Ghosts}
use Rattle.dconf_model.specs.Outcomes.{Gives, Outcome, UnlessFault}
use Rattle.dconf_model.specs.Paths.{PathFault, directory_fault, is_directory_path, is_key_path, key_fault}
use Rattle.dconf_model.specs.Reads.{ReadResults}
use Rattle.dconf_model.proofs.PathLaws.{directories_are_faultless, keys_are_faultless}
use Rattle.dconf_streams.specs.Answers.{Answered, GivesOutcome, NoOutcome}
use Rattle.dconf_streams.specs.Readings.{Decides}
use Rattle.dconf_streams.proofs.Decisions.{answers_also, decides_at_once}

none_of : (fault : Option PathFault) → is_none fault ≡ true → fault ≡ None
none_of None e = refl
none_of (Some f) e = cc

pub key_faultless : (text : List ℕ) → is_key_path text ≡ true → key_fault text ≡ None
key_faultless text good = none_of (key_fault text) (sym (keys_are_faultless text) ∙ good)

pub directory_faultless : (text : List ℕ) → is_directory_path text ≡ true → directory_fault text ≡ None
directory_faultless text good = none_of (directory_fault text) (sym (directories_are_faultless text) ∙ good)

no_outcome_is_any : (fault : Option PathFault) (Go : Gives) (o : Outcome) → UnlessFault fault NoOutcome o → UnlessFault fault Go o
no_outcome_is_any None Go o h = absurd h
no_outcome_is_any (Some f) Go o h = h

module _ {F : Type 0} (ghosts : Ghosts F) (old new : F) (Makes : ReadResults → Gives) (answer : Answered) (fault : Option PathFault) where
  pub decides_faultless : fault ≡ None → Decides ghosts old new 0 Makes answer → Decides ghosts old new 0 (λ reads. UnlessFault fault (Makes reads)) answer
  decides_faultless none d = subst (λ (f : Option PathFault). Decides ghosts old new 0 (λ reads. UnlessFault f (Makes reads)) answer) (sym none) d

module _ {F : Type 0} (ghosts : Ghosts F) (folder : F) (Makes : ReadResults → Gives) (answer : Answered) (fault : Option PathFault) where
  -- the path is refused
  pub decides_at_path : GivesOutcome answer (UnlessFault fault NoOutcome) → Decides ghosts folder folder 0 (λ reads. UnlessFault fault (Makes reads)) answer
  decides_at_path h =
      decides_at_once ghosts folder 0 answer (λ reads. UnlessFault fault (Makes reads))
      (λ reads. answers_also answer (UnlessFault fault NoOutcome) (UnlessFault fault (Makes reads)) (λ o m. no_outcome_is_any fault (Makes reads) o m) h)

  -- another word is refused
  pub decides_at_word : fault ≡ None → ((reads : ReadResults) → GivesOutcome answer (Makes reads)) → Decides ghosts folder folder 0 (λ reads. UnlessFault fault (Makes reads)) answer
  decides_at_word none each = decides_faultless ghosts folder folder Makes answer fault none (decides_at_once ghosts folder 0 answer Makes each)

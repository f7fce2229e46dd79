-- What holds of all words.
use Rattle.std.specs.Prelude.{ℕ, List, true, false, ◌≡◌, ◌≢◌}
use Rattle.dconf_options.specs.Words.{is_name, word_of}
use Rattle.dconf_options.specs.Options.{option_after, options_end}
use Rattle.dconf_options.specs.declared.words.Word.{Word}
use Rattle.dconf_options.specs.declared.options.OptionsRead.{OptionsRead}
use Rattle.dconf_options.specs.declared.options.Said.{Said}

pub record IsReadOnce (r : OptionsRead) (word argument : List ℕ) : Type 0 where
  -- `--store FOLDER` says what `--store=FOLDER` says
  pub two_words : r.wants ≡ 0 → r.is_over ≡ false → word_of r.is_lint word ≡ Word.WantsFolder → (option_after r word).said ≡ Said.Nothing →
      ((option_after (option_after r word).read argument).said ≡ Said.Folder)
      × ((option_after (option_after r word).read argument).read.has_folder ≡ true) × ((option_after (option_after r word).read argument).read.wants ≡ 0)
  -- a second one is refused, whichever its form
  pub twice : r.wants ≡ 0 → r.is_over ≡ false → r.has_folder ≡ true → word_of r.is_lint word ≡ Word.Folder → (option_after r word).said ≡ Said.Twice
  -- what begins as an option is never taken for a name, unless `--` came
  pub option : r.wants ≡ 0 → r.is_over ≡ false → is_name word ≡ false → (option_after r word).said ≢ Said.Name
  -- and behind `--` each word is one
  pub name : r.wants ≡ 0 → r.is_over ≡ true → r.is_lint ≡ true → (option_after r word).said ≡ Said.Name
  -- `watch` has one PATH
  pub one : r.is_lint ≡ false → r.has_name ≡ true → (option_after r word).said ≢ Said.Name
  -- it is done only if no option waits for its argument, and there is a name
  pub done : options_end r ≡ Said.Nothing → r.wants ≡ 0
  pub named : options_end r ≡ Said.Nothing → r.has_name ≡ true
  -- the machine's folder is for `lint` alone, and only if nothing is named
  pub machines : options_end r ≡ Said.Machines → (r.is_lint ≡ true) × (r.has_name ≡ false)

abbrev pub NoWordIsLost : Type 0
NoWordIsLost = (r : OptionsRead) (word argument : List ℕ) → IsReadOnce r word argument

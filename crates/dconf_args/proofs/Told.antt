-- What clap is told for some words gives the same for them as the whole command line.
use Rattle.std.proofs.Common.{◌≡◌, ◌∙◌, ◌||◌, ◌&&◌, ◌++◌, Bool, true, false, List, [], ◌∷◌, refl, sym, ap, subst, map, Option, Some, None, Result, Ok, Err, is_some, if◌then◌else◌}
use Rattle.std.specs.Prelude.{IfOk, IfSome, cond, drop, find, option_map}
use Rattle.std.specs.List.{list_all}
use Rattle.std.specs.Option.{option_map_or}
use Rattle.std.specs.Str.{bytes_eq}
use Rattle.std.proofs.lemmas.Bool.{and_from, and_parts, cond_both, or_right}
use Rattle.std.proofs.lemmas.Slice.Eq.{bytes_eq-Decides}
use Rattle.clap.specs.Faults.{entered_fault, has_free_rules, is_free_app, level_fault}
use Rattle.clap.specs.Kinds.{Kinds}
use Rattle.clap.specs.Simple.{argument_words, built_leaf, entered, help_shape, inherited, is_buildable, is_ready_leaf, is_simple_leaf, label_of, marked_built, names_of, new_shape, rows_at, with_leaf_noted}
use Rattle.clap.specs.Walk.{Waiting, Walk, answers_to, idle, is_empty, nothing_held, option, positional, stop_after, subcommand_met, walk_from}
use Rattle.clap.specs.Words.{App, FailsBy, HasMatchesOf, Row, Rule, Shape, Text, built, fault_of, is_simple, is_simple_and_free, subcommand_of}
use Rattle.clap.specs.declared.ArgMatches.{ArgMatches}
use Rattle.clap.specs.declared.error.Error.{Error}
use Rattle.dconf_args.specs.Asked.{IsParsedBy}
use Rattle.dconf_args.specs.CommandLine.{command_line}
use Rattle.dconf_args.specs.Taken.{is_among, told, told_of}
use Rattle.dconf_args.proofs.Stops.{Meets, StopsAt, fold_stops}
use Rattle.dconf_args.proofs.Subcommands.{answers_alone, found_passes, line}

-- a command of this name and with these rules
abbrev with_rules : Text → List Rule → Shape
with_rules name rules = record (new_shape name) { rules = rules }

-- the names of the commands, and their rules
abbrev commands : List (Text × List Rule)
commands = map (λ s. (s.name, s.rules)) command_line.subs

-- such a command, as it is built
abbrev built_of : Shape → Shape
built_of s = built_leaf (inherited (with_leaf_noted (marked_built command_line.top)) s)

-- clap's own `help`
abbrev help : List Shape
help = built_leaf help_shape ∷ []

module _ (words : List Text) where
  abbrev kept : Text × List Rule → Shape
  kept p = told_of words (with_rules p.0 p.1)

  -- ---- it is simple: so it is with a command's arguments and without them

  all_kept : (Q : Shape → Bool) (f : Shape → Shape) (after : List Shape) → list_all Q after ≡ true → (rows : List (Text × List Rule))
      → list_all (λ p. Q (f (with_rules p.0 p.1)) && Q (f (with_rules p.0 []))) rows ≡ true → list_all Q (map (λ p. f (kept p)) rows ++ after) ≡ true
  all_kept Q f after last [] e = last
  all_kept Q f after last (p ∷ rest) e =
      let parts = and_parts _ _ e in
      let each = and_parts _ _ parts.0 in
      and_from _ _ (cond_both (is_among p.0 words) p.1 [] (λ (rules : List Rule). Q (f (with_rules p.0 rules)) ≡ true) (λ told. each.0) (λ other. each.1)) (all_kept Q f after last rest parts.1)

  told_is_simple : is_simple (told words command_line) ≡ true
  told_is_simple = and_from (is_buildable (told words command_line)) _ (all_kept is_simple_leaf (λ s. s) [] refl commands refl) (all_kept is_ready_leaf built_of help refl commands refl)

  told_is_simple_and_free : is_simple_and_free (told words command_line) ≡ true
  told_is_simple_and_free =
      and_from (is_simple (told words command_line)) (is_free_app (built (told words command_line))) told_is_simple (all_kept has_free_rules built_of help refl commands refl)

  -- ---- where a walk stops it is at one of the words

  named_among : (word : Text) → is_among word words ≡ true → (found : Option (Text × List Text))
      → IfSome found (λ s. (is_empty s.1 ≡ true) × (answers_to word s ≡ true)) → IfSome (option_map (λ s. s.0) found) (λ name. is_among name words ≡ true)
  named_among word met None answers = tt
  named_among word met (Some s) answers = subst (λ (name : Text). is_among name words ≡ true) (sym (answers_alone word s answers.0 answers.1)) met

  met_among : (word : Text) → is_among word words ≡ true → (waiting : Waiting) → IfSome (subcommand_met (names_of line) waiting word) (λ name. is_among name words ≡ true)
  met_among word met idle = named_among word met _ (found_passes (λ s. is_empty s.1) (answers_to word) (names_of line) refl)
  met_among word met (option id) = tt
  met_among word met positional = tt

  -- these are among the words
  abbrev AreAmong : List Text → Type 0
  AreAmong some = (word : Text) → is_among word some ≡ true → is_among word words ≡ true

  each_among : (w : Walk) (word : Text) (rest : List Text) → AreAmong (word ∷ rest)
      → Meets (λ name. is_among name words ≡ true) (names_of line) w word × AreAmong rest
  each_among w word rest among = (
    λ going near. met_among word (among word (rw ((bytes_eq-Decides word word).1 refl) refl)) w.waiting,
    λ other met. among other (or_right (bytes_eq word other) _ met),
  )

  abbrev stop : Option (Text × List Text)
  stop = stop_after line.top.rules (names_of line) (argument_words command_line words)

  stop_among : (given : List Text) → given ≡ words → StopsAt (λ name. is_among name words ≡ true) (stop_after line.top.rules (names_of line) (drop 1 given))
  stop_among [] same = tt
  stop_among (word ∷ rest) same = fold_stops (λ name. is_among name words ≡ true) line.top.rules (names_of line) (λ w some. AreAmong some) each_among rest
      (walk_from nothing_held) tt (λ other met. subst (λ (all : List Text). is_among other all ≡ true) same (or_right (bytes_eq word other) _ met))

  -- ---- the command there is as it is in the whole command line

  found_kept : (name : Text) → is_among name words ≡ true → (rows : List (Text × List Rule))
      → find (λ s. answers_to name (label_of s)) (map (λ p. built_of (kept p)) rows ++ help)
      ≡ find (λ s. answers_to name (label_of s)) (map (λ p. built_of (with_rules p.0 p.1)) rows ++ help)
  found_kept name met [] = refl
  found_kept name met (p ∷ rest) = go (bytes_eq p.0 name) refl (found_kept name met rest)
    where
      go : (t : Bool) → bytes_eq p.0 name ≡ t → {there whole : Option Shape} → there ≡ whole
          → cond (t || false) (Some (built_of (kept p))) there ≡ cond (t || false) (Some (built_of (with_rules p.0 p.1))) whole
      go true e later =
          ap (λ (t : Bool). Some (built_of (with_rules p.0 (if t then p.1 else []))))
          (subst (λ (n : Text). is_among n words ≡ true) (sym ((bytes_eq-Decides p.0 name).0 e)) met)
      go false e later = later

  same_at : (at : Option (Text × List Text)) → StopsAt (λ name. is_among name words ≡ true) at
      → (entered (built (told words command_line)) at ≡ entered line at) × (entered_fault (built (told words command_line)) at ≡ entered_fault line at)
  same_at None met = (refl, refl)
  same_at (Some p) met =
      let same = found_kept p.0 met commands in (
        ap (option_map (λ s. rows_at s p.1)) same,
        ap (λ (o : Option Shape). option_map_or (λ s. level_fault s [] nothing_held p.1 false []) o []) same,
      )

  same_subcommand : subcommand_of (told words command_line) words ≡ subcommand_of command_line words
  same_subcommand = (same_at stop (stop_among words refl)).0

  same_fault : fault_of (told words command_line) words ≡ fault_of command_line words
  same_fault =
      let same = same_at stop (stop_among words refl) in
      let level : Option (Text × List Row) → Kinds → Kinds = λ met. level_fault line.top (names_of line) nothing_held (argument_words command_line words) (is_some met) in
      ap (λ (met : Option (Text × List Row)). level met (entered_fault (built (told words command_line)) stop)) same.0 ∙ ap (level (entered line stop)) same.1

  -- ---- a parse by it

  module _ (a : App) (r : Result ArgMatches Error) (same : a ≡ told words command_line) (kinds : is_simple_and_free a ≡ true → FailsBy (fault_of a words) r) where
    pub fails : FailsBy (fault_of command_line words) r
    fails = subst (λ (k : Kinds). FailsBy k r) (ap (λ (x : App). fault_of x words) same ∙ same_fault) (kinds (ap is_simple_and_free same ∙ told_is_simple_and_free))

  pub parsed : (a : App) (r : Result ArgMatches Error) → a ≡ told words command_line → (is_simple_and_free a ≡ true → FailsBy (fault_of a words) r)
      → IfOk r (HasMatchesOf a words) → IfOk r (IsParsedBy words)
  parsed a (Err e) same kinds matches = tt
  parsed a (Ok m) same kinds matches = record {
    sound = fails a (Ok m) same kinds;
    met = (matches (ap is_simple same ∙ told_is_simple)).1 ∙ (ap (λ (x : App). subcommand_of x words) same ∙ same_subcommand);
  }

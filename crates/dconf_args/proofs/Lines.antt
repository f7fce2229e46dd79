-- What clap is told of a command line, setting by setting.
use Rattle.std.proofs.Common.{◌≡◌, ◌&&◌, ◌∙◌, Bool, List, [], ◌∷◌, true, false, not, refl, sym, ap, if◌then◌else◌}
use Rattle.clap.specs.Words.{App, Shape, Text, new_app, with_rule}
use Rattle.dconf_args.specs.Taken.{is_among, rule_of_word, told_of, with_words}
use Rattle.dconf_args.specs.declared.word.Word.{Word}

-- the two settings of `dconfdb`
abbrev pub versioned : App → App
versioned a = record a { top = record a.top { has_version = true } }

abbrev pub wanting_subcommand : App → App
wanting_subcommand a = record a { top = record a.top { subcommand_required = true } }

pub first_not : (a b : Bool) → (not a && b) ≡ true → a ≡ false
first_not true b e = cc
first_not false b e = refl

-- words add rules to a line, and change nothing else
pub only_rules : (a : App) (words : List Word) → record (with_words a words).top { rules = [] } ≡ record a.top { rules = [] }
only_rules a [] = refl
only_rules a (word ∷ rest) = only_rules (with_rule a (rule_of_word word)) rest

-- so those that are left out leave a line as it began
pub told_line : (given : List Text) (name : Text) (words : List Word) (t : Bool) → is_among name given ≡ t
    → (if t then with_words (new_app name) words else new_app name).top ≡ told_of given (with_words (new_app name) words).top
told_line given name words true e = rw (ap (λ (s : Shape). is_among s.name given) (only_rules (new_app name) words) ∙ e) refl
told_line given name words false e =
    rw (ap (λ (s : Shape). is_among s.name given) (only_rules (new_app name) words) ∙ e) (sym (only_rules (new_app name) words))

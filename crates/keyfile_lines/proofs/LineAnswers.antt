-- What a line that is UTF-8 gives where it stands, by what it says by itself.
use Rattle.std.proofs.Common.{◌≡◌, ℕ, true, false, List, [], Some, None, refl, sym, ap, ◌∙◌}
use Rattle.std.specs.Prelude.{IsUtf8}
use Rattle.std.specs.List.{before_first, after_first}
use Rattle.std.specs.Str.{is_utf8}
use Rattle.std.proofs.lemmas.Bool.{false_from_ne_true}
use Rattle.std.proofs.lemmas.Str.{IsUtf8-from_is_utf8}
use Rattle.dconf_model.specs.Causes.SettingsCause.{not_utf8, bad_line, bad_group}
use Rattle.dconf_model.specs.Lines.{is_space, without_start, without_end}
use Rattle.dconf_model.specs.Lines.LineReading.{nothing, wrong}
use Rattle.dconf_model.specs.Keyfiles.{LineKind, group_in, is_equals, line_kind, without_blanks}
use Rattle.dconf_model.specs.Keyfiles.LineKind.{empty, bracket, entry}
use Rattle.dconf_model.specs.Locks.{lock_line}
use Rattle.keyfile_lines.specs.Answers.{Place, entry_read, if_empty, line_in, lock_answer, named, of_lock, place_after, place_by, reading_in}
use Rattle.keyfile_lines.specs.Answers.Place.{before, inside, lost}
use Rattle.keyfile_lines.specs.Answers.Answer.{idle, refused}
use Rattle.keyfile_lines.specs.Lines.{IsSaid, has_key}
use Rattle.keyfile_lines.specs.declared.lines.Line.{Line}

-- ---- bytes that are no text

pub says_no_text : (place : Place) (line : List ℕ) → ¬ IsUtf8 line → reading_in place line ≡ wrong not_utf8
says_no_text place line none = rw (false_from_ne_true (is_utf8 line) (λ e. none (IsUtf8-from_is_utf8 line e))) refl

pub stays_there : (place : Place) (line : List ℕ) → ¬ IsUtf8 line → place_after place line ≡ place
stays_there place line none = rw (false_from_ne_true (is_utf8 line) (λ e. none (IsUtf8-from_is_utf8 line e))) refl

pub locks_no_text : (line : List ℕ) → ¬ IsUtf8 line → lock_answer line ≡ refused not_utf8
locks_no_text line none = rw (false_from_ne_true (is_utf8 line) (λ e. none (IsUtf8-from_is_utf8 line e))) refl

-- ---- a text

module _ (line : List ℕ) (text : is_utf8 line ≡ true) where
  abbrev s : List ℕ
  s = without_blanks line

  pub reads : (place : Place) → reading_in place line ≡ line_in place s
  reads place = rw text refl

  pub goes_on : (place : Place) → place_after place line ≡ place_by (line_kind s) place s
  goes_on place = rw text refl

  pub says_nothing : (place : Place) → line_kind s ≡ empty → reading_in place line ≡ nothing
  says_nothing before kind = reads before ∙ rw kind refl
  says_nothing (inside group) kind = reads (inside group) ∙ rw kind refl
  says_nothing lost kind = reads lost ∙ rw kind refl

  pub names_group : (place : Place) (group : List ℕ) → line_kind s ≡ bracket → group_in s ≡ Some group → reading_in place line ≡ nothing
  names_group before group kind is = reads before ∙ rw (kind, is) refl
  names_group (inside other) group kind is = reads (inside other) ∙ rw (kind, is) refl
  names_group lost group kind is = reads lost ∙ rw (kind, is) refl

  pub names_none : (place : Place) → line_kind s ≡ bracket → group_in s ≡ None → reading_in place line ≡ wrong bad_group
  names_none before kind is = reads before ∙ rw (kind, is) refl
  names_none (inside group) kind is = reads (inside group) ∙ rw (kind, is) refl
  names_none lost kind is = reads lost ∙ rw (kind, is) refl

  pub is_bad : (place : Place) → line_kind s ≡ entry → has_key s ≡ false → reading_in place line ≡ wrong bad_line
  is_bad before kind is = reads before ∙ rw (kind, is) refl
  is_bad (inside group) kind is = reads (inside group) ∙ rw (kind, is) refl
  is_bad lost kind is = reads lost ∙ rw (kind, is) refl

  pub has_entry : (place : Place) (key value : List ℕ) → line_kind s ≡ entry → has_key s ≡ true
      → key ≡ without_end is_space (before_first is_equals s) → value ≡ without_start is_space (after_first is_equals s)
      → entry_read place key value ≡ reading_in place line
  has_entry place key value kind is k v = (λ i. entry_read place (k i) (v i)) ∙ (sym (go place) ∙ sym (reads place))
    where
      go : (place : Place) → line_in place s ≡ entry_read place (without_end is_space (before_first is_equals s)) (without_start is_space (after_first is_equals s))
      go before = rw (kind, is) refl
      go (inside group) = rw (kind, is) refl
      go lost = rw (kind, is) refl

  pub stays_by : (place : Place) (kind : LineKind) → line_kind s ≡ kind → place_by kind place s ≡ place → place ≡ place_after place line
  stays_by place kind is same = sym (goes_on place ∙ (ap (λ k. place_by k place s) is ∙ same))

  pub comes_in : (place : Place) (group : List ℕ) → line_kind s ≡ bracket → group_in s ≡ Some group → inside group ≡ place_after place line
  comes_in place group kind is = sym (goes_on place ∙ (ap (λ k. place_by k place s) kind ∙ ap named is))

  pub is_lost : (place : Place) → line_kind s ≡ bracket → group_in s ≡ None → lost ≡ place_after place line
  is_lost place kind is = sym (goes_on place ∙ (ap (λ k. place_by k place s) kind ∙ ap named is))

  -- ---- of a lock file

  pub locks_by : lock_answer line ≡ of_lock (lock_line [] line) line
  locks_by = ap (λ r. of_lock r line) (rw text refl)

-- what is not empty is no comment either
pub is_idle : (s : List ℕ) (line : Line) → IsSaid s line → (line ≡ Line.Empty → ⊥) → if_empty (line_kind s) ≡ idle
is_idle s Line.Empty says other = absurd (other refl)
is_idle s (Line.Group group) says other = ap if_empty says.0
is_idle s Line.Unnamed says other = ap if_empty says.0
is_idle s (Line.Entry key text) says other = ap if_empty says.0
is_idle s Line.Bad says other = ap if_empty says.0

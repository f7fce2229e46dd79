-- What the lines of a profile give.
use Rattle.std.proofs.Common.{◌≡◌, ℕ, ◌+◌, ◌<◌, Bool, true, false, List, [], length, take, get_or, refl, sym, ap, ◌∙◌}
use Rattle.std.specs.Prelude.{nat_lt}
use Rattle.std.proofs.lemmas.List.Sums.{count_by_more_no, count_by_more_yes}
use Rattle.dconf_model.specs.Lines.{LineReading}
use Rattle.dconf_model.specs.Lines.LineReading.{nothing}
use Rattle.dconf_model.specs.Profiles.{Database, entry_line, entry_of_line, entries_in}

abbrev pub profile_line : List (List ℕ) → List ℕ → LineReading Database
profile_line earlier line = entry_line (entries_in earlier) (entry_of_line line)

pub empty_profile_line : (earlier : List (List ℕ)) → profile_line earlier [] ≡ nothing
empty_profile_line earlier = refl

-- a line, its number of databases before and what it means, as the code has them
pub line_is : (earlier : List (List ℕ)) (part line entry : List ℕ) (others : ℕ) → part ≡ line → entry ≡ entry_of_line line → others ≡ entries_in earlier
    → profile_line earlier part ≡ entry_line others entry
line_is earlier part line entry others is means counted =
    ap (profile_line earlier) is ∙ (ap (entry_line (entries_in earlier)) (sym means) ∙ ap (λ n. entry_line n entry) (sym counted))

module _ (parts : List (List ℕ)) (n : ℕ) (line entry : List ℕ) (inside : n < length parts) (is : get_or parts n [] ≡ line) (means : entry ≡ entry_of_line line) where
  says : (b : Bool) → b ≡ nat_lt 0 (length entry) → nat_lt 0 (length (entry_of_line (get_or parts n []))) ≡ b
  says b tells = ap (λ l. nat_lt 0 (length (entry_of_line l))) is ∙ (ap (λ e. nat_lt 0 (length e)) (sym means) ∙ sym tells)

  pub says_more : true ≡ nat_lt 0 (length entry) → entries_in (take (n + 1) parts) ≡ entries_in (take n parts) + 1
  says_more tells = count_by_more_yes (λ l. nat_lt 0 (length (entry_of_line l))) parts n [] inside (says true tells)

  pub says_nothing : false ≡ nat_lt 0 (length entry) → entries_in (take (n + 1) parts) ≡ entries_in (take n parts)
  says_nothing tells = count_by_more_no (λ l. nat_lt 0 (length (entry_of_line l))) parts n [] inside (says false tells)

-- What a line of a profile gives, its comment and its blanks aside.
use Rattle.std.proofs.Common.{◌≡◌, ℕ, Bool, true, false, List, length, Option, Some, None, refl, ap, ◌∙◌, ◌==◌}
use Rattle.std.specs.Prelude.{codes, if◌then◌else◌, nat_eq}
use Rattle.std.specs.List.{starts_with}
use Rattle.dconf_model.specs.Causes.SettingsCause.{bad_line, service_db}
use Rattle.dconf_model.specs.Lines.{LineReading}
use Rattle.dconf_model.specs.Lines.LineReading.{nothing, wrong}
use Rattle.dconf_model.specs.Profiles.{Database, database_line, entry_line, kind_text}
use Rattle.dconf_model.specs.Profiles.Kind.{user_db, system_db, file_db}
use Rattle.dconf_path.specs.Profiles.{named_as, named_in}

-- what a line gives that names this database, or none
abbrev pub after_kind : ℕ → Option Database → LineReading Database
after_kind others None = wrong bad_line
after_kind others (Some d) = database_line others d.kind d.name

module _ (others : ℕ) (a b c : Database) where
  first_of : (u s f : Bool)
      → (if u then after_kind others (Some a) else if s then after_kind others (Some b) else if f then after_kind others (Some c) else wrong bad_line)
      ≡ after_kind others (if u then Some a else if s then Some b else if f then Some c else None)
  first_of true s f = refl
  first_of false true f = refl
  first_of false false true = refl
  first_of false false false = refl

-- a line that is neither empty nor a service's
pub names : (others : ℕ) (text : List ℕ) → (length text == 0) ≡ false → starts_with nat_eq text (codes "service-db:") ≡ false
    → entry_line others text ≡ after_kind others (named_in text)
names others text some other =
    ap (λ p. if p then nothing else if starts_with nat_eq text (codes "service-db:") then wrong service_db else rest) some
    ∙ (ap (λ p. if p then wrong service_db else rest) other
    ∙ first_of others (named_as user_db text) (named_as system_db text) (named_as file_db text)
    (starts_with nat_eq text (kind_text user_db)) (starts_with nat_eq text (kind_text system_db)) (starts_with nat_eq text (kind_text file_db)))
  where
    rest : LineReading Database
    rest = if starts_with nat_eq text (kind_text user_db) then after_kind others (Some (named_as user_db text))
        else if starts_with nat_eq text (kind_text system_db) then after_kind others (Some (named_as system_db text))
        else if starts_with nat_eq text (kind_text file_db) then after_kind others (Some (named_as file_db text))
        else wrong bad_line

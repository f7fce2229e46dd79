-- The first fault of a text, by what it is.
use Rattle.std.proofs.Common.{◌≡◌, ℕ, Bool, true, false, not, [], ◌∷◌, refl}
use Rattle.std.specs.Prelude.{if◌then◌else◌}
use Rattle.dconf_model.specs.Paths.{ends_with_slash, first_path_fault, has_two_slashes, has_zero_byte, is_short, starts_with_slash}
use Rattle.dconf_model.specs.Paths.PathFault.{not_absolute, has_nul, double_slash, too_long}
use Rattle.dconf_texts.specs.declared.kinds.PathKind.{PathKind}
use Rattle.dconf_texts.specs.declared.kinds.PathKind.TheVariants.{Key, Directory, NotAbsolute, HasNul, DoubleSlash}
use Rattle.dconf_texts.specs.Refused.{TheFirstFaultIsTold, fault_number, refused_kind}

abbrev kind : Bool → Bool → Bool → Bool → PathKind
kind starts zero two ends = if starts then (if zero then HasNul else if two then DoubleSlash else if ends then Directory else Key) else NotAbsolute

abbrev first : Bool → Bool → Bool → Bool → ℕ
first starts zero two short = fault_number (first_path_fault (
    record { holds = not starts; fault = not_absolute } ∷
    record { holds = zero; fault = has_nul } ∷
    record { holds = two; fault = double_slash } ∷
    record { holds = not short; fault = too_long } ∷ []))

by_cases : (starts zero two ends short : Bool) → refused_kind (kind starts zero two ends) (if short then 0 else 4) ≡ first starts zero two short
unfolding first_path_fault
by_cases false zero two ends short = refl
by_cases true true two ends short = refl
by_cases true false true ends short = refl
by_cases true false false true true = refl
by_cases true false false true false = refl
by_cases true false false false true = refl
by_cases true false false false false = refl

pub the_first_fault_is_told : TheFirstFaultIsTold
the_first_fault_is_told text = by_cases (starts_with_slash text) (has_zero_byte text) (has_two_slashes text) (ends_with_slash text) (is_short text)

-- A text is a path exactly where it has no fault; what ends in a slash, and the root's path.
use Rattle.std.proofs.Common.{◌≡◌, Bool, true, false, [], ◌∷◌, ◌&&◌, not, refl, sym, ap, ◌∙◌, ℕ, zero, suc, ◌<◌, List, ◌++◌, get_or, codes, arith}
use Rattle.std.specs.Prelude.{is_none, slice_index}
use Rattle.std.proofs.Math.Bool.{not-not}
use Rattle.std.proofs.lemmas.Bool.Decides.{Decides-eqb}
use Rattle.std.proofs.lemmas.Slice.Eq.{ends_is}
use Rattle.dconf_model.specs.Paths.{PathFault, KeysAreFaultless, DirectoriesAreFaultless, first_path_fault, starts_with_slash, has_two_slashes, ends_with_slash, is_short, is_path, has_zero_byte}
use Rattle.dconf_model.specs.Paths.PathFault.{not_absolute, has_nul, double_slash, ends_in_slash, no_end_slash, too_long}

-- the questions in their order: starts with a slash, zero byte, two slashes, wrong end, short
faultless : (starts nul slashes ends short : Bool) (end : PathFault)
    → (starts && not nul && not slashes && short) && not ends
    ≡ is_none (first_path_fault (
    record { holds = not starts; fault = not_absolute } ∷ record { holds = nul; fault = has_nul } ∷
    record { holds = slashes; fault = double_slash } ∷ record { holds = ends; fault = end } ∷
    record { holds = not short; fault = too_long } ∷ []))
unfolding first_path_fault
faultless false nul slashes ends short end = refl
faultless true true slashes ends short end = refl
faultless true false true ends short end = refl
faultless true false false true true end = refl
faultless true false false true false end = refl
faultless true false false false true end = refl
faultless true false false false false end = refl

pub keys_are_faultless : KeysAreFaultless
keys_are_faultless text = faultless (starts_with_slash text) (has_zero_byte text) (has_two_slashes text) (ends_with_slash text) (is_short text) ends_in_slash

pub directories_are_faultless : DirectoriesAreFaultless
directories_are_faultless text =
    let ends = ends_with_slash text in
    ap (λ b. is_path text && b) (sym (not-not ends)) ∙ faultless (starts_with_slash text) (has_zero_byte text) (has_two_slashes text) (not ends) (is_short text) no_end_slash

pub ends_in : (text prefix : List ℕ) → text ≡ prefix ++ 47 ∷ [] → ends_with_slash text ≡ true
ends_in text prefix is = (ends_is Decides-eqb text (47 ∷ []) (ends_with_slash text) refl).1 prefix is

-- ---- the root's path

pub slash_is_ascii : (i : ℕ) → slice_index (codes "/") i < 128
slash_is_ascii zero = omega arith
slash_is_ascii (suc i) = omega arith

pub slash_no_zero : (k : ℕ) → k < 1 → get_or (codes "/") k 0 ≡ 0 → ⊥
slash_no_zero zero here at = omega (arith, at)
slash_no_zero (suc k) here at = omega (arith, here)

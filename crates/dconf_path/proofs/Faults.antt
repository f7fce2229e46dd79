-- The first fault of a text, from what was asked of it so far.
use Rattle.std.proofs.Common.{◌≡◌, rules, ℕ, Bool, true, false, List, [], ◌∷◌, ◌++◌, Some, None, refl, sym, ap, ◌∙◌}
use Rattle.std.specs.Prelude.{if◌then◌else◌, not, is_none}
use Rattle.dconf_model.specs.Locks.{lock_fault}
use Rattle.dconf_model.specs.Paths.{PathFault, Question, first_path_fault, questions_of_bytes, question_of_length, starts_with_slash, has_two_slashes, ends_with_slash, is_short, is_path, is_key_path, is_directory_path, key_fault, directory_fault, has_zero_byte}
use Rattle.dconf_model.proofs.PathLaws.{keys_are_faultless, directories_are_faultless}
use Rattle.dconf_model.specs.Paths.PathFault.{not_absolute, has_nul, double_slash, ends_in_slash, no_end_slash, too_long}

-- a question that is answered yes has the first fault
pub fault_here : (q : Question) (more : List Question) → q.holds ≡ true → first_path_fault (q ∷ more) ≡ Some q.fault
unfolding first_path_fault
fault_here q more e = rw e refl

-- where it is answered no, the others decide
pub fault_later : (q : Question) (more : List Question) → q.holds ≡ false → first_path_fault (q ∷ more) ≡ first_path_fault more
unfolding first_path_fault
fault_later q more e = rw e refl

nothing_asked : first_path_fault [] ≡ None
unfolding first_path_fault
nothing_asked = refl

-- where nothing is found among the first questions, the others decide
pub goes_on : (first more : List Question) → first_path_fault first ≡ None → first_path_fault (first ++ more) ≡ first_path_fault more
goes_on [] more none = refl
goes_on (q ∷ first) more none = go q.holds refl (goes_on first more)
  where
    go : (b : Bool) → q.holds ≡ b → (first_path_fault first ≡ None → first_path_fault (first ++ more) ≡ first_path_fault more)
        → first_path_fault (q ∷ first ++ more) ≡ first_path_fault more
    go true e later = let wrong : Some q.fault ≡ None = sym (fault_here q first e) ∙ none in search rules
    go false e later = fault_later q (first ++ more) e ∙ later (sym (fault_later q first e) ∙ none)

-- what is found among the first questions is the first of all
pub stops : (first more : List Question) (f : PathFault) → first_path_fault first ≡ Some f → first_path_fault (first ++ more) ≡ Some f
unfolding first_path_fault
stops [] more f found = search rules
stops (q ∷ first) more f found = go q.holds refl (stops first more f)
  where
    go : (b : Bool) → q.holds ≡ b → (first_path_fault first ≡ Some f → first_path_fault (first ++ more) ≡ Some f)
        → first_path_fault (q ∷ first ++ more) ≡ Some f
    go true e later = fault_here q (first ++ more) e ∙ (sym (fault_here q first e) ∙ found)
    go false e later = fault_later q (first ++ more) e ∙ later (sym (fault_later q first e) ∙ found)

-- ---- what is asked of the bytes

pub is_not_absolute : (text : List ℕ) → starts_with_slash text ≡ false → first_path_fault (questions_of_bytes text) ≡ Some not_absolute
unfolding first_path_fault
is_not_absolute text starts = rw starts refl

pub is_with_nul : (text : List ℕ) → starts_with_slash text ≡ true → has_zero_byte text ≡ true → first_path_fault (questions_of_bytes text) ≡ Some has_nul
unfolding first_path_fault
is_with_nul text starts zero = rw (starts, zero) refl

pub bytes_decided : (b : Bool) (text : List ℕ) → starts_with_slash text ≡ true → has_zero_byte text ≡ false → has_two_slashes text ≡ b
    → first_path_fault (questions_of_bytes text) ≡ (if b then Some double_slash else None)
unfolding first_path_fault
bytes_decided b text starts zero slashes = rw (starts, zero, slashes) refl

-- ---- keys

pub ends_as_no_key : (text : List ℕ) → first_path_fault (questions_of_bytes text) ≡ None → ends_with_slash text ≡ true → key_fault text ≡ Some ends_in_slash
ends_as_no_key text passes ends = goes_on (questions_of_bytes text) _ passes ∙ fault_here _ _ ends

pub is_too_long_for_key : (text : List ℕ) → first_path_fault (questions_of_bytes text) ≡ None → ends_with_slash text ≡ false → is_short text ≡ false → key_fault text ≡ Some too_long
is_too_long_for_key text passes ends long = goes_on (questions_of_bytes text) _ passes ∙ (fault_later _ _ ends ∙ fault_here _ _ (ap not long))

pub is_faultless_key : (text : List ℕ) → first_path_fault (questions_of_bytes text) ≡ None → ends_with_slash text ≡ false → is_short text ≡ true → key_fault text ≡ None
is_faultless_key text passes ends short = goes_on (questions_of_bytes text) _ passes ∙ (fault_later _ _ ends ∙ (fault_later (question_of_length text) [] (ap not short) ∙ nothing_asked))

pub no_key : (text : List ℕ) (f : PathFault) → key_fault text ≡ Some f → is_key_path text ≡ false
no_key text f fault = keys_are_faultless text ∙ ap is_none fault

pub a_key : (text : List ℕ) → key_fault text ≡ None → is_key_path text ≡ true
a_key text none = keys_are_faultless text ∙ ap is_none none

-- ---- directories

pub ends_as_no_directory : (text : List ℕ) → first_path_fault (questions_of_bytes text) ≡ None → ends_with_slash text ≡ false → directory_fault text ≡ Some no_end_slash
ends_as_no_directory text passes ends = goes_on (questions_of_bytes text) _ passes ∙ fault_here _ _ (ap not ends)

pub is_too_long_for_directory : (text : List ℕ) → first_path_fault (questions_of_bytes text) ≡ None → ends_with_slash text ≡ true → is_short text ≡ false → directory_fault text ≡ Some too_long
is_too_long_for_directory text passes ends long = goes_on (questions_of_bytes text) _ passes ∙ (fault_later _ _ (ap not ends) ∙ fault_here _ _ (ap not long))

pub is_faultless_directory : (text : List ℕ) → first_path_fault (questions_of_bytes text) ≡ None → ends_with_slash text ≡ true → is_short text ≡ true → directory_fault text ≡ None
is_faultless_directory text passes ends short = goes_on (questions_of_bytes text) _ passes ∙ (fault_later _ _ (ap not ends) ∙ (fault_later (question_of_length text) [] (ap not short) ∙ nothing_asked))

pub no_directory : (text : List ℕ) (f : PathFault) → directory_fault text ≡ Some f → is_directory_path text ≡ false
no_directory text f fault = directories_are_faultless text ∙ ap is_none fault

pub a_directory : (text : List ℕ) → directory_fault text ≡ None → is_directory_path text ≡ true
a_directory text none = directories_are_faultless text ∙ ap is_none none

-- ---- locks

pub is_faulty_as_key : (text : List ℕ) → ends_with_slash text ≡ false → lock_fault text ≡ key_fault text
unfolding first_path_fault
is_faulty_as_key text ends = rw ends refl

pub is_faulty_as_directory : (text : List ℕ) → ends_with_slash text ≡ true → lock_fault text ≡ directory_fault text
unfolding first_path_fault
is_faulty_as_directory text ends = rw ends refl

pub is_path_of_key : (text : List ℕ) → ends_with_slash text ≡ false → is_path text ≡ is_key_path text
is_path_of_key text ends = go (is_path text) refl
  where
    go : (b : Bool) → is_path text ≡ b → is_path text ≡ is_key_path text
    go true e = rw (e, ends) refl
    go false e = rw e refl

-- Which edits may be made.
use Rattle.std.specs.Prelude.{cond, not}
use Rattle.std.proofs.Common.{◌≡◌, ◌∙◌, ◌&&◌, ◌||◌, ℕ, Bool, true, false, List, Some, None, Result, Ok, Err, ap, sym, refl}
use Rattle.gv_model.specs.Tree.{Tree}
use Rattle.dconf_model.specs.Changes.{Refusal, unless_locked}
use Rattle.dconf_model.specs.Changes.Refusal.{not_writable, too_large}
use Rattle.dconf_model.specs.Layers.{Layers, is_locked}
use Rattle.dconf_model.specs.Paths.{ends_with_slash}
use Rattle.dconf_model.specs.Values.{is_storable}
use Rattle.dconf_seen.specs.Allowed.{EditsAreAllowed, IsAllowed, is_taken}

-- by whether there is a user's database, whether the path is locked, and whether it is a directory's

of_set : (w k e s : Bool) (r : Layers) → s ≡ true →
    is_taken (cond w (unless_locked (cond k (Some 0) None) (cond (s && true) (Ok r) (Err too_large))) (Err not_writable)) ≡ (w && ((w && not k) || (not true && e)))
of_set false k e s r is = refl
of_set true true e s r is = refl
of_set true false e true r is = refl
of_set true false e false r is = is

of_reset : (w k e : Bool) (r : Layers) → e ≡ false →
    is_taken (cond w (unless_locked (cond k (Some 0) None) (Ok r)) (Err not_writable)) ≡ (w && ((w && not k) || (not false && e)))
of_reset false k e r is = refl
of_reset true true e r is = sym is
of_reset true false e r is = refl

of_directory : (w k e : Bool) (r : Layers) → e ≡ true →
    is_taken (cond w (Ok r) (Err not_writable)) ≡ (w && ((w && not k) || (not false && e)))
of_directory false k e r is = refl
of_directory true true e r is = sym is
of_directory true false e r is = refl

pub edits_are_allowed : EditsAreAllowed
edits_are_allowed l path = record {
  set = λ v is. of_set l.writable (is_locked l path) (ends_with_slash path) (is_storable v) _ is;
  reset = λ is. of_reset l.writable (is_locked l path) (ends_with_slash path) _ is;
  directory = λ is. of_directory l.writable (is_locked l path) (ends_with_slash path) _ is;
}

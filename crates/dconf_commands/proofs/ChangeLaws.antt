-- What is answered of a change: what it gives is saved, or it is refused.
use Rattle.std.proofs.Common.{◌≡◌, ◌∷◌, ℕ, List, [], Bool, true, false, Option, Some, None, Result, Ok, Err, refl, sym, ap, subst}
use Rattle.std.specs.Prelude.{IfSome, if◌then◌else◌}
use Rattle.gv_model.specs.Tree.{Tree}
use Rattle.dconf_folders.specs.declared.folder.Folder.{Ghosts}
use Rattle.dconf_model.specs.Causes.{SettingsCause}
use Rattle.dconf_model.specs.Changes.{Refusal, all_storable, apply, set_all, unless_locked}
use Rattle.dconf_model.specs.Changes.Change.{reset_value, set_value}
use Rattle.dconf_model.specs.Changes.Refusal.{locked, not_writable, too_large}
use Rattle.dconf_model.specs.Layers.{Layers, is_locked}
use Rattle.dconf_model.specs.Outcomes.{Gives, OrCause, Outcome, Saves}
use Rattle.dconf_model.specs.Reads.{ReadResults}
use Rattle.dconf_model.specs.Sources.{Assigned}
use Rattle.dconf_streams.specs.Answers.{Answered, GivesOutcome}
use Rattle.dconf_commands.specs.Refusals.{IsLockedPath, NoValue, RefusedFor}
use Rattle.dconf_streams.specs.Readings.{Decides}
use Rattle.dconf_streams.proofs.Decisions.{answers_also}

-- ---- what is answered

module _ (answer : Answered) (paths : List (List ℕ)) (name : List ℕ) (given : Result Layers Refusal) where
  pub refuses_change : (r : Option Refusal) → IfSome r (λ why. given ≡ Err why) → GivesOutcome answer (RefusedFor paths r) → GivesOutcome answer (Saves paths name given)
  refuses_change None is h = answers_also answer (RefusedFor paths None) (Saves paths name given) (λ o none. absurd none) h
  refuses_change (Some why) is h = subst (λ (r : Result Layers Refusal). GivesOutcome answer (Saves paths name r)) (sym is) h

-- ---- the path that is locked

abbrev LocksFirst : List ℕ → Result Layers Refusal → Type 0
LocksFirst path given = (r : Option Refusal) → IfSome r (λ why. given ≡ Err why) → IsLockedPath (path ∷ []) r path

of_other : (path : List ℕ) (new : Layers) → LocksFirst path (Ok new)
of_other path new None is = tt
of_other path new (Some why) is = cc

reason : Refusal → Result Layers Refusal → Refusal
reason why (Ok new) = why
reason why (Err r) = r

of_refusal : (path : List ℕ) (why : Refusal) → IsLockedPath (path ∷ []) (Some why) path → LocksFirst path (Err why)
unfolding reason
of_refusal path why is None e = tt
of_refusal path why is (Some other) e = subst (λ (r : Refusal). IsLockedPath (path ∷ []) (Some r) path) (ap (reason why) e) is

storing : (path : List ℕ) (new : Layers) (fits : Bool) → LocksFirst path (if fits then Ok new else Err too_large)
storing path new true = of_other path new
storing path new false = of_refusal path too_large tt

unlocking : (path : List ℕ) (is : Bool) (given : Result Layers Refusal) → LocksFirst path given
    → LocksFirst path (unless_locked (if is then Some 0 else None) given)
unlocking path true given h = of_refusal path (locked 0) refl
unlocking path false given h = h

writing : (path : List ℕ) (writable : Bool) (given : Result Layers Refusal) → LocksFirst path given → LocksFirst path (if writable then given else Err not_writable)
writing path true given h = h
writing path false given h = of_refusal path not_writable tt

-- where a key is set or reset that is locked, it is the key's path
pub set_locks : (l : Layers) (path : List ℕ) (v : Tree) → LocksFirst path (apply l (set_value path v))
set_locks l path v =
    let rows : List Assigned = record { path = path; value = v } ∷ [] in
    writing path l.writable _ (unlocking path (is_locked l path) (set_all l rows) (storing path _ (all_storable rows)))

pub reset_locks : (l : Layers) (path : List ℕ) → LocksFirst path (apply l (reset_value path))
reset_locks l path = writing path l.writable _ (unlocking path (is_locked l path) _ (of_other path _))

-- where there are no paths, none is
pub none_is_locked : (r : Option Refusal) → IsLockedPath [] r []
none_is_locked None = tt
none_is_locked (Some not_writable) = tt
none_is_locked (Some (locked n)) = refl
none_is_locked (Some too_large) = tt

-- ---- a value's text

no_value_at : (r : Result Tree SettingsCause) (Go : Tree → Gives) (o : Outcome) → OrCause r NoValue o → OrCause r Go o
no_value_at (Ok v) Go o h = absurd h
no_value_at (Err c) Go o h = h

pub no_value_is_any : (answer : Answered) (r : Result Tree SettingsCause) (Go : Tree → Gives) → GivesOutcome answer (OrCause r NoValue) → GivesOutcome answer (OrCause r Go)
no_value_is_any answer r Go h = answers_also answer (OrCause r NoValue) (OrCause r Go) (λ o x. no_value_at r Go o x) h

pub decides_with_value : {F : Type 0} (ghosts : Ghosts F) (old new : F) (answer : Answered) (r : Result Tree SettingsCause) (v : Tree)
    (Go : ReadResults → Tree → Gives) → r ≡ Ok v → Decides ghosts old new 0 (λ reads. Go reads v) answer
    → Decides ghosts old new 0 (λ reads. OrCause r (Go reads)) answer
decides_with_value ghosts old new answer r v Go is d =
    subst (λ (x : Result Tree SettingsCause). Decides ghosts old new 0 (λ reads. OrCause x (Go reads)) answer) (sym is) d

-- The names of a turn's own: none is another.
use Rattle.std.proofs.Common.{ℕ, ◌<◌, ◌≡◌, ◌≢◌, ◌⊎◌, Bool, List, ◌++◌, length, Option, Some, None, refl, sym, ◌∙◌, ap, arith, ⊎_elim, inl, inr, codes, length-append}
use Rattle.std.specs.Bool.{IsTrue}
use Rattle.std.proofs.lemmas.List.{append_cancel_left}
use Rattle.dconf_model.specs.Folders.{Event, file_of}
use Rattle.dconf_model.specs.Replacing.{new_name}
use Rattle.dconf_turn.specs.Jobs.{Job, IsAside, IsFree, IsFreeFor, IsOwn, IsLockApart}
use Rattle.dconf_turn.specs.Progress.{Apart}

longer_name : (name end : List ℕ) → name ≡ name ++ end → 0 < length end → ⊥
longer_name name end e lt = let long : length name ≡ length (name ++ end) = ap (λ (l : List ℕ). length l) e in absurd (omega (arith, length-append name end, long, lt))

pub differs : (name : List ℕ) → name ≢ new_name name
differs name e = longer_name name (codes ".new") e (omega arith)

pub aside_is_not_name : (name other : List ℕ) → IsAside name other → other ≢ name
aside_is_not_name name other a e = longer_name name (codes "~" ++ a.0) (sym e ∙ a.1) (omega arith)

ends_differ : (end : List ℕ) → codes "~" ++ end ≡ codes ".new" → ⊥
ends_differ end e = cc

pub aside_is_not_new : (name other : List ℕ) → IsAside name other → other ≢ new_name name
aside_is_not_new name other a e = ends_differ a.0 (append_cancel_left name (codes "~" ++ a.0) (codes ".new") (sym a.1 ∙ e))

module _ (keeps : Bool) (job : Job) (old : List Event) where
  abbrev own : List ℕ → Type 0
  own = IsOwn keeps job old

  pub new_own : own (new_name job.name)
  new_own = inl refl

  pub lock_own : (lock : List ℕ) → job.lock ≡ Some lock → own lock
  lock_own lock e = inr (inl e)

  pub aside_own : (aside : List ℕ) → IsTrue keeps → IsFree job old aside → own aside
  aside_own aside k f = inr (inr (k, f))

  pub name_not_own : IsLockApart job → ¬ own job.name
  name_not_own apart o =
      ⊎_elim (λ (e : job.name ≡ new_name job.name). differs job.name e)
      (λ r. ⊎_elim (λ (e : job.lock ≡ Some job.name). (apart job.name e).0 refl) (λ (a : IsTrue keeps × IsFree job old job.name). aside_is_not_name job.name job.name a.1.0 refl) r) o

  -- a name for what is set aside that has a file is none of its own
  module _ (apart : IsLockApart job) (aside : List ℕ) (is : IsAside job.name aside) (k : ℕ) (e : file_of old aside ≡ Some k) where
    has_file : ¬ own aside
    has_file o =
        ⊎_elim (λ (n : aside ≡ new_name job.name). aside_is_not_new job.name aside is n)
        (λ r. ⊎_elim (λ (l : job.lock ≡ Some aside). (apart aside l).2 is) (λ (g : IsTrue keeps × IsFree job old aside). (let bad : Some k ≡ None = sym e ∙ g.1.1 in cc)) r) o

  module _ (es : List Event) (apart : IsLockApart job) (a : Apart old es own) (aside : List ℕ) where
    -- one that is free now was free before
    pub was_free : IsFree job es aside → IsFree job old aside
    was_free f = (f.0, free (file_of old aside) refl)
      where
        free : (o : Option ℕ) → file_of old aside ≡ o → file_of old aside ≡ None
        free None e = e
        free (Some k) e = let bad : Some k ≡ None = sym e ∙ sym (a.names aside (has_file apart aside f.0 k e)) ∙ f.1 in cc

    -- one that the file has now was free before, or the file had it
    pub was_free_for : (is : IsAside job.name aside) → file_of es aside ≡ file_of old job.name → IsFreeFor job old aside
    was_free_for is same = (is, before (file_of old aside) refl)
      where
        before : (o : Option ℕ) → file_of old aside ≡ o → (file_of old aside ≡ None) ⊎ (file_of old aside ≡ file_of old job.name)
        before None e = inl e
        before (Some k) e = inr (sym (a.names aside (has_file apart aside is k e)) ∙ same)

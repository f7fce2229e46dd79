-- A new file is no name's, and what is done to it changes no other file.
use Rattle.std.proofs.Common.{ℕ, ◌<◌, ◌≤◌, ◌≡◌, ◌≢◌, true, false, cond, List, ◌∷◌, ◌++◌, Option, Some, None, refl, ◌∙◌, ap, arith, ⊎_elim}
use Rattle.dconf_model.specs.Folders.{Event, files_made, file_of, is_file, content, is_synced, StoodFor, MayLeaveOf, MayLeave, read_content, content_of}
use Rattle.dconf_model.specs.Folders.Event.{create, append, sync, touch}
use Rattle.dconf_model.proofs.SameBytes.{itself, other_path}
use Rattle.dconf_turn.proofs.Fresh.{bounded, stood_bounded, not_file}

-- es goes on from old, and what was done since touched no file of then, and no name but the new one
pub record Apart (old es : List Event) (new : List ℕ) : Type 0 where
  pub grown : files_made old ≤ files_made es
  pub own : ℕ
  pub own_is : file_of es new ≡ Some own
  pub own_new : files_made old ≤ own
  pub files : (file : ℕ) → file < files_made old → content es file ≡ content old file
  pub synced : (file : ℕ) → file < files_made old → is_synced es file ≡ is_synced old file
  pub names : (other : List ℕ) → other ≢ new → file_of es other ≡ file_of old other
  pub stood : (other : List ℕ) (file : Option ℕ) → other ≢ new → StoodFor es other file → StoodFor old other file

pub created : (old : List Event) (new : List ℕ) → Apart old (create new ∷ old) new
created old new = record {
  grown = omega arith;
  own = files_made old;
  own_is = ap (λ b. cond b (Some (files_made old)) (file_of old new)) (itself new);
  own_new = omega arith;
  files = λ file lt. refl;
  synced = λ file lt. refl;
  names = λ other differ. ap (λ b. cond b (Some (files_made old)) (file_of old other)) (other_path other new differ);
  stood = λ other file differ h. ⊎_elim (λ (e : (other ≡ new) × (file ≡ Some (files_made old))). absurd (differ e.0)) (λ e. e) h;
}

module _ (old es : List Event) (new : List ℕ) (a : Apart old es new) where
  not_old : (file : ℕ) → file < files_made old → is_file (file_of es new) file ≡ false
  not_old file lt = not_file (file_of es new) a.own file (files_made old) a.own_is a.own_new lt

  pub appended : (bytes : List ℕ) → Apart old (append new bytes ∷ es) new
  appended bytes = record {
    grown = omega (arith, a.grown);
    own = a.own;
    own_is = a.own_is;
    own_new = a.own_new;
    files = λ file lt. ap (λ b. cond b (content es file ++ bytes) (content es file)) (not_old file lt) ∙ a.files file lt;
    synced = λ file lt. ap (λ b. cond b false (is_synced es file)) (not_old file lt) ∙ a.synced file lt;
    names = a.names;
    stood = a.stood;
  }

  pub touched : Apart old (touch new ∷ es) new
  touched = record {
    grown = omega (arith, a.grown);
    own = a.own;
    own_is = a.own_is;
    own_new = a.own_new;
    files = a.files;
    synced = λ file lt. ap (λ b. cond b false (is_synced es file)) (not_old file lt) ∙ a.synced file lt;
    names = a.names;
    stood = a.stood;
  }

  pub synced_now : Apart old (sync new ∷ es) new
  synced_now = record {
    grown = omega (arith, a.grown);
    own = a.own;
    own_is = a.own_is;
    own_new = a.own_new;
    files = a.files;
    synced = λ file lt. ap (λ b. cond b true (is_synced es file)) (not_old file lt) ∙ a.synced file lt;
    names = a.names;
    stood = a.stood;
  }

  pub leaves_of : (file : Option ℕ) (other : List ℕ) (c : Option (List ℕ)) → StoodFor old other file → MayLeaveOf es file c → MayLeaveOf old file c
  leaves_of None other c s l = l
  leaves_of (Some k) other c s l =
      let lt = stood_bounded old other k s in
      (l.0, λ e. l.1 (a.synced k lt ∙ e) ∙ ap (λ (x : List ℕ). Some x) (a.files k lt))

  -- a crash leaves under other names what it might have left before
  pub leaves : (other : List ℕ) (c : Option (List ℕ)) → other ≢ new → MayLeave es other c → MayLeave old other c
  leaves other c differ m = let s = a.stood other m.0 differ m.1 in (m.0, s, leaves_of m.0 other c s m.2)

  reads_of : (other : List ℕ) (o : Option ℕ) → file_of old other ≡ o → content_of es o ≡ content_of old o
  reads_of other None e = refl
  reads_of other (Some k) e = ap (λ (x : List ℕ). Some x) (a.files k (bounded old other k e))

  pub reads : (other : List ℕ) → other ≢ new → read_content es other ≡ read_content old other
  reads other differ = ap (λ o. content_of es o) (a.names other differ) ∙ reads_of other (file_of old other) refl

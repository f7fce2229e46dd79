-- What is done to names of its own and to new files leaves all others as they were.
use Rattle.std.proofs.Common.{ℕ, ◌<◌, ◌≤◌, ◌≡◌, ◌≢◌, true, false, cond, List, [], ◌∷◌, ◌++◌, length, Option, Some, None, refl, sym, ◌∙◌, ap, subst, arith, ⊎_elim}
use Rattle.std.specs.Str.{bytes_eq}
use Rattle.dconf_model.specs.Folders.{Event, files_made, file_of, is_file, content, is_synced, StoodFor, MayLeaveOf, MayLeave}
use Rattle.dconf_model.specs.Folders.Event.{create, append, sync, touch, rename, remove, link}
use Rattle.dconf_model.proofs.SameBytes.{itself, other_path}
use Rattle.dconf_model.proofs.FolderLaws.{only_now}
use Rattle.dconf_turn.specs.Progress.{Apart, Holds, Staged}
use Rattle.dconf_turn.proofs.Fresh.{stood_bounded, same_file, fresh_content, not_file, goes_on}

pub nothing_yet : (old : List Event) (own : List ℕ → Type 0) → Apart old old own
nothing_yet old own = record {
  grown = ([], refl);
  count = omega arith;
  files = λ file lt. refl;
  synced = λ file lt. refl;
  names = λ other differ. refl;
  stood = λ other file differ s. s;
  moments = λ other c differ h. only_now old other c h;
}

module _ (old es : List Event) (own : List ℕ → Type 0)
    (files : (file : ℕ) → file < files_made old → content es file ≡ content old file)
    (synced : (file : ℕ) → file < files_made old → is_synced es file ≡ is_synced old file) where
  pub leaves_of : (file : Option ℕ) (other : List ℕ) (c : Option (List ℕ)) → StoodFor old other file → MayLeaveOf es file c → MayLeaveOf old file c
  leaves_of None other c s l = l
  leaves_of (Some k) other c s l =
      let lt = stood_bounded old other k s in
      (l.0, λ e. l.1 (synced k lt ∙ e) ∙ ap (λ (x : List ℕ). Some x) (files k lt))

  pub leaves : (stood : (other : List ℕ) (file : Option ℕ) → ¬ own other → StoodFor es other file → StoodFor old other file)
      (other : List ℕ) (c : Option (List ℕ)) → ¬ own other → MayLeave es other c → MayLeave old other c
  leaves stood other c differ m = let s = stood other m.0 differ m.1 in (m.0, s, leaves_of m.0 other c s m.2)

-- one event more, which touches nothing else either
module _ (e : Event) (old es : List Event) (own : List ℕ → Type 0) (a : Apart old es own) (count : files_made old ≤ files_made (e ∷ es))
    (files : (file : ℕ) → file < files_made old → content (e ∷ es) file ≡ content old file)
    (synced : (file : ℕ) → file < files_made old → is_synced (e ∷ es) file ≡ is_synced old file)
    (names : (other : List ℕ) → ¬ own other → file_of (e ∷ es) other ≡ file_of old other)
    (stood : (other : List ℕ) (file : Option ℕ) → ¬ own other → StoodFor (e ∷ es) other file → StoodFor old other file) where
  pub one_more : Apart old (e ∷ es) own
  one_more = record {
    grown = (e ∷ a.grown.0, ap (λ l. e ∷ l) a.grown.1);
    count = count;
    files = files;
    synced = synced;
    names = names;
    stood = stood;
    moments = λ other c differ h. goes_on e es (length old) other (λ d. MayLeave old other d) (λ d k. a.moments other d differ k)
        (λ d k. leaves old (e ∷ es) own files synced stood other d differ k) c h;
  }

-- another name than one of its own
pub other_name : (own : List ℕ → Type 0) (name other : List ℕ) → own name → ¬ own other → other ≢ name
other_name own name other o differ e = differ (subst own (sym e) o)

module _ (old es : List Event) (own : List ℕ → Type 0) (a : Apart old es own) where
  pub created_apart : (name : List ℕ) → own name → Apart old (create name ∷ es) own
  created_apart name o = one_more (create name) old es own a (let c = a.count in omega arith) a.files a.synced
      (λ other differ. ap (λ b. cond b (Some (files_made es)) (file_of es other)) (other_path other name (other_name own name other o differ)) ∙ a.names other differ)
      (λ other file differ h. ⊎_elim (λ (e : (other ≡ name) × (file ≡ Some (files_made es))). absurd (other_name own name other o differ e.0))
      (λ t. a.stood other file differ t) h)

  pub removed_apart : (name : List ℕ) → own name → Apart old (remove name ∷ es) own
  removed_apart name o = one_more (remove name) old es own a a.count a.files a.synced
      (λ other differ. ap (λ b. cond b None (file_of es other)) (other_path other name (other_name own name other o differ)) ∙ a.names other differ)
      (λ other file differ h. ⊎_elim (λ (e : (other ≡ name) × (file ≡ None)). absurd (other_name own name other o differ e.0))
      (λ t. a.stood other file differ t) h)

  pub linked_apart : (from to : List ℕ) → own to → Apart old (link from to ∷ es) own
  linked_apart from to o = one_more (link from to) old es own a a.count a.files a.synced
      (λ other differ. ap (λ b. cond b (file_of es from) (file_of es other)) (other_path other to (other_name own to other o differ)) ∙ a.names other differ)
      (λ other file differ h. ⊎_elim (λ (e : (other ≡ to) × (file ≡ file_of es from)). absurd (other_name own to other o differ e.0))
      (λ t. a.stood other file differ t) h)

  pub renamed_apart : (from to : List ℕ) → own from → own to → Apart old (rename from to ∷ es) own
  renamed_apart from to f o = one_more (rename from to) old es own a a.count a.files a.synced
      (λ other differ. ap (λ b. cond b (file_of es from) (cond (bytes_eq other from) None (file_of es other))) (other_path other to (other_name own to other o differ))
      ∙ ap (λ b. cond b None (file_of es other)) (other_path other from (other_name own from other f differ)) ∙ a.names other differ)
      (λ other file differ h. ⊎_elim (λ (e : (other ≡ to) × (file ≡ file_of es from)). absurd (other_name own to other o differ e.0))
      (λ r. ⊎_elim (λ (e : (other ≡ from) × (file ≡ None)). absurd (other_name own from other f differ e.0)) (λ t. a.stood other file differ t) r) h)

  pub made : (new : List ℕ) → own new → Holds old (create new ∷ es) own new []
  made new o = record {
    apart = created_apart new o;
    number = files_made es;
    number_is = ap (λ b. cond b (Some (files_made es)) (file_of es new)) (itself new);
    is_new = a.count;
    bytes_are = fresh_content es (files_made es) (omega arith);
  }

module _ (old es : List Event) (own : List ℕ → Type 0) (new bytes : List ℕ) (h : Holds old es own new bytes) where
  not_old : (file : ℕ) → file < files_made old → is_file (file_of es new) file ≡ false
  not_old file lt = not_file (file_of es new) h.number file (files_made old) h.number_is h.is_new lt

  is_own : is_file (file_of es new) h.number ≡ true
  is_own = ap (λ o. is_file o h.number) h.number_is ∙ same_file h.number

  pub appended_apart : (more : List ℕ) → Apart old (append new more ∷ es) own
  appended_apart more = one_more (append new more) old es own h.apart h.apart.count
      (λ file lt. ap (λ b. cond b (content es file ++ more) (content es file)) (not_old file lt) ∙ h.apart.files file lt)
      (λ file lt. ap (λ b. cond b false (is_synced es file)) (not_old file lt) ∙ h.apart.synced file lt) h.apart.names h.apart.stood

  pub touched_apart : Apart old (touch new ∷ es) own
  touched_apart = one_more (touch new) old es own h.apart h.apart.count h.apart.files
      (λ file lt. ap (λ b. cond b false (is_synced es file)) (not_old file lt) ∙ h.apart.synced file lt) h.apart.names h.apart.stood

  synced_apart : Apart old (sync new ∷ es) own
  synced_apart = one_more (sync new) old es own h.apart h.apart.count h.apart.files
      (λ file lt. ap (λ b. cond b true (is_synced es file)) (not_old file lt) ∙ h.apart.synced file lt) h.apart.names h.apart.stood

  pub appended : (more all : List ℕ) → bytes ++ more ≡ all → Holds old (append new more ∷ es) own new all
  appended more all e = record {
    apart = appended_apart more;
    number = h.number;
    number_is = h.number_is;
    is_new = h.is_new;
    bytes_are = ap (λ b. cond b (content es h.number ++ more) (content es h.number)) is_own ∙ ap (λ (l : List ℕ). l ++ more) h.bytes_are ∙ e;
  }

  pub synced : Staged old (sync new ∷ es) own new bytes
  synced = record {
    holds = record { apart = synced_apart; number = h.number; number_is = h.number_is; is_new = h.is_new; bytes_are = h.bytes_are };
    synced = ap (λ b. cond b true (is_synced es h.number)) is_own;
  }

module _ (old es : List Event) (own : List ℕ → Type 0) (new bytes : List ℕ) (s : Staged old es own new bytes) where
  -- the old file has a name more
  pub linked : (from to : List ℕ) → own to → new ≢ to → Staged old (link from to ∷ es) own new bytes
  linked from to o differ = record {
    holds = record {
      apart = linked_apart old es own s.holds.apart from to o;
      number = s.holds.number;
      number_is = ap (λ b. cond b (file_of es from) (file_of es new)) (other_path new to differ) ∙ s.holds.number_is;
      is_new = s.holds.is_new;
      bytes_are = s.holds.bytes_are;
    };
    synced = s.synced;
  }

  -- the new file has another name of its own
  pub moved : (to : List ℕ) → own new → own to → Staged old (rename new to ∷ es) own to bytes
  moved to n o = record {
    holds = record {
      apart = renamed_apart old es own s.holds.apart new to n o;
      number = s.holds.number;
      number_is = ap (λ b. cond b (file_of es new) (cond (bytes_eq to new) None (file_of es to))) (itself to) ∙ s.holds.number_is;
      is_new = s.holds.is_new;
      bytes_are = s.holds.bytes_are;
    };
    synced = s.synced;
  }

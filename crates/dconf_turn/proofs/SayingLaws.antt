-- What may be said of a folder after each step.
use Rattle.std.proofs.Common.{ℕ, ◌<◌, ◌≡◌, ◌≢◌, Bool, true, false, cond, List, ◌∷◌, ◌++◌, length, Option, Some, None, refl, sym, ◌∙◌, ap, subst, arith, ⊎_elim, inl, inr, ◌⊎◌}
use Rattle.std.specs.Bool.{IsTrue}
use Rattle.dconf_model.specs.Folders.{Event, files_made, file_of, content, is_file, is_synced, StoodFor, MayLeaveOf, MayLeave, MayHaveLeft, Grows, IsSettled, read_content, content_of}
use Rattle.dconf_model.specs.Folders.Event.{create, append, remove, sync, sync_folder}
use Rattle.dconf_model.specs.Replacing.{new_name}
use Rattle.dconf_model.proofs.SameBytes.{itself, other_path}
use Rattle.dconf_model.proofs.FolderLaws.{current, counts_now, longer}
use Rattle.dconf_turn.specs.declared.step.Outcome.{Outcome}
use Rattle.dconf_turn.specs.declared.step.Outcome.TheVariants.{Made, Kept, Either, Unsettled, Same, Unsynced}
use Rattle.dconf_turn.specs.Jobs.{Job, IsAside, IsOwn, IsLockApart}
use Rattle.dconf_turn.specs.Progress.{Apart, Placed, IsAsideAt, IsEarly}
use Rattle.dconf_turn.specs.Sayings.{IsKept, IsSame, IsWhole, HasAside, IsMade, IsUnsettled, Says}
use Rattle.dconf_turn.proofs.Fresh.{bounded, stood_bounded, not_file, same_file, goes_on}
use Rattle.dconf_turn.proofs.ApartLaws.{nothing_yet, created_apart, leaves_of, other_name}
use Rattle.dconf_turn.proofs.OwnNames.{name_not_own, lock_own, aside_is_not_new}
use Rattle.dconf_turn.proofs.PlacedLaws.{leaves_bytes, leaves_same}

read_old : (old es : List Event) → ((file : ℕ) → file < files_made old → content es file ≡ content old file) → (other : List ℕ) (o : Option ℕ) → file_of old other ≡ o → content_of es o ≡ content_of old o
read_old old es files other None e = refl
read_old old es files other (Some k) e = ap (λ (x : List ℕ). Some x) (files k (bounded old other k e))

module _ (keeps : Bool) (job : Job) (old es : List Event) where
  abbrev own : List ℕ → Type 0
  own = IsOwn keeps job old

  -- ---- it is as it was

  pub kept : Apart old es own → IsKept keeps job old es
  kept a = record {
    grown = a.grown;
    crash = λ other c differ h. a.moments other c differ h;
    read = λ other differ. ap (λ o. content_of es o) (a.names other differ) ∙ read_old old es a.files other (file_of old other) refl;
  }

  pub early_apart : IsEarly job old es → Apart old es own
  early_apart (inl same) = subst (λ l. Apart old l own) (sym same) (nothing_yet old own)
  early_apart (inr m) = subst (λ l. Apart old l own) (sym m.2) (created_apart old old own (nothing_yet old own) m.0 (lock_own keeps job old m.0 m.1))

  pub kept_whole : IsLockApart job → IsKept keeps job old es → IsWhole keeps job old es
  kept_whole apart k = record {
    grown = k.grown;
    crash = λ c h. inl (k.crash job.name c (name_not_own keeps job old apart) h);
    read = inl (k.read job.name (name_not_own keeps job old apart));
    others_crash = λ other c d n h. k.crash other c n h;
    others_read = λ other d n. k.read other n;
  }

  -- ---- the new file has the name

  module _ (p : Placed old es own job.name job.bytes) (aside : IsTrue keeps → IsAsideAt job old es) where
    seen : read_content es job.name ≡ Some job.bytes
    seen = ap (λ o. content_of es o) p.number_is ∙ ap (λ (x : List ℕ). Some x) p.bytes_are

    seen_other : (other : List ℕ) → other ≢ job.name → ¬ own other → read_content es other ≡ read_content old other
    seen_other other d n = ap (λ o. content_of es o) (p.names other d n) ∙ read_old old es p.files other (file_of old other) refl

    pub placed_whole : IsWhole keeps job old es
    placed_whole = record {
      grown = p.grown;
      crash = p.crash;
      read = inr seen;
      others_crash = p.others;
      others_read = seen_other;
    }

    abbrev has_aside : IsAsideAt job old es → HasAside job old es
    has_aside a = record {
      aside = a.0;
      free = a.1;
      read = ap (λ o. content_of es o) a.2 ∙ read_old old es p.files job.name (file_of old job.name) refl;
    }

    pub unsettled : IsUnsettled keeps job old es
    unsettled = record { whole = placed_whole; read = seen; aside = λ k. has_aside (aside k) }

    abbrev settled : List Event
    settled = sync_folder ∷ es

    same_settled : (o : Option ℕ) → content_of settled o ≡ content_of es o
    same_settled None = refl
    same_settled (Some k) = refl

    leaves_settled : (file : Option ℕ) (c : Option (List ℕ)) → MayLeaveOf settled file c → MayLeaveOf es file c
    leaves_settled file c l = leaves_same es settled (λ k. refl) (λ k. refl) file c l

    own_settled : (c : Option (List ℕ)) → MayLeave settled job.name c → c ≡ Some job.bytes
    own_settled c m = leaves_bytes es job.bytes p.number p.bytes_are p.is_synced_now m.0 c (m.1 ∙ p.number_is) (leaves_settled m.0 c m.2)

    -- a name that stands for a file of before
    old_settled : (other from : List ℕ) (c : Option (List ℕ)) → file_of es other ≡ file_of old from → MayLeave settled other c → MayLeave old from c
    old_settled other from c is m =
        let was : StoodFor old from m.0 = subst (λ o. StoodFor old from o) (sym (m.1 ∙ is)) (current old from) in
        (m.0, was, leaves_of old es own p.files p.synced m.0 from c was (leaves_settled m.0 c m.2))

    pub settled_made : IsMade keeps job old settled
    settled_made = record {
      whole = record {
        grown = (sync_folder ∷ p.grown.0, ap (λ l. sync_folder ∷ l) p.grown.1);
        crash = goes_on sync_folder es (length old) job.name (λ d. MayLeave old job.name d ⊎ (d ≡ Some job.bytes)) p.crash (λ d m. inr (own_settled d m));
        read = inr (same_settled (file_of es job.name) ∙ seen);
        others_crash = λ other c d n. goes_on sync_folder es (length old) other (λ x. MayLeave old other x) (λ x h. p.others other x d n h)
            (λ x m. old_settled other other x (p.names other d n) m) c;
        others_read = λ other d n. same_settled (file_of es other) ∙ seen_other other d n;
      };
      settled = own_settled;
      read = same_settled (file_of es job.name) ∙ seen;
      aside = λ k. (
        let a = aside k in
            let h = has_aside a in
            record { aside = h.aside; free = h.free; read = same_settled (file_of es h.aside) ∙ h.read },
        λ c m. old_settled (aside k).0 job.name c (aside k).2 m,
      );
    }

-- ---- what stands is brought to the disk

module _ (es : List Event) (name : List ℕ) where
  abbrev in_file : List Event
  in_file = sync name ∷ es

  abbrev on_disk : List Event
  on_disk = sync_folder ∷ in_file

  still_so : (b x : Bool) → x ≡ true → cond b true x ≡ true
  still_so true x e = refl
  still_so false x e = e

  leaves_synced : (file : Option ℕ) (c : Option (List ℕ)) → MayLeaveOf in_file file c → MayLeaveOf es file c
  leaves_synced None c l = l
  leaves_synced (Some k) c l = (l.0, λ e. l.1 (still_so (is_file (file_of es name) k) (is_synced es k) e))

  still_synced : (other : List ℕ) (c : Option (List ℕ)) → MayLeave in_file other c → MayLeave es other c
  still_synced other c m = (m.0, m.1, leaves_synced m.0 c m.2)

  still_settled : (other : List ℕ) (c : Option (List ℕ)) → MayLeave on_disk other c → MayLeave in_file other c
  still_settled other c m =
      (m.0, subst (λ o. StoodFor in_file other o) (sym m.1) (current in_file other), leaves_same in_file on_disk (λ k. refl) (λ k. refl) m.0 c m.2)

  same_read : (ds : List Event) → ((k : ℕ) → content ds k ≡ content es k) → (o : Option ℕ) → content_of ds o ≡ content_of es o
  same_read ds same None = refl
  same_read ds same (Some k) = ap (λ (x : List ℕ). Some x) (same k)

  leaves_it : (o : Option ℕ) → file_of es name ≡ o → (c : Option (List ℕ)) → MayLeaveOf on_disk o c → c ≡ content_of es o
  leaves_it None e c l = l
  leaves_it (Some k) e c l = l.1 (ap (λ o. cond (is_file o k) true (is_synced es k)) e ∙ ap (λ b. cond b true (is_synced es k)) (same_file k))

  settles : IsSettled on_disk name (read_content es name)
  settles c m =
      leaves_it (file_of es name) refl c (subst (λ o. MayLeaveOf on_disk o c) m.1 m.2)

  module _ (keeps : Bool) (job : Job) (old : List Event) (k : IsKept keeps job old es) where
    kept_more : (e : Event) (ds : List Event) → IsKept keeps job old ds → ((other : List ℕ) (c : Option (List ℕ)) → MayLeave (e ∷ ds) other c → MayLeave ds other c)
        → ((other : List ℕ) → read_content (e ∷ ds) other ≡ read_content ds other) → IsKept keeps job old (e ∷ ds)
    kept_more e ds k still reads = record {
      grown = (e ∷ k.grown.0, ap (λ l. e ∷ l) k.grown.1);
      crash = λ other c n h. goes_on e ds (length old) other (λ d. MayLeave old other d) (λ d l. k.crash other d n l)
          (λ d m. k.crash other d n (counts_now ds (length old) other d (longer old ds k.grown) (still other d m))) c h;
      read = λ other n. reads other ∙ k.read other n;
    }

    pub kept_synced : IsKept keeps job old in_file
    kept_synced = kept_more (sync name) es k still_synced (λ other. same_read in_file (λ x. refl) (file_of es other))

    pub kept_settled : IsKept keeps job old on_disk
    kept_settled = kept_more sync_folder in_file kept_synced still_settled (λ other. same_on (file_of es other))
      where
        same_on : (o : Option ℕ) → content_of on_disk o ≡ content_of in_file o
        same_on None = refl
        same_on (Some j) = refl

module _ (keeps : Bool) (job : Job) (old es : List Event) (apart : IsLockApart job) (k : IsKept keeps job old es) where
  -- what was settled before is so still
  pub same_before : IsSettled es job.name (read_content es job.name) → IsSame keeps job old es
  same_before s = record { kept = k; settled = λ c m. s c m ∙ k.read job.name (name_not_own keeps job old apart) }

  pub same_now : IsSame keeps job old (sync_folder ∷ sync job.name ∷ es)
  same_now = record {
    kept = kept_settled es job.name keeps job old k;
    settled = λ c m. settles es job.name c m ∙ k.read job.name (name_not_own keeps job old apart);
  }

-- whatever is said, the file is the old one or the new one, whole
pub whole_of : (keeps : Bool) (o : Outcome) (job : Job) (old es : List Event) → IsLockApart job → Says keeps o job old es → IsWhole keeps job old es
whole_of keeps Made job old es apart r = r.whole
whole_of keeps (Kept fault) job old es apart k = kept_whole keeps job old es apart k
whole_of keeps (Either fault) job old es apart m = m
whole_of keeps (Unsettled fault) job old es apart u = u.whole
whole_of keeps Same job old es apart s = kept_whole keeps job old es apart s.kept
whole_of keeps (Unsynced fault) job old es apart k = kept_whole keeps job old es apart k

-- ---- one event more at a name of its own, and not at what was set aside

module _ (e : Event) (es : List Event) (name : List ℕ)
    (still : (other : List ℕ) (c : Option (List ℕ)) → other ≢ name → MayLeave (e ∷ es) other c → MayLeave es other c)
    (reads : (other : List ℕ) → other ≢ name → read_content (e ∷ es) other ≡ read_content es other)
    (keeps : Bool) (job : Job) (old : List Event) (is_own : IsOwn keeps job old name) (is_apart : name ≢ job.name) (is_no_aside : ¬ IsAside job.name name) where
  abbrev after : List Event
  after = e ∷ es

  grown_after : Grows old es → Grows old after
  grown_after g = (e ∷ g.0, ap (λ l. e ∷ l) g.1)

  differ_own : (other : List ℕ) → ¬ IsOwn keeps job old other → other ≢ name
  differ_own other n = other_name (IsOwn keeps job old) name other is_own n

  differ_name : job.name ≢ name
  differ_name same = is_apart (sym same)

  differ_aside : (other : List ℕ) → IsAside job.name other → other ≢ name
  differ_aside other a same = is_no_aside (subst (λ x. IsAside job.name x) same a)

  holds_still : Grows old es → (other : List ℕ) → other ≢ name → (P : Option (List ℕ) → Type 0) → ((c : Option (List ℕ)) → MayHaveLeft es (length old) other c → P c)
      → (c : Option (List ℕ)) → MayHaveLeft after (length old) other c → P c
  holds_still g other differ P before =
      goes_on e es (length old) other P before (λ c m. before c (counts_now es (length old) other c (longer old es g) (still other c differ m)))

  kept_after : IsKept keeps job old es → IsKept keeps job old after
  kept_after k = record {
    grown = grown_after k.grown;
    crash = λ other c n h. holds_still k.grown other (differ_own other n) (λ d. MayLeave old other d) (λ d l. k.crash other d n l) c h;
    read = λ other n. reads other (differ_own other n) ∙ k.read other n;
  }

  whole_after : IsWhole keeps job old es → IsWhole keeps job old after
  whole_after m = record {
    grown = grown_after m.grown;
    crash = λ c h. holds_still m.grown job.name differ_name (λ d. MayLeave old job.name d ⊎ (d ≡ Some job.bytes)) m.crash c h;
    read = ⊎_elim (λ r. inl (reads job.name differ_name ∙ r)) (λ r. inr (reads job.name differ_name ∙ r)) m.read;
    others_crash = λ other c d n h. holds_still m.grown other (differ_own other n) (λ x. MayLeave old other x) (λ x l. m.others_crash other x d n l) c h;
    others_read = λ other d n. reads other (differ_own other n) ∙ m.others_read other d n;
  }

  abbrev aside_after : HasAside job old es → HasAside job old after
  aside_after h = record { aside = h.aside; free = h.free; read = reads h.aside (differ_aside h.aside h.free.0) ∙ h.read }

  pub says_after : (o : Outcome) → Says keeps o job old es → Says keeps o job old after
  says_after Made r = record {
    whole = whole_after r.whole;
    settled = λ c m. r.settled c (still job.name c differ_name m);
    read = reads job.name differ_name ∙ r.read;
    aside = λ k. (aside_after (r.aside k).0, λ c m. (r.aside k).1 c (still (r.aside k).0.aside c (differ_aside (r.aside k).0.aside (r.aside k).0.free.0) m));
  }
  says_after (Kept fault) k = kept_after k
  says_after (Either fault) m = whole_after m
  says_after Same s = record { kept = kept_after s.kept; settled = λ c m. s.settled c (still job.name c differ_name m) }
  says_after (Unsynced fault) k = kept_after k
  says_after (Unsettled fault) u = record { whole = whole_after u.whole; read = reads job.name differ_name ∙ u.read; aside = λ k. aside_after (u.aside k) }

-- ---- a name is removed

module _ (es : List Event) (gone : List ℕ) where
  abbrev removed : List Event
  removed = remove gone ∷ es

  pub is_gone : file_of removed gone ≡ None
  is_gone = ap (λ b. cond b None (file_of es gone)) (itself gone)

  pub still_removed : (other : List ℕ) (c : Option (List ℕ)) → other ≢ gone → MayLeave removed other c → MayLeave es other c
  still_removed other c differ m =
      (m.0, ⊎_elim (λ (e : (other ≡ gone) × (m.0 ≡ None)). absurd (differ e.0)) (λ t. t) m.1, leaves_same es removed (λ k. refl) (λ k. refl) m.0 c m.2)

  same_removed : (o : Option ℕ) → content_of removed o ≡ content_of es o
  same_removed None = refl
  same_removed (Some k) = refl

  pub reads_removed : (other : List ℕ) → other ≢ gone → read_content removed other ≡ read_content es other
  reads_removed other differ =
      ap (λ o. content_of removed o) (ap (λ b. cond b None (file_of es other)) (other_path other gone differ)) ∙ same_removed (file_of es other)

-- ---- the lock's file is made, and written

module _ (es : List Event) (lock : List ℕ) where
  abbrev with_lock : List Event
  with_lock = create lock ∷ es

  other_file : (other : List ℕ) → other ≢ lock → file_of with_lock other ≡ file_of es other
  other_file other differ = ap (λ b. cond b (Some (files_made es)) (file_of es other)) (other_path other lock differ)

  pub still_made : (other : List ℕ) (c : Option (List ℕ)) → other ≢ lock → MayLeave with_lock other c → MayLeave es other c
  still_made other c differ m =
      (m.0, ⊎_elim (λ (e : (other ≡ lock) × (m.0 ≡ Some (files_made es))). absurd (differ e.0)) (λ t. t) m.1, leaves_same es with_lock (λ k. refl) (λ k. refl) m.0 c m.2)

  same_made : (o : Option ℕ) → content_of with_lock o ≡ content_of es o
  same_made None = refl
  same_made (Some k) = refl

  pub reads_made : (other : List ℕ) → other ≢ lock → read_content with_lock other ≡ read_content es other
  reads_made other differ = ap (λ o. content_of with_lock o) (other_file other differ) ∙ same_made (file_of es other)

  module _ (some : List ℕ) where
    abbrev noted : List Event
    noted = append lock some ∷ with_lock

    lock_is : file_of with_lock lock ≡ Some (files_made es)
    lock_is = ap (λ b. cond b (Some (files_made es)) (file_of es lock)) (itself lock)

    not_locks : (k : ℕ) → k < files_made es → is_file (file_of with_lock lock) k ≡ false
    not_locks k lt = not_file (file_of with_lock lock) (files_made es) k (files_made es) lock_is (omega arith) lt

    same_content : (k : ℕ) → k < files_made es → content noted k ≡ content with_lock k
    same_content k lt = ap (λ b. cond b (content with_lock k ++ some) (content with_lock k)) (not_locks k lt)

    same_synced : (k : ℕ) → k < files_made es → is_synced noted k ≡ is_synced with_lock k
    same_synced k lt = ap (λ b. cond b false (is_synced with_lock k)) (not_locks k lt)

    leaves_noted : (other : List ℕ) (file : Option ℕ) (c : Option (List ℕ)) → StoodFor es other file → MayLeaveOf noted file c → MayLeaveOf with_lock file c
    leaves_noted other None c s l = l
    leaves_noted other (Some k) c s l =
        let lt = stood_bounded es other k s in
        (l.0, λ e. l.1 (same_synced k lt ∙ e) ∙ ap (λ (x : List ℕ). Some x) (same_content k lt))

    stood_before : (other : List ℕ) (file : Option ℕ) → other ≢ lock → StoodFor with_lock other file → StoodFor es other file
    stood_before other file differ h = ⊎_elim (λ (e : (other ≡ lock) × (file ≡ Some (files_made es))). absurd (differ e.0)) (λ t. t) h

    pub still_noted : (other : List ℕ) (c : Option (List ℕ)) → other ≢ lock → MayLeave noted other c → MayLeave with_lock other c
    still_noted other c differ m = (m.0, m.1, leaves_noted other m.0 c (stood_before other m.0 differ m.1) m.2)

    seen_noted : (other : List ℕ) (o : Option ℕ) → file_of es other ≡ o → content_of noted o ≡ content_of with_lock o
    seen_noted other None e = refl
    seen_noted other (Some k) e = ap (λ (x : List ℕ). Some x) (same_content k (bounded es other k e))

    pub reads_noted : (other : List ℕ) → other ≢ lock → read_content noted other ≡ read_content with_lock other
    reads_noted other differ = seen_noted other (file_of with_lock other) (sym (other_file other differ))

    -- another name stands for what it stood for
    pub named_noted : (other : List ℕ) → other ≢ lock → file_of noted other ≡ file_of es other
    named_noted other differ = other_file other differ

module _ (keeps : Bool) (o : Outcome) (job : Job) (old es : List Event) (apart : IsLockApart job) (s : Says keeps o job old es) where
  new_is_no_aside : ¬ IsAside job.name (new_name job.name)
  new_is_no_aside a = aside_is_not_new job.name (new_name job.name) a refl

  pub says_removed : (new_name job.name ≢ job.name) → IsOwn keeps job old (new_name job.name) → Says keeps o job old (remove (new_name job.name) ∷ es)
  says_removed differ is_own =
      says_after (remove (new_name job.name)) es (new_name job.name) (still_removed es (new_name job.name)) (reads_removed es (new_name job.name)) keeps job old is_own differ new_is_no_aside o s

  pub says_noted : (lock some : List ℕ) → job.lock ≡ Some lock → Says keeps o job old (append lock some ∷ create lock ∷ es)
  says_noted lock some is =
      let a = apart lock is in
      let l = lock_own keeps job old lock is in
      says_after (append lock some) (create lock ∷ es) lock (still_noted es lock some) (reads_noted es lock some) keeps job old l a.0 a.2 o
      (says_after (create lock) es lock (still_made es lock) (reads_made es lock) keeps job old l a.0 a.2 o s)

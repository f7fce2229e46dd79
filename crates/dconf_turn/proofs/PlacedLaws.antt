-- The new file has the name.
use Rattle.std.proofs.Common.{ℕ, ◌≡◌, ◌≢◌, true, cond, List, ◌∷◌, length, Option, Some, None, refl, sym, ◌∙◌, ap, subst, ⊎_elim, inl, inr, ◌⊎◌}
use Rattle.std.specs.Str.{bytes_eq}
use Rattle.dconf_model.specs.Folders.{Event, file_of, content, is_synced, StoodFor, MayLeaveOf, MayLeave}
use Rattle.dconf_model.specs.Folders.Event.{rename, exchange}
use Rattle.dconf_model.proofs.SameBytes.{itself, other_path}
use Rattle.dconf_turn.specs.Progress.{Staged, Placed}
use Rattle.dconf_turn.proofs.Fresh.{goes_on}
use Rattle.dconf_turn.proofs.ApartLaws.{leaves, other_name}

-- What a file may leave, where its bytes are the same ones and as synced.
pub leaves_same : (es ds : List Event) → ((k : ℕ) → content ds k ≡ content es k) → ((k : ℕ) → is_synced ds k ≡ is_synced es k) → (file : Option ℕ) (c : Option (List ℕ)) → MayLeaveOf ds file c →
    MayLeaveOf es file c
leaves_same es ds contents synced None c l = l
leaves_same es ds contents synced (Some k) c l = (l.0, λ e. l.1 (synced k ∙ e) ∙ ap (λ (x : List ℕ). Some x) (contents k))

-- a file whose bytes are all synced
pub leaves_bytes : (es : List Event) (bytes : List ℕ) (k : ℕ) → content es k ≡ bytes → is_synced es k ≡ true → (file : Option ℕ) (c : Option (List ℕ)) → file ≡ Some k → MayLeaveOf es file c →
    c ≡ Some bytes
leaves_bytes es bytes k are synced None c e l = let bad : None ≡ Some k = e in cc
leaves_bytes es bytes k are synced (Some j) c e l =
    let same : j ≡ k = cc in
    l.1 (ap (λ f. is_synced es f) same ∙ synced) ∙ ap (λ (x : List ℕ). Some x) (ap (λ f. content es f) same ∙ are)

-- one event that gives the name the file of a name of its own
module _ (e : Event) (old es : List Event) (own : List ℕ → Type 0) (name bytes from : List ℕ) (s : Staged old es own from bytes) (not_own : ¬ own name)
    (contents : (k : ℕ) → content (e ∷ es) k ≡ content es k) (synced : (k : ℕ) → is_synced (e ∷ es) k ≡ is_synced es k)
    (named : file_of (e ∷ es) name ≡ file_of es from)
    (names : (other : List ℕ) → other ≢ name → ¬ own other → file_of (e ∷ es) other ≡ file_of es other)
    (stood : (file : Option ℕ) → StoodFor (e ∷ es) name file → (file ≡ file_of es from) ⊎ StoodFor es name file)
    (others : (other : List ℕ) (file : Option ℕ) → other ≢ name → ¬ own other → StoodFor (e ∷ es) other file → StoodFor es other file) where
  leaves_now : (other : List ℕ) (c : Option (List ℕ)) → ¬ own other → MayLeave es other c → MayLeave old other c
  leaves_now other c differ m = leaves old es own s.holds.apart.files s.holds.apart.synced s.holds.apart.stood other c differ m

  own_now : (c : Option (List ℕ)) → MayLeave (e ∷ es) name c → MayLeave old name c ⊎ (c ≡ Some bytes)
  own_now c m =
      ⊎_elim (λ (is : m.0 ≡ file_of es from).
      inr (leaves_bytes es bytes s.holds.number s.holds.bytes_are s.synced m.0 c (is ∙ s.holds.number_is) (leaves_same es (e ∷ es) contents synced m.0 c m.2)))
      (λ t. inl (leaves_now name c not_own (m.0, t, leaves_same es (e ∷ es) contents synced m.0 c m.2))) (stood m.0 m.1)

  pub placed : Placed old (e ∷ es) own name bytes
  placed = record {
    grown = (e ∷ s.holds.apart.grown.0, ap (λ l. e ∷ l) s.holds.apart.grown.1);
    number = s.holds.number;
    number_is = named ∙ s.holds.number_is;
    bytes_are = contents s.holds.number ∙ s.holds.bytes_are;
    is_synced_now = synced s.holds.number ∙ s.synced;
    files = λ file lt. contents file ∙ s.holds.apart.files file lt;
    synced = λ file lt. synced file ∙ s.holds.apart.synced file lt;
    names = λ other d differ. names other d differ ∙ s.holds.apart.names other differ;
    crash = goes_on e es (length old) name (λ d. MayLeave old name d ⊎ (d ≡ Some bytes)) (λ d h. inl (s.holds.apart.moments name d not_own h)) own_now;
    others = λ other c d differ. goes_on e es (length old) other (λ x. MayLeave old other x) (λ x h. s.holds.apart.moments other x differ h)
        (λ x m. leaves_now other x differ (m.0, others other m.0 d differ m.1, leaves_same es (e ∷ es) contents synced m.0 x m.2)) c;
  }

module _ (old es : List Event) (own : List ℕ → Type 0) (name bytes from : List ℕ) (s : Staged old es own from bytes) (is_own : own from) (not_own : ¬ own name) where
  from_differs : name ≢ from
  from_differs e = not_own (subst own (sym e) is_own)

  pub by_rename : Placed old (rename from name ∷ es) own name bytes
  by_rename = placed (rename from name) old es own name bytes from s not_own (λ k. refl) (λ k. refl)
      (ap (λ b. cond b (file_of es from) (cond (bytes_eq name from) None (file_of es name))) (itself name))
      (λ other d differ. ap (λ b. cond b (file_of es from) (cond (bytes_eq other from) None (file_of es other))) (other_path other name d)
      ∙ ap (λ b. cond b None (file_of es other)) (other_path other from (other_name own from other is_own differ)))
      (λ file h. ⊎_elim (λ (e : (name ≡ name) × (file ≡ file_of es from)). inl e.1)
      (λ r. ⊎_elim (λ (e : (name ≡ from) × (file ≡ None)). absurd (from_differs e.0)) (λ t. inr t) r) h)
      (λ other file d differ h. ⊎_elim (λ (e : (other ≡ name) × (file ≡ file_of es from)). absurd (d e.0))
      (λ r. ⊎_elim (λ (e : (other ≡ from) × (file ≡ None)). absurd (other_name own from other is_own differ e.0)) (λ t. t) r) h)

  pub by_exchange : Placed old (exchange from name ∷ es) own name bytes
  by_exchange = placed (exchange from name) old es own name bytes from s not_own (λ k. refl) (λ k. refl)
      (ap (λ b. cond b (file_of es from) (cond (bytes_eq name from) (file_of es name) (file_of es name))) (itself name))
      (λ other d differ. ap (λ b. cond b (file_of es from) (cond (bytes_eq other from) (file_of es name) (file_of es other))) (other_path other name d)
      ∙ ap (λ b. cond b (file_of es name) (file_of es other)) (other_path other from (other_name own from other is_own differ)))
      (λ file h. ⊎_elim (λ (e : (name ≡ name) × (file ≡ file_of es from)). inl e.1)
      (λ r. ⊎_elim (λ (e : (name ≡ from) × (file ≡ file_of es name)). absurd (from_differs e.0)) (λ t. inr t) r) h)
      (λ other file d differ h. ⊎_elim (λ (e : (other ≡ name) × (file ≡ file_of es from)). absurd (d e.0))
      (λ r. ⊎_elim (λ (e : (other ≡ from) × (file ≡ file_of es name)). absurd (other_name own from other is_own differ e.0)) (λ t. t) r) h)

  -- what changed places with it stands for the old file
  pub changed : file_of (exchange from name ∷ es) from ≡ file_of es name
  changed =
      ap (λ b. cond b (file_of es from) (cond (bytes_eq from from) (file_of es name) (file_of es from))) (other_path from name (λ e. from_differs (sym e)))
      ∙ ap (λ b. cond b (file_of es name) (file_of es from)) (itself from)

module _ (es : List Event) (from to : List ℕ) where
  -- the name that it had has no file any more
  pub gone : from ≢ to → file_of (rename from to ∷ es) from ≡ None
  gone differ =
      ap (λ b. cond b (file_of es from) (cond (bytes_eq from from) None (file_of es from))) (other_path from to differ)
      ∙ ap (λ b. cond b None (file_of es from)) (itself from)

  pub beside_rename : (other : List ℕ) → other ≢ to → other ≢ from → file_of (rename from to ∷ es) other ≡ file_of es other
  beside_rename other t f =
      ap (λ b. cond b (file_of es from) (cond (bytes_eq other from) None (file_of es other))) (other_path other to t)
      ∙ ap (λ b. cond b None (file_of es other)) (other_path other from f)

  pub beside_exchange : (other : List ℕ) → other ≢ to → other ≢ from → file_of (exchange from to ∷ es) other ≡ file_of es other
  beside_exchange other t f =
      ap (λ b. cond b (file_of es from) (cond (bytes_eq other from) (file_of es to) (file_of es other))) (other_path other to t)
      ∙ ap (λ b. cond b (file_of es to) (file_of es other)) (other_path other from f)

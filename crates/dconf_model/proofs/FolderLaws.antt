-- What a name stands for, and what a crash at some moment might have left. For the crates above, too.
use Rattle.std.specs.Prelude.{◌≡◌, ◌<◌, ◌≤◌, ◌+◌, ℕ, List, [], ◌∷◌, length, Option, Some, None, refl, Bool, true, false}
use Rattle.std.proofs.Common.{inl, inr, subst, ap, ◌∙◌, arith, length-append}
use Rattle.std.specs.Str.{bytes_eq}
use Rattle.std.specs.Cmp.Lexicographic.{bytes_decides}
use Rattle.dconf_model.specs.Bytes.{MaybeBytes}
use Rattle.dconf_model.specs.Folders.{Event, StoodFor, MayLeave, MayLeaveOf, MayHaveLeft, Grows, read_content, file_of, content_of}
use Rattle.dconf_model.specs.Folders.Event.{create, append, sync, touch, rename, remove, link, exchange, sync_folder}

after_create : (es : List Event) (made name : List ℕ) → StoodFor es name (file_of es name) → StoodFor (create made ∷ es) name (file_of (create made ∷ es) name)
after_create es made name before = go (bytes_eq name made) refl
  where
    go : (b : Bool) → bytes_eq name made ≡ b → StoodFor (create made ∷ es) name (file_of (create made ∷ es) name)
    go true e = rw e (inl ((bytes_decides name made).0 e, refl))
    go false e = rw e (inr before)

after_rename : (es : List Event) (from to name : List ℕ) → StoodFor es name (file_of es name) → StoodFor (rename from to ∷ es) name (file_of (rename from to ∷ es) name)
after_rename es from to name before = go (bytes_eq name to) refl (bytes_eq name from) refl
  where
    go : (b : Bool) → bytes_eq name to ≡ b → (d : Bool) → bytes_eq name from ≡ d → StoodFor (rename from to ∷ es) name (file_of (rename from to ∷ es) name)
    go true e d f = rw e (inl ((bytes_decides name to).0 e, refl))
    go false e true f = rw (e, f) (inr (inl ((bytes_decides name from).0 f, refl)))
    go false e false f = rw (e, f) (inr (inr before))

after_remove : (es : List Event) (gone name : List ℕ) → StoodFor es name (file_of es name) → StoodFor (remove gone ∷ es) name (file_of (remove gone ∷ es) name)
after_remove es gone name before = go (bytes_eq name gone) refl
  where
    go : (b : Bool) → bytes_eq name gone ≡ b → StoodFor (remove gone ∷ es) name (file_of (remove gone ∷ es) name)
    go true e = rw e (inl ((bytes_decides name gone).0 e, refl))
    go false e = rw e (inr before)

after_link : (es : List Event) (from to name : List ℕ) → StoodFor es name (file_of es name) → StoodFor (link from to ∷ es) name (file_of (link from to ∷ es) name)
after_link es from to name before = go (bytes_eq name to) refl
  where
    go : (b : Bool) → bytes_eq name to ≡ b → StoodFor (link from to ∷ es) name (file_of (link from to ∷ es) name)
    go true e = rw e (inl ((bytes_decides name to).0 e, refl))
    go false e = rw e (inr before)

after_exchange : (es : List Event) (one two name : List ℕ) → StoodFor es name (file_of es name) → StoodFor (exchange one two ∷ es) name (file_of (exchange one two ∷ es) name)
after_exchange es one two name before = go (bytes_eq name two) refl (bytes_eq name one) refl
  where
    go : (b : Bool) → bytes_eq name two ≡ b → (d : Bool) → bytes_eq name one ≡ d → StoodFor (exchange one two ∷ es) name (file_of (exchange one two ∷ es) name)
    go true e d f = rw e (inl ((bytes_decides name two).0 e, refl))
    go false e true f = rw (e, f) (inr (inl ((bytes_decides name one).0 f, refl)))
    go false e false f = rw (e, f) (inr (inr before))

-- a name stood for what it stands for
pub current : (es : List Event) (name : List ℕ) → StoodFor es name (file_of es name)
current [] name = refl
current (create made ∷ es) name = after_create es made name (current es name)
current (rename from to ∷ es) name = after_rename es from to name (current es name)
current (remove gone ∷ es) name = after_remove es gone name (current es name)
current (link from to ∷ es) name = after_link es from to name (current es name)
current (exchange one two ∷ es) name = after_exchange es one two name (current es name)
current (sync_folder ∷ es) name = refl
current (append other bytes ∷ es) name = current es name
current (sync other ∷ es) name = current es name
current (touch other ∷ es) name = current es name

leaves_content : (es : List Event) (file : Option ℕ) → MayLeaveOf es file (content_of es file)
leaves_content es None = refl
leaves_content es (Some file) = (refl, λ e. refl)

-- a crash may leave what a read gives
pub seen_may : (es : List Event) (name : List ℕ) → MayLeave es name (read_content es name)
seen_may es name = (file_of es name, current es name, leaves_content es (file_of es name))

-- ---- moments

pub counts_now : (es : List Event) (since : ℕ) (name : List ℕ) (c : MaybeBytes) → since ≤ length es → MayLeave es name c → MayHaveLeft es since name c
counts_now [] since name c le m = (le, m)
counts_now (e ∷ es) since name c le m = let k : since ≤ length es + 1 = omega (arith, le) in inl (k, m)

pub longer : (old new : List Event) → Grows old new → length old ≤ length new
longer old new grows = let whole = ap length grows.1 ∙ length-append grows.0 old in omega (arith, whole)

-- a moment that is still to come isn't one
pub too_late : (es : List Event) (since : ℕ) (name : List ℕ) (c : MaybeBytes) → length es < since → MayHaveLeft es since name c → ⊥
too_late [] since name c late h = let early = h.0 in absurd (omega arith)
too_late (e ∷ es) since name c late h = elim h [ inl now ↦ (let early = now.0 in absurd (omega arith)) | inr before ↦ too_late es since name c (omega arith) before ]

-- since now there is no other moment
pub only_now : (es : List Event) (name : List ℕ) (c : MaybeBytes) → MayHaveLeft es (length es) name c → MayLeave es name c
only_now [] name c h = h.1
only_now (e ∷ es) name c h = elim h [ inl now ↦ now.1 | inr before ↦ absurd (too_late es (length (e ∷ es)) name c (omega arith) before) ]

-- where nothing was done
pub unchanged : (old new : List Event) (name : List ℕ) (c : MaybeBytes) → new ≡ old → MayHaveLeft new (length old) name c → MayLeave old name c
unchanged old new name c same h = only_now old name c (subst (λ es. MayHaveLeft es (length old) name c) same h)

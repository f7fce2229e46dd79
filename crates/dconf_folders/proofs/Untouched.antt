-- A failed append or sync changes no name and no content.
use Rattle.std.proofs.Common.{ℕ, Result, Ok, Err, OnOk, OnErr, IfSome, IsSome, ◌+◌, ◌≡◌, ◌⊎◌, inl, inr, Bool, true, false, cond, Option, Some, None, List, [], ◌∷◌, ◌++◌, refl, sym, ◌∙◌, ap, subst}
use Rattle.std.specs.Str.{bytes_eq}
use Rattle.dconf_model.specs.Folders.{Event, files_made, file_of, content, content_of, is_file, is_synced, read_content}
use Rattle.dconf_model.specs.Folders.Event.{create, append, sync, touch, rename, remove, link, exchange, sync_folder}
use Rattle.dconf_folders.specs.MemoryFolders.{event_of, events_of, untouched, AddsTouches}
use Rattle.dconf_folders.specs.declared.calls.Call.{Call}

pub files_untouched : (es : List Event) → files_made (untouched es) ≡ files_made es
files_untouched [] = refl
files_untouched (create made ∷ es) = ap (λ n. n + 1) (files_untouched es)
files_untouched (remove _ ∷ es) = files_untouched es
files_untouched (link _ _ ∷ es) = files_untouched es
files_untouched (exchange _ _ ∷ es) = files_untouched es
files_untouched (append _ _ ∷ es) = files_untouched es
files_untouched (sync _ ∷ es) = files_untouched es
files_untouched (touch _ ∷ es) = files_untouched es
files_untouched (rename _ _ ∷ es) = files_untouched es
files_untouched (sync_folder ∷ es) = files_untouched es

pub file_untouched : (es : List Event) (name : List ℕ) → file_of (untouched es) name ≡ file_of es name
file_untouched [] name = refl
file_untouched (create made ∷ es) name =
    ap (λ n. cond (bytes_eq name made) (Some n) (file_of (untouched es) name)) (files_untouched es)
    ∙ ap (λ o. cond (bytes_eq name made) (Some (files_made es)) o) (file_untouched es name)
file_untouched (rename from to ∷ es) name =
    ap (λ o. cond (bytes_eq name to) o (cond (bytes_eq name from) None (file_of (untouched es) name))) (file_untouched es from)
    ∙ ap (λ o. cond (bytes_eq name to) (file_of es from) (cond (bytes_eq name from) None o)) (file_untouched es name)
file_untouched (remove gone ∷ es) name = ap (λ o. cond (bytes_eq name gone) None o) (file_untouched es name)
file_untouched (link from to ∷ es) name =
    ap (λ o. cond (bytes_eq name to) o (file_of (untouched es) name)) (file_untouched es from)
    ∙ ap (λ o. cond (bytes_eq name to) (file_of es from) o) (file_untouched es name)
file_untouched (exchange one two ∷ es) name =
    ap (λ o. cond (bytes_eq name two) o (cond (bytes_eq name one) (file_of (untouched es) two) (file_of (untouched es) name))) (file_untouched es one)
    ∙ ap (λ o. cond (bytes_eq name two) (file_of es one) (cond (bytes_eq name one) o (file_of (untouched es) name))) (file_untouched es two)
    ∙ ap (λ o. cond (bytes_eq name two) (file_of es one) (cond (bytes_eq name one) (file_of es two) o)) (file_untouched es name)
file_untouched (append _ _ ∷ es) name = file_untouched es name
file_untouched (sync _ ∷ es) name = file_untouched es name
file_untouched (touch _ ∷ es) name = file_untouched es name
file_untouched (sync_folder ∷ es) name = file_untouched es name

pub content_untouched : (es : List Event) (file : ℕ) → content (untouched es) file ≡ content es file
content_untouched [] file = refl
content_untouched (append name bytes ∷ es) file =
    ap (λ o. cond (is_file o file) (content (untouched es) file ++ bytes) (content (untouched es) file)) (file_untouched es name)
    ∙ ap (λ (x : List ℕ). cond (is_file (file_of es name) file) (x ++ bytes) x) (content_untouched es file)
content_untouched (create _ ∷ es) file = content_untouched es file
content_untouched (remove _ ∷ es) file = content_untouched es file
content_untouched (link _ _ ∷ es) file = content_untouched es file
content_untouched (exchange _ _ ∷ es) file = content_untouched es file
content_untouched (sync _ ∷ es) file = content_untouched es file
content_untouched (touch _ ∷ es) file = content_untouched es file
content_untouched (rename _ _ ∷ es) file = content_untouched es file
content_untouched (sync_folder ∷ es) file = content_untouched es file

contents_untouched : (es : List Event) (o : Option ℕ) → content_of (untouched es) o ≡ content_of es o
contents_untouched es None = refl
contents_untouched es (Some file) = ap (λ (x : List ℕ). Some x) (content_untouched es file)

seen_untouched : (es : List Event) (name : List ℕ) → read_content (untouched es) name ≡ read_content es name
seen_untouched es name = ap (λ o. content_of (untouched es) o) (file_untouched es name) ∙ contents_untouched es (file_of es name)

module _ (ds es : List Event) (a : AddsTouches ds es) where
  -- what the events say of a name the calls say
  pub seen_noted : (name : List ℕ) → read_content es name ≡ read_content ds name
  seen_noted name = sym (seen_untouched es name) ∙ ap (λ (x : List Event). read_content x name) a.others ∙ seen_untouched ds name

  pub same_file : (name : List ℕ) → file_of es name ≡ file_of ds name
  same_file name = sym (file_untouched es name) ∙ ap (λ (x : List Event). file_of x name) a.others ∙ file_untouched ds name

  -- an event that sets a file to synced or unsynced
  both : (b : Bool) (z : Bool) (file : ℕ) → cond b z (is_synced es file) ≡ true → cond b z (is_synced ds file) ≡ true
  both true z file h = h
  both false z file h = a.synced file h

  at_file : (name : List ℕ) (z : Bool) (file : ℕ) → cond (is_file (file_of es name) file) z (is_synced es file) ≡ true → cond (is_file (file_of ds name) file) z (is_synced ds file) ≡ true
  at_file name z file h = subst (λ o. cond (is_file o file) z (is_synced ds file) ≡ true) (same_file name) (both (is_file (file_of es name) file) z file h)

  -- one event more
  pub one_event : (e : Event) → AddsTouches (e ∷ ds) (e ∷ es)
  one_event (create name) = record { others = ap (λ (x : List Event). create name ∷ x) a.others; synced = a.synced }
  one_event (append name bytes) = record { others = ap (λ (x : List Event). append name bytes ∷ x) a.others; synced = λ file h. at_file name false file h }
  one_event (sync name) = record { others = ap (λ (x : List Event). sync name ∷ x) a.others; synced = λ file h. at_file name true file h }
  one_event (touch name) = record { others = a.others; synced = λ file h. at_file name false file h }
  one_event (rename from to) = record { others = ap (λ (x : List Event). rename from to ∷ x) a.others; synced = a.synced }
  one_event (remove gone) = record { others = ap (λ (x : List Event). remove gone ∷ x) a.others; synced = a.synced }
  one_event (link from to) = record { others = ap (λ (x : List Event). link from to ∷ x) a.others; synced = a.synced }
  one_event (exchange one two) = record { others = ap (λ (x : List Event). exchange one two ∷ x) a.others; synced = a.synced }
  one_event sync_folder = record { others = ap (λ (x : List Event). sync_folder ∷ x) a.others; synced = a.synced }

  was_synced : (b x : Bool) → cond b false x ≡ true → x ≡ true
  was_synced true x h = let bad : false ≡ true = h in cc
  was_synced false x h = h

  -- a failed append or sync that isn't noted
  pub one_touch : (name : List ℕ) → AddsTouches ds (touch name ∷ es)
  one_touch name = record { others = a.others; synced = λ file h. a.synced file (was_synced (is_file (file_of es name) file) (is_synced es file) h) }

-- nothing was done yet
pub no_touches : (es : List Event) → AddsTouches es es
no_touches es = record { others = refl; synced = λ file h. h }

-- a call that was noted
pub noted_event : (old new es : List Event) (e : Event) → new ≡ e ∷ old → AddsTouches old es → AddsTouches new (e ∷ es)
noted_event old new es e is a = subst (λ ds. AddsTouches ds (e ∷ es)) (sym is) (one_event old es a e)

-- a failed call that was noted, or not
pub touched : (old new es : List Event) (name : List ℕ) → (new ≡ touch name ∷ old) ⊎ (new ≡ old) → AddsTouches old es → AddsTouches new (touch name ∷ es)
touched old new es name (inl is) a = noted_event old new es (touch name) is a
touched old new es name (inr is) a = subst (λ ds. AddsTouches ds (touch name ∷ es)) (sym is) (one_touch old es a name)

pub unchanged : (old new : List Call) (es : List Event) → new ≡ old → AddsTouches (events_of old) es → AddsTouches (events_of new) es
unchanged old new es is a = subst (λ cs. AddsTouches (events_of cs) es) (sym is) a

-- what a call that was noted did
pub noted : {F : Type 0} (k : Option Call) (r : Result (Unit {0}) F) (e : Event) (old new : List Call) → OnOk r (IfSome k (λ c. events_of new ≡ event_of c ∷ events_of old))
    → OnOk r (IsSome k) → IfSome k (λ c. event_of c ≡ e) → (es : List Event) → AddsTouches (events_of old) es → OnOk r (AddsTouches (events_of new) (e ∷ es))
noted k (Err f) e old new a b c es past = tt
noted (Some call) (Ok u) e old new a b c es past = noted_event (events_of old) (events_of new) es e (a ∙ ap (λ x. x ∷ events_of old) c) past
noted None (Ok u) e old new a b c es past = let bad : false ≡ true = b in cc

-- what one that failed did
pub same_calls : {F : Type 0} (r : Result (Unit {0}) F) (old new : List Call) → OnErr r (new ≡ old) → (es : List Event) → AddsTouches (events_of old) es → OnErr r (AddsTouches (events_of new) es)
same_calls (Ok u) old new a es past = tt
same_calls (Err f) old new a es past = unchanged old new es a past

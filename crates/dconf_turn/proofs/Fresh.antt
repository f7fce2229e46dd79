-- A new file is no name's, and what is done to it changes no other file.
use Rattle.std.proofs.Common.{ℕ, ◌+◌, ◌<◌, ◌≤◌, ◌≡◌, Bool, true, false, cond, List, [], ◌∷◌, ◌++◌, length, Option, Some, None, refl, sym, ◌∙◌, ap, arith, ⊎_elim, eqb}
use Rattle.std.proofs.lemmas.Bool.{false_from_ne_true, eqb-true}
use Rattle.std.specs.Str.{bytes_eq}
use Rattle.dconf_model.specs.Folders.{Event, files_made, file_of, is_file, content, StoodFor, MayLeave, MayHaveLeft}
use Rattle.dconf_model.specs.Folders.Event.{create, append, sync, touch, rename, remove, link, exchange, sync_folder}

pick_bounded : (b : Bool) (x y : Option ℕ) (f n : ℕ) → ((x ≡ Some f) → f < n) → ((y ≡ Some f) → f < n) → cond b x y ≡ Some f → f < n
pick_bounded true x y f n p q e = p e
pick_bounded false x y f n p q e = q e

-- a name's file is an earlier event
pub bounded : (es : List Event) (name : List ℕ) (f : ℕ) → file_of es name ≡ Some f → f < files_made es
bounded [] name f e = let bad : None ≡ Some f = e in cc
bounded (create made ∷ es) name f e =
    pick_bounded (bytes_eq name made) (Some (files_made es)) (file_of es name) f (files_made (create made ∷ es))
    (λ (h : Some (files_made es) ≡ Some f). let k : files_made es ≡ f = cc in omega arith)
    (λ h. let k : f < files_made es = bounded es name f h in omega arith) e
bounded (rename from to ∷ es) name f e =
    pick_bounded (bytes_eq name to) (file_of es from) (cond (bytes_eq name from) None (file_of es name)) f (files_made (rename from to ∷ es))
    (λ h. let k : f < files_made es = bounded es from f h in omega arith)
    (λ h. pick_bounded (bytes_eq name from) None (file_of es name) f (files_made (rename from to ∷ es))
    (λ (g : None ≡ Some f). cc)
    (λ g. let k : f < files_made es = bounded es name f g in omega arith) h) e
bounded (remove gone ∷ es) name f e =
    pick_bounded (bytes_eq name gone) None (file_of es name) f (files_made (remove gone ∷ es))
    (λ (g : None ≡ Some f). cc)
    (λ g. let k : f < files_made es = bounded es name f g in omega arith) e
bounded (link from to ∷ es) name f e =
    pick_bounded (bytes_eq name to) (file_of es from) (file_of es name) f (files_made (link from to ∷ es))
    (λ h. let k : f < files_made es = bounded es from f h in omega arith)
    (λ h. let k : f < files_made es = bounded es name f h in omega arith) e
bounded (exchange one two ∷ es) name f e =
    pick_bounded (bytes_eq name two) (file_of es one) (cond (bytes_eq name one) (file_of es two) (file_of es name)) f (files_made (exchange one two ∷ es))
    (λ h. let k : f < files_made es = bounded es one f h in omega arith)
    (λ h. pick_bounded (bytes_eq name one) (file_of es two) (file_of es name) f (files_made (exchange one two ∷ es))
    (λ g. let k : f < files_made es = bounded es two f g in omega arith)
    (λ g. let k : f < files_made es = bounded es name f g in omega arith) h) e
bounded (append n b ∷ es) name f e = let k : f < files_made es = bounded es name f e in omega arith
bounded (sync n ∷ es) name f e = let k : f < files_made es = bounded es name f e in omega arith
bounded (touch n ∷ es) name f e = let k : f < files_made es = bounded es name f e in omega arith
bounded (sync_folder ∷ es) name f e = let k : f < files_made es = bounded es name f e in omega arith

pub stood_bounded : (es : List Event) (name : List ℕ) (f : ℕ) → StoodFor es name (Some f) → f < files_made es
stood_bounded [] name f e = let bad : Some f ≡ None = e in cc
stood_bounded (sync_folder ∷ es) name f e = let k : f < files_made es = bounded es name f (sym e) in omega arith
stood_bounded (create made ∷ es) name f h =
    ⊎_elim (λ (e : (name ≡ made) × (Some f ≡ Some (files_made es))). let s : Some f ≡ Some (files_made es) = e.1 in let k : f ≡ files_made es = cc in omega arith)
    (λ e. let k : f < files_made es = stood_bounded es name f e in omega arith) h
stood_bounded (rename from to ∷ es) name f h =
    ⊎_elim (λ (e : (name ≡ to) × (Some f ≡ file_of es from)). let k : f < files_made es = bounded es from f (sym e.1) in omega arith)
    (λ g. ⊎_elim (λ (e : (name ≡ from) × (Some f ≡ None)). let bad : Some f ≡ None = e.1 in cc)
    (λ e. let k : f < files_made es = stood_bounded es name f e in omega arith) g) h
stood_bounded (remove gone ∷ es) name f h =
    ⊎_elim (λ (e : (name ≡ gone) × (Some f ≡ None)). let bad : Some f ≡ None = e.1 in cc)
    (λ e. let k : f < files_made es = stood_bounded es name f e in omega arith) h
stood_bounded (link from to ∷ es) name f h =
    ⊎_elim (λ (e : (name ≡ to) × (Some f ≡ file_of es from)). let k : f < files_made es = bounded es from f (sym e.1) in omega arith)
    (λ e. let k : f < files_made es = stood_bounded es name f e in omega arith) h
stood_bounded (exchange one two ∷ es) name f h =
    ⊎_elim (λ (e : (name ≡ two) × (Some f ≡ file_of es one)). let k : f < files_made es = bounded es one f (sym e.1) in omega arith)
    (λ g. ⊎_elim (λ (e : (name ≡ one) × (Some f ≡ file_of es two)). let k : f < files_made es = bounded es two f (sym e.1) in omega arith)
    (λ e. let k : f < files_made es = stood_bounded es name f e in omega arith) g) h
stood_bounded (append n b ∷ es) name f h = let k : f < files_made es = stood_bounded es name f h in omega arith
stood_bounded (sync n ∷ es) name f h = let k : f < files_made es = stood_bounded es name f h in omega arith
stood_bounded (touch n ∷ es) name f h = let k : f < files_made es = stood_bounded es name f h in omega arith

pub same_file : (f : ℕ) → eqb f f ≡ true
same_file f = grind arith

-- nothing was written to a file before it was made
pub fresh_content : (es : List Event) (f : ℕ) → files_made es ≤ f → content es f ≡ []
fresh_content [] f le = refl
fresh_content (append name bytes ∷ es) f le =
    ap (λ b. cond b (content es f ++ bytes) (content es f)) (false_from_ne_true (is_file (file_of es name) f) (λ h. none_there (file_of es name) refl h)) ∙ fresh_content es f (omega arith)
  where
    none_there : (o : Option ℕ) → file_of es name ≡ o → is_file o f ≡ true → ⊥
    none_there None e h = let bad : false ≡ true = h in cc
    none_there (Some k) e h = let same : k ≡ f = eqb-true _ _ h in let lt : k < files_made es = bounded es name k e in omega (arith, lt, same, le)
fresh_content (create _ ∷ es) f le = fresh_content es f (omega arith)
fresh_content (rename _ _ ∷ es) f le = fresh_content es f (omega arith)
fresh_content (remove _ ∷ es) f le = fresh_content es f (omega arith)
fresh_content (link _ _ ∷ es) f le = fresh_content es f (omega arith)
fresh_content (exchange _ _ ∷ es) f le = fresh_content es f (omega arith)
fresh_content (sync _ ∷ es) f le = fresh_content es f (omega arith)
fresh_content (touch _ ∷ es) f le = fresh_content es f (omega arith)
fresh_content (sync_folder ∷ es) f le = fresh_content es f (omega arith)

pub not_file : (o : Option ℕ) (own file n : ℕ) → o ≡ Some own → n ≤ own → file < n → is_file o file ≡ false
not_file o own file n e le lt = ap (λ p. is_file p file) e ∙ false_from_ne_true _ (λ h. let k : own ≡ file = eqb-true _ _ h in absurd (omega arith))

-- what holds of what a crash may leave now and of what it might have left before holds of both
pub goes_on : (e : Event) (es : List Event) (since : ℕ) (name : List ℕ) (P : Option (List ℕ) → Type 0) → ((c : Option (List ℕ)) → MayHaveLeft es since name c → P c)
    → ((c : Option (List ℕ)) → MayLeave (e ∷ es) name c → P c) → (c : Option (List ℕ)) → MayHaveLeft (e ∷ es) since name c → P c
goes_on e es since name P before now c h = ⊎_elim (λ (k : (since ≤ length es + 1) × MayLeave (e ∷ es) name c). now c k.1) (before c) h

-- What a folder has by other names: by them it has the same.
use Rattle.std.proofs.Common.{◌≡◌, ◌≢◌, ◌⊎◌, inl, inr, ℕ, Bool, true, false, List, [], ◌∷◌, ◌++◌, Option, Some, None, refl, sym, ◌∙◌, ap, arith, codes, length, length-append}
use Rattle.std.specs.Prelude.{if◌then◌else◌, ◌+◌}
use Rattle.std.specs.Str.{bytes_eq}
use Rattle.dconf_model.specs.Folders.{Event, content, content_of, file_of, files_made, is_file, read_content}
use Rattle.dconf_model.specs.Folders.Event.{create, append, sync, touch, rename, remove, link, exchange, sync_folder}
use Rattle.dconf_model.proofs.SameBytes.{itself, other_path, same_or_not, path_itself}
use Rattle.dconf_folders.specs.Asides.{is_free_for, is_none_or}
use Rattle.dconf_found.specs.Renamed.{Names, held_events, held_name, swapped, users_names}

-- ---- a swap, twice, is none

pub is_first : (one other name : List ℕ) → bytes_eq name one ≡ true → swapped one other name ≡ other
is_first one other name e = ap (λ (b : Bool). if b then other else if bytes_eq name other then one else name) e

is_second : (one other name : List ℕ) → bytes_eq name one ≡ false → bytes_eq name other ≡ true → swapped one other name ≡ one
is_second one other name e f =
    ap (λ (b : Bool). if b then other else if bytes_eq name other then one else name) e ∙ ap (λ (b : Bool). if b then one else name) f

pub is_neither : (one other name : List ℕ) → bytes_eq name one ≡ false → bytes_eq name other ≡ false → swapped one other name ≡ name
is_neither one other name e f =
    ap (λ (b : Bool). if b then other else if bytes_eq name other then one else name) e ∙ ap (λ (b : Bool). if b then one else name) f

of_other : (one other : List ℕ) → ((other ≡ one) ⊎ (other ≢ one)) → swapped one other other ≡ one
of_other one other (inl e) = is_first one other other (path_itself other one e) ∙ e
of_other one other (inr n) = is_second one other other (other_path other one n) (itself other)

twice_by : (one other name : List ℕ) → ((name ≡ one) ⊎ (name ≢ one)) → ((name ≡ other) ⊎ (name ≢ other)) → swapped one other (swapped one other name) ≡ name
twice_by one other name (inl e) any =
    ap (swapped one other) (is_first one other name (path_itself name one e)) ∙ (of_other one other (same_or_not other one) ∙ sym e)
twice_by one other name (inr n) (inl e) =
    ap (swapped one other) (is_second one other name (other_path name one n) (path_itself name other e)) ∙ (is_first one other one (itself one) ∙ sym e)
twice_by one other name (inr n) (inr m) =
    ap (swapped one other) (is_neither one other name (other_path name one n) (other_path name other m))
    ∙ is_neither one other name (other_path name one n) (other_path name other m)

pub twice : (one other name : List ℕ) → swapped one other (swapped one other name) ≡ name
twice one other name = twice_by one other name (same_or_not name one) (same_or_not name other)

-- so no two names become one
apart : (one other p q : List ℕ) → swapped one other p ≡ swapped one other q → p ≡ q
apart one other p q e = sym (twice one other p) ∙ (ap (swapped one other) e ∙ twice one other q)

pub held_apart : (n : Names) (p q : List ℕ) → held_name n p ≡ held_name n q → p ≡ q
held_apart n p q e = apart n.shown n.held p q (apart n.shown_new n.held_new (swapped n.shown n.held p) (swapped n.shown n.held q) e)

same_by : (n : Names) (p q : List ℕ) → ((p ≡ q) ⊎ (p ≢ q)) → bytes_eq (held_name n p) (held_name n q) ≡ bytes_eq p q
same_by n p q (inl e) = path_itself (held_name n p) (held_name n q) (ap (held_name n) e) ∙ sym (path_itself p q e)
same_by n p q (inr d) = other_path (held_name n p) (held_name n q) (λ e. d (held_apart n p q e)) ∙ sym (other_path p q d)

pub same : (n : Names) (p q : List ℕ) → bytes_eq (held_name n p) (held_name n q) ≡ bytes_eq p q
same n p q = same_by n p q (same_or_not p q)

-- ---- what is there

pub made_so_many : (n : Names) (es : List Event) → files_made (held_events n es) ≡ files_made es
made_so_many n [] = refl
made_so_many n (create name ∷ es) = ap (λ (k : ℕ). k + 1) (made_so_many n es)
made_so_many n (append name bytes ∷ es) = made_so_many n es
made_so_many n (sync name ∷ es) = made_so_many n es
made_so_many n (touch name ∷ es) = made_so_many n es
made_so_many n (rename from to ∷ es) = made_so_many n es
made_so_many n (remove name ∷ es) = made_so_many n es
made_so_many n (link from to ∷ es) = made_so_many n es
made_so_many n (exchange one two ∷ es) = made_so_many n es
made_so_many n (sync_folder ∷ es) = made_so_many n es

-- one of two, by a test that is the same
pub by_test : {X : Type 0} (b c : Bool) (x y p q : X) → b ≡ c → x ≡ p → y ≡ q → (if b then x else y) ≡ (if c then p else q)
by_test true true x y p q e f g = f
by_test false false x y p q e f g = g
by_test true false x y p q e f g = absurd (let bad : true ≡ false = e in cc)
by_test false true x y p q e f g = absurd (let bad : false ≡ true = e in cc)

pub same_file : (n : Names) (es : List Event) (name : List ℕ) → file_of (held_events n es) (held_name n name) ≡ file_of es name
same_file n [] name = refl
same_file n (create made ∷ es) name =
    by_test (bytes_eq (held_name n name) (held_name n made)) (bytes_eq name made) _ _ _ _ (same n name made)
    (ap (λ (k : ℕ). Some k) (made_so_many n es)) (same_file n es name)
same_file n (append other bytes ∷ es) name = same_file n es name
same_file n (sync other ∷ es) name = same_file n es name
same_file n (touch other ∷ es) name = same_file n es name
same_file n (rename from to ∷ es) name =
    by_test (bytes_eq (held_name n name) (held_name n to)) (bytes_eq name to) _ _ _ _ (same n name to) (same_file n es from)
    (by_test (bytes_eq (held_name n name) (held_name n from)) (bytes_eq name from) _ _ _ _ (same n name from) refl (same_file n es name))
same_file n (remove gone ∷ es) name =
    by_test (bytes_eq (held_name n name) (held_name n gone)) (bytes_eq name gone) _ _ _ _ (same n name gone) refl (same_file n es name)
same_file n (link from to ∷ es) name =
    by_test (bytes_eq (held_name n name) (held_name n to)) (bytes_eq name to) _ _ _ _ (same n name to) (same_file n es from) (same_file n es name)
same_file n (exchange one two ∷ es) name =
    by_test (bytes_eq (held_name n name) (held_name n two)) (bytes_eq name two) _ _ _ _ (same n name two) (same_file n es one)
    (by_test (bytes_eq (held_name n name) (held_name n one)) (bytes_eq name one) _ _ _ _ (same n name one) (same_file n es two) (same_file n es name))
same_file n (sync_folder ∷ es) name = same_file n es name

pub same_content : (n : Names) (es : List Event) (file : ℕ) → content (held_events n es) file ≡ content es file
same_content n [] file = refl
same_content n (append name bytes ∷ es) file =
    by_test (is_file (file_of (held_events n es) (held_name n name)) file) (is_file (file_of es name) file) _ _ _ _
    (ap (λ (it : Option ℕ). is_file it file) (same_file n es name)) (ap (λ (held : List ℕ). held ++ bytes) (same_content n es file)) (same_content n es file)
same_content n (create name ∷ es) file = same_content n es file
same_content n (sync name ∷ es) file = same_content n es file
same_content n (touch name ∷ es) file = same_content n es file
same_content n (rename from to ∷ es) file = same_content n es file
same_content n (remove name ∷ es) file = same_content n es file
same_content n (link from to ∷ es) file = same_content n es file
same_content n (exchange one two ∷ es) file = same_content n es file
same_content n (sync_folder ∷ es) file = same_content n es file

same_content_of : (n : Names) (es : List Event) (file : Option ℕ) → content_of (held_events n es) file ≡ content_of es file
same_content_of n es None = refl
same_content_of n es (Some file) = ap (λ (held : List ℕ). Some held) (same_content n es file)

-- what a read gives by the name in the folder is what it gives by the other one
pub same_read : (n : Names) (es : List Event) (name : List ℕ) → read_content (held_events n es) (held_name n name) ≡ read_content es name
same_read n es name = ap (content_of (held_events n es)) (same_file n es name) ∙ same_content_of n es (file_of es name)

-- ---- the way back

-- the name, for who reads the folder, of what has this one in it
abbrev pub shown_name : Names → List ℕ → List ℕ
shown_name n name = swapped n.shown n.held (swapped n.shown_new n.held_new name)

pub back : (n : Names) (name : List ℕ) → held_name n (shown_name n name) ≡ name
back n name = ap (swapped n.shown_new n.held_new) (twice n.shown n.held (swapped n.shown_new n.held_new name)) ∙ twice n.shown_new n.held_new name

-- a name that is free there is free by the other one
pub as_free : (n : Names) (es : List Event) (name aside held : List ℕ) → held ≡ held_name n name
    → is_free_for held aside (held_events n es) ≡ is_free_for name (shown_name n aside) es
as_free n es name aside held is =
    ap (λ (it : Option ℕ). is_none_or it (file_of (held_events n es) aside)) (ap (file_of (held_events n es)) is ∙ same_file n es name)
    ∙ ap (is_none_or (file_of es name)) (ap (file_of (held_events n es)) (sym (back n aside)) ∙ same_file n es (shown_name n aside))

pub as_linked : (n : Names) (es : List Event) (name aside held : List ℕ) → held ≡ held_name n name
    → link held aside ∷ held_events n es ≡ held_events n (link name (shown_name n aside) ∷ es)
as_linked n es name aside held is =
    ap (λ (it : List ℕ). link it aside ∷ held_events n es) is ∙ ap (λ (it : List ℕ). link (held_name n name) it ∷ held_events n es) (sym (back n aside))

-- ---- the names of a user's database

pub no_new : (user : List ℕ) → user ≢ user ++ codes ".new"
no_new user e =
    let long : length user ≡ length (user ++ codes ".new") = ap (λ (l : List ℕ). length l) e in
    omega (arith, length-append user (codes ".new"), long)

pub no_shown_new : (user : List ℕ) → user ≢ (user ++ codes ".user") ++ codes ".new"
no_shown_new user e =
    let long : length user ≡ length ((user ++ codes ".user") ++ codes ".new") = ap (λ (l : List ℕ). length l) e in
    omega (arith, length-append (user ++ codes ".user") (codes ".new"), length-append user (codes ".user"), long)

pub users_is_held : (user : List ℕ) → held_name (users_names user) (user ++ codes ".user") ≡ user
users_is_held user =
    let n = users_names user in
    ap (swapped n.shown_new n.held_new) (is_first n.shown n.held n.shown (itself n.shown))
    ∙ is_neither n.shown_new n.held_new user (other_path user n.shown_new (no_shown_new user)) (other_path user n.held_new (no_new user))

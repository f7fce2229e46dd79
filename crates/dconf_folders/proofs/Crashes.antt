-- A crash by the noted calls is one that the past allows.
use Rattle.std.proofs.Common.{ℕ, ◌≡◌, Option, Some, None, List, [], ◌∷◌, sym, ◌∙◌, ap, subst, inl, inr, ⊎_elim}
use Rattle.dconf_model.specs.Folders.{Event, files_made, file_of, content, StoodFor, MayLeaveOf, MayLeave, IsLeft, read_content}
use Rattle.dconf_model.specs.Folders.Event.{create, append, sync, touch, rename, remove, link, exchange, sync_folder}
use Rattle.dconf_folders.specs.MemoryFolders.{untouched, AddsTouches}
use Rattle.dconf_folders.proofs.Untouched.{files_untouched, file_untouched, content_untouched}

to_untouched : (es : List Event) (name : List ℕ) (file : Option ℕ) → StoodFor es name file → StoodFor (untouched es) name file
to_untouched [] name file s = s
to_untouched (sync_folder ∷ es) name file s = s ∙ sym (file_untouched es name)
to_untouched (create made ∷ es) name file s =
    ⊎_elim (λ (e : (name ≡ made) × (file ≡ Some (files_made es))). inl (e.0, e.1 ∙ ap (λ (n : ℕ). Some n) (sym (files_untouched es)))) (λ t. inr (to_untouched es name file t)) s
to_untouched (rename from to ∷ es) name file s =
    ⊎_elim (λ (e : (name ≡ to) × (file ≡ file_of es from)). inl (e.0, e.1 ∙ sym (file_untouched es from)))
    (λ r. inr (⊎_elim (λ (e : (name ≡ from) × (file ≡ None)). inl e) (λ t. inr (to_untouched es name file t)) r)) s
to_untouched (remove gone ∷ es) name file s =
    ⊎_elim (λ (e : (name ≡ gone) × (file ≡ None)). inl e) (λ t. inr (to_untouched es name file t)) s
to_untouched (link from to ∷ es) name file s =
    ⊎_elim (λ (e : (name ≡ to) × (file ≡ file_of es from)). inl (e.0, e.1 ∙ sym (file_untouched es from))) (λ t. inr (to_untouched es name file t)) s
to_untouched (exchange one two ∷ es) name file s =
    ⊎_elim (λ (e : (name ≡ two) × (file ≡ file_of es one)). inl (e.0, e.1 ∙ sym (file_untouched es one)))
    (λ r. inr (⊎_elim (λ (e : (name ≡ one) × (file ≡ file_of es two)). inl (e.0, e.1 ∙ sym (file_untouched es two))) (λ t. inr (to_untouched es name file t)) r)) s
to_untouched (append _ _ ∷ es) name file s = to_untouched es name file s
to_untouched (sync _ ∷ es) name file s = to_untouched es name file s
to_untouched (touch _ ∷ es) name file s = to_untouched es name file s

from_untouched : (es : List Event) (name : List ℕ) (file : Option ℕ) → StoodFor (untouched es) name file → StoodFor es name file
from_untouched [] name file s = s
from_untouched (sync_folder ∷ es) name file s = s ∙ file_untouched es name
from_untouched (create made ∷ es) name file s =
    ⊎_elim (λ (e : (name ≡ made) × (file ≡ Some (files_made (untouched es)))). inl (e.0, e.1 ∙ ap (λ (n : ℕ). Some n) (files_untouched es))) (λ t. inr (from_untouched es name file t)) s
from_untouched (rename from to ∷ es) name file s =
    ⊎_elim (λ (e : (name ≡ to) × (file ≡ file_of (untouched es) from)). inl (e.0, e.1 ∙ file_untouched es from))
    (λ r. inr (⊎_elim (λ (e : (name ≡ from) × (file ≡ None)). inl e) (λ t. inr (from_untouched es name file t)) r)) s
from_untouched (remove gone ∷ es) name file s =
    ⊎_elim (λ (e : (name ≡ gone) × (file ≡ None)). inl e) (λ t. inr (from_untouched es name file t)) s
from_untouched (link from to ∷ es) name file s =
    ⊎_elim (λ (e : (name ≡ to) × (file ≡ file_of (untouched es) from)). inl (e.0, e.1 ∙ file_untouched es from)) (λ t. inr (from_untouched es name file t)) s
from_untouched (exchange one two ∷ es) name file s =
    ⊎_elim (λ (e : (name ≡ two) × (file ≡ file_of (untouched es) one)). inl (e.0, e.1 ∙ file_untouched es one))
    (λ r. inr (⊎_elim (λ (e : (name ≡ one) × (file ≡ file_of (untouched es) two)). inl (e.0, e.1 ∙ file_untouched es two)) (λ t. inr (from_untouched es name file t)) r)) s
from_untouched (append _ _ ∷ es) name file s = from_untouched es name file s
from_untouched (sync _ ∷ es) name file s = from_untouched es name file s
from_untouched (touch _ ∷ es) name file s = from_untouched es name file s

module _ (ds es : List Event) (a : AddsTouches ds es) where
  same_content : (file : ℕ) → content ds file ≡ content es file
  same_content file = sym (content_untouched ds file) ∙ ap (λ (x : List Event). content x file) (sym a.others) ∙ content_untouched es file

  leaves_of : (file : Option ℕ) (c : Option (List ℕ)) → MayLeaveOf ds file c → MayLeaveOf es file c
  leaves_of None c l = l
  leaves_of (Some k) c l = (l.0, λ s. l.1 (a.synced k s) ∙ ap (λ (x : List ℕ). Some x) (same_content k))

  pub crash_allowed : (name : List ℕ) (c : Option (List ℕ)) → MayLeave ds name c → MayLeave es name c
  crash_allowed name c m =
      (m.0, from_untouched es name m.0 (subst (λ x. StoodFor x name m.0) (sym a.others) (to_untouched ds name m.0 m.1)), leaves_of m.0 c m.2)

-- so what a crash by the noted calls left is what one by the past may leave
pub left_by_past : (ds es now : List Event) → AddsTouches ds es → IsLeft ds now → IsLeft es now
left_by_past ds es now a left = record { allowed = λ name. crash_allowed ds es a name (read_content now name) (left.allowed name); settled = left.settled }

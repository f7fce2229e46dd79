-- A file that was made under a name, written and synced.
use Rattle.std.proofs.Common.{ℕ, ◌≡◌, ◌≢◌, Bool, true, false, cond, List, ◌∷◌, ◌++◌, Some, refl, ◌∙◌, ap, arith}
use Rattle.dconf_model.specs.Folders.{Event, files_made, file_of, is_file, content, is_synced, read_content, content_of}
use Rattle.dconf_model.specs.Folders.Event.{create, append}
use Rattle.dconf_folders.specs.Staging.{staged_onto}
use Rattle.dconf_model.proofs.SameBytes.{itself}
use Rattle.dconf_turn.proofs.Fresh.{same_file, fresh_content}
use Rattle.dconf_folders.proofs.Fresh.{Apart, created, appended, synced_now, reads}

module _ (old : List Event) (name bytes : List ℕ) where
  abbrev made : List Event
  made = staged_onto old name bytes

  pub made_apart : Apart old made name
  made_apart = synced_now old (append name bytes ∷ create name ∷ old) name (appended old (create name ∷ old) name (created old name) bytes)

  pub made_file : file_of made name ≡ Some (files_made old)
  made_file = ap (λ b. cond b (Some (files_made old)) (file_of old name)) (itself name)

  is_made : is_file (file_of made name) (files_made old) ≡ true
  is_made = ap (λ o. is_file o (files_made old)) made_file ∙ same_file (files_made old)

  pub made_content : content made (files_made old) ≡ bytes
  made_content =
      ap (λ b. cond b (content old (files_made old) ++ bytes) (content old (files_made old))) is_made
      ∙ ap (λ (l : List ℕ). l ++ bytes) (fresh_content old (files_made old) (omega arith))

  pub made_synced : is_synced made (files_made old) ≡ true
  made_synced = ap (λ b. cond b true (is_synced (append name bytes ∷ create name ∷ old) (files_made old))) is_made

  pub seen_made : read_content made name ≡ Some bytes
  seen_made = ap (λ o. content_of made o) made_file ∙ ap (λ (x : List ℕ). Some x) made_content

  pub seen_beside : (other : List ℕ) → other ≢ name → read_content made other ≡ read_content old other
  seen_beside other differ = reads old made name made_apart other differ

  either_way : (b x : Bool) → x ≡ true → cond b true (cond b false x) ≡ true
  either_way true x e = refl
  either_way false x e = e

  pub all_synced : ((file : ℕ) → is_synced old file ≡ true) → (file : ℕ) → is_synced made file ≡ true
  all_synced before file = either_way (is_file (file_of (create name ∷ old) name) file) (is_synced old file) (before file)

-- What a read of noted calls gives.
use Rattle.std.proofs.Common.{ℕ, ◌≡◌, ◌<◌, true, false, Option, Some, None, List, length, sym, ◌∙◌, ap, subst, is_some}
use Rattle.dconf_model.specs.Bytes.{longest_file}
use Rattle.dconf_model.specs.Reads.{IsOverSize}
use Rattle.dconf_model.specs.Folders.{Event, file_of, content, content_of, read_content}
use Rattle.dconf_folders.specs.Asides.{is_none_or}
use Rattle.dconf_folders.specs.MemoryFolders.{events_of, AddsTouches}
use Rattle.dconf_folders.specs.declared.calls.Call.{Call}
use Rattle.dconf_folders.proofs.Untouched.{same_file, seen_noted}

module _ (old calls : List Call) (same : calls ≡ old) (es : List Event) (past : AddsTouches (events_of old) es) (name : List ℕ) (file : Option ℕ) (is : file ≡ file_of (events_of calls) name) where
  seen_now : read_content es name ≡ content_of (events_of calls) file
  seen_now = seen_noted (events_of calls) es (subst (λ cs. AddsTouches (events_of cs) es) (sym same) past) name ∙ ap (λ o. content_of (events_of calls) o) (sym is)

  pub seen_none : file ≡ None → None ≡ read_content es name
  seen_none n = sym (seen_now ∙ ap (λ o. content_of (events_of calls) o) n)

  pub seen_some : (k : ℕ) (bytes : List ℕ) (again : List Call) → file ≡ Some k → again ≡ old → bytes ≡ content (events_of again) k → Some bytes ≡ read_content es name
  seen_some k bytes again s other b =
      sym (seen_now ∙ ap (λ o. content_of (events_of calls) o) s
      ∙ ap (λ (cs : List Call). Some (content (events_of cs) k)) (same ∙ sym other) ∙ ap (λ (x : List ℕ). Some x) (sym b))

  pub too_big : (k : ℕ) (bytes : List ℕ) (again : List Call) → file ≡ Some k → again ≡ old → bytes ≡ content (events_of again) k → longest_file < length bytes → IsOverSize (read_content es name)
  too_big k bytes again s other b le = subst (λ o. IsOverSize o) (seen_some k bytes again s other b) le

  there_of : (o : Option ℕ) → read_content es name ≡ content_of (events_of calls) o → is_some o ≡ true → read_content es name ≡ None → ⊥
  there_of None w t n = let bad : false ≡ true = t in cc
  there_of (Some k) w t n = let bad : Some (content (events_of calls) k) ≡ None = sym w ∙ n in cc

  pub is_there : is_some file ≡ true → read_content es name ≡ None → ⊥
  is_there t n = there_of file seen_now t n

-- of two names what the calls say holds of all that may have been done
pub is_free_for : (old calls again : List Call) → calls ≡ old → again ≡ old → (es : List Event) → AddsTouches (events_of old) es → (name aside : List ℕ) (file other : Option ℕ)
    → file ≡ file_of (events_of calls) name → other ≡ file_of (events_of again) aside → is_none_or file other ≡ true → is_none_or (file_of es name) (file_of es aside) ≡ true
is_free_for old calls again same too es past name aside file other one two free =
    ap (λ o. is_none_or o (file_of es aside)) (same_file (events_of old) es past name ∙ sym (one ∙ ap (λ cs. file_of (events_of cs) name) same))
    ∙ ap (λ o. is_none_or file o) (same_file (events_of old) es past aside ∙ sym (two ∙ ap (λ cs. file_of (events_of cs) aside) too)) ∙ free

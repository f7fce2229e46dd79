-- What is made again after a crash is what a crash may leave, and settled.
use Rattle.std.proofs.Common.{ℕ, ◌≡◌, ◌≢◌, Bool, true, false, cond, List, [], ◌∷◌, Option, Some, None, refl, sym, ◌∙◌, ap, subst, inr}
use Rattle.std.specs.Str.{bytes_eq}
use Rattle.dconf_model.specs.Folders.{Event, files_made, file_of, content_of, is_synced, read_content, StoodFor, MayLeaveOf, MayLeave, IsLeft}
use Rattle.dconf_model.specs.Folders.Event.{create, append, sync, touch, rename, remove, link, exchange, sync_folder}
use Rattle.dconf_model.proofs.ParentLaws.{by_bool}
use Rattle.dconf_model.proofs.SameBytes.{same_path, path_itself}
use Rattle.dconf_folders.specs.Staging.{staged_onto}
use Rattle.dconf_folders.specs.Crashes.{was_named, AreMadeAgain}
use Rattle.dconf_folders.proofs.Made.{seen_made, seen_beside, all_synced}

-- ---- names that were never given

not_first : (b x : Bool) → cond b true x ≡ false → b ≡ false
not_first true x e = e
not_first false x e = refl

not_later : (b x : Bool) → cond b true x ≡ false → x ≡ false
not_later true x e = let bad : true ≡ false = e in cc
not_later false x e = e

none_either_way : (b : Bool) (o : Option ℕ) → o ≡ None → cond b None o ≡ None
none_either_way true o e = refl
none_either_way false o e = e

no_file : (es : List Event) (name : List ℕ) → was_named es name ≡ false → file_of es name ≡ None
no_file [] name e = refl
no_file (create made ∷ es) name e =
    ap (λ b. cond b (Some (files_made es)) (file_of es name)) (not_first (bytes_eq name made) (was_named es name) e) ∙ no_file es name (not_later (bytes_eq name made) (was_named es name) e)
no_file (rename from to ∷ es) name e =
    ap (λ b. cond b (file_of es from) (cond (bytes_eq name from) None (file_of es name))) (not_first (bytes_eq name to) (was_named es name) e)
    ∙ none_either_way (bytes_eq name from) (file_of es name) (no_file es name (not_later (bytes_eq name to) (was_named es name) e))
no_file (remove gone ∷ es) name e = none_either_way (bytes_eq name gone) (file_of es name) (no_file es name e)
no_file (link from to ∷ es) name e =
    ap (λ b. cond b (file_of es from) (file_of es name)) (not_first (bytes_eq name to) (was_named es name) e) ∙ no_file es name (not_later (bytes_eq name to) (was_named es name) e)
no_file (exchange one two ∷ es) name e =
    let rest = not_later (bytes_eq name two) (cond (bytes_eq name one) true (was_named es name)) e in
    ap (λ b. cond b (file_of es one) (cond (bytes_eq name one) (file_of es two) (file_of es name))) (not_first (bytes_eq name two) (cond (bytes_eq name one) true (was_named es name)) e)
    ∙ ap (λ b. cond b (file_of es two) (file_of es name)) (not_first (bytes_eq name one) (was_named es name) rest) ∙ no_file es name (not_later (bytes_eq name one) (was_named es name) rest)
no_file (append _ _ ∷ es) name e = no_file es name e
no_file (sync _ ∷ es) name e = no_file es name e
no_file (touch _ ∷ es) name e = no_file es name e
no_file (sync_folder ∷ es) name e = no_file es name e

stood_for_none : (es : List Event) (name : List ℕ) → was_named es name ≡ false → StoodFor es name None
stood_for_none [] name e = refl
stood_for_none (create made ∷ es) name e = inr (stood_for_none es name (not_later (bytes_eq name made) (was_named es name) e))
stood_for_none (rename from to ∷ es) name e = inr (inr (stood_for_none es name (not_later (bytes_eq name to) (was_named es name) e)))
stood_for_none (remove gone ∷ es) name e = inr (stood_for_none es name e)
stood_for_none (link from to ∷ es) name e = inr (stood_for_none es name (not_later (bytes_eq name to) (was_named es name) e))
stood_for_none (exchange one two ∷ es) name e =
    inr (inr (stood_for_none es name (not_later (bytes_eq name one) (was_named es name) (not_later (bytes_eq name two) (cond (bytes_eq name one) true (was_named es name)) e))))
stood_for_none (append _ _ ∷ es) name e = stood_for_none es name e
stood_for_none (sync _ ∷ es) name e = stood_for_none es name e
stood_for_none (touch _ ∷ es) name e = stood_for_none es name e
stood_for_none (sync_folder ∷ es) name e = sym (no_file es name e)

-- ---- one name more

by_name : (other name : List ℕ) (P : Type 0) → (other ≡ name → P) → (bytes_eq other name ≡ false → P) → P
by_name other name P same differ = by_bool (bytes_eq other name) P (λ e. same (same_path other name e)) differ

module _ (given all left : List Event) (a : AreMadeAgain given all left) (name : List ℕ) where
  later : (other : List ℕ) (b : Bool) → bytes_eq other name ≡ false → was_named (create name ∷ given) other ≡ b → was_named given other ≡ b
  later other b e h = sym (ap (λ (x : Bool). cond x true (was_named given other)) e) ∙ h

  unnamed : (other : List ℕ) → was_named (create name ∷ given) other ≡ false → was_named given other ≡ false
  unnamed other h = not_later (bytes_eq other name) (was_named given other) h

  pub named_before : was_named given name ≡ true → AreMadeAgain (create name ∷ given) all left
  named_before e = record {
    synced = a.synced;
    named = λ other h. by_name other name (MayLeave all other (read_content left other))
        (λ same. a.named other (ap (λ n. was_named given n) same ∙ e)) (λ differ. a.named other (later other true differ h));
    others = λ other h. a.others other (unnamed other h);
  }

  pub none_left : was_named given name ≡ false → MayLeave all name None → AreMadeAgain (create name ∷ given) all left
  none_left e m = record {
    synced = a.synced;
    named = λ other h. by_name other name (MayLeave all other (read_content left other))
        (λ same. subst (λ (n : List ℕ). MayLeave all n (read_content left n)) (sym same) (subst (λ (c : Option (List ℕ)). MayLeave all name c) (sym (a.others name e)) m))
        (λ differ. a.named other (later other true differ h));
    others = λ other h. a.others other (unnamed other h);
  }

  abbrev with_file : List ℕ → List Event
  with_file bytes = staged_onto left name bytes

  -- a text that is compared as another
  differs_by : (other : List ℕ) → bytes_eq other name ≡ false → other ≢ name
  differs_by other e same = let there : bytes_eq other name ≡ true = path_itself other name same in cc

  pub one_left : (bytes : List ℕ) (now : List Event) → MayLeave all name (Some bytes) → now ≡ with_file bytes → AreMadeAgain (create name ∷ given) all now
  one_left bytes now m is = subst (λ (es : List Event). AreMadeAgain (create name ∷ given) all es) (sym is) (record {
    synced = all_synced left name bytes a.synced;
    named = λ other h. by_name other name (MayLeave all other (read_content (with_file bytes) other))
        (λ same. subst (λ (n : List ℕ). MayLeave all n (read_content (with_file bytes) n)) (sym same)
        (subst (λ (c : Option (List ℕ)). MayLeave all name c) (sym (seen_made left name bytes)) m))
        (λ differ. subst (λ (c : Option (List ℕ)). MayLeave all other c) (sym (seen_beside left name bytes other (differs_by other differ)))
        (a.named other (later other true differ h)));
    others = λ other h.
        seen_beside left name bytes other (differs_by other (not_first (bytes_eq other name) (was_named given other) h)) ∙ a.others other (unnamed other h);
  })

-- a call that gives a name gives no other
pub by_rename : (given all left : List Event) (from to : List ℕ) → AreMadeAgain (create to ∷ given) all left → AreMadeAgain (rename from to ∷ given) all left
by_rename given all left from to a = record { synced = a.synced; named = a.named; others = a.others }

pub by_link : (given all left : List Event) (from to : List ℕ) → AreMadeAgain (create to ∷ given) all left → AreMadeAgain (link from to ∷ given) all left
by_link given all left from to a = record { synced = a.synced; named = a.named; others = a.others }

-- ---- the whole folder

same_seen : (es : List Event) (o : Option ℕ) → content_of (sync_folder ∷ es) o ≡ content_of es o
same_seen es None = refl
same_seen es (Some k) = refl

settled_at : (es : List Event) (file : Option ℕ) (d : Option (List ℕ)) → ((k : ℕ) → is_synced es k ≡ true) → MayLeaveOf es file d → d ≡ content_of es file
settled_at es None d synced l = l
settled_at es (Some k) d synced l = l.1 (synced k)

pub all_made_again : (all left now : List Event) → AreMadeAgain all all left → now ≡ sync_folder ∷ left → IsLeft all now
all_made_again all left now a is = subst (λ (es : List Event). IsLeft all es) (sym is) (record {
  allowed = λ name. subst (λ (c : Option (List ℕ)). MayLeave all name c) (sym (same_seen left (file_of left name))) (under name (was_named all name) refl);
  settled = λ name d m. settled_at (sync_folder ∷ left) m.0 d a.synced m.2 ∙ ap (λ (o : Option ℕ). content_of (sync_folder ∷ left) o) m.1;
})
  where
    under : (name : List ℕ) (b : Bool) → was_named all name ≡ b → MayLeave all name (read_content left name)
    under name true e = a.named name e
    under name false e = subst (λ (c : Option (List ℕ)). MayLeave all name c) (sym (a.others name e)) (None, stood_for_none all name e, refl)

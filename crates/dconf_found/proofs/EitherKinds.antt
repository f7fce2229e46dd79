-- What holds of a file by the name that it has for who reads the folder, holds of it by the name that it has there.
use Rattle.std.proofs.Common.{◌≡◌, ◌≢◌, ◌⊎◌, inl, inr, ⊎_elim, ℕ, ◌+◌, ◌≤◌, Bool, true, false, List, [], ◌∷◌, ◌++◌, length, Option, Some, None, refl, sym, ◌∙◌, ap, subst, codes}
use Rattle.std.proofs.lemmas.List.{length-map, map-append}
use Rattle.dconf_model.specs.Folders.{Event, Grows, MayHaveLeft, MayLeave, MayLeaveOf, StoodFor, file_of, is_file, is_synced, read_content}
use Rattle.dconf_model.specs.Folders.Event.{create, append, sync, touch, rename, remove, link, exchange, sync_folder}
use Rattle.dconf_model.specs.Replacing.{MaybeReplaced, MayReplace, ReadsWhole, Replaced, new_name}
use Rattle.dconf_model.proofs.SameBytes.{itself, other_path, same_or_not, path_itself}
use Rattle.dconf_turn.specs.Jobs.{IsLockApart, IsOwn, Job}
use Rattle.dconf_turn.specs.Sayings.{IsWhole}
use Rattle.dconf_turn.specs.Survivals.{Drove}
use Rattle.dconf_turn.specs.declared.turn.Turn.{Turn}
use Rattle.dconf_turn.proofs.HistoryLaws.{whatever_is_answered}
use Rattle.dconf_found.specs.EitherKind.{TurnIsWholeInEitherKind, held_file, names_in_kind, users_file}
use Rattle.dconf_found.specs.Renamed.{Names, held_event, held_events, held_name, no_names, swapped, users_names}
use Rattle.dconf_found.proofs.RenamedLaws.{back, by_test, held_apart, is_first, is_neither, made_so_many, no_new, no_shown_new, same_content, same_file, same_read, shown_name, users_is_held}

-- ---- what a crash leaves

same_synced : (n : Names) (es : List Event) (file : ℕ) → is_synced (held_events n es) file ≡ is_synced es file
same_synced n [] file = refl
same_synced n (append name bytes ∷ es) file =
    by_test (is_file (file_of (held_events n es) (held_name n name)) file) (is_file (file_of es name) file) _ _ _ _
    (ap (λ (it : Option ℕ). is_file it file) (same_file n es name)) refl (same_synced n es file)
same_synced n (touch name ∷ es) file =
    by_test (is_file (file_of (held_events n es) (held_name n name)) file) (is_file (file_of es name) file) _ _ _ _
    (ap (λ (it : Option ℕ). is_file it file) (same_file n es name)) refl (same_synced n es file)
same_synced n (sync name ∷ es) file =
    by_test (is_file (file_of (held_events n es) (held_name n name)) file) (is_file (file_of es name) file) _ _ _ _
    (ap (λ (it : Option ℕ). is_file it file) (same_file n es name)) refl (same_synced n es file)
same_synced n (create name ∷ es) file = same_synced n es file
same_synced n (rename from to ∷ es) file = same_synced n es file
same_synced n (remove name ∷ es) file = same_synced n es file
same_synced n (link from to ∷ es) file = same_synced n es file
same_synced n (exchange one two ∷ es) file = same_synced n es file
same_synced n (sync_folder ∷ es) file = same_synced n es file

stood_there : (n : Names) (es : List Event) (name : List ℕ) (file : Option ℕ) → StoodFor es name file → StoodFor (held_events n es) (held_name n name) file
stood_there n [] name file s = s
stood_there n (create made ∷ es) name file (inl it) = inl (ap (held_name n) it.0, it.1 ∙ ap (λ (k : ℕ). Some k) (sym (made_so_many n es)))
stood_there n (create made ∷ es) name file (inr s) = inr (stood_there n es name file s)
stood_there n (append other bytes ∷ es) name file s = stood_there n es name file s
stood_there n (sync other ∷ es) name file s = stood_there n es name file s
stood_there n (touch other ∷ es) name file s = stood_there n es name file s
stood_there n (rename from to ∷ es) name file (inl it) = inl (ap (held_name n) it.0, it.1 ∙ sym (same_file n es from))
stood_there n (rename from to ∷ es) name file (inr (inl it)) = inr (inl (ap (held_name n) it.0, it.1))
stood_there n (rename from to ∷ es) name file (inr (inr s)) = inr (inr (stood_there n es name file s))
stood_there n (remove gone ∷ es) name file (inl it) = inl (ap (held_name n) it.0, it.1)
stood_there n (remove gone ∷ es) name file (inr s) = inr (stood_there n es name file s)
stood_there n (link from to ∷ es) name file (inl it) = inl (ap (held_name n) it.0, it.1 ∙ sym (same_file n es from))
stood_there n (link from to ∷ es) name file (inr s) = inr (stood_there n es name file s)
stood_there n (exchange one two ∷ es) name file (inl it) = inl (ap (held_name n) it.0, it.1 ∙ sym (same_file n es one))
stood_there n (exchange one two ∷ es) name file (inr (inl it)) = inr (inl (ap (held_name n) it.0, it.1 ∙ sym (same_file n es two)))
stood_there n (exchange one two ∷ es) name file (inr (inr s)) = inr (inr (stood_there n es name file s))
stood_there n (sync_folder ∷ es) name file s = s ∙ sym (same_file n es name)

stood_here : (n : Names) (es : List Event) (name : List ℕ) (file : Option ℕ) → StoodFor (held_events n es) (held_name n name) file → StoodFor es name file
stood_here n [] name file s = s
stood_here n (create made ∷ es) name file (inl it) = inl (held_apart n name made it.0, it.1 ∙ ap (λ (k : ℕ). Some k) (made_so_many n es))
stood_here n (create made ∷ es) name file (inr s) = inr (stood_here n es name file s)
stood_here n (append other bytes ∷ es) name file s = stood_here n es name file s
stood_here n (sync other ∷ es) name file s = stood_here n es name file s
stood_here n (touch other ∷ es) name file s = stood_here n es name file s
stood_here n (rename from to ∷ es) name file (inl it) = inl (held_apart n name to it.0, it.1 ∙ same_file n es from)
stood_here n (rename from to ∷ es) name file (inr (inl it)) = inr (inl (held_apart n name from it.0, it.1))
stood_here n (rename from to ∷ es) name file (inr (inr s)) = inr (inr (stood_here n es name file s))
stood_here n (remove gone ∷ es) name file (inl it) = inl (held_apart n name gone it.0, it.1)
stood_here n (remove gone ∷ es) name file (inr s) = inr (stood_here n es name file s)
stood_here n (link from to ∷ es) name file (inl it) = inl (held_apart n name to it.0, it.1 ∙ same_file n es from)
stood_here n (link from to ∷ es) name file (inr s) = inr (stood_here n es name file s)
stood_here n (exchange one two ∷ es) name file (inl it) = inl (held_apart n name two it.0, it.1 ∙ same_file n es one)
stood_here n (exchange one two ∷ es) name file (inr (inl it)) = inr (inl (held_apart n name one it.0, it.1 ∙ same_file n es two))
stood_here n (exchange one two ∷ es) name file (inr (inr s)) = inr (inr (stood_here n es name file s))
stood_here n (sync_folder ∷ es) name file s = s ∙ same_file n es name

left_there : (n : Names) (es : List Event) (file : Option ℕ) (c : Option (List ℕ)) → MayLeaveOf es file c → MayLeaveOf (held_events n es) file c
left_there n es None c l = l
left_there n es (Some file) c l =
    (l.0, λ synced. l.1 (sym (same_synced n es file) ∙ synced) ∙ ap (λ (held : List ℕ). Some held) (sym (same_content n es file)))

left_here : (n : Names) (es : List Event) (file : Option ℕ) (c : Option (List ℕ)) → MayLeaveOf (held_events n es) file c → MayLeaveOf es file c
left_here n es None c l = l
left_here n es (Some file) c l = (l.0, λ synced. l.1 (same_synced n es file ∙ synced) ∙ ap (λ (held : List ℕ). Some held) (same_content n es file))

may_there : (n : Names) (es : List Event) (name : List ℕ) (c : Option (List ℕ)) → MayLeave es name c → MayLeave (held_events n es) (held_name n name) c
may_there n es name c m = (m.0, stood_there n es name m.0 m.1, left_there n es m.0 c m.2)

may_here : (n : Names) (es : List Event) (name : List ℕ) (c : Option (List ℕ)) → MayLeave (held_events n es) (held_name n name) c → MayLeave es name c
may_here n es name c m = (m.0, stood_here n es name m.0 m.1, left_here n es m.0 c m.2)

had_here : (n : Names) (es : List Event) (since : ℕ) (name : List ℕ) (c : Option (List ℕ)) → MayHaveLeft (held_events n es) since (held_name n name) c
    → MayHaveLeft es since name c
had_here n [] since name c h = (h.0, may_here n [] name c h.1)
had_here n (e ∷ es) since name c (inl now) =
    inl (subst (λ (k : ℕ). since ≤ k + 1) (length-map es (held_event n)) now.0, may_here n (e ∷ es) name c now.1)
had_here n (e ∷ es) since name c (inr before) = inr (had_here n es since name c before)

grown_there : (n : Names) (old now : List Event) → Grows old now → Grows (held_events n old) (held_events n now)
grown_there n old now g = (held_events n g.0, ap (held_events n) g.1 ∙ map-append (held_event n) g.0 old)

-- ---- a file that is replaced

module _ (n : Names) (name there bytes : List ℕ) (own : held_name n name ≡ there) (new : held_name n (new_name name) ≡ new_name there) (old now : List Event) where
  other_here : (other : List ℕ) → other ≢ there → shown_name n other ≢ name
  other_here other d e = d (sym (back n other) ∙ (ap (held_name n) e ∙ own))

  not_new_here : (other : List ℕ) → other ≢ new_name there → shown_name n other ≢ new_name name
  not_new_here other d e = d (sym (back n other) ∙ (ap (held_name n) e ∙ new))

  had : (p q : List ℕ) (c : Option (List ℕ)) → held_name n p ≡ q → MayHaveLeft (held_events n now) (length (held_events n old)) q c → MayHaveLeft now (length old) p c
  had p q c e l =
      had_here n now (length old) p c
      (subst (λ (k : ℕ). MayHaveLeft (held_events n now) k (held_name n p) c) (length-map old (held_event n))
      (subst (λ (it : List ℕ). MayHaveLeft (held_events n now) (length (held_events n old)) it c) (sym e) l))

  leaves : (p q : List ℕ) (c : Option (List ℕ)) → held_name n p ≡ q → MayLeave old p c → MayLeave (held_events n old) q c
  leaves p q c e l = subst (λ (it : List ℕ). MayLeave (held_events n old) it c) e (may_there n old p c l)

  reads : (es : List Event) (p q : List ℕ) → held_name n p ≡ q → read_content (held_events n es) q ≡ read_content es p
  reads es p q e = ap (read_content (held_events n es)) (sym e) ∙ same_read n es p

  any_moment_there : MayReplace old now name bytes → MayReplace (held_events n old) (held_events n now) there bytes
  any_moment_there m = record {
    grown = grown_there n old now m.grown;
    own = λ c l. ⊎_elim (λ (old_one : MayLeave old name c). inl (leaves name there c own old_one)) (λ (new_one : c ≡ Some bytes). inr new_one) (m.own c (had name there c own l));
    others = λ other c d d_new l.
        leaves (shown_name n other) other c (back n other)
        (m.others (shown_name n other) c (other_here other d) (not_new_here other d_new) (had (shown_name n other) other c (back n other) l));
  }

  whole_there : ReadsWhole old now name bytes → ReadsWhole (held_events n old) (held_events n now) there bytes
  whole_there r = record {
    own =
        ⊎_elim (λ (same : read_content now name ≡ read_content old name). inl (reads now name there own ∙ (same ∙ sym (reads old name there own))))
        (λ (new_one : read_content now name ≡ Some bytes). inr (reads now name there own ∙ new_one)) r.own;
    others = λ other d d_new.
        reads now (shown_name n other) other (back n other)
        ∙ (r.others (shown_name n other) (other_here other d) (not_new_here other d_new) ∙ sym (reads old (shown_name n other) other (back n other)));
  }

  failed_there : MaybeReplaced old now name bytes → MaybeReplaced (held_events n old) (held_events n now) there bytes
  failed_there m = record { any_moment = any_moment_there m.any_moment; whole = whole_there m.whole }

  made_there : Replaced old now name bytes → Replaced (held_events n old) (held_events n now) there bytes
  made_there m = record {
    any_moment = any_moment_there m.any_moment;
    settled = λ d l. m.settled d (may_here n now name d (subst (λ (it : List ℕ). MayLeave (held_events n now) it d) (sym own) l));
    read = reads now name there own ∙ m.read;
    others = whole_there m.others;
  }

-- ---- a turn that is cut off

module _ (name bytes : List ℕ) (old now : List Event) where
  abbrev job : Job
  job = record { name = name; bytes = bytes; lock = None }

  lock_apart : IsLockApart job
  lock_apart lock e = let bad : None ≡ Some lock = e in cc

  not_own : (other : List ℕ) → other ≢ new_name name → ¬ IsOwn false job old other
  not_own other d (inl e) = d e
  not_own other d (inr (inl e)) = let bad : None ≡ Some other = e in cc
  not_own other d (inr (inr it)) = let bad : false ≡ true = it.0 in cc

  whole_maybe : IsWhole false job old now → MaybeReplaced old now name bytes
  whole_maybe w = record {
    any_moment = record { grown = w.grown; own = w.crash; others = λ other c d d_new l. w.others_crash other c d (not_own other d_new) l };
    whole = record { own = w.read; others = λ other d d_new. w.others_read other d (not_own other d_new) };
  }

  cut_off : (u : Turn) → Drove u job old now → u.keeps ≡ false → MaybeReplaced old now name bytes
  cut_off u d e =
      whole_maybe (subst (λ (keeps : Bool). IsWhole keeps job old now) e (whatever_is_answered d.taken d.begun u job old now lock_apart d.is_begun d.ran).safe)

-- ---- the names of either kind

no_swap_by : (one name : List ℕ) → ((name ≡ one) ⊎ (name ≢ one)) → swapped one one name ≡ name
no_swap_by one name (inl e) = is_first one one name (path_itself name one e) ∙ sym e
no_swap_by one name (inr d) = is_neither one one name (other_path name one d) (other_path name one d)

no_swap : (name : List ℕ) → held_name no_names name ≡ name
no_swap name = ap (swapped [] []) (no_swap_by [] name (same_or_not name [])) ∙ no_swap_by [] name (same_or_not name [])

users_new_is_held : (user : List ℕ) → held_name (users_names user) (new_name (user ++ codes ".user")) ≡ new_name user
users_new_is_held user =
    let n = users_names user in
    ap (swapped n.shown_new n.held_new)
    (is_neither n.shown n.held n.shown_new (other_path n.shown_new n.shown (λ e. no_new n.shown (sym e))) (other_path n.shown_new n.held (λ e. no_shown_new user (sym e))))
    ∙ is_first n.shown_new n.held_new n.shown_new (itself n.shown_new)

own_in : (in_place : Bool) (name : List ℕ) → held_name (names_in_kind in_place name) (users_file name) ≡ held_file in_place name
own_in true name = users_is_held name
own_in false name = no_swap (users_file name)

new_in : (in_place : Bool) (name : List ℕ) → held_name (names_in_kind in_place name) (new_name (users_file name)) ≡ new_name (held_file in_place name)
new_in true name = users_new_is_held name
new_in false name = no_swap (new_name (users_file name))

-- ---- whatever was done before

abbrev shown_event : Names → Event → Event
shown_event n (create name) = create (shown_name n name)
shown_event n (append name bytes) = append (shown_name n name) bytes
shown_event n (sync name) = sync (shown_name n name)
shown_event n (touch name) = touch (shown_name n name)
shown_event n (rename from to) = rename (shown_name n from) (shown_name n to)
shown_event n (remove name) = remove (shown_name n name)
shown_event n (link from to) = link (shown_name n from) (shown_name n to)
shown_event n (exchange one two) = exchange (shown_name n one) (shown_name n two)
shown_event n sync_folder = sync_folder

event_back : (n : Names) (e : Event) → held_event n (shown_event n e) ≡ e
event_back n (create name) = ap (λ (it : List ℕ). create it) (back n name)
event_back n (append name bytes) = ap (λ (it : List ℕ). append it bytes) (back n name)
event_back n (sync name) = ap (λ (it : List ℕ). sync it) (back n name)
event_back n (touch name) = ap (λ (it : List ℕ). touch it) (back n name)
event_back n (rename from to) =
    ap (λ (it : List ℕ). rename it (held_name n (shown_name n to))) (back n from) ∙ ap (λ (it : List ℕ). rename from it) (back n to)
event_back n (remove name) = ap (λ (it : List ℕ). remove it) (back n name)
event_back n (link from to) =
    ap (λ (it : List ℕ). link it (held_name n (shown_name n to))) (back n from) ∙ ap (λ (it : List ℕ). link from it) (back n to)
event_back n (exchange one two) =
    ap (λ (it : List ℕ). exchange it (held_name n (shown_name n two))) (back n one) ∙ ap (λ (it : List ℕ). exchange one it) (back n two)
event_back n sync_folder = refl

any_before : (n : Names) (es : List Event) → (shown : List Event) × (held_events n shown ≡ es)
any_before n [] = ([], refl)
any_before n (e ∷ es) =
    let more = any_before n es in (
      shown_event n e ∷ more.0,
      ap (λ (it : Event). it ∷ held_events n more.0) (event_back n e) ∙ ap (λ (l : List Event). e ∷ l) more.1,
    )

-- ---- the law

pub whole_in_either_kind : TurnIsWholeInEitherKind
whole_in_either_kind in_place name bytes old now =
    let n = names_in_kind in_place name in
    let failed = failed_there n (users_file name) (held_file in_place name) bytes (own_in in_place name) (new_in in_place name) old now in
    record {
      made = made_there n (users_file name) (held_file in_place name) bytes (own_in in_place name) (new_in in_place name) old now;
      failed = failed;
      cut = λ u d e. failed (cut_off (users_file name) bytes old now u d e);
      before = any_before n;
    }

-- The events of the calls so far.
use Rattle.std.proofs.Common.{ℕ, Vec, ◌+◌, ◌-◌, ◌<◌, ◌≡◌, Bool, true, false, cond, Some, None, List, [], ◌∷◌, ◌++◌, length, take, get_or, refl, sym, ◌∙◌, ap, arith}
use Rattle.std.proofs.lemmas.List.{take_more, take_all}
use Rattle.std.specs.Str.{bytes_eq}
use Rattle.dconf_model.specs.Folders.{Event, files_made, file_of, content, is_file, is_synced}
use Rattle.dconf_folders.specs.MemoryFolders.{event_of, events_onto, events_of}
use Rattle.dconf_folders.specs.Crashes.{was_named}
use Rattle.std.proofs.lemmas.Slice.Eq.{bytes_eq-Decides}
use Rattle.dconf_folders.specs.declared.calls.Call.{Call}
use Rattle.dconf_folders.specs.declared.calls.Call.TheVariants as call
use Rattle.std.specs.declared.string.String.{String}
use Rattle.std.specs.declared.alloc.Global.{Global}
use Rattle.std.specs.String.{string_bytes}

events_onto-push : (es : List Event) (cs : List Call) (c : Call) → events_onto es (cs ++ c ∷ []) ≡ event_of c ∷ events_onto es cs
events_onto-push es [] c = refl
events_onto-push es (x ∷ cs) c = events_onto-push (event_of x ∷ es) cs c

pub events_of_push : (cs : List Call) (c : Call) → events_of (cs ++ c ∷ []) ≡ event_of c ∷ events_of cs
events_of_push cs c = events_onto-push [] cs c

-- the events of one call more
pub events_of-take : (cs : List Call) (i : ℕ) (c : Call) → i < length cs → get_or cs i c ≡ c → events_of (take (i + 1) cs) ≡ event_of c ∷ events_of (take i cs)
events_of-take cs i c lt is = ap events_of (take_more cs i c lt) ∙ ap (λ (x : Call). events_of (take i cs ++ x ∷ [])) is ∙ events_of_push (take i cs) c

-- the last of some calls is the newest event
pub newest : (cs : List Call) (c k : Call) → 0 < length cs → c ≡ get_or cs (length cs - 1) c → c ≡ k → events_of cs ≡ event_of k ∷ events_of (take (length cs - 1) cs)
newest cs c k lt is same =
    let whole : take (length cs - 1 + 1) cs ≡ cs = take_all (length cs - 1 + 1) cs (omega arith) in
    sym (ap (λ (l : List Call). events_of l) whole) ∙ events_of-take cs (length cs - 1) c (omega arith) (sym is) ∙ ap (λ (x : Call). event_of x ∷ events_of (take (length cs - 1) cs)) same

-- the same for each kind of call, as `grind` takes it
pub newest_create : (cs : List Call) (made : String Global) (name : List ℕ) (c : Call) → 0 < length cs → c ≡ get_or cs (length cs - 1) c → c ≡ call.Create made
    → file_of (events_of cs) name ≡ cond (bytes_eq name (string_bytes made)) (Some (files_made (events_of (take (length cs - 1) cs))))
    (file_of (events_of (take (length cs - 1) cs)) name)
newest_create cs made name c lt is same = ap (λ (l : List Event). file_of l name) (newest cs c _ lt is same)

-- how many files were made after one call more
pub made_by : (cs : List Call) (c k : Call) → 0 < length cs → c ≡ get_or cs (length cs - 1) c → c ≡ k → files_made (events_of cs) ≡ files_made (event_of k ∷ events_of (take (length cs - 1) cs))
made_by cs c k lt is same = ap (λ (l : List Event). files_made l) (newest cs c k lt is same)

pub newest_rename : (cs : List Call) (from to : String Global) (name : List ℕ) (c : Call) → 0 < length cs → c ≡ get_or cs (length cs - 1) c → c ≡ call.Rename from to
    → file_of (events_of cs) name ≡ cond (bytes_eq name (string_bytes to)) (file_of (events_of (take (length cs - 1) cs)) (string_bytes from))
    (cond (bytes_eq name (string_bytes from)) None (file_of (events_of (take (length cs - 1) cs)) name))
newest_rename cs from to name c lt is same = ap (λ (l : List Event). file_of l name) (newest cs c _ lt is same)

pub newest_append : (cs : List Call) (n : String Global) (b : Vec ℕ Global) (name : List ℕ) (c : Call) → 0 < length cs → c ≡ get_or cs (length cs - 1) c → c ≡ call.Append n b → file_of (events_of cs) name ≡ file_of (events_of (take (length cs - 1) cs)) name
newest_append cs n b name c lt is same = ap (λ (l : List Event). file_of l name) (newest cs c _ lt is same)

pub newest_sync : (cs : List Call) (n : String Global) (name : List ℕ) (c : Call) → 0 < length cs → c ≡ get_or cs (length cs - 1) c → c ≡ call.Sync n → file_of (events_of cs) name ≡ file_of (events_of (take (length cs - 1) cs)) name
newest_sync cs n name c lt is same = ap (λ (l : List Event). file_of l name) (newest cs c _ lt is same)

pub newest_touch : (cs : List Call) (n : String Global) (name : List ℕ) (c : Call) → 0 < length cs → c ≡ get_or cs (length cs - 1) c → c ≡ call.Touch n → file_of (events_of cs) name ≡ file_of (events_of (take (length cs - 1) cs)) name
newest_touch cs n name c lt is same = ap (λ (l : List Event). file_of l name) (newest cs c _ lt is same)

pub newest_sync_folder : (cs : List Call) (name : List ℕ) (c : Call) → 0 < length cs → c ≡ get_or cs (length cs - 1) c → c ≡ call.SyncFolder → file_of (events_of cs) name ≡ file_of (events_of (take (length cs - 1) cs)) name
newest_sync_folder cs name c lt is same = ap (λ (l : List Event). file_of l name) (newest cs c _ lt is same)

pub by_true : {A : Type 0} (b : Bool) (x y r : A) → r ≡ cond b x y → b ≡ true → x ≡ r
by_true true x y r e h = sym e
by_true false x y r e h = cc

pub by_false : {A : Type 0} (b : Bool) (x y r : A) → r ≡ cond b x y → b ≡ false → y ≡ r
by_false true x y r e h = cc
by_false false x y r e h = sym e

-- the bytes of a file after one call more
pub content_append : (cs : List Call) (n : String Global) (b : Vec ℕ Global) (file : ℕ) (c : Call) → 0 < length cs → c ≡ get_or cs (length cs - 1) c
    → c ≡ call.Append n b → content (events_of cs) file ≡ cond (is_file (file_of (events_of (take (length cs - 1) cs)) (string_bytes n)) file)
    (content (events_of (take (length cs - 1) cs)) file ++ b.items) (content (events_of (take (length cs - 1) cs)) file)
content_append cs n b file c lt is same = ap (λ (l : List Event). content l file) (newest cs c _ lt is same)

-- another call writes nothing
pub content_create : (cs : List Call) (n : String Global) (file : ℕ) (c : Call) → 0 < length cs → c ≡ get_or cs (length cs - 1) c → c ≡ call.Create n → content (events_of cs) file ≡ content (events_of (take (length cs - 1) cs)) file
content_create cs n file c lt is same = ap (λ (l : List Event). content l file) (newest cs c _ lt is same)

pub content_rename : (cs : List Call) (n m : String Global) (file : ℕ) (c : Call) → 0 < length cs → c ≡ get_or cs (length cs - 1) c → c ≡ call.Rename n m → content (events_of cs) file ≡ content (events_of (take (length cs - 1) cs)) file
content_rename cs n m file c lt is same = ap (λ (l : List Event). content l file) (newest cs c _ lt is same)

pub content_sync : (cs : List Call) (n : String Global) (file : ℕ) (c : Call) → 0 < length cs → c ≡ get_or cs (length cs - 1) c → c ≡ call.Sync n → content (events_of cs) file ≡ content (events_of (take (length cs - 1) cs)) file
content_sync cs n file c lt is same = ap (λ (l : List Event). content l file) (newest cs c _ lt is same)

pub content_touch : (cs : List Call) (n : String Global) (file : ℕ) (c : Call) → 0 < length cs → c ≡ get_or cs (length cs - 1) c → c ≡ call.Touch n → content (events_of cs) file ≡ content (events_of (take (length cs - 1) cs)) file
content_touch cs n file c lt is same = ap (λ (l : List Event). content l file) (newest cs c _ lt is same)

pub content_sync_folder : (cs : List Call) (file : ℕ) (c : Call) → 0 < length cs → c ≡ get_or cs (length cs - 1) c → c ≡ call.SyncFolder → content (events_of cs) file ≡ content (events_of (take (length cs - 1) cs)) file
content_sync_folder cs file c lt is same = ap (λ (l : List Event). content l file) (newest cs c _ lt is same)

-- whether a file is synced, and a name was given, after one call more
pub synced_by : (cs : List Call) (c k : Call) (file : ℕ) → 0 < length cs → c ≡ get_or cs (length cs - 1) c → c ≡ k → is_synced (events_of cs) file ≡ is_synced (event_of k ∷ events_of (take (length cs - 1) cs)) file
synced_by cs c k file lt is same = ap (λ (l : List Event). is_synced l file) (newest cs c k lt is same)

pub named_by : (cs : List Call) (c k : Call) (name : List ℕ) → 0 < length cs → c ≡ get_or cs (length cs - 1) c → c ≡ k → was_named (events_of cs) name ≡ was_named (event_of k ∷ events_of (take (length cs - 1) cs)) name
named_by cs c k name lt is same = ap (λ (l : List Event). was_named l name) (newest cs c k lt is same)

-- a text that was compared with a name
pub same_text : (a b name : List ℕ) (r : Bool) → r ≡ bytes_eq a b → b ≡ name → r ≡ true → a ≡ name
same_text a b name r is named same = (bytes_eq-Decides a b).0 (sym is ∙ same) ∙ named

pub newest_remove : (cs : List Call) (gone : String Global) (name : List ℕ) (c : Call) → 0 < length cs → c ≡ get_or cs (length cs - 1) c → c ≡ call.Remove gone
    → file_of (events_of cs) name ≡ cond (bytes_eq name (string_bytes gone)) None (file_of (events_of (take (length cs - 1) cs)) name)
newest_remove cs gone name c lt is same = ap (λ (l : List Event). file_of l name) (newest cs c _ lt is same)

pub content_remove : (cs : List Call) (n : String Global) (file : ℕ) (c : Call) → 0 < length cs → c ≡ get_or cs (length cs - 1) c → c ≡ call.Remove n → content (events_of cs) file ≡ content (events_of (take (length cs - 1) cs)) file
content_remove cs n file c lt is same = ap (λ (l : List Event). content l file) (newest cs c _ lt is same)

pub newest_link : (cs : List Call) (from to : String Global) (name : List ℕ) (c : Call) → 0 < length cs → c ≡ get_or cs (length cs - 1) c → c ≡ call.Link from to
    → file_of (events_of cs) name ≡ cond (bytes_eq name (string_bytes to)) (file_of (events_of (take (length cs - 1) cs)) (string_bytes from))
    (file_of (events_of (take (length cs - 1) cs)) name)
newest_link cs from to name c lt is same = ap (λ (l : List Event). file_of l name) (newest cs c _ lt is same)

pub content_link : (cs : List Call) (n m : String Global) (file : ℕ) (c : Call) → 0 < length cs → c ≡ get_or cs (length cs - 1) c → c ≡ call.Link n m → content (events_of cs) file ≡ content (events_of (take (length cs - 1) cs)) file
content_link cs n m file c lt is same = ap (λ (l : List Event). content l file) (newest cs c _ lt is same)

-- A folder is the list of what was done to it, the last call first. What a name stands for, and what a crash may leave under
-- it, follow from that list.
--
-- POSIX, rename: a name stands for the old file or for the new one. POSIX, unlink: a name stands for none. POSIX, link: a name
-- more for a file. Linux, renameat2: an exchange is atomic as a rename is. POSIX, fsync: what was synced stays. POSIX lays down no
-- more, so a file whose bytes are not all synced may hold any, and a name may occur for any file that it stood for since the
-- folder itself was synced.
use Rattle.std.specs.Prelude.{ℕ, ◌+◌, ◌≤◌, ◌≡◌, ◌⊎◌, Bool, true, false, List, [], ◌∷◌, ◌++◌, length, Option, Some, None, if◌then◌else◌, ◌==◌, IsSome}
use Rattle.std.specs.Str.{bytes_eq}

pub data Event : Type 0 where
  -- an empty file of that name, in the place of any other
  create : List ℕ → Event
  append : List ℕ → List ℕ → Event
  sync : List ℕ → Event
  -- an append or a sync that failed: the file's bytes count as unsynced
  touch : List ℕ → Event
  rename : List ℕ → List ℕ → Event
  -- the name stands for no file any more
  remove : List ℕ → Event
  -- the second name stands for the file of the first one too
  link : List ℕ → List ℕ → Event
  -- each of the names stands for the other's file
  exchange : List ℕ → List ℕ → Event
  sync_folder : Event

-- ---- what names stand for now

abbrev pub files_made : List Event → ℕ
files_made [] = 0
files_made (create _ ∷ es) = files_made es + 1
files_made (_ ∷ es) = files_made es

-- The file that a name stands for. A file is known by how many were made before it.
abbrev pub file_of : List Event → List ℕ → Option ℕ
file_of [] name = None
file_of (create made ∷ es) name = if bytes_eq name made then Some (files_made es) else file_of es name
file_of (rename from to ∷ es) name = if bytes_eq name to then file_of es from else if bytes_eq name from then None else file_of es name
file_of (remove gone ∷ es) name = if bytes_eq name gone then None else file_of es name
file_of (link from to ∷ es) name = if bytes_eq name to then file_of es from else file_of es name
file_of (exchange one two ∷ es) name = if bytes_eq name two then file_of es one else if bytes_eq name one then file_of es two else file_of es name
file_of (_ ∷ es) name = file_of es name

abbrev pub is_file : Option ℕ → ℕ → Bool
is_file None file = false
is_file (Some other) file = other == file

abbrev pub content : List Event → ℕ → List ℕ
content [] file = []
content (append name bytes ∷ es) file = if is_file (file_of es name) file then content es file ++ bytes else content es file
content (_ ∷ es) file = content es file

abbrev pub content_of : List Event → Option ℕ → Option (List ℕ)
content_of es None = None
content_of es (Some file) = Some (content es file)

-- what a read of a name gives: no file is a content too
abbrev pub read_content : List Event → List ℕ → Option (List ℕ)
read_content es name = content_of es (file_of es name)

-- ---- what a crash may leave

-- all bytes of the file are synced
abbrev pub is_synced : List Event → ℕ → Bool
is_synced [] file = true
is_synced (append name bytes ∷ es) file = if is_file (file_of es name) file then false else is_synced es file
is_synced (touch name ∷ es) file = if is_file (file_of es name) file then false else is_synced es file
is_synced (sync name ∷ es) file = if is_file (file_of es name) file then true else is_synced es file
is_synced (_ ∷ es) file = is_synced es file

-- the name stood for this file, or for none, at some time since the folder was last synced
abbrev pub StoodFor : List Event → List ℕ → Option ℕ → Type 0
StoodFor [] name file = file ≡ None
StoodFor (sync_folder ∷ es) name file = file ≡ file_of es name
StoodFor (create made ∷ es) name file = ((name ≡ made) × (file ≡ Some (files_made es))) ⊎ StoodFor es name file
StoodFor (rename from to ∷ es) name file =
    ((name ≡ to) × (file ≡ file_of es from)) ⊎ (((name ≡ from) × (file ≡ None)) ⊎ StoodFor es name file)
StoodFor (remove gone ∷ es) name file = ((name ≡ gone) × (file ≡ None)) ⊎ StoodFor es name file
StoodFor (link from to ∷ es) name file = ((name ≡ to) × (file ≡ file_of es from)) ⊎ StoodFor es name file
StoodFor (exchange one two ∷ es) name file =
    ((name ≡ two) × (file ≡ file_of es one)) ⊎ (((name ≡ one) × (file ≡ file_of es two)) ⊎ StoodFor es name file)
StoodFor (_ ∷ es) name file = StoodFor es name file

-- a file's content, or any bytes where some of its own aren't synced
abbrev pub MayLeaveOf : List Event → Option ℕ → Option (List ℕ) → Type 0
MayLeaveOf es None c = c ≡ None
MayLeaveOf es (Some file) c = IsSome c × (is_synced es file ≡ true → c ≡ Some (content es file))

-- what a crash now may leave under a name
abbrev pub MayLeave : List Event → List ℕ → Option (List ℕ) → Type 0
MayLeave es name c = (file : Option ℕ) × StoodFor es name file × MayLeaveOf es file c

-- what a crash at some moment since there were so many events might have left
abbrev pub MayHaveLeft : List Event → ℕ → List ℕ → Option (List ℕ) → Type 0
MayHaveLeft [] since name c = (since ≤ 0) × MayLeave [] name c
MayHaveLeft (e ∷ es) since name c = ((since ≤ length es + 1) × MayLeave (e ∷ es) name c) ⊎ MayHaveLeft es since name c

-- a crash leaves this content and no other
abbrev pub IsSettled : List Event → List ℕ → Option (List ℕ) → Type 0
IsSettled es name c = (d : Option (List ℕ)) → MayLeave es name d → d ≡ c

-- these are all that was done before, and maybe more
abbrev pub Grows : List Event → List Event → Type 0
Grows old new = (more : List Event) × (new ≡ more ++ old)

-- ---- after a crash

-- a folder as a crash may have left it: under each name is what a crash may leave there, and no other crash changes it
pub record IsLeft (old new : List Event) : Type 0 where
  pub allowed : (name : List ℕ) → MayLeave old name (read_content new name)
  pub settled : (name : List ℕ) → IsSettled new name (read_content new name)

-- A name in the course of time: what it holds, what the host says of it, and when that tells.
use Rattle.std.specs.Prelude.{ℕ, ◌≡◌, ◌⊎◌, ◌≤◌, ◌<◌, List, Option, None, Bool, true, false}
use Rattle.dconf_files.specs.declared.stamp.FileStamp.{FileStamp}
use Rattle.dconf_files.specs.declared.stamp.Sameness.TheVariants.{Same}
use Rattle.dconf_files.specs.Stamps.{is_written_alike, settled_at, sameness_of}

-- At each moment the host's clock, in nanoseconds; what it says of the name; and what its file holds, if one is there.
pub record Course : Type 0 where
  pub clock : ℕ → ℕ
  pub stamp : ℕ → FileStamp
  pub content : ℕ → Option (List ℕ)

-- Supposed of a host: it notes when the file of a name changes. What happened from a moment on shows in the time that it says later: that
-- lies no more than its grain before the clock's at that moment.
pub record NotesChanges (c : Course) : Type 0 where
  pub missing : (at : ℕ) → (c.stamp at).is_there ≡ false → c.content at ≡ None
  pub shows : (from between to : ℕ) → from ≤ between → between ≤ to → (c.stamp to).is_there ≡ true
      → (c.content between ≡ c.content from) ⊎ (c.clock from < settled_at (c.stamp to).touched)

-- Supposed of a host, of a file that is held open: it notes when that is written.
abbrev pub NotesWrites : Course → Type 0
NotesWrites c = (from to : ℕ) → is_written_alike (c.stamp from) (c.stamp to) ≡ true → c.content to ≡ c.content from

-- Somebody reads a name: the clock first, and then, in whatever order, what the host says and what the file holds. `held`: the file stays
-- open or mapped after that.
pub record Reading (c : Course) : Type 0 where
  pub began : ℕ
  pub stamped : ℕ
  pub read : ℕ
  pub held : Bool
  pub in_order : began ≤ read
  -- what was said to be missing was read as nothing
  pub missing : (c.stamp stamped).is_there ≡ false → c.content read ≡ None
  -- of what is held the host notes when it is written, and it is read as it is when the host is asked
  pub noted : held ≡ true → NotesWrites c
  pub at_once : held ≡ true → c.content read ≡ c.content stamped

-- ---- the law

-- What is said to be the same later holds what was read.
abbrev pub SameHoldsTheSame : Type 0
SameHoldsTheSame = (c : Course) → NotesChanges c → (it : Reading c) → (later : ℕ) → it.read ≤ later
    → sameness_of (c.stamp it.stamped) (c.stamp later) (c.clock it.began) it.held ≡ Same → c.content later ≡ c.content it.read

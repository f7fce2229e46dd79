-- Readings, and what lies in a site, as numbers.
use Rattle.std.specs.Prelude.{ℕ, List, if◌then◌else◌}
use Rattle.dconf_roles.specs.Readings.{reading_of_part}
use Rattle.dconf_roles.specs.Sites.{part_of}
use Rattle.dconf_roles.specs.declared.readings.ReadAs.{ReadAs}
use Rattle.dconf_roles.specs.declared.sites.EntryKnown.{EntryKnown}
use Rattle.dconf_roles.specs.declared.sites.Part.{Part}

abbrev pub reading_number : ReadAs → ℕ
reading_number ReadAs.Keyfile = 0
reading_number ReadAs.Locks = 1
reading_number ReadAs.Profile = 2
reading_number ReadAs.Database = 3
reading_number ReadAs.LeftOut = 4
reading_number ReadAs.Unread = 5
reading_number ReadAs.NoSource = 6
reading_number ReadAs.TooBig = 7
reading_number ReadAs.Neither = 8
reading_number ReadAs.Stray = 17

abbrev pub part_number : Part → ℕ
part_number Part.Keyfile = 0
part_number Part.Locks = 1
part_number Part.Profile = 2
part_number Part.Database = 3
part_number Part.Silent = 4
part_number Part.Nested = 5
part_number Part.Beside = 9
part_number Part.Made = 10
part_number Part.SourceFolder = 11
part_number Part.LockFolder = 12
part_number Part.ProfileFolder = 13
part_number Part.HiddenFolder = 14
part_number Part.HiddenLocks = 15
part_number Part.Odd = 16
part_number Part.Stray = 17
part_number Part.NotUtf8 = 18
part_number Part.Barred = 19

-- once its text is known, as what it is looked at
abbrev pub entry_number : EntryKnown → List ℕ → ℕ → List ℕ → ℕ
entry_number k name size text = if k.is_read then reading_number (reading_of_part (part_of k name) size text) else part_number (part_of k name)

-- As what a file is looked at: by what stands in it, and in a folder of sources by that. docs/MANUAL.md, "lint [FILE]..".
use Rattle.std.specs.Prelude.{ℕ, List, Bool, true, codes, map, nat_eq, nat_lt, if◌then◌else◌}
use Rattle.std.specs.List.{starts_with}
use Rattle.dconf_model.specs.Lines.{lines_of}
use Rattle.dconf_model.specs.Paths.{has_zero_byte}
use Rattle.keyfile_lines.specs.Kinds.{kind_from, sign_of}
use Rattle.keyfile_lines.specs.declared.kinds.TextKind.{TextKind}
use Rattle.dconf_roles.specs.declared.roles.Role.{Role}
use Rattle.dconf_roles.specs.declared.sites.Part.{Part}
use Rattle.dconf_roles.specs.declared.readings.ReadAs.{ReadAs}

-- a file that begins by a database's signature
abbrev pub is_database : List ℕ → Bool
is_database text = starts_with nat_eq text (codes "GVariant")

-- a text of more bytes is not read
abbrev pub most : ℕ
most = 16777216

abbrev pub kind_of : List ℕ → TextKind
kind_of text = kind_from true (map sign_of (lines_of text))

-- comments alone are a keyfile without keys
abbrev pub by_its_text : TextKind → ReadAs
by_its_text TextKind.Keyfile = ReadAs.Keyfile
by_its_text TextKind.Locks = ReadAs.Locks
by_its_text TextKind.Profile = ReadAs.Profile
by_its_text TextKind.Empty = ReadAs.Keyfile
by_its_text TextKind.Neither = ReadAs.Neither

-- `update` takes what is in its folders for keyfiles and locks, whatever stands there; but bytes that are no text at all are none
abbrev pub as_source : ReadAs → TextKind → Bool → ReadAs
as_source it TextKind.Neither binary = if binary then ReadAs.Neither else it
as_source it kind binary = it

abbrev pub of_text : Role → List ℕ → ReadAs
of_text Role.ByItsText text = by_its_text (kind_of text)
of_text Role.Keyfile text = as_source ReadAs.Keyfile (kind_of text) (has_zero_byte text)
of_text Role.Locks text = as_source ReadAs.Locks (kind_of text) (has_zero_byte text)
of_text Role.Hidden text = ReadAs.LeftOut
of_text Role.Unread text = ReadAs.Unread

abbrev pub of_database : Role → ReadAs
of_database Role.ByItsText = ReadAs.Database
of_database Role.Keyfile = ReadAs.NoSource
of_database Role.Locks = ReadAs.NoSource
of_database Role.Hidden = ReadAs.LeftOut
of_database Role.Unread = ReadAs.Unread

abbrev pub too_big : Role → ReadAs
too_big Role.Hidden = ReadAs.LeftOut
too_big Role.Unread = ReadAs.Unread
too_big role = ReadAs.TooBig

-- of a file of so many bytes, of which these are there
abbrev pub reading : Role → ℕ → List ℕ → ReadAs
reading role size text =
    if is_database text then of_database role
    else if nat_lt most size then too_big role
    else of_text role text

-- ---- of what is read of a site

abbrev pub within_most : ℕ → ReadAs → ReadAs
within_most size it = if nat_lt most size then ReadAs.TooBig else it

abbrev pub profile_or_none : TextKind → ReadAs
profile_or_none TextKind.Profile = ReadAs.Profile
profile_or_none kind = ReadAs.Stray

abbrev pub text_beside : ℕ → List ℕ → ReadAs
text_beside size text = if nat_lt most size then ReadAs.Stray else profile_or_none (kind_of text)

-- a database, or a profile of another name, lies there by right; no keyfile does, nor any other text
abbrev pub beside : ReadAs → ℕ → List ℕ → ReadAs
beside database size text = if is_database text then database else text_beside size text

-- the sources are what they are below NAME.d; a database that `update` makes says no more than they do
abbrev pub reading_of_part : Part → ℕ → List ℕ → ReadAs
reading_of_part Part.Keyfile size text = reading Role.Keyfile size text
reading_of_part Part.Locks size text = reading Role.Locks size text
reading_of_part Part.Profile size text = within_most size ReadAs.Profile
reading_of_part Part.Database size text = ReadAs.Database
reading_of_part Part.Beside size text = beside ReadAs.Database size text
reading_of_part Part.Made size text = beside ReadAs.LeftOut size text
reading_of_part part size text = ReadAs.LeftOut

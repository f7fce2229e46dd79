-- The numbers of faults, and what they say.
use Rattle.std.specs.Prelude.{◌≡◌, ℕ, List, codes}
use Rattle.dconfdb_calls.specs.declared.fault.Fault.{Fault}
use Rattle.dconfdb_calls.specs.declared.fault.Fault.TheVariants.{Memory, Short, BadSignature, BadVersion, BadRoot, BadTable, Unsound, NotText, BadLine, ServiceDb, UserNotFirst, TooMany, BadPath, BadType, NotWritable, Locked, TooLarge, TooBig, BadValue}

abbrev pub number_of : Fault → ℕ
number_of Memory = 1
number_of Short = 2
number_of BadSignature = 3
number_of BadVersion = 4
number_of BadRoot = 5
number_of BadTable = 6
number_of Unsound = 7
number_of NotText = 8
number_of BadLine = 9
number_of ServiceDb = 10
number_of UserNotFirst = 11
number_of TooMany = 12
number_of BadPath = 13
number_of BadType = 14
number_of NotWritable = 15
number_of Locked = 16
number_of TooLarge = 17
number_of TooBig = 18
-- 19 is that of a value which has no text
number_of BadValue = 20

-- some fault has this number
abbrev pub IsNumber : ℕ → Type 0
IsNumber number = (fault : Fault) × (number_of fault ≡ number)

abbrev pub text_of : Fault → List ℕ
text_of Memory = codes "no memory is left"
text_of Short = codes "the file is shorter than a database's header"
text_of BadSignature = codes "the file does not start as a database does"
text_of BadVersion = codes "the database has a version other than 0"
text_of BadRoot = codes "the database has no root table"
text_of BadTable = codes "the database's root table does not fit"
text_of Unsound = codes "the database breaks a rule of sound databases"
text_of NotText = codes "the profile is not UTF-8"
text_of BadLine = codes "a line of the profile names no database"
text_of ServiceDb = codes "a line of the profile names a service-db"
text_of UserNotFirst = codes "a line of the profile names a user-db that is not the first database"
text_of TooMany = codes "a line of the profile names the 65th database"
text_of BadPath = codes "the path is not one of a key, or of a directory"
text_of BadType = codes "the type text spells no type"
text_of NotWritable = codes "there is no user's database"
text_of Locked = codes "the key is locked"
text_of TooLarge = codes "the value is nested too deep or too long"
text_of TooBig = codes "the database would have over 4294967295 bytes"
text_of BadValue = codes "the value's bytes are not in normal form at its type"

-- the text of the fault that has this number
abbrev pub IsTextOf : ℕ → List ℕ → Type 0
IsTextOf number text = (fault : Fault) × (number_of fault ≡ number) × (text ≡ text_of fault)

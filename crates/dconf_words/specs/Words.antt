-- All words, and which word a text is.
use Rattle.std.specs.Prelude.{ℕ, List, [], ◌∷◌, Option, find}
use Rattle.std.specs.Str.{bytes_eq}
use Rattle.dconf_words.specs.Texts.{name_of}
use Rattle.dconf_words.specs.declared.word.About.{About}
use Rattle.dconf_words.specs.declared.word.About.TheVariants as of
use Rattle.dconf_words.specs.declared.word.Word.{Word}
use Rattle.dconf_words.specs.declared.word.Word.TheVariants.{NotAbsolute, HasNul, DoubleSlash, EndsInSlash, NoEndSlash, TooLong, BadToken, Unclosed, BadEscape, Unexpected, TooDeep, DoubleText, NoCommonType, Ambiguous, OutOfRange, BadObjectPath, BadSignature, TooLarge, Empty, BadChar, KeyNotBasic, Trailing, NoFile, Device, TooBig, Busy, NoFolder, NotUtf8, BadLine, ServiceDb, UserNotFirst, TooMany, NoGroup, BadGroup, BadKeyName, LockNotKey, BadDatabase, Short, BadVersion, BadRoot, BadTable, S1, S2, S3, S4, S5, S6, S7, S8, S9, S10, S11, NotWritable, Locked, Memory, NoSchemas}

-- in the order of the manual
abbrev pub words : List Word
words =
    NotAbsolute ∷ HasNul ∷ DoubleSlash ∷ EndsInSlash ∷ NoEndSlash ∷ TooLong ∷ BadToken ∷ Unclosed ∷ BadEscape ∷ Unexpected ∷ TooDeep ∷ DoubleText ∷ NoCommonType ∷ Ambiguous ∷ OutOfRange ∷ BadObjectPath ∷ BadSignature ∷ TooLarge ∷ Empty ∷ BadChar ∷ KeyNotBasic ∷ Trailing ∷ NoFile ∷ Device ∷ TooBig ∷ Busy ∷ NoFolder ∷ NotUtf8 ∷ BadLine ∷ ServiceDb ∷ UserNotFirst ∷ TooMany ∷ NoGroup ∷ BadGroup ∷ BadKeyName ∷ LockNotKey ∷ BadDatabase ∷ Short ∷ BadVersion ∷ BadRoot ∷ BadTable ∷ S1 ∷ S2 ∷ S3 ∷ S4 ∷ S5 ∷ S6 ∷ S7 ∷ S8 ∷ S9 ∷ S10 ∷ S11 ∷ NotWritable ∷ Locked ∷ Memory ∷ NoSchemas ∷ []

abbrev pub word_of : List ℕ → Option Word
word_of text = find (λ w. bytes_eq (name_of w) text) words

-- what it is said of
abbrev pub about : Word → About
about NotAbsolute = of.Path
about HasNul = of.Path
about DoubleSlash = of.Path
about EndsInSlash = of.Path
about NoEndSlash = of.Path
about TooLong = of.Path
about BadToken = of.Value
about Unclosed = of.Value
about BadEscape = of.Value
about Unexpected = of.Value
about TooDeep = of.Value
about DoubleText = of.Value
about NoCommonType = of.Value
about Ambiguous = of.Value
about OutOfRange = of.Value
about BadObjectPath = of.Value
about BadSignature = of.Value
about TooLarge = of.Value
about Empty = of.Type
about BadChar = of.Type
about KeyNotBasic = of.Type
about Trailing = of.Type
about NoFile = of.File
about Device = of.File
about TooBig = of.File
about Busy = of.File
about NoFolder = of.Process
about NotUtf8 = of.Line
about BadLine = of.Line
about ServiceDb = of.Line
about UserNotFirst = of.Line
about TooMany = of.Line
about NoGroup = of.Line
about BadGroup = of.Line
about BadKeyName = of.Line
about LockNotKey = of.Line
about BadDatabase = of.Database
about Short = of.Database
about BadVersion = of.Database
about BadRoot = of.Database
about BadTable = of.Database
about S1 = of.Rule
about S2 = of.Rule
about S3 = of.Rule
about S4 = of.Rule
about S5 = of.Rule
about S6 = of.Rule
about S7 = of.Rule
about S8 = of.Rule
about S9 = of.Rule
about S10 = of.Rule
about S11 = of.Rule
about NotWritable = of.Change
about Locked = of.Change
about Memory = of.Process
about NoSchemas = of.Process

-- What is said of a refusal to a person.
use Rattle.std.specs.Prelude.{ℕ, List, [], ◌∷◌, ◌++◌, codes, Bool, not, ◌||◌, ◌==◌, nat_lt, Option, Some, None, if◌then◌else◌, length}
use Rattle.std.specs.List.{list_any}
use Rattle.dconf_words.specs.Texts.{answer_of, cure_of, meaning_of, name_of, typed_of}
use Rattle.dconf_words.specs.declared.word.Word.{Word}
use Rattle.dconf_words.specs.declared.explanation.Facts.{Facts}
use Rattle.dconf_words.specs.declared.explanation.Hint.{Hint}
use Rattle.dconf_words.specs.declared.explanation.Hint.TheVariants.{Nothing, NoStore, Folder, Comment, Mark}

pub record Known : Type 0 where
  pub why : Option Word
  pub file : List ℕ
  pub line : List ℕ
  pub argument : List ℕ
  pub reason : List ℕ
  pub hint : Hint

abbrev pub facts_of : Facts → Known
facts_of f = record { why = f.why; file = f.file.now; line = f.line.now; argument = f.argument.now; reason = f.reason.now; hint = f.hint }

-- no control character: it might do something to a terminal
abbrev pub is_control : ℕ → Bool
is_control c = nat_lt c 32 || c == 127

abbrev pub is_plain : List ℕ → Bool
is_plain text = not (list_any is_control text)

-- a line of its own
abbrev pub labelled : List ℕ → List ℕ → List ℕ
labelled label said = codes "  " ++ (label ++ (codes ": " ++ (said ++ 10 ∷ [])))

-- nothing, where nothing is known
abbrev pub labelled_if_any : List ℕ → List ℕ → List ℕ
labelled_if_any label said = if length said == 0 || not (is_plain said) then [] else labelled label said

abbrev pub titled : Word → List ℕ
titled w = labelled (name_of w) (meaning_of w)

abbrev pub titled_if_any : Option Word → List ℕ
titled_if_any None = []
titled_if_any (Some w) = titled w

-- what to do, where something more is known
abbrev pub cure_by : Word → Hint → List ℕ
cure_by w Nothing = cure_of w
cure_by w NoStore = codes "this folder is no store: make a profile in it, name another folder by --store FOLDER, or work on your own store by --user"
cure_by w Folder = codes "it is a folder: name the files in it, or make all databases of a site by 'dconfdb update FOLDER'"
cure_by w Comment = codes "'#' begins a comment at the start of a line only: put it on a line of its own"
cure_by w Mark = codes "the file begins with a byte order mark: save it without one"

-- where more is said
abbrev pub more_line : Word → List ℕ
more_line w = codes "  more: dconfdb help " ++ (name_of w ++ 10 ∷ [])

-- what is wrong
unfoldable pub meaning_lines : Word → Known → List ℕ
meaning_lines w f = titled w ++ titled_if_any f.why

-- where, and why
unfoldable pub known_lines : Known → List ℕ
known_lines f =
    labelled_if_any (codes "file") f.file ++ (labelled_if_any (codes "line") f.line
    ++ (labelled_if_any (codes "argument") f.argument ++ labelled_if_any (codes "reason") f.reason))

-- what to do, and where more is said
unfoldable pub advice_lines : Word → Known → List ℕ
advice_lines w f = labelled (codes "to do") (cure_by w f.hint) ++ more_line w

abbrev pub explanation : Word → Known → List ℕ
explanation w f = meaning_lines w f ++ (known_lines f ++ advice_lines w f)

-- the page of a word
abbrev pub page : Word → List ℕ
page w =
    name_of w ++ (codes ": " ++ (meaning_of w ++ (codes "\n\nExample:\n  " ++ (typed_of w ++ (codes "\n  " ++ (answer_of w
    ++ (codes "\n\nTo do:\n  " ++ (cure_of w ++ 10 ∷ []))))))))

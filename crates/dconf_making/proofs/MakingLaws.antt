-- What holds of the questions about a change.
use Rattle.std.specs.Prelude.{◌≡◌, Bool, true, false, refl}
use Rattle.dconf_making.specs.declared.making.Found.{Found}
use Rattle.dconf_making.specs.declared.making.Found.TheVariants.{Yes, No, Fault}
use Rattle.dconf_making.specs.declared.making.Making.{Making}
use Rattle.dconf_making.specs.Making.{Answers, IsGoodMaking, IsGoodNoting, NoteAnswers, NothingHalfNoted, NothingUnexpected}

abbrev making : Bool → Bool → Bool → Making
making makes unsettled expected = record { makes_file = makes; is_unsettled = unsettled; is_expected = expected }

abbrev answers : Found → Found → Found → Found → Found → Answers
answers a b c d e = record { expected = a; left = b; bytes = c; same = d; opens = e }

abbrev Good : Bool → Bool → Bool → Found → Found → Found → Found → Found → Type 0
Good makes u x a b c d e = IsGoodMaking (making makes u x) (answers a b c d e)

good_unexpected : (makes u : Bool) (a b c d e : Found) → Good makes u false a b c d e
good_unexpected false u a b Yes d e = record { over = refl; ready = refl; nothing = λ is. absurd (let bad : false ≡ true = is in cc); unmade = λ _. refl }
good_unexpected false u a b No d e = record { over = refl; ready = refl; nothing = λ is. absurd (let bad : false ≡ true = is in cc); unmade = λ _. refl }
good_unexpected false u a b Fault d e = record { over = refl; ready = refl; nothing = λ is. absurd (let bad : false ≡ true = is in cc); unmade = λ _. refl }
good_unexpected true u a No c d e = record { over = refl; ready = refl; nothing = λ _. refl; unmade = λ is. absurd (let bad : true ≡ false = is in cc) }
good_unexpected true u a Fault c d e = record { over = refl; ready = refl; nothing = λ _. refl; unmade = λ is. absurd (let bad : true ≡ false = is in cc) }
good_unexpected true u a Yes No d e = record { over = refl; ready = refl; nothing = λ _. refl; unmade = λ is. absurd (let bad : true ≡ false = is in cc) }
good_unexpected true u a Yes Fault d e = record { over = refl; ready = refl; nothing = λ _. refl; unmade = λ is. absurd (let bad : true ≡ false = is in cc) }
good_unexpected true true a Yes Yes d Yes = record { over = refl; ready = refl; nothing = λ _. refl; unmade = λ is. absurd (let bad : true ≡ false = is in cc) }
good_unexpected true true a Yes Yes d No = record { over = refl; ready = refl; nothing = λ _. refl; unmade = λ is. absurd (let bad : true ≡ false = is in cc) }
good_unexpected true true a Yes Yes d Fault = record { over = refl; ready = refl; nothing = λ _. refl; unmade = λ is. absurd (let bad : true ≡ false = is in cc) }
good_unexpected true false a Yes Yes Yes e = record { over = refl; ready = refl; nothing = λ _. refl; unmade = λ is. absurd (let bad : true ≡ false = is in cc) }
good_unexpected true false a Yes Yes No Yes = record { over = refl; ready = refl; nothing = λ _. refl; unmade = λ is. absurd (let bad : true ≡ false = is in cc) }
good_unexpected true false a Yes Yes No No = record { over = refl; ready = refl; nothing = λ _. refl; unmade = λ is. absurd (let bad : true ≡ false = is in cc) }
good_unexpected true false a Yes Yes No Fault = record { over = refl; ready = refl; nothing = λ _. refl; unmade = λ is. absurd (let bad : true ≡ false = is in cc) }
good_unexpected true false a Yes Yes Fault Yes = record { over = refl; ready = refl; nothing = λ _. refl; unmade = λ is. absurd (let bad : true ≡ false = is in cc) }
good_unexpected true false a Yes Yes Fault No = record { over = refl; ready = refl; nothing = λ _. refl; unmade = λ is. absurd (let bad : true ≡ false = is in cc) }
good_unexpected true false a Yes Yes Fault Fault = record { over = refl; ready = refl; nothing = λ _. refl; unmade = λ is. absurd (let bad : true ≡ false = is in cc) }

good_expected : (makes u : Bool) (a b c d e : Found) → Good makes u true a b c d e
good_expected false u No b c d e = record { over = refl; ready = refl; nothing = λ is. absurd (let bad : false ≡ true = is in cc); unmade = λ _. refl }
good_expected false u Fault b c d e = record { over = refl; ready = refl; nothing = λ is. absurd (let bad : false ≡ true = is in cc); unmade = λ _. refl }
good_expected true u No b c d e = record { over = refl; ready = refl; nothing = λ _. refl; unmade = λ is. absurd (let bad : true ≡ false = is in cc) }
good_expected true u Fault b c d e = record { over = refl; ready = refl; nothing = λ _. refl; unmade = λ is. absurd (let bad : true ≡ false = is in cc) }
good_expected false u Yes b Yes d e = record { over = refl; ready = refl; nothing = λ is. absurd (let bad : false ≡ true = is in cc); unmade = λ _. refl }
good_expected false u Yes b No d e = record { over = refl; ready = refl; nothing = λ is. absurd (let bad : false ≡ true = is in cc); unmade = λ _. refl }
good_expected false u Yes b Fault d e = record { over = refl; ready = refl; nothing = λ is. absurd (let bad : false ≡ true = is in cc); unmade = λ _. refl }
good_expected true u Yes No c d e = record { over = refl; ready = refl; nothing = λ _. refl; unmade = λ is. absurd (let bad : true ≡ false = is in cc) }
good_expected true u Yes Fault c d e = record { over = refl; ready = refl; nothing = λ _. refl; unmade = λ is. absurd (let bad : true ≡ false = is in cc) }
good_expected true u Yes Yes No d e = record { over = refl; ready = refl; nothing = λ _. refl; unmade = λ is. absurd (let bad : true ≡ false = is in cc) }
good_expected true u Yes Yes Fault d e = record { over = refl; ready = refl; nothing = λ _. refl; unmade = λ is. absurd (let bad : true ≡ false = is in cc) }
good_expected true true Yes Yes Yes d Yes = record { over = refl; ready = refl; nothing = λ _. refl; unmade = λ is. absurd (let bad : true ≡ false = is in cc) }
good_expected true true Yes Yes Yes d No = record { over = refl; ready = refl; nothing = λ _. refl; unmade = λ is. absurd (let bad : true ≡ false = is in cc) }
good_expected true true Yes Yes Yes d Fault = record { over = refl; ready = refl; nothing = λ _. refl; unmade = λ is. absurd (let bad : true ≡ false = is in cc) }
good_expected true false Yes Yes Yes Yes e = record { over = refl; ready = refl; nothing = λ _. refl; unmade = λ is. absurd (let bad : true ≡ false = is in cc) }
good_expected true false Yes Yes Yes No Yes = record { over = refl; ready = refl; nothing = λ _. refl; unmade = λ is. absurd (let bad : true ≡ false = is in cc) }
good_expected true false Yes Yes Yes No No = record { over = refl; ready = refl; nothing = λ _. refl; unmade = λ is. absurd (let bad : true ≡ false = is in cc) }
good_expected true false Yes Yes Yes No Fault = record { over = refl; ready = refl; nothing = λ _. refl; unmade = λ is. absurd (let bad : true ≡ false = is in cc) }
good_expected true false Yes Yes Yes Fault Yes = record { over = refl; ready = refl; nothing = λ _. refl; unmade = λ is. absurd (let bad : true ≡ false = is in cc) }
good_expected true false Yes Yes Yes Fault No = record { over = refl; ready = refl; nothing = λ _. refl; unmade = λ is. absurd (let bad : true ≡ false = is in cc) }
good_expected true false Yes Yes Yes Fault Fault = record { over = refl; ready = refl; nothing = λ _. refl; unmade = λ is. absurd (let bad : true ≡ false = is in cc) }

good : (makes u x : Bool) (a b c d e : Found) → Good makes u x a b c d e
good makes u false a b c d e = good_unexpected makes u a b c d e
good makes u true a b c d e = good_expected makes u a b c d e

pub nothing_unexpected : NothingUnexpected
nothing_unexpected m a = good m.makes_file m.is_unsettled m.is_expected a.expected a.left a.bytes a.same a.opens

-- ---- notes

abbrev note_answers : Found → Found → Found → NoteAnswers
note_answers a b c = record { there = a; noted = b; written = c }

noting : (m : Making) (a b c : Found) → IsGoodNoting m (note_answers a b c)
noting m Yes Yes Yes = record { noted = refl; unnoted = refl }
noting m Yes Yes No = record { noted = refl; unnoted = refl }
noting m Yes Yes Fault = record { noted = refl; unnoted = refl }
noting m Yes No c = record { noted = refl; unnoted = refl }
noting m Yes Fault c = record { noted = refl; unnoted = refl }
noting m No b Yes = record { noted = refl; unnoted = refl }
noting m No b No = record { noted = refl; unnoted = refl }
noting m No b Fault = record { noted = refl; unnoted = refl }
noting m Fault b Yes = record { noted = refl; unnoted = refl }
noting m Fault b No = record { noted = refl; unnoted = refl }
noting m Fault b Fault = record { noted = refl; unnoted = refl }

pub nothing_half_noted : NothingHalfNoted
nothing_half_noted m a = noting m a.there a.noted a.written

-- What a refusal says: a word, and what stands around it.
use Rattle.std.specs.Prelude.{ℕ, List, [], Option, Some, None, option_map, ◌==◌}
use Rattle.std.specs.List.{before_first, after_first}
use Rattle.dconf_words.specs.Words.{word_of}
use Rattle.dconf_words.specs.declared.word.Word.{Word}
use Rattle.dconf_words.specs.declared.word.Word.TheVariants.{BadDatabase}
use Rattle.dconf_words.specs.declared.said.Said.{Said}

pub record Parts : Type 0 where
  pub word : Word
  pub place : List ℕ
  pub rest : List ℕ

abbrev pub parts_of : Said → Parts
parts_of s = record { word = s.word; place = s.place.now; rest = s.rest.now }

-- up to the first blank, and behind it
abbrev pub first_part : List ℕ → List ℕ
first_part text = before_first (λ c. c == 32) text

abbrev pub behind_first : List ℕ → List ℕ
behind_first text = after_first (λ c. c == 32) text

abbrev pub with_word : Option Word → List ℕ → List ℕ → Option Parts
with_word (Some w) place rest = Some (record { word = w; place = place; rest = rest })
with_word None place rest = None

abbrev pub said_behind : List ℕ → List ℕ → Option Parts
said_behind place text = with_word (word_of (first_part text)) place (behind_first text)

abbrev pub said_first : Option Word → List ℕ → Option Parts
said_first (Some w) text = with_word (Some w) [] (behind_first text)
said_first None text = said_behind (first_part text) (behind_first text)

-- the first part is a word, or else the second one is
abbrev pub said_in : List ℕ → Option Parts
said_in text = said_first (word_of (first_part text)) text

-- BadDatabase NUMBER: WORD: what is wrong with the file
abbrev pub why_if : Word → List ℕ → Option Word
why_if BadDatabase rest = option_map (λ p. p.word) (said_in (behind_first rest))
why_if other rest = None

abbrev pub why_of : Parts → Option Word
why_of said = why_if said.word said.rest

-- What C is told of a line.
use Rattle.std.specs.Prelude.{◌≡◌}
use Rattle.dconf_places.specs.Told.{text_of}
use Rattle.keyfile_lines.specs.Answers.{Answer}
use Rattle.keyfile_lines.specs.Answers.Answer.{silent, sets, locks, idle, refused}
use Rattle.keyfile_lines.specs.Words.{idle_words, words_of}
use Rattle.keyfile_lines.specs.declared.told.ToldLine.{ToldLine}

abbrev pub IsTold : Answer → ToldLine → Type 0
IsTold silent told = told.kind ≡ 0
IsTold (sets setting) told = (told.kind ≡ 1) × (text_of told.path ≡ setting.path) × (told.text.now ≡ setting.text)
IsTold (locks path) told = (told.kind ≡ 2) × (text_of told.path ≡ path)
IsTold idle told = (told.kind ≡ 3) × (told.text.now ≡ idle_words)
IsTold (refused cause) told = (told.kind ≡ 3) × (told.text.now ≡ words_of cause)

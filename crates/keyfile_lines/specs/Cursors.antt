-- What is left to be said from a cursor on.
use Rattle.std.specs.Prelude.{List, ◌==◌, if◌then◌else◌, map}
use Rattle.dconf_model.specs.Lines.{lines_of}
use Rattle.keyfile_lines.specs.Answers.{Answer, Place, answer_of, lock_answer, readings_in}
use Rattle.keyfile_lines.specs.Answers.Place.{before, inside, lost}
use Rattle.keyfile_lines.specs.declared.cursor.Cursor.{Cursor}
use Rattle.keyfile_lines.specs.declared.keyfile.Below.{Below}

abbrev pub place_of : Cursor → Place
place_of c = if c.place == 0 then before else if c.place == 1 then inside c.group.now else lost

-- as a keyfile, and as a lock file
abbrev pub keyfile_answers : Cursor → List Answer
keyfile_answers c = map answer_of (readings_in (place_of c) (lines_of c.rest.now))

abbrev pub lock_answers : Cursor → List Answer
lock_answers c = map lock_answer (lines_of c.rest.now)

-- ---- a word of a private part

abbrev pub place_below : Below → Place
place_below Below.Nothing = before
place_below (Below.Group group) = inside group.now
place_below Below.Unnamed = lost

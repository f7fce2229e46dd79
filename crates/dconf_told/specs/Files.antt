-- What is known of the files of databases, before a look and after it.
use Rattle.std.specs.Prelude.{◌==◌, ◌&&◌, ◌||◌, Bool, List, [], ◌∷◌, true, false, not}
use Rattle.dconf_told.specs.declared.files.DconfdbFileSeen.{DconfdbFileSeen}

-- the same is wrong with both, or nothing
abbrev pub has_same_fault : DconfdbFileSeen → DconfdbFileSeen → Bool
has_same_fault f g = f.code == g.code && (f.errnum == g.errnum && f.line == g.line)

-- A file that was mapped was read anew, and is the same to the system: it was written over in its place, and nobody has the old bytes.
abbrev pub is_written_over : DconfdbFileSeen → DconfdbFileSeen → Bool
is_written_over f g = f.is_mapped && (not (f.part == g.part) && (f.device == g.device && f.inode == g.inode))

abbrev pub is_other_file : DconfdbFileSeen → DconfdbFileSeen → Bool
is_other_file f g = not (has_same_fault f g) || is_written_over f g

-- one of them is, in their order; or there are more, or fewer
abbrev pub are_other_files : List DconfdbFileSeen → List DconfdbFileSeen → Bool
are_other_files [] [] = false
are_other_files (f ∷ fs) (g ∷ gs) = is_other_file f g || are_other_files fs gs
are_other_files _ _ = true

-- Which program a command line is for. docs/MANUAL.md, "watch PATH", "lint [FILE].." and "The name dconf".
use Rattle.std.specs.Prelude.{ℕ, List, Bool, true, false, codes, ◌&&◌, ◌||◌, ◌==◌, ◌≡◌, ◌≢◌, ◌<◌, nat_eq, nat_lt, not, if◌then◌else◌}
use Rattle.std.specs.List.{ends_with}
use Rattle.std.specs.Str.{bytes_eq}
use Rattle.dconf_options.specs.declared.programs.Line.{Line}
use Rattle.dconf_options.specs.declared.programs.Program.{Program}
use Rattle.dconf_options.specs.declared.programs.Program.TheVariants.{Proved, Watch, Lint, WatchHelp, LintHelp, DconfWatch, DconfBlame, Noted}

abbrev pub is_dconf : List ℕ → Bool
is_dconf name = bytes_eq name (codes "dconf") || ends_with nat_eq name (codes "/dconf")

abbrev pub changes : List ℕ → Bool
changes word = bytes_eq word (codes "write") || (bytes_eq word (codes "reset") || bytes_eq word (codes "load"))

-- `dconf watch PATH`, and `dconf blame` where that is installed; and what changes settings is noted, if the environment asks for that, and counts
abbrev pub dconfs_program : List ℕ → Line → Program
dconfs_program first k =
    if k.count == 3 && (bytes_eq first (codes "watch") && k.is_path) then DconfWatch else
    if k.count == 2 && (bytes_eq first (codes "blame") && k.has_blame) then DconfBlame else
    if (k.counts && k.is_noted) && changes first then Noted else Proved

abbrev pub own_program : List ℕ → Program
own_program word = if bytes_eq word (codes "watch") then Watch else if bytes_eq word (codes "lint") then Lint else Proved

-- `help watch` is `watch --help`
abbrev pub helped : Program → Program
helped Watch = WatchHelp
helped Lint = LintHelp
helped Proved = Proved
helped WatchHelp = WatchHelp
helped LintHelp = LintHelp
helped DconfWatch = DconfWatch
helped DconfBlame = DconfBlame
helped Noted = Noted

abbrev pub program_of : List ℕ → List ℕ → List ℕ → Line → Program
program_of name first second k =
    if nat_lt k.count 2 then Proved else if is_dconf name then dconfs_program first k else
    if k.count == 3 && bytes_eq first (codes "help") then helped (own_program second) else own_program first

abbrev pub program_number : Program → ℕ
program_number Proved = 0
program_number Watch = 1
program_number Lint = 2
program_number WatchHelp = 3
program_number LintHelp = 4
program_number DconfWatch = 5
program_number DconfBlame = 6
program_number Noted = 7

-- it hands the words to the proved program, at last
abbrev pub is_proved : Program → Bool
is_proved Proved = true
is_proved Noted = true
is_proved Watch = false
is_proved Lint = false
is_proved WatchHelp = false
is_proved LintHelp = false
is_proved DconfWatch = false
is_proved DconfBlame = false

-- The proved one, to which each variable counts that it has, has none of a store where none counts; the others are told that none does.
abbrev pub forgets : Program → Line → Bool
forgets program k = is_proved program && not k.counts

-- The proved one can't ask the system for the user's home, and another does so before: where the store may be in it, as it is where no variable counts.
abbrev pub asks_home : Program → Line → Bool
asks_home program k = is_proved program && (k.is_at_home || not k.counts)

-- ---- the law

pub record IsRunByOne (name first second : List ℕ) (k : Line) : Type 0 where
  -- nobody is noted who didn't ask for it
  pub noted : k.is_noted ≡ false → program_of name first second k ≢ Noted
  -- by an environment that counts
  pub uncounted : k.counts ≡ false → program_of name first second k ≢ Noted
  -- and who has none of the variables is told of the home
  pub bare : forgets (program_of name first second k) k ≡ true → asks_home (program_of name first second k) k ≡ true
  -- and what has no word, or a word of neither, is the proved program's
  pub none : k.count < 2 → program_of name first second k ≡ Proved
  pub other : bytes_eq first (codes "watch") ≡ false → bytes_eq first (codes "blame") ≡ false → bytes_eq first (codes "lint") ≡ false →
      bytes_eq first (codes "help") ≡ false → is_proved (program_of name first second k) ≡ true

abbrev pub OneProgramRuns : Type 0
OneProgramRuns = (name first second : List ℕ) (k : Line) → IsRunByOne name first second k

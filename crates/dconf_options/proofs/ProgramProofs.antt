-- What holds of the program that a command line is for.
use Rattle.std.proofs.Common.{ℕ, List, ◌≡◌, ◌≢◌, ◌<◌, Bool, true, false, refl, nat_lt, arith}
use Rattle.std.specs.Prelude.{codes, not, ◌&&◌, ◌||◌, ◌==◌, if◌then◌else◌}
use Rattle.std.specs.Str.{bytes_eq}
use Rattle.dconf_options.specs.Programs.{OneProgramRuns, changes, dconfs_program, helped, is_dconf, is_proved, own_program, program_of}
use Rattle.dconf_options.specs.declared.programs.Line.{Line}
use Rattle.dconf_options.specs.declared.programs.Program.{Program}

-- ---- by what each choice is

abbrev dconfs_by : Bool → Bool → Bool → Bool → Bool → Bool → Bool → Bool → Program
dconfs_by three watch path two blame has notes changing =
    if three && (watch && path) then Program.DconfWatch else if two && (blame && has) then Program.DconfBlame else
    if notes && changing then Program.Noted else Program.Proved

abbrev own_by : Bool → Bool → Program
own_by watch lint = if watch then Program.Watch else if lint then Program.Lint else Program.Proved

abbrev by : Bool → Bool → Bool → Bool → Program → Program → Program → Program
by few dconf three help x y z = if few then Program.Proved else if dconf then x else if three && help then y else z

-- ---- nobody is noted who didn't ask for it

dconfs_unnoted : (a b n c : Bool) → n ≡ false →
    (if a then Program.DconfWatch else if b then Program.DconfBlame else if n && c then Program.Noted else Program.Proved) ≢ Program.Noted
dconfs_unnoted true b n c f e = let bad : Program.DconfWatch ≡ Program.Noted = e in cc
dconfs_unnoted false true n c f e = let bad : Program.DconfBlame ≡ Program.Noted = e in cc
dconfs_unnoted false false true c f e = let bad : true ≡ false = f in cc
dconfs_unnoted false false false c f e = let bad : Program.Proved ≡ Program.Noted = e in cc

own_unnoted : (watch lint : Bool) → own_by watch lint ≢ Program.Noted
own_unnoted true lint e = let bad : Program.Watch ≡ Program.Noted = e in cc
own_unnoted false true e = let bad : Program.Lint ≡ Program.Noted = e in cc
own_unnoted false false e = let bad : Program.Proved ≡ Program.Noted = e in cc

helped_unnoted : (watch lint : Bool) → helped (own_by watch lint) ≢ Program.Noted
helped_unnoted true lint e = let bad : Program.WatchHelp ≡ Program.Noted = e in cc
helped_unnoted false true e = let bad : Program.LintHelp ≡ Program.Noted = e in cc
helped_unnoted false false e = let bad : Program.Proved ≡ Program.Noted = e in cc

by_unnoted : (few dconf help : Bool) (x y z : Program) → x ≢ Program.Noted → y ≢ Program.Noted → z ≢ Program.Noted →
    (if few then Program.Proved else if dconf then x else if help then y else z) ≢ Program.Noted
by_unnoted true dconf help x y z n m o e = let bad : Program.Proved ≡ Program.Noted = e in cc
by_unnoted false true help x y z n m o e = n e
by_unnoted false false true x y z n m o e = m e
by_unnoted false false false x y z n m o e = o e

unasked : (counts notes : Bool) → notes ≡ false → counts && notes ≡ false
unasked true notes n = n
unasked false notes n = refl

unheard : (counts notes : Bool) → counts ≡ false → counts && notes ≡ false
unheard true notes c = absurd (let bad : true ≡ false = c in cc)
unheard false notes c = refl

noted : (name first second : List ℕ) (k : Line) → k.counts && k.is_noted ≡ false → program_of name first second k ≢ Program.Noted
noted name first second k n =
    by_unnoted _ _ _ (dconfs_program first k) (helped (own_program second)) (own_program first)
    (dconfs_unnoted _ _ (k.counts && k.is_noted) (changes first) n) (helped_unnoted _ _) (own_unnoted _ _)

-- ---- what no word is for

none_by : (few : Bool) (x : Program) → few ≡ true → (if few then Program.Proved else x) ≡ Program.Proved
none_by true x e = refl
none_by false x e = absurd (let bad : false ≡ true = e in cc)

is_few : (n : ℕ) → n < 2 → nat_lt n 2 ≡ true
is_few n l = grind arith

none : (name first second : List ℕ) (k : Line) → k.count < 2 → program_of name first second k ≡ Program.Proved
none name first second k l = none_by (nat_lt k.count 2) _ (is_few k.count l)

-- ---- what is for no other program

dconfs_proved : (three watch path two blame has notes changing : Bool) → watch ≡ false → blame ≡ false →
    is_proved (dconfs_by three watch path two blame has notes changing) ≡ true
dconfs_proved three true path two blame has notes changing w b = absurd (let bad : true ≡ false = w in cc)
dconfs_proved three false path two true has notes changing w b = absurd (let bad : true ≡ false = b in cc)
dconfs_proved true false path true false has true true w b = refl
dconfs_proved true false path true false has true false w b = refl
dconfs_proved true false path true false has false changing w b = refl
dconfs_proved true false path false false has true true w b = refl
dconfs_proved true false path false false has true false w b = refl
dconfs_proved true false path false false has false changing w b = refl
dconfs_proved false false path true false has true true w b = refl
dconfs_proved false false path true false has true false w b = refl
dconfs_proved false false path true false has false changing w b = refl
dconfs_proved false false path false false has true true w b = refl
dconfs_proved false false path false false has true false w b = refl
dconfs_proved false false path false false has false changing w b = refl

own_proved : (watch lint : Bool) → watch ≡ false → lint ≡ false → is_proved (own_by watch lint) ≡ true
own_proved true lint w l = absurd (let bad : true ≡ false = w in cc)
own_proved false true w l = absurd (let bad : true ≡ false = l in cc)
own_proved false false w l = refl

by_proved : (few dconf three help : Bool) (x y z : Program) → is_proved x ≡ true → is_proved z ≡ true → help ≡ false →
    is_proved (by few dconf three help x y z) ≡ true
by_proved true dconf three help x y z p r h = refl
by_proved false true three help x y z p r h = p
by_proved false false three true x y z p r h = absurd (let bad : true ≡ false = h in cc)
by_proved false false true false x y z p r h = r
by_proved false false false false x y z p r h = r

other : (name first second : List ℕ) (k : Line) → bytes_eq first (codes "watch") ≡ false → bytes_eq first (codes "blame") ≡ false →
    bytes_eq first (codes "lint") ≡ false → bytes_eq first (codes "help") ≡ false → is_proved (program_of name first second k) ≡ true
other name first second k w b l h =
    by_proved (nat_lt k.count 2) (is_dconf name) (k.count == 3) (bytes_eq first (codes "help")) (dconfs_program first k) (helped (own_program second)) (own_program first)
    (dconfs_proved (k.count == 3) (bytes_eq first (codes "watch")) k.is_path (k.count == 2) (bytes_eq first (codes "blame")) k.has_blame (k.counts && k.is_noted) (changes first) w b)
    (own_proved (bytes_eq first (codes "watch")) (bytes_eq first (codes "lint")) w l) h

-- ---- who has none of the variables

bare : (is at counts : Bool) → is && not counts ≡ true → is && (at || not counts) ≡ true
bare true at true e = absurd (let bad : false ≡ true = e in cc)
bare true true false e = refl
bare true false false e = refl
bare false at counts e = absurd (let bad : false ≡ true = e in cc)

pub one_program_runs : OneProgramRuns
one_program_runs name first second k =
    record {
      noted = λ n. noted name first second k (unasked k.counts k.is_noted n);
      uncounted = λ c. noted name first second k (unheard k.counts k.is_noted c);
      bare = bare (is_proved (program_of name first second k)) k.is_at_home k.counts;
      none = none name first second k;
      other = other name first second k;
    }

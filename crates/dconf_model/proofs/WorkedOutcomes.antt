-- Worked runs: what commands answer.
use Rattle.std.specs.Prelude.{◌≡◌, ℕ, Bool, true, false, List, [], ◌∷◌, ◌++◌, length, Result, Ok, Err, Option, Some, None, codes, refl, if◌then◌else◌, replicate, map, nat_lt, not, ◌&&◌, ◌||◌}
use Rattle.std.proofs.Common.{inl, inr, arith, ◌∙◌, sym, ap}
use Rattle.std.specs.Str.{bytes_eq}
use Rattle.std.specs.FinMap.{get-empty, empty, keys, from_sorted, same_map, get-from_sorted, entries-from_sorted, slice_cmp-IsAntisymmetric, nat_cmp-IsAntisymmetric}
use Rattle.std.specs.Cmp.Lexicographic.{slice_cmp, nat_list_cmp_total}
use Rattle.std.specs.Ordering.{nat_cmp}
use Rattle.dconf_model.specs.Settings.{Settings, Lock, no_settings}
use Rattle.dconf_model.specs.Opening.OpenFault.{short}
use Rattle.dconf_model.specs.Commands.{Command}
use Rattle.dconf_model.specs.Commands.Command.{read, list, write, load, compile, repair}
use Rattle.dconf_model.specs.Reads.{Content, Input, steady, failing}
use Rattle.dconf_model.specs.Databases.Verdict.{no_database}
use Rattle.dconf_model.specs.Outcomes.{IsOutcome, refused, done, UnlessFailed, OrLine, Loads, dump_of, dump_skipping, with_value_if_any}
use Rattle.dconf_model.specs.Keyfiles.{Setting}
use Rattle.dconf_model.specs.Layers.{level}
use Rattle.dconf_model.specs.Lines.{longest_text}
use Rattle.dconf_model.specs.Sources.{loaded}
use Rattle.gv_model.specs.Tree.{Tree, depth}
use Rattle.gv_model.specs.Tree.Tree.{number}
use Rattle.gv_model.specs.Ty.Basic.{boolean, double}
use Rattle.gv_model.specs.Printed.{holds_double}
use Rattle.dconf_model.proofs.WorkedLines.{text_of}
use Rattle.dconf_model.proofs.WorkedSources.{meaning}

no_input : Input
no_input = record { bytes = []; fails = false }

-- a folder of one file; and of another beside it
unfoldable pub with_file : List ℕ → List ℕ → Content → Content
with_file name bytes content other = if bytes_eq other name then Some bytes else content other

unfoldable pub nothing_there : Content
nothing_there name = None

abbrev profile : List ℕ
profile = codes "profile"

unfoldable pub two_databases : Content
two_databases = with_file (codes "profile") (codes "user-db:me" ++ 10 ∷ codes "system-db:site") nothing_there

-- ---- words come first

bad_path : IsOutcome (write (codes "a/k") (codes "oops") profile) (steady nothing_there) no_input (refused (codes "NotAbsolute"))
unfolding meaning nothing_there
bad_path = refl

bad_value : IsOutcome (write (codes "/k") (codes "oops") profile) (steady nothing_there) no_input (refused (codes "BadToken at 0..4"))
unfolding meaning nothing_there
bad_value = refl

no_profile : IsOutcome (write (codes "/k") (codes "1") profile) (steady nothing_there) no_input (refused (codes "NoFile profile"))
unfolding meaning nothing_there
no_profile = refl

late_user : IsOutcome (read false (codes "/k") profile) (steady (with_file profile (codes "system-db:a" ++ 10 ∷ codes "user-db:b") nothing_there)) no_input
    (refused (codes "profile:2: UserNotFirst"))
unfolding meaning nothing_there with_file
late_user = refl

-- ---- input

failed_input : Input
failed_input = record { bytes = codes "[a]"; fails = true }

input_fails : IsOutcome (load false false (codes "/") profile) (steady two_databases) failed_input (refused (codes "Device input"))
unfolding meaning failed_input
input_fails = refl

bad_input : Input
bad_input = record { bytes = text_of (codes "[a]" ∷ codes "k=oops" ∷ []); fails = false }

input_at_fault : IsOutcome (load false false (codes "/") profile) (steady two_databases) bad_input (refused (codes "input:2: BadToken at 0..4"))
unfolding meaning bad_input
input_at_fault = refl

-- ---- reads that fail: the line names the file of the read

abbrev write_b : Command
write_b = write (codes "/b") (codes "1") profile

first_read_fails : IsOutcome write_b (failing 0 (steady two_databases)) no_input (refused (codes "Device profile"))
unfolding meaning two_databases with_file nothing_there
first_read_fails = refl

second_read_fails : IsOutcome write_b (failing 1 (steady two_databases)) no_input (refused (codes "Device me.user"))
unfolding meaning two_databases with_file nothing_there
second_read_fails = refl

third_read_fails : IsOutcome write_b (failing 2 (steady two_databases)) no_input (refused (codes "Device site.db"))
unfolding meaning two_databases with_file nothing_there
third_read_fails = refl

-- ---- a store without files

no_entries : from_sorted {K = List ℕ} {X = List ℕ} {R = slice_cmp nat_cmp} [] ≡ empty
no_entries = same_map nat_list_cmp_total (slice_cmp-IsAntisymmetric nat_cmp-IsAntisymmetric) _ _ (λ q. get-from_sorted (slice_cmp nat_cmp) [] q tt ∙ sym (get-empty (slice_cmp nat_cmp) q))

no_locks : from_sorted {K = List ℕ} {X = Lock} {R = slice_cmp nat_cmp} [] ≡ empty
no_locks = same_map nat_list_cmp_total (slice_cmp-IsAntisymmetric nat_cmp-IsAntisymmetric) _ _ (λ q. get-from_sorted (slice_cmp nat_cmp) [] q tt ∙ sym (get-empty (slice_cmp nat_cmp) q))

no_keys : keys {K = List ℕ} {X = List ℕ} {R = slice_cmp nat_cmp} empty ≡ []
no_keys = rw (← no_entries) (ap (map (λ e. e.0)) (entries-from_sorted (slice_cmp nat_cmp) [] tt))

no_lock_keys : keys {K = List ℕ} {X = Lock} {R = slice_cmp nat_cmp} empty ≡ []
no_lock_keys = rw (← no_locks) (ap (map (λ e. e.0)) (entries-from_sorted (slice_cmp nat_cmp) [] tt))

none_there : List Settings
none_there = no_settings ∷ no_settings ∷ []

empty_level : level (record { layers = no_settings ∷ no_settings ∷ []; writable = true }) (codes "/k") ≡ 0
empty_level = rw no_lock_keys refl

read_nothing : IsOutcome (read false (codes "/k") profile) (steady two_databases) no_input (done [])
unfolding meaning two_databases with_file nothing_there
read_nothing = inl (no_settings ∷ no_settings ∷ [], (refl, (refl, tt)), rw (empty_level, get-empty (slice_cmp nat_cmp) (codes "/k")) refl)

list_nothing : IsOutcome (list (codes "/") profile) (steady two_databases) no_input (done [])
unfolding meaning two_databases with_file nothing_there
list_nothing = inl (no_settings ∷ no_settings ∷ [], (refl, (refl, tt)), rw no_keys refl)

-- an empty profile
nobody : Content
nobody = with_file (codes "profile") [] nothing_there

read_nobody : IsOutcome (read false (codes "/k") profile) (steady nobody) no_input (done [])
unfolding meaning nobody with_file nothing_there
read_nobody = inl ([], tt, refl)

site_alone : Content
site_alone = with_file (codes "profile") (codes "system-db:site") nothing_there

write_site : IsOutcome (write (codes "/a/k") (codes "1") profile) (steady site_alone) no_input (refused (codes "NotWritable"))
unfolding meaning site_alone with_file nothing_there
write_site = inl (no_settings ∷ [], (refl, tt), refl)

-- ---- databases that don't open

short_file : List ℕ
short_file = codes "GVariant" ++ replicate 15 0

short_site : Content
short_site = with_file (codes "site.db") short_file two_databases

short_database : IsOutcome (read false (codes "/k") profile) (steady short_site) no_input (refused (codes "BadDatabase 1: Short"))
unfolding meaning short_site short_file two_databases with_file nothing_there
short_database = inr (1, no_database short, (tt, λ h. absurd (omega arith)), refl)

repair_short : IsOutcome (repair (codes "site.db") (codes "out")) (steady short_site) no_input (refused (codes "Short"))
unfolding meaning short_site short_file two_databases with_file nothing_there
repair_short = inl (short, (λ h. absurd (omega arith)), refl)

-- ---- compiling

keyfiles : Content
keyfiles = with_file (codes "10-b") (text_of (codes "[a]" ∷ codes "k=2" ∷ []))
    (with_file (codes "00-a") (text_of (codes "[a]" ∷ codes "k=oops" ∷ []))
    (with_file (codes "20-c") (text_of (codes "[a]" ∷ codes "nonsense" ∷ []))
    (with_file (codes "locks-a") (codes "/a/k") (with_file (codes "locks") (codes "/a//") nothing_there))))

bad_keyfile : IsOutcome (compile (codes "out") [] (codes "10-b" ∷ codes "00-a" ∷ [])) (steady keyfiles) no_input (refused (codes "00-a:2: BadToken at 0..4"))
unfolding meaning keyfiles with_file nothing_there
bad_keyfile = (_, refl, refl)

bad_line : IsOutcome (compile (codes "out") [] (codes "10-b" ∷ codes "20-c" ∷ [])) (steady keyfiles) no_input (refused (codes "20-c:2: BadLine"))
unfolding meaning keyfiles with_file nothing_there
bad_line = (_, refl, refl)

-- what isn't there comes before what is at fault
missing_keyfile : IsOutcome (compile (codes "out") [] (codes "10-b" ∷ codes "00-a" ∷ codes "30-d" ∷ [])) (steady keyfiles) no_input (refused (codes "NoFile 30-d"))
unfolding meaning keyfiles with_file nothing_there
missing_keyfile = refl

bad_lock : IsOutcome (compile (codes "out") (codes "locks" ∷ []) (codes "10-b" ∷ [])) (steady keyfiles) no_input (refused (codes "locks:1: LockNotKey"))
unfolding meaning keyfiles with_file nothing_there
bad_lock = (_, refl, refl)

-- of two lock files the second
second_bad_lock : IsOutcome (compile (codes "out") (codes "locks-a" ∷ codes "locks" ∷ []) (codes "10-b" ∷ [])) (steady keyfiles) no_input (refused (codes "locks:1: LockNotKey"))
unfolding meaning keyfiles with_file nothing_there
second_bad_lock = (_, refl, refl)

lock_file_fails : IsOutcome (compile (codes "out") (codes "locks" ∷ []) (codes "10-b" ∷ [])) (failing 1 (steady keyfiles)) no_input (refused (codes "Device locks"))
unfolding meaning keyfiles with_file nothing_there
lock_file_fails = refl

-- ---- input without end

endless : (input : Input) → nat_lt longest_text (length input.bytes) ≡ true → IsOutcome (load false false (codes "/") profile) (steady two_databases) input (refused (codes "input:0: TooBig"))
unfolding meaning two_databases
endless input long = go input.fails
  where
    go : (b : Bool) → UnlessFailed (b && not (nat_lt longest_text (length input.bytes))) (OrLine (codes "input") (loaded false (codes "/") input.bytes) (Loads (steady two_databases) profile false)) (refused (codes "input:0: TooBig"))
    go true = rw long refl
    go false = rw long refl

-- ---- dumps

unreadable_key : dump_of (codes "/") (codes "/a=b" ∷ []) (Ok (record { path = codes "/a=b"; text = codes "1" } ∷ [])) ≡ refused (codes "BadKeyName /a=b")
unfolding meaning
unreadable_key = refl

-- doubles, and other values at /a and at /a=b
abbrev double_mostly : List ℕ → Option Tree
double_mostly path = if bytes_eq path (codes "/a") || bytes_eq path (codes "/a=b") then Some (number boolean 1) else Some (number double 0)

abbrev printed_all : List (List ℕ) → Result (List Setting) (List ℕ)
printed_all paths = Ok (map (λ path. record { path = path; text = codes "true" }) paths)

double_is_named : dump_skipping true (codes "/") double_mostly printed_all (codes "/a" ∷ codes "/b/k" ∷ []) ≡ done (text_of (codes "# /b/k" ∷ codes "[/]" ∷ codes "a=true" ∷ []))
unfolding meaning holds_double depth
double_is_named = refl

-- a path that could be no row isn't named in a comment: a keyfile's reader would take its further lines for rows
double_at_no_row : dump_skipping true (codes "/") double_mostly printed_all (codes "/a" ∷ (codes "/x" ++ 10 ∷ codes "[b]/k") ∷ []) ≡ refused (codes "BadGroup /x" ++ 10 ∷ codes "[b]/k")
unfolding meaning holds_double depth
double_at_no_row = refl

-- the first in the order of the paths refuses the dump, whether or not its value is a double
first_at_no_row : dump_skipping true (codes "/") double_mostly printed_all (codes "/#k" ∷ codes "/a=b" ∷ []) ≡ refused (codes "BadKeyName /#k")
unfolding meaning holds_double depth
first_at_no_row = refl

next_at_no_row : dump_skipping true (codes "/") double_mostly printed_all (codes "/a=b" ∷ codes "/b=c" ∷ []) ≡ refused (codes "BadKeyName /a=b")
unfolding meaning holds_double depth
next_at_no_row = refl

double_value : with_value_if_any (codes "/x") (Some (number double 0)) (Ok []) ≡ Err (codes "DoubleText /x")
unfolding meaning holds_double
double_value = refl

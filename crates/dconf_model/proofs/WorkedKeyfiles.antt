-- Worked keyfiles and dumps.
use Rattle.std.specs.Prelude.{◌≡◌, ℕ, List, [], ◌∷◌, ◌++◌, Ok, Err, codes, refl, map}
use Rattle.dconf_model.specs.Causes.SettingsCause.{bad_line, no_group, bad_group, bad_key_name}
use Rattle.dconf_model.specs.Lines.{fault_at_line}
use Rattle.dconf_model.specs.Order.{listing}
use Rattle.dconf_model.specs.Keyfiles.{Row, Setting, rows_of, path_of, dumped, in_dump_order, setting_of}
use Rattle.dconf_model.proofs.WorkedLines.{reading, text_of}

lines_read : List (List ℕ) → List ℕ
lines_read ls = text_of ls

abbrev read_at : ℕ → List ℕ → List ℕ → List ℕ → Row
read_at n g k t = record { line = n; group = g; key = k; text = t }

two_groups : rows_of (text_of (codes "[a]" ∷ codes "k=1" ∷ codes "j = 3 " ∷ codes "  # c" ∷ [] ∷ codes "[/]" ∷ codes "r='x'" ∷ []))
    ≡ Ok (read_at 2 (codes "a") (codes "k") (codes "1") ∷ read_at 3 (codes "a") (codes "j") (codes "3") ∷ read_at 7 (codes "/") (codes "r") (codes "'x'") ∷ [])
unfolding reading text_of
two_groups = refl

locale_key : rows_of (text_of (codes "[a]" ∷ codes "k[de]=1" ∷ [])) ≡ fault_at_line 2 bad_key_name
unfolding reading text_of
locale_key = refl

before_a_group : rows_of (text_of (codes "k=1" ∷ [])) ≡ fault_at_line 1 no_group
unfolding reading text_of
before_a_group = refl

nonsense_before_a_group : rows_of (text_of (codes "nonsense" ∷ [])) ≡ fault_at_line 1 bad_line
unfolding reading text_of
nonsense_before_a_group = refl

group_with_slash : rows_of (text_of (codes "[/a]" ∷ [])) ≡ fault_at_line 1 bad_group
unfolding reading text_of
group_with_slash = refl

lone_bracket : rows_of (codes "[") ≡ fault_at_line 1 bad_group
unfolding reading
lone_bracket = refl

-- a carriage return is a blank at the end of a line alone
carriage_return_before : rows_of (text_of (codes "[a]" ∷ (codes "k" ++ 13 ∷ codes "=1") ∷ [])) ≡ fault_at_line 2 bad_key_name
unfolding reading text_of
carriage_return_before = refl

windows_lines : rows_of (text_of ((codes "[a]" ++ 13 ∷ []) ∷ (codes "k=1" ++ 13 ∷ []) ∷ (13 ∷ []) ∷ [])) ≡ Ok (read_at 2 (codes "a") (codes "k") (codes "1") ∷ [])
unfolding reading text_of
windows_lines = refl

-- a byte order mark begins a line that has no `=`
byte_order_mark : rows_of (text_of ((239 ∷ 187 ∷ 191 ∷ codes "[a]") ∷ [])) ≡ fault_at_line 1 bad_line
unfolding reading text_of
byte_order_mark = refl

blank_group : rows_of (text_of (codes "[ ]" ∷ codes "k=" ∷ [])) ≡ Ok (read_at 2 (codes " ") (codes "k") [] ∷ [])
unfolding reading text_of
blank_group = refl

path_in_root : path_of (codes "/z/") (read_at 2 (codes "/") (codes "r") []) ≡ codes "/z/r"
path_in_root = refl

path_in_group : path_of (codes "/") (read_at 2 (codes "a/b") (codes "r") []) ≡ codes "/a/b/r"
path_in_group = refl

-- ---- dumps

abbrev setting : List ℕ → List ℕ → Setting
setting p t = record { path = p; text = t }

dump_of_root : dumped (codes "/") (setting (codes "/a/b/k") (codes "uint32 5") ∷ setting (codes "/x") (codes "'hi'") ∷ [])
    ≡ Ok (text_of (codes "[/]" ∷ codes "x='hi'" ∷ [] ∷ codes "[a/b]" ∷ codes "k=uint32 5" ∷ []))
unfolding reading text_of
dump_of_root = refl

dump_of_directory : dumped (codes "/a/") (setting (codes "/a/b/k") (codes "uint32 5") ∷ []) ≡ Ok (text_of (codes "[b]" ∷ codes "k=uint32 5" ∷ []))
unfolding reading text_of
dump_of_directory = refl

dump_of_nothing : dumped (codes "/") [] ≡ Ok []
dump_of_nothing = refl

-- groups in byte order, though the paths are not: `/a/z` after `/a/b/k`
groups_in_order : dumped (codes "/") (setting (codes "/a/b/k") (codes "1") ∷ setting (codes "/a/z") (codes "2") ∷ setting (codes "/a/b/c") (codes "3") ∷ [])
    ≡ Ok (text_of (codes "[a]" ∷ codes "z=2" ∷ [] ∷ codes "[a/b]" ∷ codes "c=3" ∷ codes "k=1" ∷ []))
unfolding reading text_of
groups_in_order = refl

key_with_equals : dumped (codes "/") (setting (codes "/a=b") (codes "1") ∷ []) ≡ Err (record { row = 0; cause = bad_key_name })
unfolding reading
key_with_equals = refl

group_first : dumped (codes "/") (setting (codes "/x") [] ∷ setting (codes "/a]/b=c") [] ∷ []) ≡ Err (record { row = 1; cause = bad_group })
unfolding reading
group_first = refl

names_once : listing (codes "k" ∷ codes "j" ∷ codes "k" ∷ []) ≡ codes "j" ∷ codes "k" ∷ []
names_once = refl

-- ---- a dump is read again

some_settings : List Setting
some_settings = setting (codes "/a/b/k") (codes "1") ∷ setting (codes "/a/z") (codes "2") ∷ setting (codes "/a/b/c") (codes "3") ∷ []

some_dump : List ℕ
some_dump = text_of (codes "[/]" ∷ codes "z=2" ∷ [] ∷ codes "[b]" ∷ codes "c=3" ∷ codes "k=1" ∷ [])

some_dumped : dumped (codes "/a/") some_settings ≡ Ok some_dump
unfolding reading text_of some_settings some_dump
some_dumped = refl

in_order_again : in_dump_order (codes "/a/") some_settings ≡ setting (codes "/a/z") (codes "2") ∷ setting (codes "/a/b/c") (codes "3") ∷ setting (codes "/a/b/k") (codes "1") ∷ []
unfolding reading some_settings
in_order_again = refl

read_again : (rows : List Row) × (rows_of some_dump ≡ Ok rows) × (map (setting_of (codes "/a/")) rows ≡ in_dump_order (codes "/a/") some_settings)
unfolding reading text_of some_settings some_dump
read_again = (_, refl, refl)

-- ---- why a dump is read again only where its settings may be dumped

-- a blank at the end of a value's text is lost
blank_is_dumped : dumped (codes "/") (setting (codes "/k") (codes "1 ") ∷ []) ≡ Ok (text_of (codes "[/]" ∷ codes "k=1 " ∷ []))
unfolding reading text_of
blank_is_dumped = refl

blank_is_lost : rows_of (text_of (codes "[/]" ∷ codes "k=1 " ∷ [])) ≡ Ok (read_at 2 (codes "/") (codes "k") (codes "1") ∷ [])
unfolding reading text_of
blank_is_lost = refl

-- a zero byte and a line feed make lines that are refused
zero_byte_is_refused : rows_of (text_of (codes "[/]" ∷ (codes "k=" ++ 0 ∷ []) ∷ [])) ≡ fault_at_line 2 bad_line
unfolding reading text_of
zero_byte_is_refused = refl

line_feed_is_refused : rows_of (text_of (codes "[/]" ∷ codes "k=1" ∷ codes "2" ∷ [])) ≡ fault_at_line 3 bad_line
unfolding reading text_of
line_feed_is_refused = refl

-- of a text that is no path the part may be a slash, which is the directory's own group
slashes_are_dumped : dumped (codes "/a/") (setting (codes "/a///k") (codes "1") ∷ []) ≡ Ok (text_of (codes "[/]" ∷ codes "k=1" ∷ []))
unfolding reading text_of
slashes_are_dumped = refl

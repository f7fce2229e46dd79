-- What a row of a dump is, where its setting may be dumped and no fault was found: it can be written, and read again.
use Rattle.std.specs.Prelude.{◌≡◌, ℕ, ◌+◌, ◌-◌, ◌<◌, Bool, true, false, not, ◌&&◌, ◌==◌, List, [], ◌∷◌, ◌++◌, length, take, drop, Option, Some, None, refl, map, if◌then◌else◌, nat_eq}
use Rattle.std.specs.List.{AllByRecursion, starts_with}
use Rattle.std.specs.Str.{IsUtf8}
use Rattle.std.specs.Cmp.Lexicographic.{bytes_decides}
use Rattle.std.proofs.Common.{sym, ap, subst, ◌∙◌, inl, inr, ◌⊎◌, arith, reverse, get_or, append_assoc}
use Rattle.std.proofs.lemmas.Bool.{true≢false, and_parts, not-true, not-false, eqb-true, cases_lt, or_right}
use Rattle.std.proofs.lemmas.Option.{none-some}
use Rattle.std.proofs.lemmas.List.{take-append-drop, drop_more, length-reverse, get_or-reverse, get_or_at, take_at, length-append}
use Rattle.std.proofs.lemmas.List.Sums.{prefix_len_stops}
use Rattle.std.proofs.lemmas.List.Elements.{All-from_recursion, recursion_from_All}
use Rattle.std.proofs.lemmas.List.Sorted.{All-permutation}
use Rattle.std.proofs.lemmas.Str.{IsUtf8-from_is_utf8, IsUtf8-nil, IsUtf8-take, IsUtf8-drop, IsCharBoundary-before_ascii, IsCharBoundary-after_ascii}
use Rattle.dconf_model.specs.Paths.{has_two_slashes, is_directory_path, is_path, ends_with_slash, starts_with_slash, is_short}
use Rattle.gv_model.specs.Texts.{has_zero_byte}
use Rattle.dconf_model.specs.Order.{in_order}
use Rattle.dconf_model.specs.Causes.{SettingsCause}
use Rattle.dconf_model.specs.Causes.SettingsCause.{bad_group, bad_key_name}
use Rattle.dconf_model.specs.Keyfiles.{DumpRow, Setting, MayBeDumped, RowFault, key_len, dump_row, group_name, is_group, is_readable_key, row_fault, or_later, first_row_fault, in_groups}
use Rattle.dconf_model.proofs.Trimmed.{past}
use Rattle.dconf_model.proofs.KeyfileLines.{KeyParts, TextParts, key_parts, text_parts}
use Rattle.dconf_model.proofs.OrderLaws.{in_order_permutes}

pub record Writes (r : DumpRow) : Type 0 where
  pub group : is_group (group_name r.part) ≡ true
  pub key : KeyParts r.key
  pub text : TextParts r.text
  pub apart : r.part ≡ 47 ∷ [] → ⊥
  pub part_utf8 : IsUtf8 r.part
  pub key_utf8 : IsUtf8 r.key
  pub text_utf8 : IsUtf8 r.text

-- ---- the last slash

abbrev pub part_of : List ℕ → List ℕ
part_of rest = take (length rest - key_len rest - 1) rest

abbrev pub key_of : List ℕ → List ℕ
key_of rest = drop (length rest - key_len rest) rest

slash_before : (rest : List ℕ) → key_len rest < length rest → get_or rest (length rest - key_len rest - 1) 0 ≡ 47
slash_before rest lt =
    let long = length-reverse rest in
    let stops = prefix_len_stops (λ c. not (c == 47)) (reverse rest) 0 (omega (arith, long, lt)) in
    let same : length rest - 1 - key_len rest ≡ length rest - key_len rest - 1 = omega arith in
    ap (λ n. get_or rest n 0) (sym same) ∙ sym (get_or-reverse rest (key_len rest) 0 lt) ∙ eqb-true _ 47 (not-false _ stops)

pub split_key : (rest : List ℕ) → ((part_of rest ≡ []) × (key_of rest ≡ rest)) ⊎ (rest ≡ part_of rest ++ 47 ∷ key_of rest)
split_key rest = elim (cases_lt (key_len rest) (length rest)) [
  | inl lt ↦
      let i : ℕ = length rest - key_len rest - 1 in
      let more = drop_more rest i 0 (omega (arith, lt)) in
      let next : i + 1 ≡ length rest - key_len rest = omega (arith, lt) in
      inr (sym (take-append-drop i rest) ∙ ap (λ l. take i rest ++ l) (more ∙ (λ j. slash_before rest lt j ∷ drop (next j) rest)))
  | inr le ↦
      let none : length rest - key_len rest - 1 ≡ 0 = omega (arith, le) in
      let zero_len : length rest - key_len rest ≡ 0 = omega (arith, le) in
      inl (ap (λ n. take n rest) none, ap (λ n. drop n rest) zero_len)
]

-- ---- below a directory

pub below : (directory path : List ℕ) → is_directory_path directory ≡ true → starts_with nat_eq path directory ≡ true →
    (earlier : List ℕ) × (path ≡ earlier ++ 47 ∷ drop (length directory) path)
below directory path d s =
    let m : ℕ = length directory - 1 in
    let slash = (bytes_decides (47 ∷ []) (drop m directory)).0 (and_parts (is_path directory) (ends_with_slash directory) d).1 in
    let whole : directory ≡ take m directory ++ 47 ∷ [] = sym (take-append-drop m directory) ∙ ap (λ l. take m directory ++ l) (sym slash) in
    let begins = (bytes_decides directory (take (length directory) path)).0 s in
    let rest : List ℕ = drop (length directory) path in
    (take m directory, sym (take-append-drop (length directory) path) ∙ ap (λ l. l ++ rest) (sym begins ∙ whole) ∙ append_assoc (take m directory) (47 ∷ []) rest)

pub two_slashes : (xs ys : List ℕ) → has_two_slashes (xs ++ 47 ∷ 47 ∷ ys) ≡ true
unfolding has_two_slashes
two_slashes [] ys = refl
two_slashes (x ∷ []) ys = or_right (x == 47 && true) _ refl
two_slashes (x ∷ y ∷ xs) ys = or_right (x == 47 && y == 47) _ (two_slashes (y ∷ xs) ys)

pub no_two_slashes : (path : List ℕ) → is_path path ≡ true → has_two_slashes path ≡ false
no_two_slashes path e =
    let outer = and_parts (starts_with_slash path && not (has_zero_byte path) && not (has_two_slashes path)) (is_short path) e in
    not-true _ (and_parts (starts_with_slash path && not (has_zero_byte path)) (not (has_two_slashes path)) outer.0).1

nil_no_slash : (l : List ℕ) → l ≡ [] → l ≡ 47 ∷ [] → ⊥
nil_no_slash l e f = let none = ap length e in let one = ap length f in omega (arith, none, one)

part_apart : (earlier rest path : List ℕ) → path ≡ earlier ++ 47 ∷ rest → is_path path ≡ true → part_of rest ≡ 47 ∷ [] → ⊥
part_apart earlier rest path whole p e = elim (split_key rest) [
  | inl alone ↦ nil_no_slash (part_of rest) alone.0 e
  | inr slashed ↦
      let two : path ≡ earlier ++ 47 ∷ 47 ∷ (47 ∷ key_of rest) = whole ∙ ap (λ l. earlier ++ 47 ∷ l) (slashed ∙ ap (λ l. l ++ 47 ∷ key_of rest) e) in
      true≢false (sym (ap has_two_slashes two ∙ two_slashes earlier (47 ∷ key_of rest)) ∙ no_two_slashes path p)
]

-- ---- parts of a text between slashes

utf8_parts : (xs ys : List ℕ) → IsUtf8 (xs ++ 47 ∷ ys) → IsUtf8 xs × IsUtf8 ys
utf8_parts xs ys u =
    let all : List ℕ = xs ++ 47 ∷ ys in
    let long = length-append xs (47 ∷ ys) in
    let slash = get_or_at xs 47 ys 0 (length xs) refl in
    let within : length xs < length all = omega (arith, long) in
    let small : get_or all (length xs) 0 < 128 = omega (arith, slash) in (
      subst IsUtf8 (take_at xs (47 ∷ ys) (length xs) refl) (IsUtf8-take all (length xs) u (IsCharBoundary-before_ascii all (length xs) within small)),
      subst IsUtf8 (past xs 47 ys) (IsUtf8-drop all (length xs + 1) u (IsCharBoundary-after_ascii all (length xs) u within small)),
    )

utf8_row : (rest : List ℕ) → IsUtf8 rest → IsUtf8 (part_of rest) × IsUtf8 (key_of rest)
utf8_row rest u = elim (split_key rest) [
  | inl alone ↦ (subst IsUtf8 (sym alone.0) IsUtf8-nil, subst IsUtf8 (sym alone.1) u)
  | inr slashed ↦ utf8_parts (part_of rest) (key_of rest) (subst IsUtf8 slashed u)
]

-- ---- rows without a fault

pub no_row_fault : (a b : Bool) → (if not a then Some bad_group else if not b then Some bad_key_name else None) ≡ None → (a ≡ true) × (b ≡ true)
no_row_fault true true e = (refl, refl)
no_row_fault true false e = absurd (none-some bad_key_name (sym e))
no_row_fault false b e = absurd (none-some bad_group (sym e))

pub writes_one : (directory : List ℕ) (x : Setting) → is_directory_path directory ≡ true → MayBeDumped directory x → row_fault (dump_row directory x) ≡ None → Writes (dump_row directory x)
writes_one directory x d may none =
    let rest : List ℕ = drop (length directory) x.path in
    let good = no_row_fault (is_group (group_name (part_of rest))) (is_readable_key (key_of rest)) none in
    let under = below directory x.path d may.below in
    let parts = utf8_parts under.0 rest (subst IsUtf8 under.1 (IsUtf8-from_is_utf8 x.path may.utf8.0)) in
    let texts = utf8_row rest parts.1 in
    record {
      group = good.0;
      key = key_parts (key_of rest) good.1;
      text = text_parts x.text may.line;
      apart = part_apart under.0 rest x.path under.1 (and_parts (is_path x.path) _ may.path).0;
      part_utf8 = texts.0;
      key_utf8 = texts.1;
      text_utf8 = IsUtf8-from_is_utf8 x.text may.utf8.1;
    }

later_fault : (n : ℕ) (o : Option SettingsCause) (later : Option RowFault) → or_later n o later ≡ None → (o ≡ None) × (later ≡ None)
later_fault n (Some c) later e = absurd (none-some _ (sym e))
later_fault n None later e = (refl, e)

pub writes_all : (directory : List ℕ) (n : ℕ) (settings : List Setting) → is_directory_path directory ≡ true → AllByRecursion (MayBeDumped directory) settings →
    first_row_fault n (map (dump_row directory) settings) ≡ None → AllByRecursion Writes (map (dump_row directory) settings)
writes_all directory n [] d may e = tt
writes_all directory n (x ∷ settings) d may e =
    let both = later_fault n (row_fault (dump_row directory x)) (first_row_fault (n + 1) (map (dump_row directory) settings)) e in
    (writes_one directory x d may.0 both.0, writes_all directory (n + 1) settings d may.1 both.1)

pub writes_in_groups : (rows : List DumpRow) → AllByRecursion Writes rows → AllByRecursion Writes (in_groups rows)
writes_in_groups rows w =
    let by_key : List DumpRow = in_order (λ r. r.key) rows in
    recursion_from_All Writes (in_groups rows) (All-permutation Writes by_key (in_groups rows) (in_order_permutes (λ r. r.part) by_key)
    (All-permutation Writes rows by_key (in_order_permutes (λ r. r.key) rows) (All-from_recursion Writes rows w)))

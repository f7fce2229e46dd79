-- What a dump prints is read again, its comment lines and all.
use Rattle.std.specs.Prelude.{◌≡◌, ℕ, ◌+◌, ◌-◌, ◌≤◌, suc, Bool, true, false, not, ◌&&◌, ◌==◌, cond, nat_eq, nat_lt, List, [], ◌∷◌, ◌++◌, length, take, drop, codes, Option, Some, None, Result, Ok, Err, refl, map, filter, is_some, option_map, Contains, IsUtf8}
use Rattle.std.specs.List.{AllByRecursion, prefix_len, suffix_len, starts_with}
use Rattle.std.specs.Str.{is_utf8}
use Rattle.std.specs.Cmp.Lexicographic.{bytes_decides}
use Rattle.std.proofs.Common.{sym, ap, subst, ◌∙◌, inl, inr, arith, reverse, append_assoc}
use Rattle.std.proofs.lemmas.Bool.{true≢false, and_parts, le-ltb, ne_eqb, not-true}
use Rattle.std.proofs.lemmas.Str.{is_utf8-from_IsUtf8, IsUtf8-append, IsUtf8-nil}
use Rattle.std.proofs.lemmas.List.{take-append-drop, reverse-append, length-reverse, length-append}
use Rattle.std.proofs.lemmas.Option.{none-some}
use Rattle.std.proofs.lemmas.List.Folds.{list_any-append}
use Rattle.dconf_model.specs.Causes.{SettingsCause}
use Rattle.dconf_model.specs.Paths.{is_directory_path, is_key_path}
use Rattle.dconf_model.specs.Layers.{Layers, all_paths, has_value, paths_below, visible}
use Rattle.dconf_model.specs.Locks.{is_below}
use Rattle.dconf_model.specs.Lines.{longest_text, without_start, is_space, is_line_blank}
use Rattle.dconf_model.specs.Lines.LineReading.{nothing}
use Rattle.dconf_model.specs.Keyfiles.{DumpRow, Setting, MayBeDumped, dump_row, dumped_or, first_row_fault, group_name, in_dump_order, in_groups, is_group, is_readable_key, line_kind, line_read, or_later, row_fault, rows_of, setting_of, text_after, without_blanks}
use Rattle.dconf_model.specs.Doubles.{comment_lines, has_line_feed, is_double_if_any, left_out, not_left_out}
use Rattle.dconf_model.specs.Outcomes.{Outcome, done, dump_of, dump_output, first_refusal, or_next, row_refusal, settings_at, with_lines, with_setting, with_value_if_any, print_fault}
use Rattle.gv_model.specs.Tree.{Tree}
use Rattle.dconf_model.specs.FaultTexts.{about, cause_text}
use Rattle.dconf_model.specs.Lines.{read_after}
use Rattle.dconf_model.specs.Keyfiles.{Row}
use Rattle.dconf_model.proofs.DumpLaws.{GivesRows, ReadAgain, silent, lines_give}
use Rattle.dconf_model.proofs.DumpLines.{dump_lines, text_is, dump_feedless, dump_utf8}
use Rattle.dconf_model.proofs.DumpedRows.{Writes, part_of, key_of, split_key, no_row_fault, writes_all, writes_in_groups}
use Rattle.dconf_model.proofs.EndedLines.{ended, ended-append, HasNoFeed, lines_of-ended}
use Rattle.dconf_model.proofs.KeyfileLines.{read_one, is_special, key_parts, group_feedless}
use Rattle.dconf_model.proofs.LayerPaths.{layers_have_key_paths, layers_have_texts}
use Rattle.dconf_model.proofs.Listings.{first_or_later, has_first, has_later, listing_from, none_of_none}
use Rattle.dconf_model.proofs.PathMaps.{no_truth}
use Rattle.dconf_model.proofs.RisingTexts.{kept_is_there, there_is_kept}
use Rattle.dconf_model.proofs.StringTexts.{one_byte}
use Rattle.dconf_model.proofs.Trimmed.{no_such_byte}
use Rattle.dconf_model.proofs.WalkedSettings.{both_tests}
use Rattle.dconf_model.specs.Dumps.{FitsOnLine, PrintedReadsAsDumped, ReadsAs}

-- ---- a comment line

-- the first byte isn't dropped at the end
kept_at_start : (f : ℕ → Bool) (ys : List ℕ) (c : ℕ) → f c ≡ false → prefix_len f (ys ++ c ∷ []) ≤ length ys
kept_at_start f [] c e = rw e (omega arith)
kept_at_start f (y ∷ ys) c e = go (f y) (kept_at_start f ys c e)
  where
    go : (b : Bool) → prefix_len f (ys ++ c ∷ []) ≤ length ys → cond b (1 + prefix_len f (ys ++ c ∷ [])) 0 ≤ suc (length ys)
    go true h = omega (arith, h)
    go false h = omega arith

comment_starts : (s : List ℕ) → (t : List ℕ) × (without_blanks (35 ∷ s) ≡ 35 ∷ t)
comment_starts s =
    let turned : reverse (35 ∷ s) ≡ reverse s ++ 35 ∷ [] = reverse-append (35 ∷ []) s in
    let few = subst (λ l. prefix_len is_line_blank l ≤ length (reverse s)) (sym turned) (kept_at_start is_line_blank (reverse s) 35 refl) in
    let long = length-reverse s in
    let n : ℕ = suffix_len is_line_blank (35 ∷ s) in
    let left : length (35 ∷ s) - n ≡ suc (length s - n) = omega (arith, few, long) in
    (take (length s - n) s, ap (λ k. without_start is_space (take k (35 ∷ s))) left)

abbrev comment : List ℕ → List ℕ
comment path = codes "# " ++ path

read_comment : (earlier : List (List ℕ)) (path : List ℕ) → read_one earlier (comment path) ≡ nothing
read_comment earlier path =
    let start = comment_starts (32 ∷ path) in
    let filled : (length (35 ∷ start.0) == 0) ≡ false = ne_eqb (length (35 ∷ start.0)) 0 (λ e. omega (arith, e)) in
    ap (λ s. line_read (line_kind s) earlier s) start.1 ∙ (rw filled refl)

comments_end : (paths : List (List ℕ)) → comment_lines paths ≡ ended (map comment paths)
comments_end [] = refl
comments_end (path ∷ paths) =
    ap (λ l. 35 ∷ 32 ∷ l) (append_assoc path (10 ∷ []) (comment_lines paths)) ∙ ap (λ l. comment path ++ 10 ∷ l) (comments_end paths)

-- ---- lines behind comments

module _ (directory : List ℕ) where
  comments_give : (outs : List (List ℕ)) (earlier : List (List ℕ)) (rows : List DumpRow) → AllByRecursion Writes rows
      → GivesRows directory earlier (map comment outs ++ dump_lines None rows) rows
  comments_give [] earlier rows w = lines_give directory rows None earlier w tt
  comments_give (path ∷ outs) earlier rows w =
      silent directory earlier (comment path) (map comment outs ++ dump_lines None rows) rows (read_comment earlier path)
      (comments_give outs (earlier ++ comment path ∷ []) rows w)

  lines_again : (lines : List (List ℕ)) (rows : List DumpRow) → AllByRecursion HasNoFeed lines → IsUtf8 (ended lines) → length (ended lines) ≤ longest_text
      → GivesRows directory [] lines rows → ReadAgain directory rows (ended lines)
  lines_again lines rows feedless utf8 fits given =
      let small : nat_lt longest_text (length (ended lines)) ≡ false = le-ltb longest_text (length (ended lines)) fits in
      let text : is_utf8 (ended lines) ≡ true = is_utf8-from_IsUtf8 (ended lines) utf8 in
      let whole : rows_of (ended lines) ≡ read_after read_one [] lines = rw (small, text) (ap (read_after read_one []) (lines_of-ended lines feedless)) in
      (given.0, whole ∙ given.1, given.2)

-- a path whose comment is a line
IsNamed : List ℕ → Type 0
IsNamed path = HasNoFeed path × IsUtf8 path

both_feedless : (ls ms : List (List ℕ)) → AllByRecursion HasNoFeed ls → AllByRecursion HasNoFeed ms → AllByRecursion HasNoFeed (ls ++ ms)
both_feedless [] ms h k = k
both_feedless (l ∷ ls) ms h k = (h.0, both_feedless ls ms h.1 k)

comments_feedless : (outs : List (List ℕ)) → AllByRecursion IsNamed outs → AllByRecursion HasNoFeed (map comment outs)
unfolding IsNamed
comments_feedless [] h = tt
comments_feedless (path ∷ outs) h = (h.0.0, comments_feedless outs h.1)

comments_utf8 : (outs : List (List ℕ)) → AllByRecursion IsNamed outs → IsUtf8 (ended (map comment outs))
unfolding IsNamed
comments_utf8 [] h = IsUtf8-nil
comments_utf8 (path ∷ outs) h =
    IsUtf8-append (comment path) (10 ∷ ended (map comment outs))
    (IsUtf8-append (35 ∷ 32 ∷ []) path (IsUtf8-append (35 ∷ []) (32 ∷ []) (one_byte 35 (omega arith)) (one_byte 32 (omega arith))) h.0.1)
    (IsUtf8-append (10 ∷ []) (ended (map comment outs)) (one_byte 10 (omega arith)) (comments_utf8 outs h.1))

module _ (directory : List ℕ) (outs : List (List ℕ)) (rows : List DumpRow) (named : AllByRecursion IsNamed outs) (w : AllByRecursion Writes rows) where
  -- comments and a dump are read again as its rows
  whole_again : (text : List ℕ) → length text ≤ longest_text → text ≡ comment_lines outs ++ text_after None rows → ReadAgain directory rows text
  whole_again text fits e =
      let lines : List (List ℕ) = map comment outs ++ dump_lines None rows in
      let whole : text ≡ ended lines =
      e ∙ ((λ i. comments_end outs i ++ text_is None rows i) ∙ sym (ended-append (map comment outs) (dump_lines None rows))) in
      let utf8 = subst IsUtf8 (sym (ended-append (map comment outs) (dump_lines None rows)))
      (IsUtf8-append (ended (map comment outs)) (ended (dump_lines None rows)) (comments_utf8 outs named) (dump_utf8 None rows w)) in
      subst (ReadAgain directory rows) (sym whole)
      (lines_again directory lines rows (both_feedless (map comment outs) (dump_lines None rows) (comments_feedless outs named) (dump_feedless None rows w))
      utf8 (subst (λ t. length t ≤ longest_text) whole fits) (comments_give directory outs [] rows w))

-- ---- what is known of a path that isn't refused

nameless : List ℕ → Setting
nameless path = record { path = path; text = [] }

record CanBeRow (directory path : List ℕ) : Type 0 where
  below : starts_with nat_eq path directory ≡ true
  key : is_key_path path ≡ true
  utf8 : IsUtf8 path
  row : row_fault (dump_row directory (record { path = path; text = [] })) ≡ None

none_refused : (directory : List ℕ) (paths : List (List ℕ)) (path : List ℕ) → first_refusal directory paths ≡ None → Contains paths path → row_refusal directory path ≡ None
none_refused directory [] path e c = absurd (none_of_none path c)
none_refused directory (p ∷ paths) path e c = go (row_refusal directory p) refl e (none_refused directory paths path)
  where
    go : (o : Option (List ℕ)) → row_refusal directory p ≡ o → or_next o (first_refusal directory paths) ≡ None
        → (first_refusal directory paths ≡ None → Contains paths path → row_refusal directory path ≡ None) → row_refusal directory path ≡ None
    go (Some why) same e others = absurd (none-some why (sym e))
    go None same e others = elim (first_or_later p paths path c) [
      | inl here ↦ subst (λ q. row_refusal directory q ≡ None) here same
      | inr later ↦ others e later
    ]

no_fault : (path : List ℕ) (o : Option SettingsCause) → option_map (λ cause. about (cause_text cause) path) o ≡ None → o ≡ None
no_fault path None e = refl
no_fault path (Some cause) e = absurd (none-some (about (cause_text cause) path) (sym e))

-- no line feed in it, if there is none in the directory
row_is_named : (directory path : List ℕ) → is_directory_path directory ≡ true → has_line_feed directory ≡ false → CanBeRow directory path → IsNamed path
unfolding IsNamed
row_is_named directory path d one_line can =
    let rest : List ℕ = drop (length directory) path in
    let good = no_row_fault (is_group (group_name (part_of rest))) (is_readable_key (key_of rest)) can.row in
    let begins : directory ≡ take (length directory) path = (bytes_decides directory (take (length directory) path)).0 can.below in
    let whole : path ≡ directory ++ rest = sym (take-append-drop (length directory) path) ∙ ap (λ l. l ++ rest) (sym begins) in
    let key : HasNoFeed (key_of rest) = no_such_byte is_special 10 (key_of rest) refl (key_parts (key_of rest) good.1).special in
    let part : HasNoFeed (part_of rest) = part_feedless (part_of rest) (group_feedless (group_name (part_of rest)) good.0) in
    let behind : HasNoFeed rest = elim (split_key rest) [
      | inl alone ↦ subst HasNoFeed alone.1 key
      | inr slashed ↦ subst HasNoFeed (sym slashed) (rw (list_any-append (λ c. c == 10) (part_of rest) (47 ∷ key_of rest), part) key)
    ] in
    (subst HasNoFeed (sym whole) (rw (list_any-append (λ c. c == 10) directory rest, one_line) behind), can.utf8)
  where
    part_feedless : (part : List ℕ) → HasNoFeed (group_name part) → HasNoFeed part
    part_feedless [] h = refl
    part_feedless (c ∷ part) h = go (length (c ∷ part) == 0) (ne_eqb (length (c ∷ part)) 0 (λ e. omega (arith, e))) h
      where
        go : (b : Bool) → b ≡ false → HasNoFeed (cond b (codes "/") (c ∷ part)) → HasNoFeed (c ∷ part)
        go true e h = absurd (true≢false e)
        go false e h = h

-- ---- the settings that are dumped

abbrev or_none : Result (List Setting) (List ℕ) → List Setting
or_none (Ok settings) = settings
or_none (Err why) = []

abbrev is_done : Result (List Setting) (List ℕ) → Bool
is_done (Ok settings) = true
is_done (Err why) = false

module _ (l : Layers) (P : List ℕ → Type 0) where
  -- what holds of the paths that are seen holds of those of the settings
  of_settings : (paths : List (List ℕ)) → ((path : List ℕ) → Contains paths path → is_some (visible l path) ≡ true → P path) →
      (settings : List Setting) → settings_at l paths ≡ Ok settings → AllByRecursion (λ (x : Setting). P x.path) settings
  of_settings [] holds settings e = subst (AllByRecursion (λ (x : Setting). P x.path)) (ap or_none e) tt
  of_settings (path ∷ paths) holds settings e =
      go (visible l path) refl e (of_settings paths (λ p c seen. holds p (has_later path paths p c) seen))
    where
      behind : (v : Tree) (r : Result (List Setting) (List ℕ)) → settings_at l paths ≡ r → P path → ((s : List Setting) → settings_at l paths ≡ Ok s → AllByRecursion (λ (x : Setting). P x.path) s)
          → with_setting None path v r ≡ Ok settings → AllByRecursion (λ (x : Setting). P x.path) settings
      behind v (Ok s) same here later e = subst (AllByRecursion (λ (x : Setting). P x.path)) (ap or_none e) (here, later s same)
      behind v (Err why) same here later e = absurd (true≢false (sym (ap is_done e)))

      printed_one : (v : Tree) (why : Option (List ℕ)) → P path → ((s : List Setting) → settings_at l paths ≡ Ok s → AllByRecursion (λ (x : Setting). P x.path) s)
          → with_setting why path v (settings_at l paths) ≡ Ok settings → AllByRecursion (λ (x : Setting). P x.path) settings
      printed_one v (Some why) here later e = absurd (true≢false (sym (ap is_done e)))
      printed_one v None here later e = behind v (settings_at l paths) refl here later e

      go : (o : Option Tree) → visible l path ≡ o → with_value_if_any path o (settings_at l paths) ≡ Ok settings
          → ((s : List Setting) → settings_at l paths ≡ Ok s → AllByRecursion (λ (x : Setting). P x.path) s) → AllByRecursion (λ (x : Setting). P x.path) settings
      go None none e later = later settings e
      go (Some v) some e later = printed_one v (print_fault v) (holds path (has_first path paths) (ap is_some some)) later e

module _ (directory : List ℕ) where
  rows_none : (n : ℕ) (settings : List Setting) → AllByRecursion (λ (x : Setting). CanBeRow directory x.path) settings → first_row_fault n (map (dump_row directory) settings) ≡ None
  rows_none n [] all = refl
  rows_none n (x ∷ settings) all = ap (λ o. or_later n o (first_row_fault (n + 1) (map (dump_row directory) settings))) all.0.row ∙ rows_none (n + 1) settings all.1

  may_be_dumped : (settings : List Setting) → AllByRecursion (λ (x : Setting). CanBeRow directory x.path) settings → AllByRecursion FitsOnLine settings → AllByRecursion (MayBeDumped directory) settings
  may_be_dumped [] all fit = tt
  may_be_dumped (x ∷ settings) all fit =
      (record { below = all.0.below; path = all.0.key; utf8 = (is_utf8-from_IsUtf8 x.path all.0.utf8, fit.0.utf8); line = fit.0.line }, may_be_dumped settings all.1 fit.1)

  -- ---- what was done

  record WasDone (paths : List (List ℕ)) (lines : List ℕ) (r : Result (List Setting) (List ℕ)) (text : List ℕ) : Type 0 where
    settings : List Setting
    printed : r ≡ Ok settings
    faultless : first_refusal directory paths ≡ None
    whole : text ≡ lines ++ text_after None (in_groups (map (dump_row directory) settings))

  was_done : (paths : List (List ℕ)) (lines : List ℕ) (r : Result (List Setting) (List ℕ)) (text : List ℕ) → with_lines lines (dump_of directory paths r) ≡ done text → WasDone paths lines r text
  was_done paths lines (Err why) text e = absurd (let status : 1 ≡ 0 = ap (λ (o : Outcome). o.output.status) e in omega (arith, status))
  was_done paths lines (Ok settings) text e = go (first_refusal directory paths) refl e
    where
      go : (o : Option (List ℕ)) → first_refusal directory paths ≡ o → with_lines lines (dump_output directory settings o) ≡ done text → WasDone paths lines (Ok settings) text
      go (Some why) same e = absurd (let status : 1 ≡ 0 = ap (λ (o : Outcome). o.output.status) e in omega (arith, status))
      go None same e = record { settings = settings; printed = refl; faultless = same; whole = sym (ap (λ (o : Outcome). o.output.out) e) }

-- ---- the law

all_of : (P : List ℕ → Type 0) (paths : List (List ℕ)) → ((path : List ℕ) → Contains paths path → P path) → AllByRecursion P paths
all_of P [] holds = tt
all_of P (path ∷ paths) holds = (holds path (has_first path paths), all_of P paths (λ p c. holds p (has_later path paths p c)))

double_is_seen : (skips : Bool) (o : Option Tree) → (skips && is_double_if_any o) ≡ true → (skips ≡ true) × (is_some o ≡ true)
double_is_seen true None e = (refl, e)
double_is_seen true (Some v) e = (refl, refl)
double_is_seen false o e = absurd (no_truth e)

pub printed_reads_as_dumped : PrintedReadsAsDumped
printed_reads_as_dumped items l skip directory text layers d fits e =
    let skips : Bool = skip && not (has_line_feed directory) in
    let paths : List (List ℕ) = paths_below l directory in
    let seen : List ℕ → Bool = λ path. is_some (visible l path) in
    let outs : List (List ℕ) = left_out skips (visible l) paths in
    let others : List (List ℕ) = not_left_out skips (visible l) paths in
    let is = was_done directory (filter seen paths) (comment_lines outs) (settings_at l others) text e in
    let asked : List ℕ → Bool = λ path. cond (is_below path directory) (has_value l path) false in
    let can : (path : List ℕ) → Contains paths path → is_some (visible l path) ≡ true → CanBeRow directory path = λ path c there.
    let kept = kept_is_there asked (all_paths l.layers) path (listing_from (filter asked (all_paths l.layers)) path c) in
    record {
      below = (both_tests (is_below path directory) (has_value l path) kept.1).0;
      key = layers_have_key_paths items l.layers layers path kept.0;
      utf8 = layers_have_texts items l.layers layers path kept.0;
      row = no_fault path (row_fault (dump_row directory (record { path = path; text = [] }))) (none_refused directory (filter seen paths) path is.faultless (there_is_kept seen paths path c there));
    } in
    let rows : List DumpRow = map (dump_row directory) is.settings in
    let all = of_settings l (CanBeRow directory) others (λ path c there. can path (kept_is_there (λ p. not (skips && is_double_if_any (visible l p))) paths path c).0 there) is.settings is.printed in
    let none = rows_none directory 0 is.settings all in
    let named = all_of IsNamed outs (λ path c.
    let out = kept_is_there (λ p. skips && is_double_if_any (visible l p)) paths path c in
    let double = double_is_seen skips (visible l path) out.1 in
    row_is_named directory path d (not-true (has_line_feed directory) (and_parts skip (not (has_line_feed directory)) double.0).1) (can path out.0 double.1)) in
    let whole = λ (lines : List (List ℕ)) (each : AllByRecursion IsNamed lines) (t : List ℕ) (few : length t ≤ longest_text) (same : t ≡ comment_lines lines ++ text_after None (in_groups rows)) (fit : AllByRecursion FitsOnLine is.settings).
    let written = writes_all directory 0 is.settings d (may_be_dumped directory is.settings all fit) none in
    let again = whole_again directory lines (in_groups rows) each (writes_in_groups rows written) t few same in
    reads_as directory t (in_dump_order directory is.settings) again.0 again.1 again.2 in
    let rest : List ℕ = text_after None (in_groups rows) in
    record {
      settings = is.settings;
      seen = is.printed;
      rest = rest;
      dumps = ap (λ o. dumped_or o rows) none;
      lines = is.whole;
      reads = whole outs named text fits is.whole;
      rest_reads = whole [] tt rest (shorter (comment_lines outs) rest (subst (λ t. length t ≤ longest_text) is.whole fits)) refl;
    }
  where
    reads_as : (directory t : List ℕ) (settings : List Setting) (out : List Row) → rows_of t ≡ Ok out → map (setting_of directory) out ≡ settings → ReadsAs directory t settings
    reads_as directory t settings out read are = record { rows = out; read = read; are = are }

    shorter : (xs ys : List ℕ) → length (xs ++ ys) ≤ longest_text → length ys ≤ longest_text
    shorter xs ys h = let long = length-append xs ys in omega (arith, long, h)

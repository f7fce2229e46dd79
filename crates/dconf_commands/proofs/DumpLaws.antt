-- A dump that is put together key by key.
use Rattle.std.specs.Prelude.{Contains, IsTrue, codes, is_none, is_ok, is_some, nat_eq, not, option_map, slice_get, unwrap_or, ◌&&◌}
use Rattle.std.proofs.Common.{◌≡◌, ◌+◌, ℕ, suc, Bool, true, false, cond, List, [], ◌∷◌, ◌++◌, map, Option, Some, None, Result, Ok, Err, refl, sym, ap, ◌∙◌, subst, arith, append-nil, append_assoc}
use Rattle.std.specs.List.{All, filter, starts_with}
use Rattle.std.specs.Option.{option_and_then}
use Rattle.std.specs.Borrow.{Bor}
use Rattle.std.proofs.lemmas.Option.{slice_get-map}
use Rattle.std.proofs.lemmas.List.Elements.{All-append, All-nil, All-cons, All-head, All-tail, All-same, All-weaker, All-contains_itself}
use Rattle.gv_model.specs.Tree.{Tree}
use Rattle.gv_model.specs.Printed.{printed}
use Rattle.gv_model.proofs.ListLaws.{nil_no_cons, same_head, same_tail}
use Rattle.std.proofs.lemmas.Bool.{true≢false}
use Rattle.std.proofs.lemmas.List.{map-append}
use Rattle.keyfile_core.specs.DumpRows.{AreAllBelow}
use Rattle.dconf_model.specs.Causes.{SettingsCause}
use Rattle.dconf_model.specs.Doubles.{comment_lines, has_line_feed, is_double, is_double_if_any, left_out, not_left_out}
use Rattle.dconf_model.specs.FaultTexts.{about, cause_text}
use Rattle.dconf_model.specs.Keyfiles.{RowFault, Setting, dump_row, dumped, dumped_or, first_row_fault, or_later, row_fault}
use Rattle.dconf_model.specs.Layers.{Layers, all_paths, paths_below, visible, visible_bytes}
use Rattle.dconf_model.specs.Locks.{is_below}
use Rattle.dconf_model.specs.Outcomes.{Outcome, done, dump_at, dump_of, dump_output, first_refusal, or_next, path_at, print_fault, refused, row_refusal, setting_paths, settings_at, with_lines, with_setting, with_value_if_any}
use Rattle.dconf_model.specs.Values.{held_value}
use Rattle.dconf_model.specs.Walks.{keys_below}
use Rattle.dconf_model.proofs.Listings.{listing_from}
use Rattle.dconf_model.proofs.PathMaps.{and_false}
use Rattle.dconf_model.proofs.RisingTexts.{kept_is_there}
use Rattle.dconf_model.proofs.WalkedSettings.{walk_has_the_others, walk_has_the_seen, walk_leaves_out}
use Rattle.dconf_layers.specs.declared.seen.SeenKey.{SeenKey}
use Rattle.dconf_layers.specs.Children.{seen_path, seen_row, shown_at}
use Rattle.dconf_commands.specs.declared.printed_setting.PrintedSetting.{PrintedSetting}
use Rattle.dconf_commands.specs.Dumps.{IsSeen, dump_onto, setting_of, with_earlier}

-- ---- paths that could be no rows

abbrev text_or_none : Result (List ℕ) RowFault → List ℕ
text_or_none (Ok text) = text
text_or_none (Err f) = []

abbrev fault_or : RowFault → Result (List ℕ) RowFault → RowFault
fault_or other (Ok text) = other
fault_or other (Err f) = f

-- one that could be a row changes nothing
refusal_skips : (directory : List ℕ) (xs : List (List ℕ)) (path : List ℕ) (ys : List (List ℕ)) → row_refusal directory path ≡ None
    → first_refusal directory (xs ++ path ∷ ys) ≡ first_refusal directory (xs ++ ys)
refusal_skips directory [] path ys none = ap (λ why. or_next why (first_refusal directory ys)) none
refusal_skips directory (x ∷ xs) path ys none = ap (or_next (row_refusal directory x)) (refusal_skips directory xs path ys none)

-- another refuses, if none before it does
refusal_comes : (directory : List ℕ) (xs : List (List ℕ)) (path : List ℕ) (ys : List (List ℕ)) (why : List ℕ) → row_refusal directory path ≡ Some why
    → (w : List ℕ) × (first_refusal directory (xs ++ path ∷ ys) ≡ Some w)
refusal_comes directory [] path ys why some = (why, ap (λ w. or_next w (first_refusal directory ys)) some)
refusal_comes directory (x ∷ xs) path ys why some = go (row_refusal directory x) (refusal_comes directory xs path ys why some)
  where
    go : (o : Option (List ℕ)) → ((w : List ℕ) × (first_refusal directory (xs ++ path ∷ ys) ≡ Some w)) → (w : List ℕ) × (or_next o (first_refusal directory (xs ++ path ∷ ys)) ≡ Some w)
    go (Some w) later = (w, refl)
    go None later = later

-- the first row at fault is that of the first path that is refused
module _ (directory : List ℕ) where
  abbrev RefusesLike : ℕ → List (List ℕ) → Option RowFault → Type 0
  RefusesLike n paths None = first_refusal directory paths ≡ None
  RefusesLike n paths (Some f) = (k : ℕ) × (f.row ≡ n + k) × (first_refusal directory paths ≡ Some (about (cause_text f.cause) (path_at paths k)))

  refuses_like : (n : ℕ) (settings : List Setting) → RefusesLike n (setting_paths settings) (first_row_fault n (map (dump_row directory) settings))
  refuses_like n [] = refl
  refuses_like n (x ∷ settings) = go (row_fault (dump_row directory x)) refl (refuses_like (n + 1) settings)
    where
      first : Option SettingsCause → Option (List ℕ)
      first fault = or_next (option_map (λ cause. about (cause_text cause) x.path) fault) (first_refusal directory (setting_paths settings))

      later : (o : Option RowFault) → RefusesLike (n + 1) (setting_paths settings) o → row_fault (dump_row directory x) ≡ None → RefusesLike n (x.path ∷ setting_paths settings) o
      later None same e = ap first e ∙ same
      later (Some f) same e = (suc same.0, omega (arith, same.1), ap first e ∙ same.2)

      go : (o : Option SettingsCause) → row_fault (dump_row directory x) ≡ o → RefusesLike (n + 1) (setting_paths settings) (first_row_fault (n + 1) (map (dump_row directory) settings))
          → RefusesLike n (x.path ∷ setting_paths settings) (or_later n o (first_row_fault (n + 1) (map (dump_row directory) settings)))
      go None e same = later (first_row_fault (n + 1) (map (dump_row directory) settings)) same e
      go (Some cause) e same = (0, omega arith, ap first e)

  -- settings that are written are dumped
  pub written_is : (settings : List Setting) (text : List ℕ) → dumped directory settings ≡ Ok text → dump_of directory (setting_paths settings) (Ok settings) ≡ done text
  written_is settings text = go (first_row_fault 0 (map (dump_row directory) settings)) (refuses_like 0 settings)
    where
      go : (o : Option RowFault) → RefusesLike 0 (setting_paths settings) o → dumped_or o (map (dump_row directory) settings) ≡ Ok text
          → dump_of directory (setting_paths settings) (Ok settings) ≡ done text
      go None same e = ap (dump_output directory settings) same ∙ ap (λ r. done (text_or_none r)) e
      go (Some f) same e = absurd (true≢false (sym (ap is_ok e)))

  pub unwritten_is : (settings : List Setting) (f : RowFault) → dumped directory settings ≡ Err f
      → dump_of directory (setting_paths settings) (Ok settings) ≡ refused (about (cause_text f.cause) (path_at (setting_paths settings) f.row))
  unwritten_is settings f = go (first_row_fault 0 (map (dump_row directory) settings)) (refuses_like 0 settings)
    where
      go : (o : Option RowFault) → RefusesLike 0 (setting_paths settings) o → dumped_or o (map (dump_row directory) settings) ≡ Err f
          → dump_of directory (setting_paths settings) (Ok settings) ≡ refused (about (cause_text f.cause) (path_at (setting_paths settings) f.row))
      go None same e = absurd (true≢false (ap is_ok e))
      go (Some g) same e =
          let at : g.row ≡ same.0 = omega (arith, same.1) in
          ap (dump_output directory settings) same.2
          ∙ ap (λ n. refused (about (cause_text g.cause) (path_at (setting_paths settings) n))) (sym at)
          ∙ ap (λ r. refused (about (cause_text (fault_or g r).cause) (path_at (setting_paths settings) (fault_or g r).row))) e

-- ---- one more key

with_earlier_one : (earlier : List Setting) (x : Setting) (r : Result (List Setting) (List ℕ)) → with_earlier (earlier ++ x ∷ []) r ≡ with_earlier earlier (with_earlier (x ∷ []) r)
with_earlier_one earlier x (Ok settings) = ap (λ (s : List Setting). Ok s) (append_assoc earlier (x ∷ []) settings)
with_earlier_one earlier x (Err why) = refl

more_paths : (earlier : List Setting) (x : Setting) (paths : List (List ℕ)) → setting_paths (earlier ++ x ∷ []) ++ paths ≡ setting_paths earlier ++ x.path ∷ paths
more_paths [] x paths = refl
more_paths (y ∷ earlier) x paths = ap (λ (l : List (List ℕ)). y.path ∷ l) (more_paths earlier x paths)

-- a dump that is refused has no comment lines
same_refusal : (lines others : List ℕ) (directory : List ℕ) (paths : List (List ℕ)) (w : List ℕ) (earlier more : List Setting) (r : Result (List Setting) (List ℕ)) → first_refusal directory paths ≡ Some w
    → with_lines lines (dump_of directory paths (with_earlier more r)) ≡ with_lines others (dump_of directory paths (with_earlier earlier r))
same_refusal lines others directory paths w earlier more (Ok settings) e =
    ap (λ o. with_lines lines (dump_output directory (more ++ settings) o)) e ∙ sym (ap (λ o. with_lines others (dump_output directory (earlier ++ settings) o)) e)
same_refusal lines others directory paths w earlier more (Err why) e = refl

module _ (skips : Bool) (l : Layers) (directory : List ℕ) where
  abbrev seen_at : List (List ℕ) → List (List ℕ)
  seen_at paths = filter (λ path. is_some (visible l path)) paths

  -- what is dumped, by what is seen at the next key, and whether it is left out
  abbrev dump_next : List ℕ → List Setting → List ℕ → List (List ℕ) → Option Tree → Bool → Outcome
  dump_next comments earlier path later seen left =
      with_lines (comments ++ comment_lines (cond left (path ∷ left_out skips (visible l) later) (left_out skips (visible l) later)))
      (dump_of directory (setting_paths earlier ++ cond (is_some seen) (path ∷ seen_at later) (seen_at later))
      (with_earlier earlier (settings_at l (cond (not left) (path ∷ not_left_out skips (visible l) later) (not_left_out skips (visible l) later)))))

  next_is : (comments : List ℕ) (earlier : List Setting) (path : List ℕ) (later : List (List ℕ)) (seen : Option Tree) (left : Bool)
      → visible l path ≡ seen → (skips && is_double_if_any seen) ≡ left → dump_onto skips l directory comments earlier (path ∷ later) ≡ dump_next comments earlier path later seen left
  next_is comments earlier path later seen left e same =
      ap (λ (o : Option Tree). dump_next comments earlier path later o (skips && is_double_if_any o)) e ∙ ap (dump_next comments earlier path later seen) same

  -- nothing is seen at it
  pub nothing_seen : (comments : List ℕ) (earlier : List Setting) (path : List ℕ) (later : List (List ℕ)) → visible l path ≡ None
      → dump_onto skips l directory comments earlier later ≡ dump_onto skips l directory comments earlier (path ∷ later)
  nothing_seen comments earlier path later none =
      let others = not_left_out skips (visible l) later in
      sym (next_is comments earlier path later None false none (and_false skips false refl)
      ∙ ap (λ seen. with_lines (comments ++ comment_lines (left_out skips (visible l) later)) (dump_of directory (setting_paths earlier ++ seen_at later)
      (with_earlier earlier (with_value_if_any path seen (settings_at l others))))) none)

  -- its value is printed
  pub value_printed : (comments : List ℕ) (earlier : List Setting) (path : List ℕ) (later : List (List ℕ)) (v : Tree) → visible l path ≡ Some v → (skips && is_double v) ≡ false → print_fault v ≡ None
      → dump_onto skips l directory comments (earlier ++ record { path = path; text = printed v true } ∷ []) later ≡ dump_onto skips l directory comments earlier (path ∷ later)
  value_printed comments earlier path later v is other prints =
      let x : Setting = record { path = path; text = printed v true } in
      let rest = settings_at l (not_left_out skips (visible l) later) in
      let out = comments ++ comment_lines (left_out skips (visible l) later) in
      ap (λ paths. with_lines out (dump_of directory paths (with_earlier (earlier ++ x ∷ []) rest))) (more_paths earlier x (seen_at later))
      ∙ ap (λ r. with_lines out (dump_of directory (setting_paths earlier ++ path ∷ seen_at later) r)) (with_earlier_one earlier x rest ∙ ap (with_earlier earlier) (one_more rest))
      ∙ ap (λ why. with_lines out (dump_of directory (setting_paths earlier ++ path ∷ seen_at later) (with_earlier earlier (with_setting why path v rest)))) (sym prints)
      ∙ ap (λ seen. with_lines out (dump_of directory (setting_paths earlier ++ path ∷ seen_at later) (with_earlier earlier (with_value_if_any path seen rest)))) (sym is)
      ∙ sym (next_is comments earlier path later (Some v) false is other)
    where
      one_more : (r : Result (List Setting) (List ℕ)) → with_earlier (record { path = path; text = printed v true } ∷ []) r ≡ with_setting None path v r
      one_more (Ok settings) = refl
      one_more (Err why) = refl

  -- its value isn't
  pub value_refused : (comments : List ℕ) (earlier : List Setting) (path : List ℕ) (later : List (List ℕ)) (v : Tree) (why : List ℕ) → visible l path ≡ Some v → (skips && is_double v) ≡ false
      → print_fault v ≡ Some why → refused (about why path) ≡ dump_onto skips l directory comments earlier (path ∷ later)
  value_refused comments earlier path later v why is other fails =
      let rest = settings_at l (not_left_out skips (visible l) later) in
      let out = comments ++ comment_lines (left_out skips (visible l) later) in
      sym (next_is comments earlier path later (Some v) false is other
      ∙ ap (λ seen. with_lines out (dump_of directory (setting_paths earlier ++ path ∷ seen_at later) (with_earlier earlier (with_value_if_any path seen rest)))) is
      ∙ ap (λ why. with_lines out (dump_of directory (setting_paths earlier ++ path ∷ seen_at later) (with_earlier earlier (with_setting why path v rest)))) fails)

  pub at_last : (comments : List ℕ) (settings : List Setting)
      → dump_onto skips l directory comments settings [] ≡ with_lines comments (dump_of directory (setting_paths settings) (Ok settings))
  at_last comments settings = rw (append-nil comments, append-nil settings, append-nil (setting_paths settings)) refl

  pub at_first : (skip : Bool) (paths : List (List ℕ)) → skips ≡ (skip && not (has_line_feed directory)) → dump_onto skips l directory [] [] paths ≡ dump_at skip directory l paths
  at_first skip paths e = ap (λ b. dump_onto b l directory [] [] paths) e ∙ go (settings_at l (not_left_out (skip && not (has_line_feed directory)) (visible l) paths))
    where
      go : (r : Result (List Setting) (List ℕ)) → with_lines (comment_lines (left_out (skip && not (has_line_feed directory)) (visible l) paths)) (dump_of directory (seen_at paths) (with_earlier [] r))
          ≡ with_lines (comment_lines (left_out (skip && not (has_line_feed directory)) (visible l) paths)) (dump_of directory (seen_at paths) r)
      go (Ok settings) = refl
      go (Err why) = refl

  pub as_walked : dump_at skips directory l (keys_below (all_paths l.layers) directory) ≡ dump_at skips directory l (paths_below l directory)
  as_walked =
      let named = skips && not (has_line_feed directory) in
      rw (walk_leaves_out named l directory, walk_has_the_others named l directory, walk_has_the_seen named l directory) refl

-- ---- a key that is left out

module _ (l : Layers) (directory : List ℕ) (path : List ℕ) (later : List (List ℕ)) (double : is_double_if_any (visible l path) ≡ true) where
  is_there : (o : Option Tree) → is_double_if_any o ≡ true → is_some o ≡ true
  is_there None e = e
  is_there (Some v) e = refl

  left_next : (comments : List ℕ) (earlier : List Setting) → dump_onto true l directory comments earlier (path ∷ later)
      ≡ with_lines (comments ++ comment_lines (path ∷ left_out true (visible l) later))
      (dump_of directory (setting_paths earlier ++ path ∷ seen_at true l directory later) (with_earlier earlier (settings_at l (not_left_out true (visible l) later))))
  left_next comments earlier =
      next_is true l directory comments earlier path later (visible l path) true refl double
      ∙ ap (λ b. with_lines (comments ++ comment_lines (path ∷ left_out true (visible l) later))
      (dump_of directory (setting_paths earlier ++ cond b (path ∷ seen_at true l directory later) (seen_at true l directory later)) (with_earlier earlier (settings_at l (not_left_out true (visible l) later)))))
      (is_there (visible l path) double)

  pub named_in_comment : (comments : List ℕ) (earlier : List Setting) → row_refusal directory path ≡ None
      → dump_onto true l directory (comments ++ comment_lines (path ∷ [])) earlier later ≡ dump_onto true l directory comments earlier (path ∷ later)
  named_in_comment comments earlier none =
      let lines = comment_lines (left_out true (visible l) later) in
      let whole : (comments ++ comment_lines (path ∷ [])) ++ lines ≡ comments ++ comment_lines (path ∷ left_out true (visible l) later) =
      append_assoc comments (comment_lines (path ∷ [])) lines ∙ ap (λ text. comments ++ text) (ap (λ first. first ++ lines) (append-nil (codes "# " ++ (path ++ 10 ∷ [])))) in
      ap (λ text. with_lines text (dump_of directory (setting_paths earlier ++ seen_at true l directory later) (with_earlier earlier (settings_at l (not_left_out true (visible l) later))))) whole
      ∙ same (with_earlier earlier (settings_at l (not_left_out true (visible l) later)))
      ∙ sym (left_next comments earlier)
    where
      same : (r : Result (List Setting) (List ℕ)) → with_lines (comments ++ comment_lines (path ∷ left_out true (visible l) later)) (dump_of directory (setting_paths earlier ++ seen_at true l directory later) r)
          ≡ with_lines (comments ++ comment_lines (path ∷ left_out true (visible l) later)) (dump_of directory (setting_paths earlier ++ path ∷ seen_at true l directory later) r)
      same (Err why) = refl
      same (Ok settings) = ap (λ why. with_lines (comments ++ comment_lines (path ∷ left_out true (visible l) later)) (dump_output directory settings why))
          (sym (refusal_skips directory (setting_paths earlier) path (seen_at true l directory later) none))

  pub refused_at_its_turn : (comments : List ℕ) (earlier : List Setting) (text why : List ℕ) → row_refusal directory path ≡ Some why
      → dump_onto true l directory comments (earlier ++ record { path = path; text = text } ∷ []) later ≡ dump_onto true l directory comments earlier (path ∷ later)
  refused_at_its_turn comments earlier text why some =
      let x : Setting = record { path = path; text = text } in
      let rest = settings_at l (not_left_out true (visible l) later) in
      let first = refusal_comes directory (setting_paths earlier) path (seen_at true l directory later) why some in
      ap (λ paths. with_lines (comments ++ comment_lines (left_out true (visible l) later)) (dump_of directory paths (with_earlier (earlier ++ x ∷ []) rest))) (more_paths earlier x (seen_at true l directory later))
      ∙ same_refusal (comments ++ comment_lines (left_out true (visible l) later)) (comments ++ comment_lines (path ∷ left_out true (visible l) later))
      directory (setting_paths earlier ++ path ∷ seen_at true l directory later) first.0 earlier (earlier ++ x ∷ []) rest first.1
      ∙ sym (left_next comments earlier)

-- ---- a key that is left out, as it is added to the parts

could_be_row : (directory path : List ℕ) (b : Bool) → b ≡ is_none (row_fault (dump_row directory (record { path = path; text = [] }))) → b ≡ true → row_refusal directory path ≡ None
could_be_row directory path b is e = go (row_fault (dump_row directory (record { path = path; text = [] }))) (sym is ∙ e)
  where
    go : (o : Option SettingsCause) → is_none o ≡ true → option_map (λ cause. about (cause_text cause) path) o ≡ None
    go None e = refl
    go (Some cause) e = absurd (true≢false (sym e))

could_be_none : (directory path : List ℕ) (b : Bool) → b ≡ is_none (row_fault (dump_row directory (record { path = path; text = [] }))) → b ≡ false
    → (why : List ℕ) × (row_refusal directory path ≡ Some why)
could_be_none directory path b is e = go (row_fault (dump_row directory (record { path = path; text = [] }))) (sym is ∙ e)
  where
    go : (o : Option SettingsCause) → is_none o ≡ false → (why : List ℕ) × (option_map (λ cause. about (cause_text cause) path) o ≡ Some why)
    go None e = absurd (true≢false e)
    go (Some cause) e = (about (cause_text cause) path, refl)

module _ (l : Layers) (directory path : List ℕ) (later : List (List ℕ)) (double : is_double_if_any (visible l path) ≡ true) (b : Bool)
    (is : b ≡ is_none (row_fault (dump_row directory (record { path = path; text = [] })))) where
  pub comment_added : (comments new : List ℕ) (earlier : List Setting) → b ≡ true → new ≡ comments ++ comment_lines (path ∷ [])
      → dump_onto true l directory new earlier later ≡ dump_onto true l directory comments earlier (path ∷ later)
  comment_added comments new earlier row e =
      ap (λ text. dump_onto true l directory text earlier later) e ∙ named_in_comment l directory path later double comments earlier (could_be_row directory path b is row)

  pub no_row_added : (comments : List ℕ) (items new : List PrintedSetting) (x : PrintedSetting) → b ≡ false → setting_of x ≡ record { path = path; text = [] } → new ≡ items ++ x ∷ []
      → dump_onto true l directory comments (map setting_of new) later ≡ dump_onto true l directory comments (map setting_of items) (path ∷ later)
  no_row_added comments items new x none same e =
      let why = could_be_none directory path b is none in
      ap (λ settings. dump_onto true l directory comments settings later)
      (ap (map setting_of) e ∙ (map-append setting_of items (x ∷ []) ∙ ap (λ (s : Setting). map setting_of items ++ s ∷ []) same))
      ∙ refused_at_its_turn l directory path later double comments (map setting_of items) [] why.0 why.1

pub one_more_below : (directory path text : List ℕ) (items new : List PrintedSetting) (x : PrintedSetting) → setting_of x ≡ record { path = path; text = text } → new ≡ items ++ x ∷ []
    → IsTrue (starts_with nat_eq path directory) → AreAllBelow setting_of directory items → AreAllBelow setting_of directory new
one_more_below directory path text items new x same e starts all =
    let P = λ (x : PrintedSetting). IsTrue (starts_with nat_eq (setting_of x).path directory) in
    All-same P new (items ++ x ∷ []) e (All-append P items (x ∷ []) all (All-cons P x [] (subst (λ (s : Setting). IsTrue (starts_with nat_eq s.path directory)) (sym same) starts) (All-nil P)))

-- ---- what is seen at a key

module _ (l : Layers) (key : SeenKey) (is : IsSeen l key) where
  pub none_seen : key.bytes ≡ None → visible l (seen_path key) ≡ None
  none_seen none = ap (option_and_then held_value) (sym is ∙ ap (option_map (λ bytes. bytes.now)) none)

  pub some_seen : (bytes : Bor (List ℕ)) (v : Tree) → key.bytes ≡ Some bytes → held_value bytes.now ≡ Some v → visible l (seen_path key) ≡ Some v
  some_seen bytes v some held = ap (option_and_then held_value) (sym is ∙ ap (option_map (λ bytes. bytes.now)) some) ∙ held

-- what holds of keys that are left holds of the next, and of those behind it
pub first_of_all : {X : Type 0} (P : X → Type 0) (all rest : List X) (x : X) → all ≡ x ∷ rest → All P all → P x × All P rest
first_of_all P all rest x cut holds =
    let parts = subst (All P) cut holds in (All-head P x rest parts, All-tail P x rest parts)

-- ---- the path of a row

path_of : Option PrintedSetting → List ℕ
path_of found = unwrap_or (option_map (λ (s : Setting). s.path) (option_map setting_of found)) []

at_row : (settings : List PrintedSetting) (row : ℕ) → path_at (setting_paths (map setting_of settings)) row ≡ path_of (slice_get settings row)
unfolding path_of
at_row settings row =
    ap (λ (o : Option (List ℕ)). unwrap_or o []) (slice_get-map (λ (s : Setting). s.path) (map setting_of settings) row
    ∙ ap (option_map (λ (s : Setting). s.path)) (slice_get-map setting_of settings row))

pub row_path : (settings : List PrintedSetting) (row : ℕ) (x : PrintedSetting) → slice_get settings row ≡ Some x
    → (setting_of x).path ≡ path_at (setting_paths (map setting_of settings)) row
unfolding path_of
row_path settings row x e = sym (at_row settings row ∙ ap path_of e)

pub no_row_path : (settings : List PrintedSetting) (row : ℕ) → slice_get settings row ≡ None → ◌≡◌ {A = List ℕ} [] (path_at (setting_paths (map setting_of settings)) row)
unfolding path_of
no_row_path settings row e = sym (at_row settings row ∙ ap path_of e)

-- ---- the keys that a walk found

module _ (l : Layers) where
  pub all_seen : (keys : List SeenKey) (paths : List (List ℕ)) → map seen_row keys ≡ map (shown_at l) paths → All (IsSeen l) keys × (map seen_path keys ≡ paths)
  all_seen [] [] e = (All-nil (IsSeen l), refl)
  all_seen [] (path ∷ paths) e = absurd (nil_no_cons e)
  all_seen (key ∷ keys) [] e = absurd (nil_no_cons (sym e))
  all_seen (key ∷ keys) (path ∷ paths) e =
      let row = same_head e in
      let is : seen_path key ≡ path = ap (λ r. r.0) row in
      let later = all_seen keys paths (same_tail e) in
      (All-cons (IsSeen l) key keys (ap (λ r. r.1) row ∙ ap (visible_bytes l) (sym is)) later.0, λ i. is i ∷ later.1 i)

unmapped : {X Y : Type 0} (f : X → Y) (P : Y → Type 0) (xs : List X) → All P (map f xs) → All (λ x. P (f x)) xs
unmapped f P [] all = All-nil (λ x. P (f x))
unmapped f P (x ∷ xs) all = All-cons (λ x. P (f x)) x xs (All-head P (f x) (map f xs) all) (unmapped f P xs (All-tail P (f x) (map f xs) all))

pub found_are_below : (paths : List (List ℕ)) (directory : List ℕ) (keys : List SeenKey) → map seen_path keys ≡ keys_below paths directory
    → All (λ key. IsTrue (starts_with nat_eq (seen_path key) directory)) keys
found_are_below paths directory keys e =
    let found : List (List ℕ) = keys_below paths directory in
    let P = λ (path : List ℕ). IsTrue (starts_with nat_eq path directory) in
    unmapped seen_path P keys (All-same P (map seen_path keys) found e
    (All-weaker (Contains found) P (λ path c. (kept_is_there (λ p. is_below p directory) paths path (listing_from (filter (λ p. is_below p directory) paths) path c)).1)
    found (All-contains_itself found)))

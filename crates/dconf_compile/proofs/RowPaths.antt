-- The path of a keyfile's row is that of a key, unless it is too long.
use Rattle.std.proofs.Common.{◌≡◌, ◌<◌, ◌-◌, ℕ, Bool, true, false, ◌&&◌, ◌||◌, not, List, [], ◌∷◌, ◌++◌, length, codes, refl, sym, ap, ◌∙◌, arith, append_assoc, cond, zero, suc, get_or, subst, Option, Some, None, Result, Err, take}
use Rattle.std.specs.Prelude.{◌≤◌, IfSome, Contains, nat_lt, nat_eq, ◌==◌, IsTrue}
use Rattle.std.specs.List.{list_any, ends_with, starts_with}
use Rattle.std.specs.Str.{bytes_eq}
use Rattle.std.proofs.lemmas.Bool.{and_parts, not-true, or_parts, ltb-true, eqb-true}
use Rattle.dconf_model.specs.Paths.{has_two_slashes, has_zero_byte, starts_with_slash, ends_with_slash, is_short, is_path, is_key_path, is_directory_path}
use Rattle.dconf_model.specs.Keyfiles.{Row, has_slash_end, is_group, is_key, is_plain, path_of}
use Rattle.std.proofs.lemmas.Bool.Decides.{Decides-eqb, nat_tests}
use Rattle.std.proofs.lemmas.Slice.Eq.{ends_is}
use Rattle.gv_model.specs.Tree.{Tree}
use Rattle.dconf_model.proofs.KeyNames.{has, in_neither, after_slash, plain_single, starts_on, open_end}
use Rattle.dconf_model.proofs.KeyfileLines.{is_special}
use Rattle.dconf_model.proofs.Trimmed.{no_such_byte}
use Rattle.dconf_model.proofs.ParentLaws.{by_bool}
use Rattle.dconf_model.proofs.PathMaps.{no_truth}
use Rattle.dconf_model.specs.Causes.{SettingsCause}
use Rattle.dconf_model.specs.Lines.LineReading.{wrong}
use Rattle.dconf_model.specs.Sources.{assigned, row_read}
use Rattle.dconf_model.proofs.WorkedPaths.{root_is_a_directory}
use Rattle.dconf_compile.specs.Added.{IsReadRow}

no_nul : (s : List ℕ) → is_plain s ≡ true → has_zero_byte s ≡ false
no_nul s e = no_such_byte is_special 0 s refl (not-true (list_any is_special s) e)

-- ---- a key

record KeyParts (k : List ℕ) : Type 0 where
  first : ℕ
  rest : List ℕ
  whole : k ≡ first ∷ rest
  plain : first == 47 ≡ false
  slashless : has 47 k ≡ false
  nul : has_zero_byte k ≡ false

key_parts : (k : List ℕ) → is_key k ≡ true → KeyParts k
key_parts k e =
    let outer = and_parts (nat_lt 0 (length k) && not (has 47 k)) (is_plain k) e in
    let inner = and_parts (nat_lt 0 (length k)) (not (has 47 k)) outer.0 in
    go k (ltb-true 0 (length k) inner.0) (not-true (has 47 k) inner.1) (no_nul k outer.1)
  where
    go : (k : List ℕ) → 0 < length k → has 47 k ≡ false → has_zero_byte k ≡ false → KeyParts k
    go [] some slash nul = absurd (omega (arith, some))
    go (c ∷ rest) some slash nul = record { first = c; rest = rest; whole = refl; plain = (or_parts (c == 47) (has 47 rest) slash).0; slashless = slash; nul = nul }

slash_at : (k : List ℕ) (i : ℕ) → i < length k → get_or k i 47 ≡ 47 → has 47 k ≡ true
slash_at [] i here e = absurd (omega (arith, here))
slash_at (c ∷ k) zero here e = ap (λ x. (x == 47) || has 47 k) e
slash_at (c ∷ k) (suc i) here e = go (c == 47) (slash_at k i (omega (arith, here)) e)
  where
    go : (b : Bool) → has 47 k ≡ true → (b || has 47 k) ≡ true
    go true h = refl
    go false h = h

no_slash_in : (k : List ℕ) → has 47 k ≡ false → ¬ Contains k 47
no_slash_in k e h = no_truth (sym e ∙ slash_at k h.0 h.1 h.2)

-- ---- a directory that a key's part is put to: it starts and ends in a slash

pub record IsStart (d before : List ℕ) : Type 0 where
  whole : d ≡ before ++ 47 ∷ []
  starts : starts_with_slash d ≡ true
  nul : has_zero_byte d ≡ false
  single : has_two_slashes d ≡ false

record PathParts (p : List ℕ) : Type 0 where
  starts : starts_with_slash p ≡ true
  nul : has_zero_byte p ≡ false
  single : has_two_slashes p ≡ false
  ends : ends_with_slash p ≡ false

below : (d before k : List ℕ) → IsStart d before → KeyParts k → PathParts (d ++ k)
below d before k s h = record {
  starts = starts_on d k s.starts;
  nul = in_neither 0 d k s.nul h.nul;
  single =
      let text : d ++ k ≡ before ++ 47 ∷ h.first ∷ h.rest =
      ap (λ (l : List ℕ). l ++ k) s.whole ∙ (append_assoc before (47 ∷ []) k ∙ ap (λ (l : List ℕ). before ++ 47 ∷ l) h.whole) in
      ap has_two_slashes text
      ∙ after_slash before h.first h.rest (sym (ap has_two_slashes s.whole) ∙ s.single) h.plain (sym (ap has_two_slashes h.whole) ∙ plain_single k h.slashless);
  ends = open_end d k (d ++ k) refl (let n = ap length h.whole in omega (arith, n)) (no_slash_in k h.slashless);
}

pub directory_start : (d : List ℕ) → is_directory_path d ≡ true → IsStart d (take (length d - 1) d)
directory_start d e =
    let whole = and_parts (is_path d) (ends_with_slash d) e in
    let short = and_parts (starts_with_slash d && not (has_zero_byte d) && not (has_two_slashes d)) (is_short d) whole.0 in
    let single = and_parts (starts_with_slash d && not (has_zero_byte d)) (not (has_two_slashes d)) short.0 in
    let nul = and_parts (starts_with_slash d) (not (has_zero_byte d)) single.0 in
    record {
      whole = (ends_is Decides-eqb d (47 ∷ []) (ends_with_slash d) refl).0 whole.1;
      starts = nul.0;
      nul = not-true (has_zero_byte d) nul.1;
      single = not-true (has_two_slashes d) single.1;
    }

ends_later : (c d : ℕ) (g : List ℕ) → ends_with nat_eq (c ∷ d ∷ g) (47 ∷ []) ≡ ends_with nat_eq (d ∷ g) (47 ∷ [])
ends_later c d g =
    let longer : suc (suc (length g)) - 1 ≡ suc (length g) = omega arith in
    let shorter : suc (length g) - 1 ≡ length g = omega arith in
    rw (longer, shorter) refl

-- a text that doesn't end in a slash takes one more
one_more : (g : List ℕ) → has_two_slashes g ≡ false → ends_with nat_eq g (47 ∷ []) ≡ false → has_two_slashes (g ++ 47 ∷ []) ≡ false
unfolding has_two_slashes
one_more [] single ends = refl
one_more (c ∷ []) single ends =
    by_bool (c == 47) (has_two_slashes (c ∷ 47 ∷ []) ≡ false)
    (λ slash. absurd (no_truth (sym ends ∙ ap (λ x. ends_with nat_eq (x ∷ []) (47 ∷ [])) (eqb-true c 47 slash))))
    (λ plain. ap (λ b. (b && true) || false) plain)
one_more (c ∷ d ∷ g) single ends =
    let parts = or_parts (c == 47 && d == 47) (has_two_slashes (d ∷ g)) single in
    ap (λ b. b || has_two_slashes (d ∷ g ++ 47 ∷ [])) parts.0 ∙ one_more (d ∷ g) parts.1 (sym (ends_later c d g) ∙ ends)

module _ (d before : List ℕ) (s : IsStart d before) where
  group_start : (g : List ℕ) → 0 < length g → has_slash_end g ≡ false → has_two_slashes g ≡ false → has_zero_byte g ≡ false
      → IsStart (d ++ (g ++ 47 ∷ [])) (d ++ g)
  group_start g some slashes single nul =
      let ends = or_parts (starts_with nat_eq g (codes "/")) (ends_with nat_eq g (codes "/")) slashes in
      record {
        whole = sym (append_assoc d g (47 ∷ []));
        starts = starts_on d (g ++ 47 ∷ []) s.starts;
        nul = in_neither 0 d (g ++ 47 ∷ []) s.nul (in_neither 0 g (47 ∷ []) nul refl);
        single = go g some ends.0 (one_more g single ends.1);
      }
    where
      go : (g : List ℕ) → 0 < length g → starts_with nat_eq g (codes "/") ≡ false → has_two_slashes (g ++ 47 ∷ []) ≡ false → has_two_slashes (d ++ (g ++ 47 ∷ [])) ≡ false
      go [] some starts more = absurd (omega (arith, some))
      go (c ∷ g) some starts more =
          by_bool (c == 47) (has_two_slashes (d ++ ((c ∷ g) ++ 47 ∷ [])) ≡ false)
          (λ slash. absurd (no_truth (sym starts ∙ ap (λ x. starts_with nat_eq (x ∷ g) (codes "/")) (eqb-true c 47 slash))))
          (λ plain.
          let text : d ++ ((c ∷ g) ++ 47 ∷ []) ≡ before ++ 47 ∷ c ∷ (g ++ 47 ∷ []) =
          ap (λ (l : List ℕ). l ++ ((c ∷ g) ++ 47 ∷ [])) s.whole ∙ append_assoc before (47 ∷ []) ((c ∷ g) ++ 47 ∷ []) in
          ap has_two_slashes text ∙ after_slash before c (g ++ 47 ∷ []) (sym (ap has_two_slashes s.whole) ∙ s.single) plain more)

  -- ---- the path

  named_path : (g k : List ℕ) (b : Bool) → bytes_eq g (codes "/") ≡ b → is_group g ≡ true → KeyParts k → PathParts (d ++ cond b k (g ++ 47 ∷ k))
  named_path g k true e h key = below d before k s key
  named_path g k false e h key =
      let named : (nat_lt 0 (length g) && not (has_slash_end g) && not (has_two_slashes g) && is_plain g) ≡ true = rw e at h in
      let outer = and_parts (nat_lt 0 (length g) && not (has_slash_end g) && not (has_two_slashes g)) (is_plain g) named in
      let inner = and_parts (nat_lt 0 (length g) && not (has_slash_end g)) (not (has_two_slashes g)) outer.0 in
      let ends = and_parts (nat_lt 0 (length g)) (not (has_slash_end g)) inner.0 in
      let start = group_start g (ltb-true 0 (length g) ends.0) (not-true (has_slash_end g) ends.1) (not-true (has_two_slashes g) inner.1) (no_nul g outer.1) in
      let text : (d ++ (g ++ 47 ∷ [])) ++ k ≡ d ++ (g ++ 47 ∷ k) = append_assoc d (g ++ 47 ∷ []) k ∙ ap (λ (l : List ℕ). d ++ l) (append_assoc g (47 ∷ []) k) in
      subst PathParts text (below (d ++ (g ++ 47 ∷ [])) (d ++ g) k start key)

  row_path : (r : Row) → IsReadRow r → PathParts (path_of d r)
  row_path r h = named_path r.group r.key (bytes_eq r.group (codes "/")) refl h.group (key_parts r.key h.key)

  -- it is a key's path exactly where it is short
  path_if_short : (r : Row) → IsReadRow r → is_key_path (path_of d r) ≡ is_short (path_of d r)
  path_if_short r h = let p = row_path r h in go (is_short (path_of d r)) p.starts p.nul p.single p.ends
    where
      go : {s n d e : Bool} (l : Bool) → s ≡ true → n ≡ false → d ≡ false → e ≡ false → ((s && not n && not d && l) && not e) ≡ l
      go true a b c f = rw (a, b, c, f) refl
      go false a b c f = rw (a, b, c) refl

pub key_where_short : (d : List ℕ) → is_directory_path d ≡ true → (r : Row) → IsReadRow r → is_key_path (path_of d r) ≡ is_short (path_of d r)
key_where_short d directory r h = path_if_short d (take (length d - 1) d) (directory_start d directory) r h

-- ---- what a row gives, by its path

module _ (read : List ℕ → Result Tree SettingsCause) (p text : List ℕ) (key : is_key_path p ≡ is_short p) where
  pub short_row : IsTrue (is_key_path p) → row_read read p text ≡ assigned p (read text)
  short_row is = let short : is_short p ≡ true = sym key ∙ is in rw short refl

  pub refused_row : (o : Option SettingsCause) → IsTrue (is_key_path p) → IfSome o (λ c. read text ≡ Err c) → IfSome o (λ c. row_read read p text ≡ wrong c)
  refused_row None is k = tt
  refused_row (Some c) is k = short_row is ∙ ap (assigned p) k

-- ---- a row that is compiled

module _ (r : Row) (h : IsReadRow r) (p : List ℕ) (same : p ≡ path_of (codes "/") r) where
  key : is_key_path p ≡ is_short p
  key = ap is_key_path same ∙ (key_where_short (codes "/") root_is_a_directory r h ∙ sym (ap is_short same))

  pub short_key : length p ≤ 65535 → IsTrue (is_key_path p)
  short_key short = let is : is_short p ≡ true = grind (arith, nat_tests) in key ∙ is

-- In a sound table each value's name is the path of a key, and each directory above it has a list.
use Rattle.std.proofs.Common.{◌≡◌, ◌≢◌, ◌<◌, ℕ, Bool, true, false, ◌&&◌, ◌||◌, not, List, [], ◌∷◌, ◌++◌, length, Option, None, refl, sym, ap, ◌∙◌, subst, arith, inl, inr, append_assoc, append-nil, codes, take, ◌-◌, ◌==◌}
use Rattle.std.specs.Prelude.{IsTrue, Contains}
use Rattle.std.specs.List.{list_any}
use Rattle.std.proofs.lemmas.Bool.{eqb-true, le-leb}
use Rattle.std.proofs.lemmas.Bool.Decides.{Decides-eqb}
use Rattle.std.proofs.lemmas.List.Folds.{list_any-append}
use Rattle.std.proofs.lemmas.Map.Views.{Contains-from_any}
use Rattle.std.proofs.lemmas.Slice.Eq.{ends_is}
use Rattle.dconf_model.specs.Paths.{starts_with_slash, has_two_slashes, has_zero_byte, ends_with_slash, is_short, is_path, is_key_path}
use Rattle.dconf_model.specs.Table.{Table, item, item_count, key, value_kind, list_kind, table_kind}
use Rattle.dconf_model.specs.Names.{HasName, HasParents, IsRow, joined}
use Rattle.dconf_model.specs.Sound.{IsSound, IsPart, HasParent, IsDirectoryPart}
use Rattle.dconf_model.specs.Sound.Rule.{keys, chain, place}
use Rattle.dconf_model.specs.SoundLaws.{ValuesAreAtKeys, DirectoriesAreListed}
use Rattle.dconf_model.proofs.ParentLaws.{by_bool}
use Rattle.dconf_model.proofs.NameSteps.{parents_item}
use Rattle.dconf_model.proofs.RowLaws.{counted}
use Rattle.dconf_model.proofs.FirstParts.{EndsInSlash, still_ends, rest_ends, no_slash, cuts}
use Rattle.dconf_model.proofs.FirstParts.Cuts.{there, after, before}
use Rattle.dconf_model.proofs.DirectoryNames.{list_is_no_table, list_is_no_value, row_of, part_below}
use Rattle.dconf_model.proofs.PartsBelow.{value_is_no_table, no_top, no_more}
use Rattle.dconf_model.proofs.PathMaps.{no_truth}

-- ---- bytes that a list doesn't have

abbrev pub has : ℕ → List ℕ → Bool
has x s = list_any (λ c. c == x) s

not_there : (x : ℕ) (s : List ℕ) → ¬ Contains s x → has x s ≡ false
not_there x s none = by_bool (has x s) (has x s ≡ false) (λ e. absurd (none (Contains-from_any {eq = λ a b. b == a} (λ a b e. sym (eqb-true b a e)) x s e))) (λ e. e)

pub in_neither : (x : ℕ) (s t : List ℕ) → has x s ≡ false → has x t ≡ false → has x (s ++ t) ≡ false
in_neither x s t e f = list_any-append (λ c. c == x) s t ∙ (ap (λ b. b || has x t) e ∙ f)

-- ---- slashes

-- no slash follows the one at the end
pub after_slash : (prefix : List ℕ) (c : ℕ) (rest : List ℕ) → has_two_slashes (prefix ++ 47 ∷ []) ≡ false → c == 47 ≡ false → has_two_slashes (c ∷ rest) ≡ false →
    has_two_slashes (prefix ++ 47 ∷ c ∷ rest) ≡ false
unfolding has_two_slashes
after_slash [] c rest single other more = ap (λ b. b || has_two_slashes (c ∷ rest)) other ∙ more
after_slash (x ∷ []) c rest single other more =
    by_bool (x == 47) (has_two_slashes (x ∷ 47 ∷ c ∷ rest) ≡ false)
    (λ slash. absurd (no_truth (sym single ∙ ap (λ b. (b && true) || false) slash)))
    (λ plain. ap (λ b. (b && true) || has_two_slashes (47 ∷ c ∷ rest)) plain ∙ after_slash [] c rest refl other more)
after_slash (x ∷ y ∷ prefix) c rest single other more =
    by_bool (x == 47 && y == 47) (has_two_slashes (x ∷ y ∷ prefix ++ 47 ∷ c ∷ rest) ≡ false)
    (λ two. absurd (no_truth (sym single ∙ ap (λ b. b || has_two_slashes (y ∷ prefix ++ 47 ∷ [])) two)))
    (λ one. ap (λ b. b || has_two_slashes (y ∷ prefix ++ 47 ∷ c ∷ rest)) one
    ∙ after_slash (y ∷ prefix) c rest (sym (ap (λ b. b || has_two_slashes (y ∷ prefix ++ 47 ∷ [])) one) ∙ single) other more)

-- a list without slash has no two, also with one at its end
pub plain_single : (s : List ℕ) → has 47 s ≡ false → has_two_slashes s ≡ false
unfolding has_two_slashes
plain_single [] e = refl
plain_single (c ∷ []) e = refl
plain_single (c ∷ d ∷ s) e =
    by_bool (c == 47) (has_two_slashes (c ∷ d ∷ s) ≡ false)
    (λ slash. absurd (no_truth (sym e ∙ ap (λ b. b || has 47 (d ∷ s)) slash)))
    (λ plain. ap (λ b. (b && (d == 47)) || has_two_slashes (d ∷ s)) plain ∙ plain_single (d ∷ s) (sym (ap (λ b. b || has 47 (d ∷ s)) plain) ∙ e))

ended_single : (s : List ℕ) → has 47 s ≡ false → has_two_slashes (s ++ 47 ∷ []) ≡ false
unfolding has_two_slashes
ended_single [] e = refl
ended_single (c ∷ []) e =
    by_bool (c == 47) (has_two_slashes (c ∷ 47 ∷ []) ≡ false)
    (λ slash. absurd (no_truth (sym e ∙ ap (λ b. b || false) slash)))
    (λ plain. ap (λ b. (b && true) || false) plain)
ended_single (c ∷ d ∷ s) e =
    by_bool (c == 47) (has_two_slashes (c ∷ d ∷ s ++ 47 ∷ []) ≡ false)
    (λ slash. absurd (no_truth (sym e ∙ ap (λ b. b || has 47 (d ∷ s)) slash)))
    (λ plain. ap (λ b. (b && (d == 47)) || has_two_slashes (d ∷ s ++ 47 ∷ [])) plain ∙ ended_single (d ∷ s) (sym (ap (λ b. b || has 47 (d ∷ s)) plain) ∙ e))

-- ---- directories

-- a text that starts and ends in a slash, without zero byte and two slashes
record IsDirectoryText (name : List ℕ) : Type 0 where
  starts : IsTrue (starts_with_slash name)
  no_nul : has_zero_byte name ≡ false
  single : has_two_slashes name ≡ false
  ends : EndsInSlash name

pub starts_on : (name more : List ℕ) → starts_with_slash name ≡ true → starts_with_slash (name ++ more) ≡ true
starts_on [] more e = absurd (no_truth e)
starts_on (c ∷ name) more e = e

-- a part that has a first byte, which is no slash
record IsPlainPart (part : List ℕ) : Type 0 where
  first : ℕ
  rest : List ℕ
  whole : part ≡ first ∷ rest
  plain : first == 47 ≡ false
  no_nul : has_zero_byte part ≡ false
  single : has_two_slashes part ≡ false

single_with : (name part : List ℕ) → IsDirectoryText name → IsPlainPart part → has_two_slashes (name ++ part) ≡ false
single_with name part d p =
    let prefix = d.ends.0 in
    let before : has_two_slashes (prefix ++ 47 ∷ []) ≡ false = sym (ap has_two_slashes d.ends.1) ∙ d.single in
    let text : name ++ part ≡ prefix ++ 47 ∷ p.first ∷ p.rest =
    ap (λ (l : List ℕ). l ++ part) d.ends.1 ∙ (append_assoc prefix (47 ∷ []) part ∙ ap (λ (l : List ℕ). prefix ++ 47 ∷ l) p.whole) in
    ap has_two_slashes text ∙ after_slash prefix p.first p.rest before p.plain (sym (ap has_two_slashes p.whole) ∙ p.single)

plain_part : (t : Table) (j : ℕ) → IsSound t → j < item_count t → ¬ Contains (key t j) 47 → IsPlainPart (key t j)
plain_part t j sound here none = go (key t j) (sound chain j here).key (not_there 47 (key t j) none) (not_there 0 (key t j) (sound keys j here).no_nul)
  where
    go : (part : List ℕ) → 0 < length part → has 47 part ≡ false → has 0 part ≡ false → IsPlainPart part
    go [] some slash nul = absurd (omega (arith, some))
    go (c ∷ part) some slash nul = record {
      first = c;
      rest = part;
      whole = refl;
      plain = by_bool (c == 47) (c == 47 ≡ false) (λ e. absurd (no_truth (sym slash ∙ ap (λ b. b || has 47 part) e))) (λ e. e);
      no_nul = nul;
      single = plain_single (c ∷ part) slash;
    }

directory_part : (t : Table) (j : ℕ) → IsSound t → j < item_count t → IsDirectoryPart (key t j) → IsPlainPart (key t j)
directory_part t j sound here d = go d.name d.some (not_there 47 d.name d.plain) (not_there 0 (key t j) (sound keys j here).no_nul) d.whole
  where
    go : (name : List ℕ) → 0 < length name → has 47 name ≡ false → has 0 (key t j) ≡ false → key t j ≡ name ++ 47 ∷ [] → IsPlainPart (key t j)
    go [] some slash nul whole = absurd (omega (arith, some))
    go (c ∷ name) some slash nul whole = record {
      first = c;
      rest = name ++ 47 ∷ [];
      whole = whole;
      plain = by_bool (c == 47) (c == 47 ≡ false) (λ e. absurd (no_truth (sym slash ∙ ap (λ b. b || has 47 name) e))) (λ e. e);
      no_nul = nul;
      single = ap has_two_slashes whole ∙ ended_single (c ∷ name) slash;
    }

root_text : IsDirectoryText (codes "/")
unfolding has_two_slashes
root_text = record { starts = refl; no_nul = refl; single = refl; ends = ([], refl) }

directory_with : (name part : List ℕ) → IsDirectoryText name → IsPlainPart part → EndsInSlash part → IsDirectoryText (name ++ part)
directory_with name part d p ends = record {
  starts = starts_on name part d.starts;
  no_nul = in_neither 0 name part d.no_nul p.no_nul;
  single = single_with name part d p;
  ends = still_ends name part ends;
}

directory_text : (ps : List ℕ) (t : Table) (j : ℕ) → IsSound t → HasParents t j ps → (item t j).kind ≡ list_kind → IsDirectoryText (joined t j ps)
directory_text [] t j sound h list = top (subst (λ (o : Option ℕ). HasParent t j o) h.1 (sound place j (parents_item t j [] h).counted).has_parent)
  where
    top : HasParent t j None → IsDirectoryText (key t j)
    top (inl a) = subst IsDirectoryText (sym a.1) root_text
    top (inr b) = absurd (list_is_no_table (sym list ∙ b.0))
directory_text (p ∷ ps) t j sound h list = go (part_below t p j sound (h.0.counted, h.1)).1 (directory_text ps t p sound h.3 (part_below t p j sound (h.0.counted, h.1)).0)
  where
    go : IsPart t j → IsDirectoryText (joined t p ps) → IsDirectoryText (joined t p ps ++ key t j)
    go (inl a) above = absurd (list_is_no_value (sym list ∙ a.0))
    go (inr b) above = directory_with (joined t p ps) (key t j) above (directory_part t j sound h.0.counted b.1) (b.1.name, b.1.whole)

-- ---- values

value_text : (ps : List ℕ) (t : Table) (j : ℕ) (name : List ℕ) → IsSound t → HasParents t j ps → joined t j ps ≡ name → (item t j).kind ≡ value_kind →
    (directory : List ℕ) × IsDirectoryText directory × (name ≡ directory ++ key t j) × ¬ Contains (key t j) 47
value_text [] t j name sound h e value = top (subst (λ (o : Option ℕ). HasParent t j o) h.1 (sound place j (parents_item t j [] h).counted).has_parent)
  where
    top : HasParent t j None → (directory : List ℕ) × IsDirectoryText directory × (name ≡ directory ++ key t j) × ¬ Contains (key t j) 47
    top (inl a) = absurd (list_is_no_value (sym a.0 ∙ value))
    top (inr b) = absurd (value_is_no_table (sym value ∙ b.0))
value_text (p ∷ ps) t j name sound h e value = go (part_below t p j sound (h.0.counted, h.1))
  where
    go : ((item t p).kind ≡ list_kind) × IsPart t j → (directory : List ℕ) × IsDirectoryText directory × (name ≡ directory ++ key t j) × ¬ Contains (key t j) 47
    go (list, inl a) = (joined t p ps, directory_text ps t p sound h.3 list, sym e, a.1)
    go (list, inr b) = absurd (list_is_no_value (sym b.0 ∙ value))

pub open_end : (directory part name : List ℕ) → name ≡ directory ++ part → 0 < length part → ¬ Contains part 47 → ends_with_slash name ≡ false
open_end directory [] name e some none = absurd (omega (arith, some))
open_end directory (c ∷ part) name e some none =
    by_bool (ends_with_slash name) (ends_with_slash name ≡ false)
    (λ ends.
    let prefix = take (length name - 1) name in
    let rest = rest_ends name directory c part (prefix, (ends_is Decides-eqb name (47 ∷ []) (ends_with_slash name) refl).0 ends) e in
    absurd (no_slash (c ∷ part) rest.0 [] none rest.1))
    (λ e. e)

pub values_are_keys : ValuesAreAtKeys
values_are_keys t name i sound h value =
    let v = value_text h.parents t i name sound h.chain h.spelled value in
    let here = counted t i name h in
    let directory = v.0 in
    let d = v.1 in
    let part = plain_part t i sound here v.3 in
    let starts : starts_with_slash name ≡ true = ap starts_with_slash v.2 ∙ starts_on directory (key t i) d.starts in
    let nul : has_zero_byte name ≡ false = ap has_zero_byte v.2 ∙ in_neither 0 directory (key t i) d.no_nul part.no_nul in
    let single : has_two_slashes name ≡ false = ap has_two_slashes v.2 ∙ single_with directory (key t i) d part in
    let short : is_short name ≡ true = le-leb (length name) 65535 ((sound place i here).short name h) in
    let ends : ends_with_slash name ≡ false = open_end directory (key t i) name v.2 (sound chain i here).key v.3 in
    is_key starts nul single short ends
  where
    is_key : {s n d l e : Bool} → s ≡ true → n ≡ false → d ≡ false → l ≡ true → e ≡ false → ((s && not n && not d && l) && not e) ≡ true
    is_key a b c d e = rw (a, b, c, d, e) refl

-- ---- directories above

directory_above : (ps : List ℕ) (t : Table) (directory : List ℕ) (j : ℕ) (rest : List ℕ) → IsSound t → EndsInSlash directory → HasParents t j ps → joined t j ps ≡ directory ++ rest → (item t j).kind ≢ table_kind → 0 < length rest →
    (i : ℕ) × IsRow t directory list_kind i
directory_above [] t directory j rest sound ends h e other some =
    absurd (no_top t j directory rest (subst (λ (o : Option ℕ). HasParent t j o) h.1 (sound place j (parents_item t j [] h).counted).has_parent) other ends some e)
directory_above (p ∷ ps) t directory j rest sound ends h e other some =
    let below = part_below t p j sound (h.0.counted, h.1) in
    let name : HasName t p (joined t p ps) = record { parents = ps; chain = h.3; spelled = refl } in
    elim (cuts (joined t p ps) (key t j) directory rest e) [
      | there a b ↦ (p, row_of t p directory list_kind sound (subst (HasName t p) a name) below.0)
      | after c m a b ↦ directory_above ps t directory p (c ∷ m) sound ends h.3 a (λ table. list_is_no_table (sym below.0 ∙ table)) (omega arith)
      | before c m a b ↦ absurd (no_more t j (c ∷ m) rest below.1 (rest_ends directory (joined t p ps) c m ends a) b some)
    ]

pub key_is_open : (name : List ℕ) → is_key_path name ≡ true → ends_with_slash name ≡ false
key_is_open name e = go (is_path name) (ends_with_slash name) e
  where
    go : (p e : Bool) → (p && not e) ≡ true → e ≡ false
    go true false f = refl
    go true true f = absurd (no_truth f)
    go false e f = absurd (no_truth f)

pub directories_are_listed : DirectoriesAreListed
directories_are_listed t directory rest v sound ends h value =
    directory_above h.parents t directory v rest sound (take (length directory - 1) directory, (ends_is Decides-eqb directory (47 ∷ []) (ends_with_slash directory) refl).0 ends)
    h.chain h.spelled (λ table. value_is_no_table (sym value ∙ table)) (some rest refl)
  where
    some : (r : List ℕ) → rest ≡ r → 0 < length rest
    some [] e =
        let whole : directory ++ rest ≡ directory = ap (λ (l : List ℕ). directory ++ l) e ∙ append-nil directory in
        let at_key = values_are_keys t (directory ++ rest) v sound h value in
        absurd (no_truth (sym (key_is_open (directory ++ rest) at_key) ∙ (ap ends_with_slash whole ∙ ends)))
    some (c ∷ r) e = subst (λ (l : List ℕ). 0 < length l) (sym e) (omega arith)

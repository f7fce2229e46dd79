-- A path that is added to names: its directories, one at each slash after the one that is there, and then the path.
use Rattle.std.proofs.Common.{◌≡◌, ◌≢◌, ◌<◌, ◌≤◌, ◌+◌, ◌-◌, ℕ, List, [], ◌∷◌, ◌++◌, length, get_or, take, drop, Option, Some, None, refl, sym, ap, ◌∙◌, subst, arith, inl, inr, ⊎_elim}
use Rattle.std.specs.Prelude.{IsUtf8}
use Rattle.std.specs.List.{All}
use Rattle.std.proofs.lemmas.Bool.{cases_lt}
use Rattle.std.proofs.lemmas.Grind.{common_steps}
use Rattle.std.proofs.lemmas.List.{append-nil, append_assoc, take-take, take_all, take_more, length-take-le, get_or-take, get_or-drop, drop-take, drop_more, length-drop, take-append-drop}
use Rattle.std.proofs.lemmas.List.Elements.{All-nil, All-push}
use Rattle.std.proofs.lemmas.Str.{IsUtf8-between, IsCharBoundary-end, IsCharBoundary-after_ascii}
use Rattle.std.specs.Str.{IsCharBoundary}
use Rattle.dconf_model.specs.Bytes.{hash_of, hash_step}
use Rattle.dconf_model.specs.Table.{value_kind, list_kind}
use Rattle.dconf_model.specs.Entries.{IsTopEntry}
use Rattle.dconf_model.proofs.HashSteps.{hash_of_last}
use Rattle.dconf_model.proofs.NameOrder.{before_longer}
use Rattle.gvdb_maps.specs.declared.names.Content.{Content}
use Rattle.gvdb_maps.specs.declared.names.Content.TheVariants.{Value, List as Listed}
use Rattle.gvdb_maps.specs.declared.names.Named.{Named}
use Rattle.gvdb_maps.specs.PlanWords.{kind_of, entry_of, named, name_at, kind_at, IsBefore, HasNoSlash, EndsAs, IsFit, NameHasParent, ArePlaced, AreGood, IsDirectoryAt, IsBeyond, last_name, IsNewDirectory, IsAdded}
use Rattle.gvdb_maps.proofs.PathTexts.{IsText}
use Rattle.gvdb_maps.proofs.PushedNames.{kept, pushed, last_pushed, AreGoodBut, placed_within, before_last, good_push, none_missing, all_good, directory_kept}

-- so far at a place of the path: after the directories up to there
pub record IsAdding (old names : List Named) (text : List ℕ) (parent from hash at : ℕ) : Type 0 where
  pub good : AreGoodBut names parent
  pub more : List Named
  pub whole : names ≡ old ++ more
  pub directories : All (IsNewDirectory text) more
  pub lies : IsDirectoryAt names text parent
  pub from_is : from ≡ length (name_at names parent)
  pub from_le : from ≤ at
  pub inside : at ≤ length text
  pub plain : HasNoSlash text from at
  pub hash_is : hash ≡ hash_of (take at text)
  pub beyond : IsBeyond (last_name names) text from

-- ---- the name of a list ends in a slash

list_ends : (n : Named) → EndsAs n → kind_of n.content ≡ list_kind → get_or n.name.now (length n.name.now - 1) 0 ≡ 47
list_ends n (inl value) list = let bad : 76 ≡ 118 = sym list ∙ value.0 in absurd (omega (arith, bad))
list_ends n (inr ends) list = ends.2

top_ends : (n : Named) → n.from ≡ 0 → IsTopEntry (entry_of n) → kind_of n.content ≡ list_kind → get_or n.name.now (length n.name.now - 1) 0 ≡ 47
top_ends n from (inl top) list = grind (arith, common_steps)
top_ends n from (inr locks) list = grind (arith, common_steps)

directory_ends : (names : List Named) (at : ℕ) → kind_at names at ≡ list_kind → (o : Option ℕ) → NameHasParent names at o → get_or (name_at names at) (length (name_at names at) - 1) 0 ≡ 47
directory_ends names at list None s = top_ends (named names at) s.0 s.1 list
directory_ends names at list (Some p) s = list_ends (named names at) s.1.ends list

-- what the text has before the part that comes after a directory
record StartsAfter (text : List ℕ) (from : ℕ) : Type 0 where
  some : 0 < from
  slash : get_or text (from - 1) 0 ≡ 47

starts_after : (names : List Named) (text : List ℕ) (at from : ℕ) → ArePlaced names → IsDirectoryAt names text at → from ≡ length (name_at names at) → StartsAfter text from
starts_after names text at from placed lies from_is =
    let p = placed at lies.within in
    let some = p.fit.some in
    let last : from - 1 < from = omega (arith, from_is, some) in
    let prefix : take from text ≡ name_at names at = rw from_is lies.prefix in
    record {
      some = omega (arith, from_is, some);
      slash =
          sym (get_or-take from text (from - 1) 0 last)
          ∙ rw (prefix, from_is) (directory_ends names at lies.list (named names at).parent p.has_parent);
    }

-- ---- a part of the path

-- a name in a directory
abbrev part : ℕ × ℕ → List ℕ → ℕ → ℕ → ℕ → Content → Named
part at name from hash parent content = record { name = record { ref_ptr = at; now = name }; from = from; hash = hash; parent = Some parent; content = content }

-- the name up to a place where the text may be cut
part_fit : (text : List ℕ) (r : ℕ × ℕ) (from to parent : ℕ) (content : Content) → IsText text → IsUtf8 text → StartsAfter text from → from < to → to ≤ length text → IsCharBoundary text to → IsFit (part r (take to text) from (hash_of (take to text)) parent content)
part_fit text r from to parent content path utf8 after less inside end =
    let some = after.some in
    let short = path.short in
    let len = length-take-le to text inside in
    let n : from + (to - from) ≡ to = omega (arith, less) in
    let key : drop from (take to text) ≡ take (to - from) (drop from text) = ap (λ (k : ℕ). drop from (take k text)) (sym n) ∙ drop-take from (to - from) text in
    let e : from - 1 + 1 ≡ from = omega (arith, some) in
    let start : IsCharBoundary text from = subst (IsCharBoundary text) e (IsCharBoundary-after_ascii text (from - 1) utf8 (omega (arith, some, less, inside)) (omega (arith, after.slash))) in
    record {
      hash = refl;
      some = omega (arith, len, less);
      utf8 = rw key (IsUtf8-between text from to utf8 (omega (arith, less)) start end);
      no_nul = λ there.
          let here = there.1 in
          let l : from + there.0 < to = omega (arith, here, len, length-drop from (take to text)) in
          path.no_nul (from + there.0) (omega (arith, l, inside))
          (sym (get_or-take to text (from + there.0) 0 l) ∙ (sym (get_or-drop from (take to text) there.0 0) ∙ there.2));
      short = omega (arith, len, inside, short);
    }

-- a part of the path is the next name
part_push : (old names : List Named) (text : List ℕ) (r : ℕ × ℕ) (parent from hash at to : ℕ) (content : Content) → IsText text → IsUtf8 text → IsAdding old names text parent from hash at
    → from < to → to ≤ length text → IsCharBoundary text to → EndsAs (part r (take to text) from (hash_of (take to text)) parent content) → IsBefore (last_name names) (take to text)
    → AreGoodBut (names ++ part r (take to text) from (hash_of (take to text)) parent content ∷ []) (length names)
part_push old names text r parent from hash at to content path utf8 a less inside end ends before =
    let n : Named = part r (take to text) from (hash_of (take to text)) parent content in
    good_push names n parent a.good
    (placed_within names n parent a.lies.within refl
    (part_fit text r from to parent content path utf8 (starts_after names text parent from a.good.placed a.lies a.from_is) less inside end)
    (record {
      directory = a.lies.list;
      prefix = take-take from to text (omega (arith, less)) ∙ rw a.from_is a.lies.prefix;
      from = a.from_is;
      ends = ends;
    }))
    (before_last names (take to text) a.good.ascending before) (λ l. refl)

-- ---- a byte that is no slash

step_hash : (text : List ℕ) (at hash : ℕ) → at < length text → hash ≡ hash_of (take at text) → hash_step hash (get_or text at 0) ≡ hash_of (take (at + 1) text)
step_hash text at hash here is = rw (is, take_more text at 0 here) (sym (hash_of_last (take at text) (get_or text at 0)))

pub plain_step : (old names : List Named) (text : List ℕ) (parent from hash at : ℕ) → IsAdding old names text parent from hash at → at < length text → get_or text at 0 ≢ 47 → IsAdding old names text parent from (hash_step hash (get_or text at 0)) (at + 1)
plain_step old names text parent from hash at a here other =
    let le = a.from_le in
    record {
      good = a.good;
      more = a.more;
      whole = a.whole;
      directories = a.directories;
      lies = a.lies;
      from_is = a.from_is;
      from_le = omega (arith, le);
      inside = omega (arith, here);
      plain = λ i l m slash. ⊎_elim (λ (before : i < at). a.plain i l before slash)
          (λ (ge : at ≤ i). let e : i ≡ at = omega (arith, ge, m) in other (sym (ap (λ (k : ℕ). get_or text k 0) e) ∙ slash))
          (cases_lt i at);
      hash_is = step_hash text at hash here a.hash_is;
      beyond = a.beyond;
    }

-- ---- a slash

-- no slash comes right after another
from_less : (text : List ℕ) (from at : ℕ) → IsText text → StartsAfter text from → from ≤ at → at < length text → get_or text at 0 ≡ 47 → from < at
from_less text from at path after le here slash =
    let some = after.some in
    ⊎_elim (λ (l : from < at). l)
    (λ (ge : at ≤ from).
    let e : at ≡ from - 1 + 1 = omega (arith, ge, le, some) in
    absurd (path.single (from - 1) (record { here = omega (arith, here, le, some); slash = after.slash }) (sym (ap (λ (k : ℕ). get_or text k 0) e) ∙ slash)))
    (cases_lt from at)

list_ending : (text : List ℕ) (r : ℕ × ℕ) (from at hash parent : ℕ) → from < at → at < length text → get_or text at 0 ≡ 47 → HasNoSlash text from at → EndsAs (part r (take (at + 1) text) from hash parent Listed)
list_ending text r from at hash parent less here slash plain = grind (arith, common_steps, length-take-le, get_or-take, plain, slash)

-- a prefix of a text precedes each longer one
pub prefix_before : (text : List ℕ) (m k : ℕ) → m < k → k ≤ length text → IsBefore (take m text) (take k text)
prefix_before text m k less inside =
    let len : length (take k text) ≡ k = length-take-le k text inside in
    let rest : drop m (take k text) ≡ get_or (take k text) m 0 ∷ drop (m + 1) (take k text) = drop_more (take k text) m 0 (omega (arith, len, less)) in
    let split : take m text ++ get_or (take k text) m 0 ∷ drop (m + 1) (take k text) ≡ take k text =
    rw (sym rest, sym (take-take m k text (omega (arith, less)))) (take-append-drop m (take k text)) in
    subst (IsBefore (take m text)) split (before_longer (take m text) (get_or (take k text) m 0) (drop (m + 1) (take k text)))

pub not_last : (text : List ℕ) (at : ℕ) → IsText text → at < length text → get_or text at 0 ≡ 47 → at + 1 < length text
not_last text at path here slash = grind (arith, common_steps, cases_lt, slash)

beyond_prefix : (text : List ℕ) (at : ℕ) → IsText text → at < length text → get_or text at 0 ≡ 47 → IsBeyond (take (at + 1) text) text (at + 1)
beyond_prefix text at path here slash = record {
  path = subst (IsBefore (take (at + 1) text)) (take_all (length text) text (omega arith))
      (prefix_before text (at + 1) (length text) (not_last text at path here slash) (omega arith));
  directories = λ i s le. let there = s.here in prefix_before text (at + 1) (i + 1) (omega (arith, le)) (omega (arith, there));
}

-- the directory that ends at a slash is the next one
pub directory_pushed : (names : List Named) (text : List ℕ) (n : Named) (at : ℕ) → n.name.now ≡ take (at + 1) text → kind_of n.content ≡ list_kind → at < length text → IsDirectoryAt (names ++ n ∷ []) text (length names)
directory_pushed names text n at is kind here = grind (arith, common_steps)

pub slash_step : (old names : List Named) (text : List ℕ) (r : ℕ × ℕ) (parent from hash at : ℕ) → IsText text → IsUtf8 text → IsAdding old names text parent from hash at → at < length text → get_or text at 0 ≡ 47
    → IsAdding old (names ++ part r (take (at + 1) text) from (hash_step hash (get_or text at 0)) parent Listed ∷ []) text (length names) (at + 1) (hash_step hash (get_or text at 0)) (at + 1)
slash_step old names text r parent from hash at path utf8 a here slash =
    let after = starts_after names text parent from a.good.placed a.lies a.from_is in
    let less : from < at = from_less text from at path after a.from_le here slash in
    let le = a.from_le in
    let n : Named = part r (take (at + 1) text) from (hash_of (take (at + 1) text)) parent Listed in
    let size : length (take (at + 1) text) ≡ at + 1 = length-take-le (at + 1) text (omega (arith, here)) in
    rw (step_hash text at hash here a.hash_is) (record {
      good =
          part_push old names text r parent from hash at (at + 1) Listed path utf8 a (omega (arith, less)) (omega (arith, here))
          (IsCharBoundary-after_ascii text at utf8 here (omega (arith, slash))) (list_ending text r from at (hash_of (take (at + 1) text)) parent less here slash a.plain)
          (a.beyond.directories at (record { here = here; slash = slash }) le);
      more = a.more ++ n ∷ [];
      whole = ap (λ (x : List Named). x ++ n ∷ []) a.whole ∙ append_assoc old a.more (n ∷ []);
      directories = All-push (IsNewDirectory text) a.more n a.directories (refl, (at, record { here = here; slash = slash }, refl));
      lies = directory_pushed names text n at refl refl here;
      from_is = sym (ap (λ (x : Named). length x.name.now) (pushed names n) ∙ size);
      from_le = omega arith;
      inside = omega (arith, here);
      plain = λ i l m. absurd (omega (arith, l, m));
      hash_is = refl;
      beyond = rw (last_pushed names n) (beyond_prefix text at path here slash);
    })

-- ---- the path itself

pub path_step : (old names : List Named) (text value : List ℕ) (r q : ℕ × ℕ) (parent from hash at : ℕ) → IsText text → IsUtf8 text → IsAdding old names text parent from hash at → length text ≤ at
    → IsAdded old (names ++ part r text from hash parent (Value (record { ref_ptr = q; now = value })) ∷ []) text value parent
path_step old names text value r q parent from hash at path utf8 a end =
    let after = starts_after names text parent from a.good.placed a.lies a.from_is in
    let some = after.some in
    let le = a.from_le in
    let inside = a.inside in
    let from_is = a.from_is in
    let last : at ≡ length text = omega (arith, end, inside) in
    let all : take (length text) text ≡ text = take_all (length text) text (omega arith) in
    let hash_is : hash ≡ hash_of text = a.hash_is ∙ ap (λ (k : ℕ). hash_of (take k text)) last ∙ ap (λ (x : List ℕ). hash_of x) all in
    let less : from < length text =
    ⊎_elim (λ (l : from < length text). l)
    (λ (ge : length text ≤ from). absurd (path.unended (from - 1) (omega (arith, ge, le, some, inside)) after.slash))
    (cases_lt from (length text)) in
    let content : Content = Value (record { ref_ptr = q; now = value }) in
    let n : Named = part r text from (hash_of text) parent content in
    let plain : HasNoSlash text from (length text) = rw (sym last) a.plain in
    let good : AreGoodBut (names ++ n ∷ []) (length names) =
    subst (λ (x : List ℕ). AreGoodBut (names ++ part r x from (hash_of x) parent content ∷ []) (length names)) all
    (part_push old names text r parent from hash at (length text) content path utf8 a less (omega arith) (IsCharBoundary-end text)
    (rw all (inl (refl, plain))) (rw all a.beyond.path)) in
    rw hash_is (record {
      good = all_good names n good (λ list. let bad : value_kind ≡ list_kind = list in absurd (omega (arith, bad)));
      more = a.more;
      path = n;
      whole = ap (λ (x : List Named). x ++ n ∷ []) a.whole ∙ append_assoc old a.more (n ∷ []);
      directories = a.directories;
      is_path = (refl, refl, refl);
      lies = directory_kept names (n ∷ []) text parent a.lies;
      innermost = λ i s.
          let there = s.here in
          ⊎_elim (λ (l : i < from). rw (name_at, kept names (n ∷ []) parent a.lies.within) (omega (arith, l, from_is)))
          (λ (ge : from ≤ i). absurd (a.plain i ge (omega (arith, there, last)) s.slash)) (cases_lt i from);
    })

-- ---- the start

pub start : (names : List Named) (text : List ℕ) (parent : ℕ) → AreGood names → IsDirectoryAt names text parent → IsBeyond (last_name names) text (length (name_at names parent)) → IsAdding names names text parent (length (name_at names parent)) (named names parent).hash (length (name_at names parent))
start names text parent good lies beyond =
    let fit = (good.placed parent lies.within).fit in
    let inside = lies.inside in
    record {
      good = none_missing names parent good;
      more = [];
      whole = sym (append-nil names);
      directories = All-nil (IsNewDirectory text);
      lies = lies;
      from_is = refl;
      from_le = omega arith;
      inside = omega (arith, inside);
      plain = λ i l m. absurd (omega (arith, l, m));
      hash_is = fit.hash ∙ ap (λ (x : List ℕ). hash_of x) (sym lies.prefix);
      beyond = beyond;
    }

-- What plain parts keep: they are texts without a zero byte, and the last parts of paths.
use Rattle.std.proofs.Common.{ℕ, zero, suc, List, [], ◌∷◌, ◌++◌, ◌*◌, ◌/◌, Some, true, ◌≡◌, ◌<◌, ◌≤◌, length, take, drop, refl, sym, ◌∙◌, ap, subst, arith, inl, inr}
use Rattle.std.specs.Prelude.{IfSome, ◌==◌, not, fold}
use Rattle.std.specs.List.{list_all}
use Rattle.std.specs.Simd.{first_chunks}
use Rattle.std.proofs.lemmas.Bool.{and_parts}
use Rattle.std.proofs.lemmas.List.{take-append-drop, drop-drop}
use Rattle.std.proofs.lemmas.List.Elements.{All-weaker}
use Rattle.std.proofs.lemmas.List.Folds.{list_all-append}
use Rattle.std.proofs.lemmas.List.Sums.{AllPass-from_list_all, list_all-from_AllPass}
use Rattle.gv_view.specs.Texts.{is_ascii_char}
use Rattle.gv_view.proofs.ShortTexts.{ascii_chars_are_utf8}
use Rattle.dconf_model.specs.Bytes.{hash_step}
use Rattle.dconf_model.specs.Table.{Table, item, item_count, key, list_kind}
use Rattle.dconf_model.specs.Sound.{HasParent, IsPart}
use Rattle.gvdb_check.specs.HashAbove.{hash_above}
use Rattle.gvdb_check.specs.PlainKey.{IsPlainPart, KeyKeeps, is_plain}
use Rattle.gvdb_check.proofs.KeyTexts.{no_zero, none_of}

plain_is_ascii : (s : List ℕ) → list_all is_plain s ≡ true → list_all is_ascii_char s ≡ true
plain_is_ascii s h =
    list_all-from_AllPass is_ascii_char s (All-weaker _ _ (λ c plain. (and_parts (is_ascii_char c) (not (c == 47)) plain).0) s (AllPass-from_list_all is_plain s h))

part_is_ascii : (kind : ℕ) (part : List ℕ) → IsPlainPart kind part → list_all is_ascii_char part ≡ true
part_is_ascii kind part (inl key) = plain_is_ascii part key.1
part_is_ascii kind part (inr dir) =
    let ascii : list_all is_ascii_char dir.1.0 ≡ true = plain_is_ascii dir.1.0 dir.1.3 in
    let both : list_all is_ascii_char (dir.1.0 ++ 47 ∷ []) ≡ true = list_all-append is_ascii_char dir.1.0 (47 ∷ []) ∙ rw ascii refl in
    subst (λ (k : List ℕ). list_all is_ascii_char k ≡ true) (sym dir.1.1) both

is_part : (t : Table) (i : ℕ) → IsPlainPart (item t i).kind (key t i) → IsPart t i
is_part t i (inl own) = inl (own.0, none_of is_plain (key t i) 47 refl own.1)
is_part t i (inr dir) = inr (dir.0, record { name = dir.1.0; whole = dir.1.1; some = dir.1.2; plain = none_of is_plain dir.1.0 47 refl dir.1.3 })

-- bytes whose groups of four are plain, and the rest of them
by_fours : (count : ℕ) (s : List ℕ) → list_all (list_all is_plain) (first_chunks 4 count s) ≡ true → list_all is_plain (drop (4 * count) s) ≡ true → list_all is_plain s ≡ true
by_fours zero s fours rest = rest
by_fours (suc n) s fours rest =
    let parts = and_parts (list_all is_plain (take 4 s)) (list_all (list_all is_plain) (first_chunks 4 n (drop 4 s))) fours in
    let further : drop (4 * n) (drop 4 s) ≡ drop (4 * suc n) s = drop-drop (4 * n) 4 s ∙ ap (λ (m : ℕ). drop m s) (omega arith) in
    let first : list_all is_plain (take 4 s) ≡ true = parts.0 in
    let others : list_all is_plain (drop 4 s) ≡ true = by_fours n (drop 4 s) parts.1 (ap (list_all is_plain) further ∙ rest) in
    ap (list_all is_plain) (sym (take-append-drop 4 s)) ∙ (list_all-append is_plain (take 4 s) (drop 4 s) ∙ rw (first, others) refl)

pub plain_by_fours : (s rest : List ℕ) (fours : List (List ℕ)) → fours ≡ first_chunks 4 (length s / 4) s → rest ≡ drop (length s / 4 * 4) s → list_all (list_all is_plain) fours ≡ true → list_all is_plain rest ≡ true → list_all is_plain s ≡ true
plain_by_fours s rest fours cut behind first last =
    let turned : length s / 4 * 4 ≡ 4 * (length s / 4) = omega arith in
    by_fours (length s / 4) s (sym (ap (list_all (list_all is_plain)) cut) ∙ first) (sym (ap (list_all is_plain) (behind ∙ ap (λ (n : ℕ). drop n s) turned)) ∙ last)

pub plain_keeps : (t : Table) (i p : ℕ) → (item t i).parent ≡ Some p → p < item_count t → (item t p).kind ≡ list_kind → (item t i).key_end ≤ length t.file → IsPlainPart (item t i).kind (key t i)
    → (item t i).hash ≡ fold hash_step (item t p).hash (key t i) → KeyKeeps t i
plain_keeps t i p up counted of_list inside plain hash =
    let ascii = part_is_ascii (item t i).kind (key t i) plain in
    record {
      good_key = record {
        inside = inside;
        utf8 = ascii_chars_are_utf8 (key t i) ascii;
        no_nul = no_zero (key t i) ascii;
        parent = subst (λ o. IfSome o (λ q. q < item_count t)) (sym up) counted;
      };
      goes_on = hash ∙ ap (λ o. fold hash_step (hash_above t o) (key t i)) (sym up);
      has_parent = subst (HasParent t i) (sym up) (of_list, is_part t i plain);
    }

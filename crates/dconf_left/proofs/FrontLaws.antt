-- A file that is put in front of the others.
use Rattle.std.proofs.Common.{ℕ, zero, suc, ◌+◌, ◌-◌, ◌≤◌, ◌≡◌, ◌≢◌, Bool, true, List, [], ◌++◌, length, take, drop, refl, sym, ◌∙◌, ap, ap₂, arith, append_assoc, append-nil, length-append}
use Rattle.std.proofs.lemmas.List.{drop_all, drop-drop, length-take-le}
use Rattle.dconf_files.specs.declared.stamp.FileStamp.{FileStamp}
use Rattle.dconf_left.specs.declared.files.LeftFile.{LeftFile}
use Rattle.dconf_left.specs.Records.{left_file, numbers, record_bytes}
use Rattle.dconf_left.specs.Left.{joined, others, records, with_left}
use Rattle.dconf_left.proofs.NumberLaws.{length_all}

pub front_is : (left name : List ℕ) (file : FileStamp) (synced : Bool) (most : ℕ) (kept : List ℕ) → file.is_there ≡ true → most ≢ 0
    → kept ≡ joined (take (most - 1) (others (left_file name file) (records left)))
    → with_left left name file synced most ≡ record_bytes (left_file name file) synced ++ kept
front_is left name file synced zero kept there some is = absurd (some refl)
front_is left name file synced (suc m) kept there some is =
    let less : suc m - 1 ≡ m = omega arith in
    rw there (ap (λ ys. record_bytes (left_file name file) synced ++ ys) (sym (is ∙ ap (λ (n : ℕ). joined (take n (others (left_file name file) (records left)))) less)))

pub front_length : (left name : List ℕ) (file : FileStamp) (synced : Bool) (most : ℕ) (kept : List ℕ) → file.is_there ≡ true → most ≢ 0
    → kept ≡ joined (take (most - 1) (others (left_file name file) (records left)))
    → 56 + length kept ≡ length (with_left left name file synced most)
front_length left name file synced most kept there some is =
    let front : List ℕ = record_bytes (left_file name file) synced in
    sym (ap length (front_is left name file synced most kept there some is)
    ∙ (length-append front kept ∙ ap (λ n. n + length kept) (length_all (numbers (left_file name file) synced))))

pub front_fits : (all front kept room first rest : List ℕ) → all ≡ front ++ kept → 56 + length kept ≡ length all → length all ≤ length room
    → first ≡ front ++ drop 56 (take 56 room) → rest ≡ kept ++ drop (length kept) (drop 56 room) → first ++ rest ≡ all ++ drop (length all) room
front_fits all front kept room first rest is size reach a b =
    let none : drop 56 (take 56 room) ≡ [] = drop_all 56 (take 56 room) (omega (arith, length-take-le 56 room (omega (arith, reach, size)))) in
    let one : first ≡ front = a ∙ ap (λ xs. front ++ xs) none ∙ append-nil front in
    let two : rest ≡ kept ++ drop (length all) room = b ∙ ap (λ xs. kept ++ xs) (drop-drop (length kept) 56 room) ∙ ap (λ (n : ℕ). kept ++ drop n room) size in
    ap₂ ◌++◌ one two ∙ sym (append_assoc front kept (drop (length all) room)) ∙ ap (λ xs. xs ++ drop (length all) room) (sym is)

-- what is kept, by what was lent
pub kept_is : (left name rest kept : List ℕ) (file : FileStamp) (of : LeftFile) (most : ℕ) → of ≡ left_file name file → records rest ≡ others of (records left)
    → kept ≡ joined (take (most - 1) (records rest)) → kept ≡ joined (take (most - 1) (others (left_file name file) (records left)))
kept_is left name rest kept file of most same behind is =
    is ∙ ap (λ rs. joined (take (most - 1) rs)) (behind ∙ ap (λ f. others f (records left)) same)

-- Reading lines one after another: what was found so far, and what the lines that are left give.
use Rattle.std.proofs.Common.{◌≡◌, ℕ, ◌+◌, ◌<◌, true, List, [], ◌∷◌, ◌++◌, length, take, drop, get_or, refl, sym, ap, ◌∙◌, arith, append_assoc, length-take, append-nil, suc, ◌==◌, lit<}
use Rattle.std.specs.Prelude.{Result, Ok, Err, cond}
use Rattle.std.specs.List.{slice_split, enumerate_from}
use Rattle.std.specs.declared.iter.Enumerate.{Enumerate}
use Rattle.std.specs.declared.str.Split.{Split}
use Rattle.std.specs.Iterator.Adapters.{enumerate_source, enumerate_count, enumerate_steps}
use Rattle.std.specs.Str.Iter.{split_text, split_has_more, split_pattern, split_steps}
use Rattle.std.specs.Str.Pattern.{FindsChar}
use Rattle.std.proofs.lemmas.Bool.{ne_eqb}
use Rattle.std.proofs.lemmas.Iterator.{YieldsList}
use Rattle.std.proofs.lemmas.Iterator.Consumers.{YieldsList-at, YieldsList-from_enumerate}
use Rattle.std.proofs.lemmas.Iterator.Splits.{YieldsList-from_str_split}
use Rattle.std.proofs.lemmas.List.FromFn.{length-enumerate_from, get_or-enumerate_from}
use Rattle.std.proofs.lemmas.List.{take_more, drop_more, drop_all, get_or_default}
use Rattle.dconf_model.specs.Causes.{SettingsCause}
use Rattle.dconf_model.specs.Lines.{LineReading, LineFault, fault_at_line, with_first_found, put_first, read_after, read_lines, without_empty_end}
use Rattle.dconf_model.specs.Lines.LineReading.{nothing, found, wrong}

-- ---- the lines of a text, and what stands between its line feeds

abbrev pub parts_of : List ℕ → List (List ℕ)
parts_of text = slice_split (λ c. c == 10) text

-- what `split` and `enumerate` yield
pub numbered_parts : (text : List ℕ) (split : Split ℕ) (numbered started : Enumerate (Split ℕ))
    → split_text split ≡ text → split_has_more split ≡ true → split_pattern split ≡ 10
    → enumerate_source numbered ≡ split → enumerate_count numbered ≡ 0 → started ≡ numbered
    → YieldsList (enumerate_steps (split_steps FindsChar (λ a b. b ≡ a))) (λ p. (p.0, p.1.now)) started (enumerate_from 0 (parts_of text))
numbered_parts text split numbered started is more pattern source count same =
    YieldsList-at same (YieldsList-from_enumerate (YieldsList-at source (YieldsList-from_str_split 10 text (lit< tt) is more pattern)) count)

-- part n, its number and what it is
pub record IsPart (parts : List (List ℕ)) (n i : ℕ) (part : List ℕ) : Type 0 where
  pub inside : n < length parts
  pub numbered : i ≡ n
  pub is : get_or parts n [] ≡ part

pub part_yielded : (parts : List (List ℕ)) (n i : ℕ) (part : List ℕ)
    → (n < length (enumerate_from 0 parts)) × ((i, part) ≡ get_or (enumerate_from 0 parts) n (i, part)) → IsPart parts n i part
part_yielded parts n i part h =
    let inside : n < length parts = omega (arith, h.0, length-enumerate_from 0 parts) in
    let both = h.1 ∙ get_or-enumerate_from 0 parts n (i, part) inside in
    record { inside = inside; numbered = ap (λ p. p.0) both ∙ omega arith; is = get_or_default parts n [] part inside ∙ sym (ap (λ p. p.1) both) }

module _ {X : Type 0} (read : List (List ℕ) → List ℕ → LineReading X) where
  -- what was found before the others
  abbrev pub with_front : List X → Result (List X) LineFault → Result (List X) LineFault
  with_front xs (Ok ys) = Ok (xs ++ ys)
  with_front xs (Err f) = Err f

  -- What so many of the parts gave is xs, and none of them is at fault.
  pub record HasRead (parts : List (List ℕ)) (n : ℕ) (xs : List X) : Type 0 where
    pub so_far : read_after read [] parts ≡ with_front xs (read_after read (take n parts) (drop n parts))

  front_of_none : (r : Result (List X) LineFault) → with_front [] r ≡ r
  front_of_none (Ok ys) = refl
  front_of_none (Err f) = refl

  front_of_more : (xs : List X) (x : X) (r : Result (List X) LineFault) → with_front xs (with_first_found x r) ≡ with_front (xs ++ x ∷ []) r
  front_of_more xs x (Ok ys) = ap Ok (sym (append_assoc xs (x ∷ []) ys))
  front_of_more xs x (Err f) = refl

  pub read_none : (parts : List (List ℕ)) → HasRead parts 0 []
  read_none parts = record { so_far = sym (front_of_none (read_after read [] parts)) }

  -- the next part, with those before it
  next_part : (parts : List (List ℕ)) (n : ℕ) → n < length parts
      → read_after read (take n parts) (drop n parts)
      ≡ put_first (n + 1) (read (take n parts) (get_or parts n [])) (read_after read (take (n + 1) parts) (drop (n + 1) parts))
  next_part parts n inside =
      let count : length (take n parts) ≡ n = omega (arith, length-take n parts) in
      rw (drop_more parts n [] inside, take_more parts n [] inside, count) refl

  module _ (parts : List (List ℕ)) (n : ℕ) (xs : List X) (inside : n < length parts) (so_far : HasRead parts n xs) where
    turn : (r : LineReading X) → read (take n parts) (get_or parts n []) ≡ r
        → read_after read [] parts ≡ with_front xs (put_first (n + 1) r (read_after read (take (n + 1) parts) (drop (n + 1) parts)))
    turn r gives = so_far.so_far ∙ ap (with_front xs) (next_part parts n inside ∙ ap (λ q. put_first (n + 1) q (read_after read (take (n + 1) parts) (drop (n + 1) parts))) gives)

    pub read_nothing : read (take n parts) (get_or parts n []) ≡ nothing → HasRead parts (n + 1) xs
    read_nothing gives = record { so_far = turn nothing gives }

    pub read_found : (x : X) → read (take n parts) (get_or parts n []) ≡ found x → HasRead parts (n + 1) (xs ++ x ∷ [])
    read_found x gives = record { so_far = turn (found x) gives ∙ front_of_more xs x (read_after read (take (n + 1) parts) (drop (n + 1) parts)) }

    pub read_wrong : (cause : SettingsCause) → read (take n parts) (get_or parts n []) ≡ wrong cause → read_after read [] parts ≡ fault_at_line (n + 1) cause
    read_wrong cause gives = turn (wrong cause) gives

  pub read_all : (parts : List (List ℕ)) (n : ℕ) (xs : List X) → n ≡ length parts → HasRead parts n xs → read_after read [] parts ≡ Ok xs
  read_all parts n xs all h =
      let none : drop n parts ≡ [] = drop_all n parts (omega arith) in
      h.so_far ∙ (ap (λ rest. with_front xs (read_after read (take n parts) rest)) none ∙ ap Ok (append-nil xs))

  -- ---- an empty last part is no line, and says nothing

  module _ (silent : (earlier : List (List ℕ)) → read earlier [] ≡ nothing) where
    without_end_same : (earlier parts : List (List ℕ)) → read_after read earlier (without_empty_end parts) ≡ read_after read earlier parts
    without_end_same earlier [] = refl
    without_end_same earlier ([] ∷ []) = sym (ap (λ r. put_first (length earlier + 1) r (Ok [])) (silent earlier))
    without_end_same earlier ((c ∷ l) ∷ []) =
        ap (λ b. read_after read earlier (cond b [] ((c ∷ l) ∷ []))) (ne_eqb (suc (length l)) 0 (omega arith))
    without_end_same earlier (l ∷ m ∷ more) = ap (put_first (length earlier + 1) (read earlier l)) (without_end_same (earlier ++ l ∷ []) (m ∷ more))

    pub read_parts : (text : List ℕ) → read_lines read text ≡ read_after read [] (parts_of text)
    read_parts text = without_end_same [] (parts_of text)

-- Plain literals, as what is printed for their values.
use Rattle.std.proofs.Common.{◌≡◌, ◌≢◌, ◌<◌, ◌+◌, ℕ, List, [], ◌∷◌, ◌++◌, Bool, true, false, not, ◌==◌, ◌&&◌, ◌||◌, nat_le, length, get_or, take, drop, ◌-◌, ◌≤◌, Option, Result, Ok, Err, IfOk, IfSome, refl, sym, ap, ◌∙◌, subst, arith, decimal}
use Rattle.std.specs.List.{list_all, list_any, slice_range}
use Rattle.std.specs.Result.{result_ok}
use Rattle.std.specs.Str.Parse.{ParsesUnsigned}
use Rattle.std.proofs.lemmas.Bool.{and_parts, true≢false}
use Rattle.std.proofs.lemmas.List.{drop_all, drop_more, take-append-drop, drop-drop}
use Rattle.std.proofs.lemmas.Fmt.{decimal-digits_value}
use Rattle.std.proofs.lemmas.Str.Parse.{tells_digits, numerals_by_value, parse_plain}
use Rattle.gv_model.specs.Tree.{Tree, type_of}
use Rattle.gv_model.specs.Quoted.{quoted}
use Rattle.gv_tree.specs.Wholes.{IsWhole}
use Rattle.gv_syntax.specs.Printable.{is_printable}
use Rattle.gv_syntax.proofs.PlainTexts.{quoted_plain}
use Rattle.gv_infer.specs.PrintedTexts.{IsPrintedFor}
use Rattle.gv_infer.specs.Reads.{Reads}
use Rattle.gv_infer.proofs.PrintedReading.{printed_read}

-- what is printed for a value reads as that value
pub read_as_printed : (s : List ℕ) (v : Tree) → IsWhole v → IsPrintedFor s v → Reads s (Ok v)
read_as_printed s v w p =
    subst (λ t. Reads t (Ok v)) p.shown
    (((printed_read (type_of v) v (record { type = refl; value = w.value }) w.limits p.no_double p.levels).value (Ok v)).1 refl)

pub tree_read : {E : Type 0} (s : List ℕ) (b : Tree) (r : Result Tree E) (o : Option Tree) → IsPrintedFor s b → IfOk r (λ t. t ≡ b) → IfOk r IsWhole → o ≡ result_ok r → IfSome o (λ v. Reads s (Ok v))
tree_read s b (Ok t) o p made whole is = rw is (read_as_printed s t whole (subst (IsPrintedFor s) (sym made) p))
tree_read s b (Err e) o p made whole is = rw is tt

-- digits without a leading zero are what is printed for their number
decimal_read : {E : Type 0} (ds : List ℕ) (r : Result ℕ E) → get_or ds 0 0 ≢ 43 → (get_or ds 0 0 ≡ 48 → length ds ≡ 1) → ParsesUnsigned 32 10 ds r → IfSome (result_ok r) (λ n. decimal n ≡ ds)
decimal_read {E} ds (Ok n) no_plus zero h =
    let own = numerals_by_value _ tells_digits in
    let read = parse_plain own {E = E} 32 ds (Ok n) h no_plus in
    ap decimal read.1 ∙ decimal-digits_value own ds read.0.0 read.0.1 zero (omega (arith, read.0.2))
decimal_read ds (Err e) no_plus zero h = tt

pub number_read : {E : Type 0} (ds bytes : List ℕ) (r : Result ℕ E) (o : Option ℕ) → bytes ≡ ds → get_or bytes 0 0 ≢ 43 → (get_or bytes 0 0 ≡ 48 → length bytes ≡ 1) → ParsesUnsigned 32 10 ds r → o ≡ result_ok r
    → IfSome o (λ n. decimal n ≡ ds)
number_read ds bytes r o same no_plus zero h is =
    subst (λ p. IfSome p (λ n. decimal n ≡ ds)) (sym is)
    (decimal_read ds r (subst (λ l. get_or l 0 0 ≢ 43) same no_plus) (subst (λ l. get_or l 0 0 ≡ 48 → length l ≡ 1) same zero) h)

-- a text of two bytes or more that begins and ends in a '
pub record IsInQuotes (s : List ℕ) : Type 0 where
  pub long : 2 ≤ length s
  pub first : get_or s 0 0 ≡ 39
  pub last : get_or s (length s - 1) 0 ≡ 39

quote_at : (s : List ℕ) (i : ℕ) → i < length s → get_or s i 0 ≡ 39 → drop i s ≡ 39 ∷ drop (i + 1) s
quote_at s i below is = drop_more s i 0 below ∙ ap (λ c. c ∷ drop (i + 1) s) is

-- it is what is between, in quotes
quotes_on : (s : List ℕ) → IsInQuotes s → s ≡ 39 ∷ (slice_range s 1 (length s - 1) ++ 39 ∷ [])
quotes_on s q =
    quote_at s 0 (omega (arith, q.long)) q.first
    ∙ ap (λ (l : List ℕ). 39 ∷ l) (sym (take-append-drop (length s - 1 - 1) (drop 1 s)) ∙ ap (λ (l : List ℕ). take (length s - 1 - 1) (drop 1 s) ++ l) end)
  where
    end : drop (length s - 1 - 1) (drop 1 s) ≡ 39 ∷ []
    end =
        drop-drop (length s - 1 - 1) 1 s
        ∙ (ap (λ n. drop n s) (omega (arith, q.long)) ∙ (quote_at s (length s - 1) (omega (arith, q.long)) q.last ∙ ap (λ (l : List ℕ). 39 ∷ l) (drop_all (length s - 1 + 1) s (omega (arith, q.long)))))

pub quotes_off : (s inner bytes : List ℕ) → IsInQuotes s → inner ≡ slice_range s 1 (length s - 1) → bytes ≡ inner → list_all (is_printable 39) bytes ≡ true → quoted inner ≡ s
quotes_off s inner bytes q part same plain =
    quoted_plain inner (subst (λ l. list_all (is_printable 39) l ≡ true) same plain) ∙ (ap (λ (l : List ℕ). 39 ∷ (l ++ 39 ∷ [])) part ∙ sym (quotes_on s q))

-- The value of a text of UTF-8 within the limit is a value of its type, which is within the limits.
use Rattle.std.specs.Prelude.{◌≡◌, ◌≤◌, ℕ, ◌+◌, ◌-◌, List, [], ◌∷◌, ◌++◌, length, take, drop, Option, None, Result, Ok, Err, refl}
use Rattle.std.specs.List.{AllByRecursion}
use Rattle.std.specs.Str.{IsUtf8}
use Rattle.std.proofs.Common.{sym, ap, subst, ◌∙◌, arith, append_assoc}
use Rattle.std.proofs.lemmas.List.{take-append-drop}
use Rattle.std.proofs.lemmas.Str.{is_utf8-from_IsUtf8, IsUtf8-from_is_utf8}
use Rattle.gv_model.specs.Tree.{Tree}
use Rattle.gv_model.specs.TextFault.{Fault}
use Rattle.gv_model.specs.Tokens.{Token, Placed}
use Rattle.gv_model.specs.Tokens.Token.{mark, string_token, byte_string, integer_token, type_token, word}
use Rattle.gv_model.specs.Tokens.Mark.{close_tuple, close_list, close_brace, close_box, comma, colon}
use Rattle.gv_model.specs.Lexing.{Begins, Lexes, blanks}
use Rattle.gv_model.specs.Grammar.{tokens_of, tokens_bytes, text_bytes as size_of, commas, members_tokens, pairs_tokens, syntaxes_bytes, pairs_bytes}
use Rattle.gv_model.specs.Parsing.{kinds, IsTree}
use Rattle.gv_model.specs.PlainTexts.{IsPlain, ArePlain, PairsPlain}
use Rattle.gv_model.specs.Syntax.{Syntax, Syntaxes, Pairs}
use Rattle.gv_model.specs.Syntax.Syntax.{truth, integer, quoted, bytes, list, tuple_of, dictionary, lone, boxed, just, nothing, at_type, keyword}
use Rattle.gv_model.specs.Syntax.Syntaxes.{none, first}
use Rattle.gv_model.specs.Syntax.Pairs.{no_pair, pair}
use Rattle.gv_model.specs.TextLaws.{written}
use Rattle.gv_model.specs.LeastTypes.{choice}
use Rattle.gv_model.specs.Literals.{ValueFault}
use Rattle.gv_model.specs.TextValues.{value_of}
use Rattle.gv_model.proofs.StringParts.{string_parts, byte_string_parts}
use Rattle.gv_model.proofs.PlainTextLaws.{tree_is_plain}
use Rattle.gv_model.proofs.TokenSizes.{tokens_fit}
use Rattle.dconf_model.specs.Causes.{SettingsCause}
use Rattle.dconf_model.specs.Values.{value_of_text, or_value_fault, IsMeaning}
use Rattle.dconf_model.specs.Stores.{IsLimitedValue, TextsAreWhole}
use Rattle.dconf_model.proofs.AsciiParts.{utf8_beside}
use Rattle.dconf_model.proofs.StringTexts.{string_text, string_bytes, AreBytes, text_bytes, bytes_later}
use Rattle.gv_model.proofs.LowBytes.{quote_is_low}
use Rattle.gv_model.proofs.WellTyped.{no_zero}
use Rattle.gv_model.proofs.TypeWeights.{choice_within, list_bytes, tuple_bytes, dictionary_bytes, entry_bytes, box_bytes}
use Rattle.dconf_model.proofs.ValueLaws.{text_has_its_value, with_tree}
use Rattle.dconf_model.proofs.WholeValues.{IsGood, AreGood, PairsGood, good_is_whole}

-- ---- the tokens of a text

abbrev IsTextToken : Token → Type 0
IsTextToken (string_token s) = IsUtf8 s
IsTextToken (byte_string s) = AreBytes s
IsTextToken other = Unit {0}

-- a text ends so
abbrev IsEnd : List ℕ → Type 0
IsEnd s = (before : List ℕ) × IsUtf8 (before ++ s)

drop_end : (n : ℕ) (s : List ℕ) → IsEnd s → IsEnd (drop n s)
drop_end n s h =
    let same : h.0 ++ s ≡ (h.0 ++ take n s) ++ drop n s =
    ap (λ l. h.0 ++ l) (sym (take-append-drop n s)) ∙ sym (append_assoc h.0 (take n s) (drop n s)) in
    (h.0 ++ take n s, subst IsUtf8 same h.1)

text_token : (at : ℕ) (s : List ℕ) (t : Placed) → IsEnd s → Begins at s t → (k : Token) → t.token ≡ k → IsTextToken k
text_token at s t u h (mark m) e = tt
text_token at s t u h (string_token x) e =
    let is = string_parts at s t x h e in
    let small = quote_is_low is.quote is.is_one in
    let inside = (utf8_beside u.0 is.quote (written is.parts ++ is.quote ∷ is.after) small (subst (λ l. IsUtf8 (u.0 ++ l)) is.spells u.1)).1 in
    subst IsUtf8 (sym is.meaning) (string_text is.quote is.parts is.after small is.each inside)
text_token at s t u h (byte_string x) e =
    let found = byte_string_parts at s t x h e in
    let is = found.2 in
    let all = bytes_later u.0 s (text_bytes (u.0 ++ s) u.1) in
    let rest = (subst AreBytes found.1 all).1 in
    let inside = (subst AreBytes is.spells rest).1 in
    subst AreBytes (sym is.meaning) (string_bytes is.quote is.parts (is.quote ∷ is.after) is.each inside)
text_token at s t u h (integer_token negative n) e = tt
text_token at s t u h (type_token k) e = tt
text_token at s t u h (word w) e = tt

text_tokens : (at : ℕ) (s : List ℕ) (ts : List Placed) (f : Option Fault) → IsEnd s → Lexes at s ts f → AllByRecursion IsTextToken (kinds ts)
text_tokens at s [] f u h = tt
text_tokens at s (t ∷ ts) f u h = (
  text_token (at + blanks s) (drop (blanks s) s) t (drop_end (blanks s) s u) h.0 t.token refl,
  text_tokens t.stop (drop (t.stop - at) s) ts f (drop_end (t.stop - at) s u) h.1,
)

-- ---- the tree of such tokens

apart : (xs ys : List Token) → AllByRecursion IsTextToken (xs ++ ys) → AllByRecursion IsTextToken xs × AllByRecursion IsTextToken ys
apart [] ys h = (tt, h)
apart (x ∷ xs) ys h = let rest = apart xs ys h.1 in ((h.0, rest.0), rest.1)

mutual
  unfolding tokens_of tokens_bytes

  good_tree : (x : Syntax) → IsPlain x → AllByRecursion IsTextToken (tokens_of x) → size_of x ≤ 16777216 → IsGood choice x
  good_tree (truth b) p h l = tt
  good_tree (integer negative n) p h l = tt
  good_tree (quoted s) p h l = (no_zero s p, is_utf8-from_IsUtf8 s h.0)
  good_tree (bytes s) p h l = h.0
  good_tree (list xs) p h l = good_list xs p (apart (commas xs) (mark close_list ∷ []) h.1).0 (omega (arith, list_bytes xs, l))
  good_tree (tuple_of xs) p h l = good_members xs p (apart (members_tokens xs) (mark close_tuple ∷ []) h.1).0 (omega (arith, tuple_bytes xs, l))
  good_tree (dictionary ps) p h l = good_pairs ps p (apart (pairs_tokens ps) (mark close_brace ∷ []) h.1).0 (omega (arith, dictionary_bytes ps, l))
  good_tree (lone k v) p h l =
      let parts = apart (tokens_of k) (mark comma ∷ (tokens_of v ++ mark close_brace ∷ [])) h.1 in (
        good_tree k p.0 parts.0 (omega (arith, entry_bytes k v, l)),
        good_tree v p.1 (apart (tokens_of v) (mark close_brace ∷ []) parts.1.1).0 (omega (arith, entry_bytes k v, l)),
      )
  good_tree (boxed x) p h l =
      let small : size_of x ≤ 16777216 = omega (arith, box_bytes x, l) in
      (good_tree x p (apart (tokens_of x) (mark close_box ∷ []) h.1).0 small, λ t e. choice_within x t small e)
  good_tree (just x) p h l = good_tree x p h.1 (omega (arith, l))
  good_tree nothing p h l = tt
  good_tree (at_type t x) p h l = good_tree x p h.1 (omega (arith, l))
  good_tree (keyword k x) p h l = good_tree x p h.1 (omega (arith, l))

  good_list : (xs : Syntaxes) → ArePlain xs → AllByRecursion IsTextToken (commas xs) → syntaxes_bytes xs ≤ 16777216 → AreGood choice xs
  good_list none p h l = tt
  good_list (first x none) p h l = (good_tree x p.0 h (omega (arith, l)), tt)
  good_list (first x (first y xs)) p h l =
      let parts = apart (tokens_of x) (mark comma ∷ commas (first y xs)) h in
      (good_tree x p.0 parts.0 (omega (arith, l)), good_list (first y xs) p.1 parts.1.1 (omega (arith, l)))

  good_members : (xs : Syntaxes) → ArePlain xs → AllByRecursion IsTextToken (members_tokens xs) → syntaxes_bytes xs ≤ 16777216 → AreGood choice xs
  good_members none p h l = tt
  good_members (first x none) p h l = (good_tree x p.0 (apart (tokens_of x) (mark comma ∷ []) h).0 (omega (arith, l)), tt)
  good_members (first x (first y xs)) p h l =
      let parts = apart (tokens_of x) (mark comma ∷ commas (first y xs)) h in
      (good_tree x p.0 parts.0 (omega (arith, l)), good_list (first y xs) p.1 parts.1.1 (omega (arith, l)))

  good_pairs : (ps : Pairs) → PairsPlain ps → AllByRecursion IsTextToken (pairs_tokens ps) → pairs_bytes ps ≤ 16777216 → PairsGood choice ps
  good_pairs no_pair p h l = tt
  good_pairs (pair k v no_pair) p h l =
      let parts = apart (tokens_of k) (mark colon ∷ tokens_of v) h in
      (good_tree k p.0 parts.0 (omega (arith, l)), good_tree v p.1 parts.1.1 (omega (arith, l)), tt)
  good_pairs (pair k v (pair j w ps)) p h l =
      let parts = apart (tokens_of k) (mark colon ∷ (tokens_of v ++ mark comma ∷ pairs_tokens (pair j w ps))) h in
      let later = apart (tokens_of v) (mark comma ∷ pairs_tokens (pair j w ps)) parts.1.1 in
      (good_tree k p.0 parts.0 (omega (arith, l)), good_tree v p.1 later.0 (omega (arith, l)), good_pairs (pair j w ps) p.2 later.1.1 (omega (arith, l)))

-- ---- its value

ok_value : (r : Result Tree ValueFault) (v : Tree) → or_value_fault r ≡ Ok v → r ≡ Ok v
ok_value (Ok w) v e = ap (λ w. Ok w) (ap (tree_or w) e)
  where
    tree_or : Tree → Result Tree SettingsCause → Tree
    tree_or w (Ok u) = u
    tree_or w (Err c) = w
ok_value (Err f) v e = absurd cc

-- a text that has the value
abbrev HasTree : List ℕ → Tree → Type 0
HasTree s v = (x : Syntax) × IsTree s x × (value_of x ≡ Ok v)

tree_of : (s : List ℕ) (v : Tree) → value_of_text s ≡ Ok v → HasTree s v
tree_of s v e =
    let means : IsMeaning s (Ok v) = subst (IsMeaning s) e (text_has_its_value s) in
    (means.0, means.1, ok_value (value_of means.0) v (sym (with_tree s means.0 means.1) ∙ e))

pub text_is_whole : (s : List ℕ) (v : Tree) → IsUtf8 s → length s ≤ 16777216 → value_of_text s ≡ Ok v → IsLimitedValue v
text_is_whole s v u l e =
    let found = tree_of s v e in
    let x = found.0 in
    let tree = found.1 in
    let tokens = subst (AllByRecursion IsTextToken) (sym tree.spells) (text_tokens 0 s tree.placed None ([], u) tree.lexes) in
    let fits = tokens_fit 0 s tree.placed None tree.lexes in
    let small : size_of x ≤ 16777216 = omega (arith, ap tokens_bytes tree.spells, fits, l) in
    good_is_whole x v (good_tree x (tree_is_plain s x tree) tokens small) (λ t e. choice_within x t small e) found.2

pub texts_are_whole : TextsAreWhole
texts_are_whole s v u l e = text_is_whole s v (IsUtf8-from_is_utf8 s u) l e

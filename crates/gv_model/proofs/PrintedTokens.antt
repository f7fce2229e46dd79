-- A printed value's text is read as the tokens of its syntax.
use Rattle.std.proofs.Common.{◌≡◌, ◌<◌, ℕ, Bool, true, false, cond, List, [], ◌∷◌, ◌++◌, Option, Some, None, refl, sym, subst, arith, append_assoc}
use Rattle.std.specs.Prelude.{codes, ◌==◌, ◌&&◌, option_map}
use Rattle.std.specs.List.{AllByRecursion}
use Rattle.std.specs.Str.{IsUtf8, IsAscii}
use Rattle.std.proofs.lemmas.Option.{none-some, same_Some}
use Rattle.std.proofs.lemmas.Bool.{false≢true, and_parts, eqb-false}
use Rattle.std.proofs.lemmas.Str.{IsUtf8-from_is_utf8, IsUtf8-from_ascii, IsAscii-append}
use Rattle.std.proofs.lemmas.Str.Ascii.{IsAscii-nil}
use Rattle.gv_model.specs.Ty.{Ty, Basic, spelling}
use Rattle.gv_model.specs.Ty.Ty.{basic, variant, array, maybe, tuple, entry}
use Rattle.gv_model.specs.Ty.Basic.{boolean, byte, int32, double, string, path, signature}
use Rattle.gv_model.specs.Tree.{Tree, Trees, type_of}
use Rattle.gv_model.specs.Tree.Tree.{number, text, node}
use Rattle.gv_model.specs.Tree.Trees.{none as no_tree, first as first_tree}
use Rattle.gv_model.specs.TypeText.{Seen, seen}
use Rattle.gv_model.specs.TypeText.Seen.{nothing as nothing_seen, type}
use Rattle.gv_model.specs.BasicValue.{text_in}
use Rattle.gv_model.specs.Texts.{is_text, are_types}
use Rattle.gv_model.specs.Typed.{AllOf, MayHold}
use Rattle.gv_model.specs.Admits.{IsTextType}
use Rattle.gv_model.specs.Quoted.{between, quoted as quoted_text}
use Rattle.gv_model.specs.Printed.{word as word_text, when, figures, joined_by, comma as comma_text, tuple_text, numbers, bytes_or, bracketed, is_empty, type_mark, ends_in_nothing, text_of, texts}
use Rattle.gv_model.specs.Tokens.{Token}
use Rattle.gv_model.specs.Tokens.Mark.{open_tuple, close_tuple, open_list, close_list, open_brace, close_brace, open_box, close_box, comma, colon}
use Rattle.gv_model.specs.Tokens.Token.{mark, string_token, type_token, word}
use Rattle.gv_model.specs.Tokens.Word.{just as just_word}
use Rattle.gv_model.specs.Syntax.{Syntax, Syntaxes}
use Rattle.gv_model.specs.Syntax.Syntax.{quoted, list, tuple_of, lone, nothing, at_type}
use Rattle.gv_model.specs.Syntax.Syntaxes.{none, first}
use Rattle.gv_model.specs.Grammar.{tokens_of, commas, pairs_tokens}
use Rattle.gv_model.proofs.LowBytes.{path_ascii}
use Rattle.gv_model.proofs.TypeTextParts.{spelling_is_ascii}
use Rattle.gv_model.proofs.TypeTextSound.{Shows, seen_shows}
use Rattle.gv_model.proofs.PrintedSyntax.{marked, with_word, figures_syntax, pairs_from, bytes_or_list, list_syntax, with_just, entry_syntax, syntax_of, syntaxes_of, Printable, ArePrintable}
use Rattle.gv_model.proofs.LimitedTypes.{IsLimited}
use Rattle.gv_model.proofs.PrintedAdmits.{IsLone, entry_lone}
use Rattle.gv_model.proofs.PrintedReads.{goes_on, Free, Reads, from_free, free_none, free_free, free_reads, reads_free, reads_reads}
use Rattle.gv_model.proofs.PrintedMarks.{free_open_tuple, free_close_tuple, free_open_list, free_close_list, free_open_brace, free_close_brace, free_open_box, free_close_box, free_comma, free_colon, free_tuple_end, word_tokens, free_word, free_just, reads_nothing, free_type}
use Rattle.gv_model.proofs.PrintedNumbers.{figures_read}
use Rattle.gv_model.proofs.PrintedStrings.{quoted_free, byte_string_free, AllBytes}

-- ---- the texts of strings, paths and signatures are UTF-8

shown_ascii : (s : Seen) (w : List ℕ) → are_types s ≡ true → Shows s w → IsAscii w
shown_ascii nothing_seen w e h = subst IsAscii (sym h) IsAscii-nil
shown_ascii (type t s) w e h =
    subst IsAscii (sym h.1) (IsAscii-append (spelling t) h.0 (spelling_is_ascii t) (shown_ascii s h.0 (and_parts _ (are_types s) e).1 h.2))
shown_ascii _ w e h = absurd (false≢true e)

-- ---- brackets

-- in brackets, what is read whatever follows
in_brackets : (l : ℕ) (s : List ℕ) (r : ℕ) (a b : Token) (ts : List Token) → goes_on r ≡ false → Free (l ∷ []) (a ∷ []) → Reads s ts → Free (r ∷ []) (b ∷ []) → Free (between l s r) (a ∷ (ts ++ b ∷ []))
in_brackets l s r a b ts n f h g = free_free (l ∷ []) (s ++ r ∷ []) (a ∷ []) (ts ++ b ∷ []) f (reads_free s r [] ts (b ∷ []) n h g)

-- ---- values in order

abbrev EachReads : List (List ℕ) → Syntaxes → Type 0
EachReads [] none = Unit {0}
EachReads (s ∷ ss) (first x xs) = Reads s (tokens_of x) × EachReads ss xs
EachReads _ _ = ⊥

commas_read : (ss : List (List ℕ)) (xs : Syntaxes) → EachReads ss xs → Reads (joined_by comma_text ss) (commas xs)
unfolding tokens_of
commas_read [] none h = from_free [] [] free_none
commas_read (s ∷ []) (first x none) h = h.0
commas_read (s ∷ r ∷ ss) (first x (first y xs)) h =
    reads_reads s 44 (32 ∷ joined_by comma_text (r ∷ ss)) (tokens_of x) (mark comma ∷ commas (first y xs)) refl h.0
    (free_reads (44 ∷ 32 ∷ []) (joined_by comma_text (r ∷ ss)) (mark comma ∷ []) (commas (first y xs)) free_comma (commas_read (r ∷ ss) (first y xs) h.1))
commas_read [] (first x xs) h = absurd h
commas_read (s ∷ ss) none h = absurd h
commas_read (s ∷ []) (first x (first y xs)) h = absurd h.1
commas_read (s ∷ r ∷ ss) (first x none) h = absurd h.1

tuple_free : (ss : List (List ℕ)) (xs : Syntaxes) → EachReads ss xs → Free (tuple_text ss) (tokens_of (tuple_of xs))
unfolding tokens_of
tuple_free [] none h = in_brackets 40 [] 41 (mark open_tuple) (mark close_tuple) [] refl free_open_tuple (from_free [] [] free_none) free_close_tuple
tuple_free (s ∷ []) (first x none) h =
    subst (λ (ts : List Token). Free (40 ∷ (s ++ codes ",)")) (mark open_tuple ∷ ts)) (sym (append_assoc (tokens_of x) (mark comma ∷ []) (mark close_tuple ∷ [])))
    (free_free (40 ∷ []) (s ++ codes ",)") (mark open_tuple ∷ []) (tokens_of x ++ mark comma ∷ mark close_tuple ∷ []) free_open_tuple
    (reads_free s 44 (41 ∷ []) (tokens_of x) (mark comma ∷ mark close_tuple ∷ []) refl h.0 free_tuple_end))
tuple_free (s ∷ r ∷ ss) (first x (first y xs)) h =
    in_brackets 40 (joined_by comma_text (s ∷ r ∷ ss)) 41 (mark open_tuple) (mark close_tuple) (commas (first x (first y xs))) refl free_open_tuple (commas_read (s ∷ r ∷ ss) (first x (first y xs)) h) free_close_tuple
tuple_free [] (first x xs) h = absurd h
tuple_free (s ∷ ss) none h = absurd h
tuple_free (s ∷ []) (first x (first y xs)) h = absurd h.1
tuple_free (s ∷ r ∷ ss) (first x none) h = absurd h.1

-- entries in order, without their braces
abbrev EntryReads : List ℕ → Syntax → Type 0
EntryReads s (lone k v) = Reads s (tokens_of k ++ mark colon ∷ tokens_of v)
EntryReads s _ = ⊥

abbrev EachEntry : List (List ℕ) → Syntaxes → Type 0
EachEntry [] none = Unit {0}
EachEntry (s ∷ ss) (first x xs) = EntryReads s x × EachEntry ss xs
EachEntry _ _ = ⊥

pairs_read : (ss : List (List ℕ)) (xs : Syntaxes) → EachEntry ss xs → Reads (joined_by comma_text ss) (pairs_tokens (pairs_from xs))
unfolding tokens_of
pairs_read [] none h = from_free [] [] free_none
pairs_read (s ∷ []) (first (lone k v) none) h = h.0
pairs_read (s ∷ r ∷ ss) (first (lone k v) (first (lone j w) xs)) h =
    subst (λ (ts : List Token). Reads (joined_by comma_text (s ∷ r ∷ ss)) ts) (append_assoc (tokens_of k) (mark colon ∷ tokens_of v) (mark comma ∷ pairs_tokens (pairs_from (first (lone j w) xs))))
    (reads_reads s 44 (32 ∷ joined_by comma_text (r ∷ ss)) (tokens_of k ++ mark colon ∷ tokens_of v) (mark comma ∷ pairs_tokens (pairs_from (first (lone j w) xs))) refl h.0
    (free_reads (44 ∷ 32 ∷ []) (joined_by comma_text (r ∷ ss)) (mark comma ∷ []) (pairs_tokens (pairs_from (first (lone j w) xs))) free_comma (pairs_read (r ∷ ss) (first (lone j w) xs) h.1)))
pairs_read (s ∷ r ∷ ss) (first (lone k v) (first _ xs)) h = absurd h.1.0
pairs_read [] (first x xs) h = absurd h
pairs_read (s ∷ ss) none h = absurd h
pairs_read (s ∷ []) (first (lone k v) (first y xs)) h = absurd h.1
pairs_read (s ∷ r ∷ ss) (first (lone k v) none) h = absurd h.1
pairs_read (s ∷ ss) (first _ xs) h = absurd h.0

-- ---- bytes

-- the bytes before a zero byte that is the last
front_bytes : (bs s : List ℕ) → AllByRecursion (λ c. c < 256) bs → text_in bs ≡ Some s → AllBytes s
unfolding text_in
front_bytes [] s h e = absurd (none-some s e)
front_bytes (c ∷ []) s h e = go (c == 0) e
  where
    go : (b : Bool) → cond b (Some []) None ≡ Some s → AllBytes s
    go true e = subst AllBytes (same_Some [] s e) tt
    go false e = absurd (none-some s e)
front_bytes (c ∷ d ∷ cs) s h e = go (c == 0) (text_in (d ∷ cs)) refl (λ r i. front_bytes (d ∷ cs) r h.1 i) e
  where
    go : (b : Bool) (o : Option (List ℕ)) → (c == 0) ≡ b → ((r : List ℕ) → o ≡ Some r → AllBytes r) → cond b None (option_map (λ r. c ∷ r) o) ≡ Some s → AllBytes s
    go true o q f e = absurd (none-some s e)
    go false None q f e = absurd (none-some s e)
    go false (Some r) q f e =
        let n : c ≡ 0 → ⊥ = eqb-false c 0 q in
        let p : 0 < c = omega arith in
        subst AllBytes (same_Some (c ∷ r) s e) (p, h.0, f r refl)

byte_numbers : (vs : Trees) → AllOf (basic byte) vs → ArePrintable vs → AllByRecursion (λ c. c < 256) (numbers vs)
byte_numbers no_tree e p = tt
byte_numbers (first_tree (number k n) vs) e p = (below k n e.0 p.0, byte_numbers vs e.1 p.1)
  where
    below : (k : Basic) (n : ℕ) → basic k ≡ basic byte → Printable (number k n) → n < 256
    below byte n e p = p.0
    below _ n e p = absurd (cc)
byte_numbers (first_tree (text k s) vs) e p = absurd (subst (λ (u : Ty). IsTextType u) e.0 p.0.0)
byte_numbers (first_tree (node t us) vs) e p = absurd (subst (λ (u : Ty). MayHold u us) e.0 p.0.0)

bytes_read : (o : Option (List ℕ)) (s : List ℕ) (xs : Syntaxes) → ((b : List ℕ) → o ≡ Some b → AllBytes b) → Free (between 91 s 93) (tokens_of (list xs)) → Free (bytes_or o (between 91 s 93)) (tokens_of (bytes_or_list o xs))
unfolding tokens_of
bytes_read None s xs f h = h
bytes_read (Some b) s xs f h = byte_string_free b (f b refl)

-- ---- marks and words before a value

word_reads : (a : Bool) (k : Basic) (s : List ℕ) (x : Syntax) → Reads s (tokens_of x) → Reads (when a (word_text k) ++ s) (tokens_of (marked a (with_word k) x))
unfolding tokens_of
word_reads false k s x h = h
word_reads true boolean s x h = h
word_reads true int32 s x h = h
word_reads true double s x h = h
word_reads true string s x h = h
word_reads true k s x h = free_reads (word_text k) s (word_tokens k) (tokens_of x) (free_word k) h

mark_reads : (a : Bool) (t : Ty) (s : List ℕ) (x : Syntax) → IsLimited t → Reads s (tokens_of x) → Reads (when a (type_mark t) ++ s) (tokens_of (marked a (at_type t) x))
unfolding tokens_of
mark_reads true t s x l h = free_reads (type_mark t) s (type_token t ∷ []) (tokens_of x) (free_type t l) h
mark_reads false t s x l h = h

just_reads : (b : Bool) (s : List ℕ) (x : Syntax) → Reads s (tokens_of x) → Reads (when b (codes "just ") ++ s) (tokens_of (with_just b x))
unfolding tokens_of
just_reads true s x h = free_reads (codes "just ") s (word just_word ∷ []) (tokens_of x) free_just h
just_reads false s x h = h

-- ---- trees

text_utf8 : (k : Basic) (s : List ℕ) → IsTextType (basic k) → is_text k s ≡ true → IsUtf8 s
text_utf8 string s t e = IsUtf8-from_is_utf8 s e
text_utf8 path s t e = IsUtf8-from_ascii s (path_ascii s e)
text_utf8 signature s t e = IsUtf8-from_ascii s (shown_ascii (seen s) s (and_parts _ (are_types (seen s)) e).1 (seen_shows s))
text_utf8 _ s t e = absurd t

-- as an element of an array, where an entry has no braces
abbrev InArray : Tree → Bool → Type 0
InArray (node (entry k t) vs) a = EntryReads (text_of (node (entry k t) vs) a true) (syntax_of (node (entry k t) vs) a)
InArray v a = Reads (text_of v a true) (tokens_of (syntax_of v a))

record Both (v : Tree) (a : Bool) : Type 0 where
  alone : Reads (text_of v a false) (tokens_of (syntax_of v a))
  element : InArray v a

abbrev AllBoth : Trees → Bool → Bool → Type 0
AllBoth no_tree a r = Unit {0}
AllBoth (first_tree v vs) a r = Both v a × AllBoth vs r r

each_alone : (vs : Trees) (a r : Bool) → AllBoth vs a r → EachReads (texts vs a r false) (syntaxes_of vs a r)
unfolding text_of syntax_of
each_alone no_tree a r h = tt
each_alone (first_tree v vs) a r h = (h.0.alone, each_alone vs r r h.1)

abbrev IsNoEntry : Ty → Type 0
IsNoEntry (entry k t) = ⊥
IsNoEntry _ = Unit {0}

plain_element : (v : Tree) (t : Ty) (a : Bool) → IsNoEntry t → type_of v ≡ t → Both v a → Reads (text_of v a true) (tokens_of (syntax_of v a))
plain_element (number k n) t a i e h = h.element
plain_element (text k s) t a i e h = h.element
plain_element (node (entry k u) vs) t a i e h = absurd (subst IsNoEntry (sym e) i)
plain_element (node _ vs) t a i e h = h.element

each_element : (vs : Trees) (t : Ty) (a r : Bool) → IsNoEntry t → AllOf t vs → AllBoth vs a r → EachReads (texts vs a r true) (syntaxes_of vs a r)
unfolding text_of syntax_of
each_element no_tree t a r i e h = tt
each_element (first_tree v vs) t a r i e h = (plain_element v t a i e.0 h.0, each_element vs t r r i e.1 h.1)

entry_element : (v : Tree) (k : Basic) (t : Ty) (a : Bool) → type_of v ≡ entry k t → Both v a → EntryReads (text_of v a true) (syntax_of v a)
entry_element (node (entry j u) vs) k t a e h = h.element
entry_element (number j n) k t a e h = absurd (cc)
entry_element (text j s) k t a e h = absurd (cc)
entry_element (node _ vs) k t a e h = absurd (cc)

each_entry : (vs : Trees) (k : Basic) (t : Ty) (a r : Bool) → AllOf (entry k t) vs → AllBoth vs a r → EachEntry (texts vs a r true) (syntaxes_of vs a r)
unfolding text_of syntax_of
each_entry no_tree k t a r e h = tt
each_entry (first_tree v vs) k t a r e h = (entry_element v k t a e.0 h.0, each_entry vs k t r r e.1 h.1)

list_free : (ss : List (List ℕ)) (xs : Syntaxes) → EachReads ss xs → Free (between 91 (joined_by comma_text ss) 93) (tokens_of (list xs))
unfolding tokens_of
list_free ss xs h = in_brackets 91 (joined_by comma_text ss) 93 (mark open_list) (mark close_list) (commas xs) refl free_open_list (commas_read ss xs h) free_close_list

list_reads : (t : Ty) (vs : Trees) (a : Bool) → AllOf t vs → ArePrintable vs → AllBoth vs a false → Free (bracketed t vs (joined_by comma_text (texts vs a false true))) (tokens_of (list_syntax t vs (syntaxes_of vs a false)))
unfolding tokens_of
list_reads (entry k t) vs a e p h =
    in_brackets 123 (joined_by comma_text (texts vs a false true)) 125 (mark open_brace) (mark close_brace) (pairs_tokens (pairs_from (syntaxes_of vs a false))) refl free_open_brace
    (pairs_read (texts vs a false true) (syntaxes_of vs a false) (each_entry vs k t a false e h)) free_close_brace
list_reads (basic byte) vs a e p h =
    bytes_read (text_in (numbers vs)) (joined_by comma_text (texts vs a false true)) (syntaxes_of vs a false) (λ b i. front_bytes (numbers vs) b (byte_numbers vs e p) i)
    (list_free (texts vs a false true) (syntaxes_of vs a false) (each_element vs (basic byte) a false tt e h))
list_reads t vs a e p h = list_free (texts vs a false true) (syntaxes_of vs a false) (each_element vs t a false tt e h)

-- an entry by itself, and in an array
entry_reads : (ss : List (List ℕ)) (xs : Syntaxes) → IsLone (entry_syntax xs) → EachReads ss xs → Reads (between 123 (joined_by comma_text ss) 125) (tokens_of (entry_syntax xs)) × EntryReads (joined_by (codes ": ") ss) (entry_syntax xs)
unfolding tokens_of
entry_reads (s ∷ r ∷ []) (first x (first y none)) l h = (
  from_free (between 123 (joined_by comma_text (s ∷ r ∷ [])) 125) (tokens_of (lone x y))
      (subst (λ (ts : List Token). Free (between 123 (joined_by comma_text (s ∷ r ∷ [])) 125) (mark open_brace ∷ ts)) (append_assoc (tokens_of x) (mark comma ∷ tokens_of y) (mark close_brace ∷ []))
      (in_brackets 123 (joined_by comma_text (s ∷ r ∷ [])) 125 (mark open_brace) (mark close_brace) (commas (first x (first y none))) refl free_open_brace (commas_read (s ∷ r ∷ []) (first x (first y none)) h) free_close_brace)),
  reads_reads s 58 (32 ∷ r) (tokens_of x) (mark colon ∷ tokens_of y) refl h.0 (free_reads (58 ∷ 32 ∷ []) r (mark colon ∷ []) (tokens_of y) free_colon h.1.0),
)
entry_reads [] (first x xs) l h = absurd h
entry_reads (s ∷ []) (first x (first y ys)) l h = absurd h.1
entry_reads (s ∷ r ∷ q ∷ ss) (first x (first y none)) l h = absurd h.1.1
entry_reads ss none l h = absurd l
entry_reads ss (first x none) l h = absurd l
entry_reads ss (first x (first y (first z zs))) l h = absurd l

mutual
  unfolding text_of syntax_of tokens_of

  both_of : (v : Tree) (a : Bool) → Printable v → Both v a
  both_of (number k n) a p = let h = word_reads a k (figures k n) (figures_syntax k n) (figures_read k n p) in record { alone = h; element = h }
  both_of (text k s) a p = let h = word_reads a k (quoted_text s) (quoted s) (from_free (quoted_text s) (string_token s ∷ []) (quoted_free s (text_utf8 k s p.0 p.1.allowed) p.1.no_zero)) in record { alone = h; element = h }
  both_of (node (basic k) vs) a p = absurd p.0
  both_of (node variant no_tree) a p = absurd p.0
  both_of (node variant (first_tree v no_tree)) a p =
      let h = from_free (between 60 (text_of v true false) 62) (mark open_box ∷ (tokens_of (syntax_of v true) ++ mark close_box ∷ []))
      (in_brackets 60 (text_of v true false) 62 (mark open_box) (mark close_box) (tokens_of (syntax_of v true)) refl free_open_box (both_of v true p.2.0).alone free_close_box) in
      record { alone = h; element = h }
  both_of (node variant (first_tree v (first_tree w vs))) a p = absurd p.0
  both_of (node (array t) vs) a p =
      let l = list_reads t vs a p.0 p.2 (all_both vs a false p.2) in
      let h = mark_reads (a && is_empty vs) (array t) (bracketed t vs (joined_by comma_text (texts vs a false true))) (list_syntax t vs (syntaxes_of vs a false)) p.1 (from_free _ _ l) in
      record { alone = h; element = h }
  both_of (node (maybe t) no_tree) a p = let h = mark_reads a (maybe t) (codes "nothing") nothing p.1 reads_nothing in record { alone = h; element = h }
  both_of (node (maybe t) (first_tree v no_tree)) a p =
      let j = just_reads (ends_in_nothing v) (text_of v false false) (syntax_of v false) (both_of v false p.2.0).alone in
      let h = mark_reads a (maybe t) (when (ends_in_nothing v) (codes "just ") ++ text_of v false false) (with_just (ends_in_nothing v) (syntax_of v false)) p.1 j in
      record { alone = h; element = h }
  both_of (node (maybe t) (first_tree v (first_tree w vs))) a p = absurd p.0
  both_of (node (tuple ts) vs) a p =
      let h = from_free (tuple_text (texts vs a a false)) (tokens_of (tuple_of (syntaxes_of vs a a))) (tuple_free (texts vs a a false) (syntaxes_of vs a a) (each_alone vs a a (all_both vs a a p.2))) in
      record { alone = h; element = h }
  both_of (node (entry k t) vs) a p =
      let h = entry_reads (texts vs a a false) (syntaxes_of vs a a) (entry_lone k t vs a p.0) (each_alone vs a a (all_both vs a a p.2)) in
      record { alone = h.0; element = h.1 }

  all_both : (vs : Trees) (a r : Bool) → ArePrintable vs → AllBoth vs a r
  all_both no_tree a r p = tt
  all_both (first_tree v vs) a r p = (both_of v a p.0, all_both vs r r p.1)

pub reads_of : (v : Tree) (a : Bool) → Printable v → Reads (text_of v a false) (tokens_of (syntax_of v a))
reads_of v a p = (both_of v a p).alone

-- Marks, words and types in a printed text.
use Rattle.std.proofs.Common.{◌≡◌, ◌≤◌, ◌<◌, ℕ, true, false, List, [], ◌∷◌, ◌++◌, length, Option, Some, None, refl, sym, ap, ap₂, ◌∙◌, arith, append_assoc}
use Rattle.std.specs.Prelude.{codes}
use Rattle.std.proofs.lemmas.List.{length-append}
use Rattle.std.proofs.lemmas.Option.{none-some}
use Rattle.gv_model.specs.Ty.{Ty, Basic, spelling}
use Rattle.gv_model.specs.Ty.Basic.{boolean, byte, int16, uint16, int32, uint32, int64, uint64, handle, double, string, path, signature}
use Rattle.gv_model.specs.TypeText.{type_of_text}
use Rattle.gv_model.specs.Tokens.{Token}
use Rattle.gv_model.specs.Tokens.Mark.{open_tuple, close_tuple, open_list, close_list, open_brace, close_brace, open_box, close_box, comma, colon}
use Rattle.gv_model.specs.Tokens.Token.{mark, type_token, word}
use Rattle.gv_model.specs.Tokens.Word.{truth as truth_word, just as just_word, nothing as nothing_word, type_word}
use Rattle.gv_model.specs.Characters.{prefix_of, same_text}
use Rattle.gv_model.specs.Words.{word_among, word_at}
use Rattle.gv_model.specs.Lexing.{token_at, type_prefix, or_else, type_placed}
use Rattle.gv_model.specs.Printed.{word as word_text, type_mark}
use Rattle.gv_model.proofs.TypeTextLaws.{type_of_text-spelling, one_reading, within_limits}
use Rattle.gv_model.proofs.TypeTextSound.{spelling_of_read}
use Rattle.gv_model.proofs.LimitedTypes.{IsLimited}
use Rattle.gv_model.proofs.PrintedReads.{Free, Reads, free_none, mark_free, word_free, token_reads, free_free, free_blank, token_free, no_word}

pub free_open_tuple : Free (40 ∷ []) (mark open_tuple ∷ [])
unfolding token_at
free_open_tuple = mark_free 40 open_tuple refl (λ at rest. refl)

pub free_close_tuple : Free (41 ∷ []) (mark close_tuple ∷ [])
unfolding token_at
free_close_tuple = mark_free 41 close_tuple refl (λ at rest. refl)

pub free_open_list : Free (91 ∷ []) (mark open_list ∷ [])
unfolding token_at
free_open_list = mark_free 91 open_list refl (λ at rest. refl)

pub free_close_list : Free (93 ∷ []) (mark close_list ∷ [])
unfolding token_at
free_close_list = mark_free 93 close_list refl (λ at rest. refl)

pub free_open_brace : Free (123 ∷ []) (mark open_brace ∷ [])
unfolding token_at
free_open_brace = mark_free 123 open_brace refl (λ at rest. refl)

pub free_close_brace : Free (125 ∷ []) (mark close_brace ∷ [])
unfolding token_at
free_close_brace = mark_free 125 close_brace refl (λ at rest. refl)

pub free_open_box : Free (60 ∷ []) (mark open_box ∷ [])
unfolding token_at
free_open_box = mark_free 60 open_box refl (λ at rest. refl)

pub free_close_box : Free (62 ∷ []) (mark close_box ∷ [])
unfolding token_at
free_close_box = mark_free 62 close_box refl (λ at rest. refl)

free_comma_mark : Free (44 ∷ []) (mark comma ∷ [])
unfolding token_at
free_comma_mark = mark_free 44 comma refl (λ at rest. refl)

free_colon_mark : Free (58 ∷ []) (mark colon ∷ [])
unfolding token_at
free_colon_mark = mark_free 58 colon refl (λ at rest. refl)

pub free_comma : Free (44 ∷ 32 ∷ []) (mark comma ∷ [])
free_comma = free_free (44 ∷ []) (32 ∷ []) (mark comma ∷ []) [] free_comma_mark free_blank

pub free_colon : Free (58 ∷ 32 ∷ []) (mark colon ∷ [])
free_colon = free_free (58 ∷ []) (32 ∷ []) (mark colon ∷ []) [] free_colon_mark free_blank

-- the end of a tuple of one
pub free_tuple_end : Free (44 ∷ 41 ∷ []) (mark comma ∷ mark close_tuple ∷ [])
free_tuple_end = free_free (44 ∷ []) (41 ∷ []) (mark comma ∷ []) (mark close_tuple ∷ []) free_comma_mark free_close_tuple

-- the words of basic types
abbrev pub word_tokens : Basic → List Token
word_tokens boolean = []
word_tokens int32 = []
word_tokens double = []
word_tokens string = []
word_tokens k = word (type_word k) ∷ []

pub free_word : (k : Basic) → Free (word_text k) (word_tokens k)
unfolding token_at prefix_of word_among same_text
free_word boolean = free_none
free_word int32 = free_none
free_word double = free_none
free_word string = free_none
free_word byte = word_free 98 (codes "yte") (word (type_word byte)) refl (λ at rest. refl)
free_word int16 = word_free 105 (codes "nt16") (word (type_word int16)) refl (λ at rest. refl)
free_word uint16 = word_free 117 (codes "int16") (word (type_word uint16)) refl (λ at rest. refl)
free_word uint32 = word_free 117 (codes "int32") (word (type_word uint32)) refl (λ at rest. refl)
free_word handle = word_free 104 (codes "andle") (word (type_word handle)) refl (λ at rest. refl)
free_word int64 = word_free 105 (codes "nt64") (word (type_word int64)) refl (λ at rest. refl)
free_word uint64 = word_free 117 (codes "int64") (word (type_word uint64)) refl (λ at rest. refl)
free_word path = word_free 111 (codes "bjectpath") (word (type_word path)) refl (λ at rest. refl)
free_word signature = word_free 115 (codes "ignature") (word (type_word signature)) refl (λ at rest. refl)

pub free_just : Free (codes "just ") (word just_word ∷ [])
unfolding token_at prefix_of word_among same_text
free_just = word_free 106 (codes "ust") (word just_word) refl (λ at rest. refl)

pub reads_true : Reads (codes "true") (word (truth_word true) ∷ [])
unfolding token_at prefix_of word_among same_text
reads_true = token_reads 116 (codes "rue") (word (truth_word true)) refl (λ at rest e. ap (λ r. word_at at (116 ∷ 114 ∷ 117 ∷ 101 ∷ r)) (no_word rest e))

pub reads_false : Reads (codes "false") (word (truth_word false) ∷ [])
unfolding token_at prefix_of word_among same_text
reads_false = token_reads 102 (codes "alse") (word (truth_word false)) refl (λ at rest e. ap (λ r. word_at at (102 ∷ 97 ∷ 108 ∷ 115 ∷ 101 ∷ r)) (no_word rest e))

pub reads_nothing : Reads (codes "nothing") (word nothing_word ∷ [])
unfolding token_at prefix_of word_among same_text
reads_nothing = token_reads 110 (codes "othing") (word nothing_word) refl (λ at rest e. ap (λ r. word_at at (110 ∷ 111 ∷ 116 ∷ 104 ∷ 105 ∷ 110 ∷ 103 ∷ r)) (no_word rest e))

-- ---- types

limited_reads : (t : Ty) → IsLimited t → type_of_text (spelling t) ≡ Some t
limited_reads t h = type_of_text-spelling t (within_limits t (spelling t) h.shallow h.short)

same_front : (p s q r : List ℕ) → p ++ s ≡ q ++ r → length p ≡ length q → p ≡ q
same_front [] s [] r e n = refl
same_front (c ∷ p) s (d ∷ q) r e n = ap₂ ◌∷◌ (heads c d (p ++ s) (q ++ r) e) (same_front p s q r (tails c d (p ++ s) (q ++ r) e) (omega arith))
  where
    heads : (c d : ℕ) (x y : List ℕ) → c ∷ x ≡ d ∷ y → c ≡ d
    heads c d x y e = cc

    tails : (c d : ℕ) (x y : List ℕ) → c ∷ x ≡ d ∷ y → x ≡ y
    tails c d x y e = cc
same_front [] s (d ∷ q) r e n = absurd (omega arith)
same_front (c ∷ p) s [] r e n = absurd (omega arith)

one_step : (t : Ty) → IsLimited t → (p : List ℕ) (c : ℕ) (cs r : List ℕ) → p ++ c ∷ cs ≡ spelling t ++ r → length p ≤ length (spelling t)
    → (length p < length (spelling t) → type_prefix (p ++ c ∷ []) cs ≡ Some t) → or_else (type_of_text p) (type_prefix (p ++ c ∷ []) cs) ≡ Some t
one_step t lim p c cs r e h later = go (type_of_text p) refl
  where
    go : (o : Option Ty) → type_of_text p ≡ o → or_else o (type_prefix (p ++ c ∷ []) cs) ≡ Some t
    go (Some u) is = ap Some (one_reading u t (c ∷ cs) r (ap (λ w. w ++ c ∷ cs) (spelling_of_read p u is).0 ∙ e)).0
    go None is = later (shorter (length p) (length (spelling t)) h (λ n. none-some t (sym is ∙ (ap type_of_text (same_front p (c ∷ cs) (spelling t) r e n) ∙ limited_reads t lim))))
      where
        shorter : (a b : ℕ) → a ≤ b → (a ≡ b → ⊥) → a < b
        shorter a b h n = omega arith

-- of the prefixes of a text that a type's text begins, that alone is a type's
prefix_is : (t : Ty) → IsLimited t → (p s r : List ℕ) → p ++ s ≡ spelling t ++ r → length p ≤ length (spelling t) → type_prefix p s ≡ Some t
unfolding type_prefix
prefix_is t lim p [] r e h =
    let n : length p ≡ length (spelling t) = omega (arith, h, ap length e, length-append p [], length-append (spelling t) r) in
    ap type_of_text (same_front p [] (spelling t) r e n) ∙ limited_reads t lim
prefix_is t lim p (c ∷ cs) r e h =
    one_step t lim p c cs r e h (λ l. prefix_is t lim (p ++ c ∷ []) cs r (append_assoc p (c ∷ []) cs ∙ e) (omega (arith, l, length-append p (c ∷ []))))

pub free_type : (t : Ty) → IsLimited t → Free (type_mark t) (type_token t ∷ [])
unfolding token_at
free_type t lim =
    free_free (64 ∷ spelling t) (32 ∷ []) (type_token t ∷ []) []
    (token_free 64 (spelling t) (type_token t) refl (λ at rest. ap (type_placed at) (prefix_is t lim [] (spelling t ++ rest) rest refl (omega arith))))
    free_blank

-- Texts that are read as tokens whatever follows, or whatever follows that ends words and numbers.
use Rattle.std.proofs.Common.{◌≡◌, ◌+◌, ◌-◌, ℕ, suc, Bool, false, List, [], ◌∷◌, ◌++◌, length, Option, Ok, refl, sym, ap, ◌∙◌, arith, append_assoc, ◌==◌, ◌||◌}
use Rattle.std.proofs.lemmas.Bool.{or_parts}
use Rattle.std.proofs.lemmas.List.{length-append}
use Rattle.gv_model.specs.TextFault.{Fault}
use Rattle.gv_model.specs.Tokens.{Token, Placed, Mark}
use Rattle.gv_model.specs.Tokens.Token.{mark}
use Rattle.gv_model.specs.Characters.{is_blank, is_word_byte, is_sign, prefix_of}
use Rattle.gv_model.specs.Lexing.{token_at}
use Rattle.gv_model.specs.Lexed.{lexed, Lexed, lexeme_at, bytes_taken, with_item}
use Rattle.gv_model.specs.Lexed.Lexeme.{item}
use Rattle.gv_model.specs.Parsing.{kinds}

-- tokens without their places, and the fault
abbrev pub Tokens : Type 0
Tokens = List Token × Option Fault

abbrev tokens_in : Lexed → Tokens
tokens_in l = (kinds l.0, l.1)

-- those of a text from a place on
unfoldable pub read : ℕ → List ℕ → Tokens
read at s = tokens_in (lexed at 0 s)

abbrev pub with_tokens : List Token → Tokens → Tokens
with_tokens ts r = (ts ++ r.0, r.1)

-- ---- one token

skipped : (at : ℕ) (cs rest : List ℕ) → lexed at (length cs) (cs ++ rest) ≡ lexed (at + length cs) 0 rest
unfolding lexed
skipped at [] rest = let z : at ≡ at + 0 = omega arith in ap (λ n. lexed n 0 rest) z
skipped at (c ∷ cs) rest = skipped (suc at) cs rest ∙ (let z : suc at + length cs ≡ at + suc (length cs) = omega arith in ap (λ n. lexed n 0 rest) z)

first_item : (at c : ℕ) (cs : List ℕ) (t : Placed) → is_blank c ≡ false → token_at at c cs ≡ Ok t → lexed at 0 (c ∷ cs) ≡ (t ∷ (lexed (suc at) (t.stop - suc at) cs).0, (lexed (suc at) (t.stop - suc at) cs).1)
unfolding lexed
first_item at c cs t b e =
    let i : lexeme_at at c cs ≡ item (Ok t) = rw b (ap item e) in
    ap (λ l. with_item l (lexed (suc at) (bytes_taken at l) cs)) i

token_read : (at c : ℕ) (cs rest : List ℕ) (t : Token) → is_blank c ≡ false → token_at at c (cs ++ rest) ≡ Ok (record { token = t; start = at; stop = at + suc (length cs) })
    → read at ((c ∷ cs) ++ rest) ≡ with_tokens (t ∷ []) (read (at + length (c ∷ cs)) rest)
unfolding read
token_read at c cs rest t b e =
    let n : at + suc (length cs) - suc at ≡ length cs = omega arith in
    let l : lexed (suc at) (at + suc (length cs) - suc at) (cs ++ rest) ≡ lexed (at + suc (length cs)) 0 rest
    = ap (λ k. lexed (suc at) k (cs ++ rest)) n ∙ (skipped (suc at) cs rest ∙ (let z : suc at + length cs ≡ at + suc (length cs) = omega arith in ap (λ k. lexed k 0 rest) z)) in
    ap tokens_in (first_item at c (cs ++ rest) (record { token = t; start = at; stop = at + suc (length cs) }) b e) ∙ ap (λ m. with_tokens (t ∷ []) (tokens_in m)) l

blank_read : (at : ℕ) (rest : List ℕ) → read at (32 ∷ rest) ≡ read (at + 1) rest
unfolding read lexed
blank_read at rest = let z : suc at ≡ at + 1 = omega arith in ap (λ k. tokens_in (lexed k 0 rest)) z

-- ---- whatever follows

-- a byte that may go on with a word or a number
abbrev pub goes_on : ℕ → Bool
goes_on c = is_word_byte c || (c == 46 || is_sign c)

-- what follows a word or a number and ends it: nothing, or a text that begins with no such byte
abbrev pub Ends : List ℕ → Type 0
Ends [] = Unit {0}
Ends (c ∷ cs) = goes_on c ≡ false

-- s is read as these tokens, whatever follows
pub record Free (s : List ℕ) (ts : List Token) : Type 0 where
  pub reads : (at : ℕ) (rest : List ℕ) → read at (s ++ rest) ≡ with_tokens ts (read (at + length s) rest)

-- or what follows ends a word and a number
pub record Reads (s : List ℕ) (ts : List Token) : Type 0 where
  pub reads : (at : ℕ) (rest : List ℕ) → Ends rest → read at (s ++ rest) ≡ with_tokens ts (read (at + length s) rest)

pub from_free : (s : List ℕ) (ts : List Token) → Free s ts → Reads s ts
from_free s ts h = record { reads = λ at rest e. h.reads at rest }

-- texts one after the other are read as their tokens one after the other
pub free_none : Free [] []
free_none = record { reads = λ at rest. let z : at ≡ at + 0 = omega arith in ap (λ k. read k rest) z }

joined : (at : ℕ) (s r rest : List ℕ) (ts us : List Token) → read at (s ++ (r ++ rest)) ≡ with_tokens ts (read (at + length s) (r ++ rest)) → read (at + length s) (r ++ rest) ≡ with_tokens us (read (at + length s + length r) rest)
    → read at ((s ++ r) ++ rest) ≡ with_tokens (ts ++ us) (read (at + length (s ++ r)) rest)
joined at s r rest ts us h g =
    let n : at + length s + length r ≡ at + length (s ++ r) = omega (arith, length-append s r) in
    ap (read at) (append_assoc s r rest) ∙ (h ∙ (ap (with_tokens ts) g ∙ (ap (λ (ks : List Token). (ks, (read (at + length s + length r) rest).1)) (sym (append_assoc ts us (read (at + length s + length r) rest).0)) ∙ ap (λ k. with_tokens (ts ++ us) (read k rest)) n)))

pub free_free : (s r : List ℕ) (ts us : List Token) → Free s ts → Free r us → Free (s ++ r) (ts ++ us)
free_free s r ts us h g = record { reads = λ at rest. joined at s r rest ts us (h.reads at (r ++ rest)) (g.reads (at + length s) rest) }

pub free_reads : (s r : List ℕ) (ts us : List Token) → Free s ts → Reads r us → Reads (s ++ r) (ts ++ us)
free_reads s r ts us h g = record { reads = λ at rest e. joined at s r rest ts us (h.reads at (r ++ rest)) (g.reads (at + length s) rest e) }

pub reads_free : (s : List ℕ) (c : ℕ) (r : List ℕ) (ts us : List Token) → goes_on c ≡ false → Reads s ts → Free (c ∷ r) us → Free (s ++ c ∷ r) (ts ++ us)
reads_free s c r ts us n h g = record { reads = λ at rest. joined at s (c ∷ r) rest ts us (h.reads at (c ∷ (r ++ rest)) n) (g.reads (at + length s) rest) }

pub reads_reads : (s : List ℕ) (c : ℕ) (r : List ℕ) (ts us : List Token) → goes_on c ≡ false → Reads s ts → Reads (c ∷ r) us → Reads (s ++ c ∷ r) (ts ++ us)
reads_reads s c r ts us n h g = record { reads = λ at rest e. joined at s (c ∷ r) rest ts us (h.reads at (c ∷ (r ++ rest)) n) (g.reads (at + length s) rest e) }

-- ---- marks and blanks

pub free_blank : Free (32 ∷ []) []
free_blank = record { reads = λ at rest. blank_read at rest }

pub mark_free : (c : ℕ) (m : Mark) → is_blank c ≡ false → ((at : ℕ) (rest : List ℕ) → token_at at c rest ≡ Ok (record { token = mark m; start = at; stop = at + 1 })) → Free (c ∷ []) (mark m ∷ [])
mark_free c m b h = record { reads = λ at rest. token_read at c [] rest (mark m) b (h at rest) }

-- a word with a blank after it
pub word_free : (c : ℕ) (cs : List ℕ) (t : Token) → is_blank c ≡ false
    → ((at : ℕ) (rest : List ℕ) → token_at at c (cs ++ 32 ∷ rest) ≡ Ok (record { token = t; start = at; stop = at + suc (length cs) })) → Free ((c ∷ cs) ++ 32 ∷ []) (t ∷ [])
word_free c cs t b h = record { reads = λ at rest. joined at (c ∷ cs) (32 ∷ []) rest (t ∷ []) [] (token_read at c cs (32 ∷ rest) t b (h at rest)) (blank_read (at + length (c ∷ cs)) rest) }

pub token_reads : (c : ℕ) (cs : List ℕ) (t : Token) → is_blank c ≡ false
    → ((at : ℕ) (rest : List ℕ) → Ends rest → token_at at c (cs ++ rest) ≡ Ok (record { token = t; start = at; stop = at + suc (length cs) })) → Reads (c ∷ cs) (t ∷ [])
token_reads c cs t b h = record { reads = λ at rest e. token_read at c cs rest t b (h at rest e) }

pub token_free : (c : ℕ) (cs : List ℕ) (t : Token) → is_blank c ≡ false
    → ((at : ℕ) (rest : List ℕ) → token_at at c (cs ++ rest) ≡ Ok (record { token = t; start = at; stop = at + suc (length cs) })) → Free (c ∷ cs) (t ∷ [])
token_free c cs t b h = record { reads = λ at rest. token_read at c cs rest t b (h at rest) }

-- nothing of what follows is a word's
pub no_word : (rest : List ℕ) → Ends rest → prefix_of is_word_byte rest ≡ []
unfolding prefix_of
no_word [] e = refl
no_word (c ∷ cs) e = rw (or_parts (is_word_byte c) (c == 46 || is_sign c) e).0 refl

-- Syntax trees as trees of numbers, by which a proof tells them apart. Nothing here is to be believed: that they are told apart is proved.
use Rattle.std.specs.Prelude.{◌≡◌, ℕ, zero, suc, Bool, true, false, refl}
use Rattle.std.specs.Coded.{Coded, code_by}
use Rattle.std.proofs.Common.{ap, ap₂, ◌∙◌}
use base.Stored.{Gv, gnil, gnum, gcons, num}
use Rattle.gv_model.specs.Ty.{spelling, letter as letter_of}
use Rattle.gv_model.specs.Syntax.{Syntax, Syntaxes, Pairs}
use Rattle.gv_model.specs.Syntax.Syntax.{truth, integer, quoted, bytes, list, tuple_of, dictionary, lone, boxed, just, nothing, at_type, keyword}
use Rattle.gv_model.specs.Syntax.Syntaxes.{none, first}
use Rattle.gv_model.specs.Syntax.Pairs.{no_pair, pair}
use Rattle.gv_model.specs.Codes.{numbers_code, numbers_of_code, type_of_numbers, basic_of_code, coded_gv}
use Rattle.gv_model.proofs.CodeLaws.{numbers_back, basic_back, type_back}

abbrev bit : Bool → ℕ
bit false = 0
bit true = 1

abbrev truth_of : ℕ → Bool
truth_of zero = false
truth_of (suc n) = true

bit_back : (b : Bool) → truth_of (bit b) ≡ b
bit_back false = refl
bit_back true = refl

abbrev mutual
  syntax_gv : Syntax → Gv
  syntax_gv (truth b) = gcons (gnum 0) (gnum (bit b))
  syntax_gv (integer b n) = gcons (gnum 1) (gcons (gnum (bit b)) (gnum n))
  syntax_gv (quoted s) = gcons (gnum 2) (numbers_code s)
  syntax_gv (bytes s) = gcons (gnum 3) (numbers_code s)
  syntax_gv (list xs) = gcons (gnum 4) (syntaxes_gv xs)
  syntax_gv (tuple_of xs) = gcons (gnum 5) (syntaxes_gv xs)
  syntax_gv (dictionary ps) = gcons (gnum 6) (pairs_gv ps)
  syntax_gv (lone k v) = gcons (gnum 7) (gcons (syntax_gv k) (syntax_gv v))
  syntax_gv (boxed x) = gcons (gnum 8) (gcons gnil (syntax_gv x))
  syntax_gv (just x) = gcons (gnum 9) (gcons gnil (syntax_gv x))
  syntax_gv nothing = gnil
  syntax_gv (at_type t x) = gcons (gnum 10) (gcons (numbers_code (spelling t)) (syntax_gv x))
  syntax_gv (keyword k x) = gcons (gnum 11) (gcons (gnum (letter_of k)) (syntax_gv x))

  syntaxes_gv : Syntaxes → Gv
  syntaxes_gv none = gnil
  syntaxes_gv (first x xs) = gcons (syntax_gv x) (syntaxes_gv xs)

  pairs_gv : Pairs → Gv
  pairs_gv no_pair = gnil
  pairs_gv (pair k v ps) = gcons (gcons (syntax_gv k) (syntax_gv v)) (pairs_gv ps)

-- what comes after a tag: its first part, and the trees that are read from it
abbrev tagged : ℕ → Gv → Gv → Syntaxes → Pairs → Syntax → Syntax → Syntax
tagged zero c k xs ps x y = truth (truth_of (num c))
tagged (suc zero) c k xs ps x y = truth false
tagged (suc (suc zero)) c k xs ps x y = quoted (numbers_of_code c)
tagged (suc (suc (suc zero))) c k xs ps x y = bytes (numbers_of_code c)
tagged (suc (suc (suc (suc zero)))) c k xs ps x y = list xs
tagged (suc (suc (suc (suc (suc zero))))) c k xs ps x y = tuple_of xs
tagged (suc (suc (suc (suc (suc (suc zero)))))) c k xs ps x y = dictionary ps
tagged (suc (suc (suc (suc (suc (suc (suc zero))))))) c k xs ps x y = lone x y
tagged (suc (suc (suc (suc (suc (suc (suc (suc zero)))))))) c k xs ps x y = boxed y
tagged (suc (suc (suc (suc (suc (suc (suc (suc (suc zero))))))))) c k xs ps x y = just y
tagged (suc (suc (suc (suc (suc (suc (suc (suc (suc (suc zero)))))))))) c k xs ps x y = at_type (type_of_numbers (numbers_of_code k)) y
tagged _ c k xs ps x y = keyword (basic_of_code k) y

abbrev head : Gv → Gv
head (gcons k c) = k
head _ = gnil

abbrev rest : Gv → Gv
rest (gcons k c) = c
rest _ = gnil

-- an integer has no tree in it, so it is told apart first
abbrev by_tag : ℕ → Gv → Syntax → Syntax
by_tag (suc zero) c x = integer (truth_of (num (head c))) (num (rest c))
by_tag _ c x = x

abbrev mutual
  gv_syntax : Gv → Syntax
  gv_syntax (gcons a c) = by_tag (num a) c (tagged (num a) c (head c) (gv_syntaxes c) (gv_pairs c) (gv_first c) (gv_second c))
  gv_syntax _ = nothing

  gv_first : Gv → Syntax
  gv_first (gcons k v) = gv_syntax k
  gv_first _ = nothing

  gv_second : Gv → Syntax
  gv_second (gcons k v) = gv_syntax v
  gv_second _ = nothing

  gv_syntaxes : Gv → Syntaxes
  gv_syntaxes (gcons x xs) = first (gv_syntax x) (gv_syntaxes xs)
  gv_syntaxes _ = none

  gv_pairs : Gv → Pairs
  gv_pairs (gcons p ps) = pair (gv_first p) (gv_second p) (gv_pairs ps)
  gv_pairs _ = no_pair

mutual
  pub syntax_back : (x : Syntax) → gv_syntax (syntax_gv x) ≡ x
  syntax_back (truth b) = ap truth (bit_back b)
  syntax_back (integer b n) = ap (λ c. integer c n) (bit_back b)
  syntax_back (quoted s) = ap quoted (numbers_back s)
  syntax_back (bytes s) = ap bytes (numbers_back s)
  syntax_back (list xs) = ap list (syntaxes_back xs)
  syntax_back (tuple_of xs) = ap tuple_of (syntaxes_back xs)
  syntax_back (dictionary ps) = ap dictionary (pairs_back ps)
  syntax_back (lone k v) = ap₂ lone (syntax_back k) (syntax_back v)
  syntax_back (boxed x) = ap boxed (syntax_back x)
  syntax_back (just x) = ap just (syntax_back x)
  syntax_back nothing = refl
  syntax_back (at_type t x) = ap₂ at_type (type_back t) (syntax_back x)
  syntax_back (keyword k x) = ap₂ keyword (basic_back k) (syntax_back x)

  syntaxes_back : (xs : Syntaxes) → gv_syntaxes (syntaxes_gv xs) ≡ xs
  syntaxes_back none = refl
  syntaxes_back (first x xs) = ap₂ first (syntax_back x) (syntaxes_back xs)

  pairs_back : (ps : Pairs) → gv_pairs (pairs_gv ps) ≡ ps
  pairs_back no_pair = refl
  pairs_back (pair k v ps) = ap₂ (λ (x : Syntax) (qs : Pairs). pair x (gv_syntax (syntax_gv v)) qs) (syntax_back k) (pairs_back ps) ∙ ap (λ y. pair k y ps) (syntax_back v)

abbrev pub coded_syntax : Coded Syntax
coded_syntax = code_by Gv coded_gv syntax_gv gv_syntax syntax_back

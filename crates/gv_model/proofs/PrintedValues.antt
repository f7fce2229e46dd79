-- The value of a printed value's syntax is that value.
use Rattle.std.proofs.Common.{◌≡◌, ◌≤◌, ◌<◌, ◌^◌, ◌+◌, ◌-◌, ℕ, suc, Bool, true, false, cond, List, [], ◌∷◌, ◌++◌, Option, Some, None, Ok, refl, sym, ap, ◌∙◌, subst, arith, nat_lt}
use Rattle.std.specs.Prelude.{◌==◌, ◌&&◌, ℤ, pos, negsuc, option_map}
use Rattle.std.proofs.lemmas.Bool.{true≢false, lt-ltb, le-leb, ne_eqb, eqb-true, eqb-false, ltb-true, ltb-false}
use Rattle.std.proofs.lemmas.Option.{none-some, same_Some}
use mir.Val.{sel}
use Rattle.gv_model.specs.Ty.{Ty, Types, Basic, members, nesting}
use Rattle.gv_model.specs.Ty.Ty.{basic, variant, array, maybe, tuple, entry}
use Rattle.gv_model.specs.Ty.Types.{end, member}
use Rattle.gv_model.specs.Ty.Basic.{boolean, byte, int16, uint16, int32, uint32, int64, uint64, handle, double, string, path, signature}
use Rattle.gv_model.specs.Tree.{Tree, Trees, type_of, byte_trees}
use Rattle.gv_model.specs.Tree.Tree.{number, text, node}
use Rattle.gv_model.specs.Tree.Trees.{none as no_tree, first as first_tree}
use Rattle.gv_model.specs.BasicValue.{text_in}
use Rattle.gv_model.specs.Texts.{is_text}
use Rattle.gv_model.specs.Typed.{types_of, AllOf, MayHold}
use Rattle.gv_model.specs.Printed.{numbers, is_empty, ends_in_nothing}
use Rattle.gv_model.specs.Syntax.{Syntax, Syntaxes}
use Rattle.gv_model.specs.Syntax.Syntax.{truth, integer, quoted, bytes, list, tuple_of, dictionary, lone, boxed, just, nothing, at_type, keyword}
use Rattle.gv_model.specs.Syntax.Syntaxes.{none, first}
use Rattle.gv_model.specs.Admits.{IsTextType}
use Rattle.gv_model.specs.Chosen.{Choice}
use Rattle.gv_model.specs.Chosen.Choice.{is}
use Rattle.gv_model.specs.Literals.{number_bits, or_out_of_range, byte_string_trees}
use Rattle.gv_model.specs.TextValues.{IsChoice, literal_value, elements, members_of, entries, in_node, only_one, with_first, at_entry, contents, all_contents, pairs_contents, first_choice}
use Rattle.gv_model.proofs.TypeOrder.{one_choice}
use Rattle.gv_model.proofs.TypeTextLaws.{limits_of}
use Rattle.gv_model.proofs.PrintedSyntax.{marked, with_word, signed_syntax, figures_syntax, pairs_from, bytes_or_list, list_syntax, with_just, entry_syntax, syntax_of, syntaxes_of, Printable, ArePrintable}
use Rattle.gv_model.proofs.PrintedAdmits.{IsLoose, IsLone, AreLone, ElementsFit, elements_fit, loose_of, chosen_of}

-- ---- what lies in `<..>` has a type

-- each of these has one
abbrev pub EachChosen : (Syntax → Choice) → List Syntax → Type 0
EachChosen choose [] = Unit {0}
EachChosen choose (x ∷ xs) = ((t : Ty) × (choose x ≡ is t)) × EachChosen choose xs

each_append : (choose : Syntax → Choice) (xs ys : List Syntax) → EachChosen choose xs → EachChosen choose ys → EachChosen choose (xs ++ ys)
each_append choose [] ys h g = g
each_append choose (x ∷ xs) ys h g = (h.0, each_append choose xs ys h.1 g)

-- then the choice is the last
pub last_choice : (choose : Syntax → Choice) (xs : List Syntax) (c : Choice) → EachChosen choose xs → first_choice choose xs c ≡ c
last_choice choose [] c h = refl
last_choice choose (x ∷ xs) c h = rw h.0.1 (last_choice choose xs c h.1)

pub chosen_for : (choose : Syntax → Choice) → IsChoice choose → (v : Tree) → Printable v → nesting (type_of v) ≤ 128 → choose (syntax_of v true) ≡ is (type_of v)
chosen_for choose c v p n = one_choice (syntax_of v true) (choose (syntax_of v true)) (is (type_of v)) (c (syntax_of v true)) (chosen_of v p n)

marked_contents : (choose : Syntax → Choice) (a : Bool) (t : Ty) (x : Syntax) → EachChosen choose (contents x) → EachChosen choose (contents (marked a (at_type t) x))
unfolding contents
marked_contents choose true t x h = h
marked_contents choose false t x h = h

truth_contents : (choose : Syntax → Choice) (b : Bool) → EachChosen choose (contents (cond b (truth false) (truth true)))
unfolding contents
truth_contents choose true = tt
truth_contents choose false = tt

signed_contents : (choose : Syntax → Choice) (z : ℤ) → EachChosen choose (contents (signed_syntax z))
unfolding contents
signed_contents choose (pos n) = tt
signed_contents choose (negsuc n) = tt

figures_contents : (choose : Syntax → Choice) (k : Basic) (n : ℕ) → EachChosen choose (contents (figures_syntax k n))
unfolding contents
figures_contents choose boolean n = truth_contents choose (n == 0)
figures_contents choose int16 n = signed_contents choose _
figures_contents choose int32 n = signed_contents choose _
figures_contents choose handle n = signed_contents choose _
figures_contents choose int64 n = signed_contents choose _
figures_contents choose _ n = tt

word_contents : (choose : Syntax → Choice) (a : Bool) (k : Basic) (x : Syntax) → EachChosen choose (contents x) → EachChosen choose (contents (marked a (with_word k) x))
unfolding contents
word_contents choose false k x h = h
word_contents choose true boolean x h = h
word_contents choose true int32 x h = h
word_contents choose true double x h = h
word_contents choose true string x h = h
word_contents choose true _ x h = h

lone_contents : (choose : Syntax → Choice) (x : Syntax) (xs : Syntaxes) → IsLone x → EachChosen choose (contents x) → EachChosen choose (pairs_contents (pairs_from xs)) → EachChosen choose (pairs_contents (pairs_from (first x xs)))
unfolding contents
lone_contents choose (lone k v) xs l h g = go (contents k) (contents v) h
  where
    go : (ks vs : List Syntax) → EachChosen choose (ks ++ vs) → EachChosen choose (ks ++ (vs ++ pairs_contents (pairs_from xs)))
    go [] vs h = each_append choose vs _ h g
    go (k ∷ ks) vs h = (h.0, go ks vs h.1)
lone_contents choose _ xs l h g = absurd l

-- syntax in order, each of whose contents have types
abbrev EachOf : (Syntax → Choice) → Syntaxes → Type 0
EachOf choose none = Unit {0}
EachOf choose (first x xs) = EachChosen choose (contents x) × EachOf choose xs

all_of : (choose : Syntax → Choice) (xs : Syntaxes) → EachOf choose xs → EachChosen choose (all_contents xs)
unfolding contents
all_of choose none h = tt
all_of choose (first x xs) h = each_append choose (contents x) (all_contents xs) h.0 (all_of choose xs h.1)

pairs_of : (choose : Syntax → Choice) (xs : Syntaxes) → AreLone xs → EachOf choose xs → EachChosen choose (pairs_contents (pairs_from xs))
unfolding contents
pairs_of choose none l h = tt
pairs_of choose (first x xs) l h = lone_contents choose x xs l.0 h.0 (pairs_of choose xs l.1 h.1)

bytes_contents : (choose : Syntax → Choice) (o : Option (List ℕ)) (xs : Syntaxes) → EachOf choose xs → EachChosen choose (contents (bytes_or_list o xs))
unfolding contents
bytes_contents choose None xs h = all_of choose xs h
bytes_contents choose (Some s) xs h = tt

list_contents : (choose : Syntax → Choice) (t : Ty) (vs : Trees) (xs : Syntaxes) → ElementsFit t xs → EachOf choose xs → EachChosen choose (contents (list_syntax t vs xs))
unfolding contents
list_contents choose (entry k t) vs xs l h = pairs_of choose xs l h
list_contents choose (basic byte) vs xs l h = bytes_contents choose (text_in (numbers vs)) xs h
list_contents choose _ vs xs l h = all_of choose xs h

just_contents : (choose : Syntax → Choice) (b : Bool) (x : Syntax) → EachChosen choose (contents x) → EachChosen choose (contents (with_just b x))
unfolding contents
just_contents choose true x h = h
just_contents choose false x h = h

entry_contents : (choose : Syntax → Choice) (xs : Syntaxes) → EachOf choose xs → EachChosen choose (contents (entry_syntax xs))
unfolding contents
entry_contents choose none h = tt
entry_contents choose (first x none) h = tt
entry_contents choose (first x (first y none)) h = each_append choose (contents x) (contents y) h.0 h.1.0
entry_contents choose (first x (first y (first z zs))) h = tt

mutual
  unfolding contents syntax_of

  pub contents_of : (choose : Syntax → Choice) → IsChoice choose → (v : Tree) (a : Bool) → Printable v → EachChosen choose (contents (syntax_of v a))
  contents_of choose c (number k n) a p = word_contents choose a k (figures_syntax k n) (figures_contents choose k n)
  contents_of choose c (text k s) a p = word_contents choose a k (quoted s) tt
  contents_of choose c (node (basic k) vs) a p = absurd p.0
  contents_of choose c (node variant no_tree) a p = absurd p.0
  contents_of choose c (node variant (first_tree v no_tree)) a p =
      each_append choose (contents (syntax_of v true)) (syntax_of v true ∷ []) (contents_of choose c v true p.2.0)
      ((type_of v, chosen_for choose c v p.2.0 (limits_of (type_of v) _ p.0).0), tt)
  contents_of choose c (node variant (first_tree v (first_tree w vs))) a p = absurd p.0
  contents_of choose c (node (array t) vs) a p =
      marked_contents choose (a && is_empty vs) (array t) _ (list_contents choose t vs (syntaxes_of vs a false) (elements_fit t vs a false p.2 p.0) (contents_each choose c vs a false p.2))
  contents_of choose c (node (maybe t) no_tree) a p = marked_contents choose a (maybe t) nothing tt
  contents_of choose c (node (maybe t) (first_tree v vs)) a p = marked_contents choose a (maybe t) _ (just_contents choose (ends_in_nothing v) (syntax_of v false) (contents_of choose c v false p.2.0))
  contents_of choose c (node (tuple ts) vs) a p = all_of choose (syntaxes_of vs a a) (contents_each choose c vs a a p.2)
  contents_of choose c (node (entry k t) vs) a p = entry_contents choose (syntaxes_of vs a a) (contents_each choose c vs a a p.2)

  contents_each : (choose : Syntax → Choice) → IsChoice choose → (vs : Trees) (a r : Bool) → ArePrintable vs → EachOf choose (syntaxes_of vs a r)
  contents_each choose c no_tree a r p = tt
  contents_each choose c (first_tree v vs) a r p = (contents_of choose c v a p.0, contents_each choose c vs r r p.1)

-- ---- values

-- a syntax tree gives that value at that type
abbrev pub Gives : (Syntax → Choice) → Syntax → Ty → Tree → Type 0
Gives choose x t v = literal_value choose x t ≡ Ok v

truth_gives : (choose : Syntax → Choice) (n : ℕ) (b : Bool) → (n == 0) ≡ b → n < 2 → Gives choose (cond b (truth false) (truth true)) (basic boolean) (number boolean n)
unfolding literal_value
truth_gives choose n true e h = let z : 0 ≡ n = omega (arith, eqb-true n 0 e) in ap (λ (m : ℕ). Ok (number boolean m)) z
truth_gives choose n false e h = let f : n ≡ 0 → ⊥ = eqb-false n 0 e in let z : 1 ≡ n = omega arith in ap (λ (m : ℕ). Ok (number boolean m)) z

below_bits : (bits u m n : ℕ) → m ≡ n → n < 2 ^ (bits - 1) → number_bits (Some bits) u false m ≡ Some n
below_bits bits u m n e h = let l : m < 2 ^ (bits - 1) = omega (arith, e, h) in rw (lt-ltb m (2 ^ (bits - 1)) l) (ap Some e)

minus_bits : (bits u n m : ℕ) → n + m ≡ 2 ^ bits → 0 < m → m ≤ 2 ^ (bits - 1) → number_bits (Some bits) u true m ≡ Some n
minus_bits bits u n m e p h = rw (ne_eqb m 0 (λ q. omega (arith, p, q)), le-leb m (2 ^ (bits - 1)) h) (let z : 2 ^ bits - m ≡ n = omega (arith, e) in ap Some z)

plain_bits : (u n : ℕ) → n < 2 ^ u → number_bits None u false n ≡ Some n
plain_bits u n h = rw (lt-ltb n (2 ^ u) h) refl

-- a signed number, by its bits
abbrev pub IsSigned : ℕ → ℕ → ℕ → ℤ → Type 0
IsSigned half whole n (pos m) = (m ≡ n) × (n < half)
IsSigned half whole n (negsuc m) = (n + suc m ≡ whole) × (suc m ≤ half)

pub read_signed : (half whole n : ℕ) (b : Bool) → nat_lt n half ≡ b → half + half ≡ whole → n < whole → IsSigned half whole n (sel b (pos n) (negsuc (whole - suc n)))
read_signed half whole n true e w h = (refl, ltb-true n half e)
read_signed half whole n false e w h = let ge : half ≤ n = ltb-false n half e in (omega arith, omega arith)

signed16 : (choose : Syntax → Choice) (z : ℤ) (n : ℕ) → IsSigned 32768 65536 n z → Gives choose (signed_syntax z) (basic int16) (number int16 n)
unfolding literal_value
signed16 choose (pos m) n h = ap (or_out_of_range int16) (below_bits 16 64 m n h.0 h.1)
signed16 choose (negsuc m) n h = ap (or_out_of_range int16) (minus_bits 16 64 n (suc m) h.0 (omega arith) h.1)

signed32 : (choose : Syntax → Choice) (z : ℤ) (n : ℕ) → IsSigned 2147483648 4294967296 n z → Gives choose (signed_syntax z) (basic int32) (number int32 n)
unfolding literal_value
signed32 choose (pos m) n h = ap (or_out_of_range int32) (below_bits 32 64 m n h.0 h.1)
signed32 choose (negsuc m) n h = ap (or_out_of_range int32) (minus_bits 32 64 n (suc m) h.0 (omega arith) h.1)

signed_handle : (choose : Syntax → Choice) (z : ℤ) (n : ℕ) → IsSigned 2147483648 4294967296 n z → Gives choose (signed_syntax z) (basic handle) (number handle n)
unfolding literal_value
signed_handle choose (pos m) n h = ap (or_out_of_range handle) (below_bits 32 64 m n h.0 h.1)
signed_handle choose (negsuc m) n h = ap (or_out_of_range handle) (minus_bits 32 64 n (suc m) h.0 (omega arith) h.1)

signed64 : (choose : Syntax → Choice) (z : ℤ) (n : ℕ) → IsSigned 9223372036854775808 18446744073709551616 n z → Gives choose (signed_syntax z) (basic int64) (number int64 n)
unfolding literal_value
signed64 choose (pos m) n h = ap (or_out_of_range int64) (below_bits 64 64 m n h.0 h.1)
signed64 choose (negsuc m) n h = ap (or_out_of_range int64) (minus_bits 64 64 n (suc m) h.0 (omega arith) h.1)

figures_give : (choose : Syntax → Choice) (k : Basic) (n : ℕ) → Printable (number k n) → Gives choose (figures_syntax k n) (basic k) (number k n)
unfolding literal_value
figures_give choose boolean n p = truth_gives choose n (n == 0) refl p.0
figures_give choose byte n p = ap (or_out_of_range byte) (plain_bits 8 n p.0)
figures_give choose int16 n p = signed16 choose _ n (read_signed 32768 65536 n (nat_lt n 32768) refl refl p.0)
figures_give choose uint16 n p = ap (or_out_of_range uint16) (plain_bits 16 n p.0)
figures_give choose int32 n p = signed32 choose _ n (read_signed 2147483648 4294967296 n (nat_lt n 2147483648) refl refl p.0)
figures_give choose uint32 n p = ap (or_out_of_range uint32) (plain_bits 32 n p.0)
figures_give choose handle n p = signed_handle choose _ n (read_signed 2147483648 4294967296 n (nat_lt n 2147483648) refl refl p.0)
figures_give choose int64 n p = signed64 choose _ n (read_signed 9223372036854775808 18446744073709551616 n (nat_lt n 9223372036854775808) refl refl p.0)
figures_give choose uint64 n p = ap (or_out_of_range uint64) (plain_bits 64 n p.0)
figures_give choose double n p = absurd (true≢false p.1)
figures_give choose string n p = absurd p.0
figures_give choose path n p = absurd p.0
figures_give choose signature n p = absurd p.0

text_gives : (choose : Syntax → Choice) (k : Basic) (s : List ℕ) → IsTextType (basic k) → is_text k s ≡ true → Gives choose (quoted s) (basic k) (text k s)
unfolding literal_value
text_gives choose string s t e = refl
text_gives choose path s t e = rw e refl
text_gives choose signature s t e = rw e refl
text_gives choose _ s t e = absurd t

word_gives : (choose : Syntax → Choice) (a : Bool) (k : Basic) (x : Syntax) (t : Ty) (v : Tree) → Gives choose x t v → Gives choose (marked a (with_word k) x) t v
unfolding literal_value
word_gives choose false k x t v h = h
word_gives choose true boolean x t v h = h
word_gives choose true int32 x t v h = h
word_gives choose true double x t v h = h
word_gives choose true string x t v h = h
word_gives choose true _ x t v h = h

mark_gives : (choose : Syntax → Choice) (a : Bool) (u : Ty) (x : Syntax) (t : Ty) (v : Tree) → Gives choose x t v → Gives choose (marked a (at_type u) x) t v
unfolding literal_value
mark_gives choose true u x t v h = h
mark_gives choose false u x t v h = h

-- each gives its value
abbrev EachGives : (Syntax → Choice) → Syntaxes → Trees → Type 0
EachGives choose none no_tree = Unit {0}
EachGives choose (first x xs) (first_tree v vs) = Gives choose x (type_of v) v × EachGives choose xs vs
EachGives choose _ _ = ⊥

elements_give : (choose : Syntax → Choice) (xs : Syntaxes) (vs : Trees) (t : Ty) → AllOf t vs → EachGives choose xs vs → elements choose xs t ≡ Ok vs
unfolding literal_value
elements_give choose none no_tree t e h = refl
elements_give choose (first x xs) (first_tree v vs) t e h =
    let one : literal_value choose x t ≡ Ok v = subst (λ (u : Ty). Gives choose x u v) e.0 h.0 in
    rw (one, elements_give choose xs vs t e.1 h.1) refl
elements_give choose none (first_tree v vs) t e h = absurd h
elements_give choose (first x xs) no_tree t e h = absurd h

members_give : (choose : Syntax → Choice) (xs : Syntaxes) (vs : Trees) → EachGives choose xs vs → members_of choose xs (types_of vs) ≡ Ok vs
unfolding literal_value
members_give choose none no_tree h = refl
members_give choose (first x xs) (first_tree v vs) h = rw (h.0, members_give choose xs vs h.1) refl
members_give choose none (first_tree v vs) h = absurd h
members_give choose (first x xs) no_tree h = absurd h

entries_same : (choose : Syntax → Choice) (xs : Syntaxes) (k : Basic) (t : Ty) → AreLone xs → entries choose (pairs_from xs) (entry k t) ≡ elements choose xs (entry k t)
unfolding literal_value
entries_same choose none k t l = refl
entries_same choose (first (lone x y) xs) k t l = ap (with_first (at_entry (literal_value choose x) (literal_value choose y) (entry k t))) (entries_same choose xs k t l.1)
entries_same choose (first _ xs) k t l = absurd l.0

-- bytes in order
record AreBytes (vs : Trees) : Type 0 where
  bytes : List ℕ
  trees : vs ≡ byte_trees bytes
  same : numbers vs ≡ bytes

bytes_in : (vs : Trees) → AllOf (basic byte) vs → ArePrintable vs → AreBytes vs
unfolding byte_trees
bytes_in no_tree e p = record { bytes = []; trees = refl; same = refl }
bytes_in (first_tree (number k n) vs) e p =
    let h = bytes_in vs e.1 p.1 in
    let one : k ≡ byte = same_basic k byte e.0 in
    record {
      bytes = n ∷ h.bytes;
      trees = ap (λ (j : Basic). first_tree (number j n) vs) one ∙ ap (first_tree (number byte n)) h.trees;
      same = ap (λ ns. n ∷ ns) h.same;
    }
  where
    same_basic : (j k : Basic) → basic j ≡ basic k → j ≡ k
    same_basic j k e = cc
bytes_in (first_tree (text k s) vs) e p = absurd (no_text k e.0 p.0.0)
  where
    no_text : (k : Basic) → basic k ≡ basic byte → IsTextType (basic k) → ⊥
    no_text k e t = subst (λ (u : Ty). IsTextType u) e t
bytes_in (first_tree (node t us) vs) e p = absurd (subst (λ (u : Ty). MayHold u us) e.0 p.0.0)

last_zero : (c : ℕ) (b : Bool) (s : List ℕ) → (c == 0) ≡ b → cond b (Some []) None ≡ Some s → byte_string_trees s ≡ byte_trees (c ∷ [])
unfolding byte_trees
last_zero c true s e h = let z : c ≡ 0 = eqb-true c 0 e in ap byte_string_trees (sym (same_Some [] s h)) ∙ ap (λ (n : ℕ). first_tree (number byte n) no_tree) (sym z)
last_zero c false s e h = absurd (none-some s h)

string_later : (c : ℕ) (cs s : List ℕ) (b : Bool) (o : Option (List ℕ)) → ((r : List ℕ) → o ≡ Some r → byte_string_trees r ≡ byte_trees cs) → cond b None (option_map (λ r. c ∷ r) o) ≡ Some s → byte_string_trees s ≡ byte_trees (c ∷ cs)
unfolding byte_trees
string_later c cs s true o f h = absurd (none-some s h)
string_later c cs s false None f h = absurd (none-some s h)
string_later c cs s false (Some r) f h = ap byte_string_trees (sym (same_Some (c ∷ r) s h)) ∙ ap (first_tree (number byte c)) (f r refl)

string_trees : (b s : List ℕ) → text_in b ≡ Some s → byte_string_trees s ≡ byte_trees b
unfolding text_in
string_trees [] s h = absurd (none-some s h)
string_trees (c ∷ []) s h = last_zero c (c == 0) s refl h
string_trees (c ∷ d ∷ cs) s h = string_later c (d ∷ cs) s (c == 0) (text_in (d ∷ cs)) (λ r e. string_trees (d ∷ cs) r e) h

bytes_give : (choose : Syntax → Choice) (o : Option (List ℕ)) (xs : Syntaxes) (vs : Trees) → text_in (numbers vs) ≡ o → AreBytes vs → elements choose xs (basic byte) ≡ Ok vs → Gives choose (bytes_or_list o xs) (array (basic byte)) (node (array (basic byte)) vs)
unfolding literal_value
bytes_give choose None xs vs e b h = ap (in_node (array (basic byte))) h
bytes_give choose (Some s) xs vs e b h =
    ap (λ us. Ok (node (array (basic byte)) us)) (string_trees b.bytes s (ap text_in (sym b.same) ∙ e) ∙ sym b.trees)

list_gives : (choose : Syntax → Choice) (t : Ty) (xs : Syntaxes) (vs : Trees) → ElementsFit t xs → AllOf t vs → ArePrintable vs → elements choose xs t ≡ Ok vs → Gives choose (list_syntax t vs xs) (array t) (node (array t) vs)
unfolding literal_value
list_gives choose (entry k t) xs vs l e p h = ap (in_node (array (entry k t))) (entries_same choose xs k t l ∙ h)
list_gives choose (basic byte) xs vs l e p h = bytes_give choose (text_in (numbers vs)) xs vs refl (bytes_in vs e p) h
list_gives choose t xs vs l e p h = ap (in_node (array t)) h

loose_value : (choose : Syntax → Choice) (x : Syntax) (t : Ty) → IsLoose x → literal_value choose x (maybe t) ≡ in_node (maybe t) (only_one (literal_value choose x t))
unfolding literal_value
loose_value choose (truth true) t l = refl
loose_value choose (truth false) t l = refl
loose_value choose (integer b n) t l = refl
loose_value choose (quoted s) t l = refl
loose_value choose (bytes s) t l = refl
loose_value choose (list xs) t l = refl
loose_value choose (tuple_of xs) t l = refl
loose_value choose (dictionary ps) t l = refl
loose_value choose (lone k v) t l = refl
loose_value choose (boxed x) t l = refl
loose_value choose (just x) t l = absurd l
loose_value choose nothing t l = absurd l
loose_value choose (at_type u x) t l = absurd l
loose_value choose (keyword k x) t l = absurd l

just_gives : (choose : Syntax → Choice) (v : Tree) (t : Ty) (b : Bool) → Printable v → ends_in_nothing v ≡ b → Gives choose (syntax_of v false) t v → Gives choose (with_just b (syntax_of v false)) (maybe t) (node (maybe t) (first_tree v no_tree))
unfolding literal_value
just_gives choose v t true p e h = rw h refl
just_gives choose v t false p e h = loose_value choose (syntax_of v false) t (loose_of v p e) ∙ rw h refl

entry_gives : (choose : Syntax → Choice) (k : Basic) (t : Ty) (xs : Syntaxes) (vs : Trees) → types_of vs ≡ members (entry k t) → EachGives choose xs vs → Gives choose (entry_syntax xs) (entry k t) (node (entry k t) vs)
unfolding literal_value
entry_gives choose k t (first x (first y none)) (first_tree u (first_tree v no_tree)) e h =
    let a : literal_value choose x (basic k) ≡ Ok u = subst (λ (s : Ty). Gives choose x s u) (one (type_of u) (type_of v) (basic k) t e) h.0 in
    let b : literal_value choose y t ≡ Ok v = subst (λ (s : Ty). Gives choose y s v) (two (type_of u) (type_of v) (basic k) t e) h.1.0 in
    rw (a, b) refl
  where
    one : (a b c d : Ty) → member a (member b end) ≡ member c (member d end) → a ≡ c
    one a b c d e = cc

    two : (a b c d : Ty) → member a (member b end) ≡ member c (member d end) → b ≡ d
    two a b c d e = cc
entry_gives choose k t none no_tree e h = absurd (cc)
entry_gives choose k t (first x none) (first_tree u no_tree) e h = absurd (cc)
entry_gives choose k t (first x (first y (first z zs))) (first_tree u (first_tree v (first_tree w vs))) e h = absurd (cc)
entry_gives choose k t none (first_tree u vs) e h = absurd h
entry_gives choose k t (first x xs) no_tree e h = absurd h
entry_gives choose k t (first x none) (first_tree u (first_tree v vs)) e h = absurd h.1
entry_gives choose k t (first x (first y ys)) (first_tree u no_tree) e h = absurd h.1
entry_gives choose k t (first x (first y none)) (first_tree u (first_tree v (first_tree w vs))) e h = absurd h.1.1
entry_gives choose k t (first x (first y (first z zs))) (first_tree u (first_tree v no_tree)) e h = absurd h.1.1

mutual
  unfolding literal_value syntax_of

  pub gives_of : (choose : Syntax → Choice) → IsChoice choose → (v : Tree) (a : Bool) → Printable v → Gives choose (syntax_of v a) (type_of v) v
  gives_of choose c (number k n) a p = word_gives choose a k (figures_syntax k n) (basic k) (number k n) (figures_give choose k n p)
  gives_of choose c (text k s) a p = word_gives choose a k (quoted s) (basic k) (text k s) (text_gives choose k s p.0 p.1.allowed)
  gives_of choose c (node (basic k) vs) a p = absurd p.0
  gives_of choose c (node variant no_tree) a p = absurd p.0
  gives_of choose c (node variant (first_tree v no_tree)) a p =
      rw (chosen_for choose c v p.2.0 (limits_of (type_of v) _ p.0).0, gives_of choose c v true p.2.0) refl
  gives_of choose c (node variant (first_tree v (first_tree w vs))) a p = absurd p.0
  gives_of choose c (node (array t) vs) a p =
      mark_gives choose (a && is_empty vs) (array t) _ (array t) (node (array t) vs)
      (list_gives choose t (syntaxes_of vs a false) vs (elements_fit t vs a false p.2 p.0) p.0 p.2 (elements_give choose (syntaxes_of vs a false) vs t p.0 (gives_each choose c vs a false p.2)))
  gives_of choose c (node (maybe t) no_tree) a p = mark_gives choose a (maybe t) nothing (maybe t) (node (maybe t) no_tree) refl
  gives_of choose c (node (maybe t) (first_tree v no_tree)) a p =
      mark_gives choose a (maybe t) _ (maybe t) (node (maybe t) (first_tree v no_tree))
      (just_gives choose v t (ends_in_nothing v) p.2.0 refl (subst (λ (u : Ty). Gives choose (syntax_of v false) u v) p.0 (gives_of choose c v false p.2.0)))
  gives_of choose c (node (maybe t) (first_tree v (first_tree w vs))) a p = absurd p.0
  gives_of choose c (node (tuple ts) vs) a p =
      ap (in_node (tuple ts)) (subst (λ (us : Types). members_of choose (syntaxes_of vs a a) us ≡ Ok vs) p.0 (members_give choose (syntaxes_of vs a a) vs (gives_each choose c vs a a p.2)))
  gives_of choose c (node (entry k t) vs) a p = entry_gives choose k t (syntaxes_of vs a a) vs p.0 (gives_each choose c vs a a p.2)

  gives_each : (choose : Syntax → Choice) → IsChoice choose → (vs : Trees) (a r : Bool) → ArePrintable vs → EachGives choose (syntaxes_of vs a r) vs
  gives_each choose c no_tree a r p = tt
  gives_each choose c (first_tree v vs) a r p = (gives_of choose c v a p.0, gives_each choose c vs r r p.1)

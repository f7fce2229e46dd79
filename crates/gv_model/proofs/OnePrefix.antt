-- One fault at most ends the longest prefix of tokens that is shallow, and it is theirs.
use Rattle.std.proofs.Common.{◌≡◌, ◌≤◌, ◌<◌, ◌⊎◌, ℕ, suc, ◌+◌, ◌-◌, List, [], ◌∷◌, ◌++◌, length, take, drop, Option, Some, None, refl, sym, ap, ◌∙◌, subst, arith, append_assoc, append-nil, inl, inr}
use Rattle.std.specs.Prelude.{◌↔◌}
use Rattle.std.proofs.Math.Seq.{take-add, take-append_seam}
use Rattle.std.proofs.lemmas.Bool.{cases_lt}
use Rattle.gv_model.specs.TextFault.Cause.{bad_token, unclosed, bad_escape, double_text, unexpected, too_deep}
use Rattle.gv_model.specs.Syntax.{Syntax, levels}
use Rattle.gv_model.specs.Tokens.{Token}
use Rattle.gv_model.specs.Grammar.{tokens_of}
use Rattle.gv_model.specs.GrammarFaults.{NumberedFault, grammar_fault}
use Rattle.gv_model.specs.TextLaws.{open_brackets, BeginsWithin, BeginsTree, IsShallow, IsUnfinished, EndsPrefix}
use Rattle.gv_model.proofs.FirstFaults.{one_value}
use Rattle.gv_model.proofs.FaultlessTokens.{whole}
use Rattle.gv_model.proofs.FaultPrefixes.{fault_ends_prefix}
use Rattle.gv_model.proofs.ListLaws.{same_head, nil_no_cons}

-- what begins a tree's tokens goes on so

begins_less : (ts us : List Token) → BeginsTree (ts ++ us) → BeginsTree ts
begins_less ts us h = (h.0, us ++ h.1, h.2 ∙ append_assoc ts us h.1)

within_less : (l : ℕ) (ts us : List Token) → BeginsWithin l (ts ++ us) → BeginsWithin l ts
within_less l ts us h = (h.0, us ++ h.1, h.2 ∙ append_assoc ts us h.1, h.3)

-- the first m tokens, of more
first_of : (ts : List Token) (m n : ℕ) → m ≤ n → take n ts ≡ take m ts ++ take (n - m) (drop m ts)
first_of ts m n h = (let e : n ≡ m + (n - m) = omega arith in ap (λ k. take k ts) e) ∙ take-add m (n - m) ts

shallow_less : (ts : List Token) (m n : ℕ) → m < n → IsShallow ts n → IsShallow ts m
shallow_less ts m n lt h = (begins_less (take m ts) (take (n - m) (drop m ts)) (subst BeginsTree (first_of ts m n (omega arith)) h.0), inl (go h.1))
  where
    go : BeginsWithin 128 (take n ts) ⊎ BeginsWithin 128 (take (n - 1) ts ++ one_value ∷ []) → BeginsWithin 128 (take m ts)
    go (inl g) = within_less 128 (take m ts) (take (n - m) (drop m ts)) (subst (BeginsWithin 128) (first_of ts m n (omega arith)) g)
    go (inr g) =
        let less : take (n - 1) ts ≡ take m ts ++ take (n - 1 - m) (drop m ts) = first_of ts m (n - 1) (omega arith) in
        within_less 128 (take m ts) (take (n - 1 - m) (drop m ts)) (within_less 128 (take m ts ++ take (n - 1 - m) (drop m ts)) (one_value ∷ [])
        (subst (λ (us : List Token). BeginsWithin 128 (us ++ one_value ∷ [])) less g))

shallow_to : (ts : List Token) (m n : ℕ) → m ≤ n → IsShallow ts n → IsShallow ts m
shallow_to ts m n h g = go (cases_lt m n)
  where
    go : (m < n) ⊎ (n ≤ m) → IsShallow ts m
    go (inl lt) = shallow_less ts m n lt g
    go (inr le) = (let e : n ≡ m = omega arith in subst (IsShallow ts) e g)

-- Where the longest shallow prefix ends

record IsLongest (ts : List Token) (n : ℕ) : Type 0 where
  shallow : IsShallow ts n
  short : n < length ts
  longer : IsShallow ts (suc n) → ⊥

longest_alone : (ts : List Token) (m n : ℕ) → IsLongest ts m → IsLongest ts n → m ≡ n
longest_alone ts m n h g = go (cases_lt m n) (cases_lt n m)
  where
    go : (m < n) ⊎ (n ≤ m) → (n < m) ⊎ (m ≤ n) → m ≡ n
    go (inl lt) _ = absurd (h.longer (shallow_to ts (suc m) n (omega arith) g.shallow))
    go (inr le) (inl lt) = absurd (g.longer (shallow_to ts (suc n) m (omega arith) h.shallow))
    go (inr le) (inr ge) = omega arith

not_whole : (ts : List Token) (n : ℕ) → IsLongest ts n → IsShallow ts (length ts) → ⊥
not_whole ts n h g = h.longer (shallow_to ts (suc n) (length ts) (omega (arith, h.short)) g)

-- why a fault ends a prefix
data Reason (ts : List Token) (f : NumberedFault) : Type 0 where
  not_begun : (n : ℕ) → f ≡ (unexpected, n) → IsLongest ts n → (BeginsTree (take (suc n) ts) → ⊥) → Reason ts f
  deep : (n : ℕ) → f ≡ (too_deep, n) → IsLongest ts n → BeginsTree (take (suc n) ts) → Reason ts f
  at_end : f ≡ (unexpected, length ts) → IsUnfinished ts → open_brackets 0 [] ts ≡ [] → Reason ts f
  in_bracket : (n : ℕ) (outer : List ℕ) → f ≡ (unclosed, n) → IsUnfinished ts → open_brackets 0 [] ts ≡ n ∷ outer → Reason ts f

reason : (ts : List Token) (f : NumberedFault) → EndsPrefix ts f → Reason ts f
reason ts (unexpected, n) (inl h) = not_begun n refl (record { shallow = h.1; short = h.0; longer = λ g. h.2 g.0 }) h.2
reason ts (unexpected, n) (inr h) = at_end (ap (λ k. (unexpected, k)) h.0) h.1 h.2
reason ts (too_deep, n) h = deep n refl (record { shallow = h.1; short = h.0; longer = h.3 }) h.2
reason ts (unclosed, n) h = in_bracket n h.1.0 refl h.0 h.1.1
reason ts (bad_token, n) h = absurd h
reason ts (bad_escape, n) h = absurd h
reason ts (double_text, n) h = absurd h

one_reason : (ts : List Token) (f g : NumberedFault) → Reason ts f → Reason ts g → f ≡ g
one_reason ts f g (not_begun m e h none) (not_begun n p k also) = e ∙ (ap (λ i. (unexpected, i)) (longest_alone ts m n h k) ∙ sym p)
one_reason ts f g (not_begun m e h none) (deep n p k begins) = absurd (none (subst (λ i. BeginsTree (take (suc i) ts)) (sym (longest_alone ts m n h k)) begins))
one_reason ts f g (not_begun m e h none) (at_end p k opens) = absurd (not_whole ts m h k.0)
one_reason ts f g (not_begun m e h none) (in_bracket n outer p k opens) = absurd (not_whole ts m h k.0)
one_reason ts f g (deep m e h begins) (not_begun n p k none) = absurd (none (subst (λ i. BeginsTree (take (suc i) ts)) (longest_alone ts m n h k) begins))
one_reason ts f g (deep m e h begins) (deep n p k also) = e ∙ (ap (λ i. (too_deep, i)) (longest_alone ts m n h k) ∙ sym p)
one_reason ts f g (deep m e h begins) (at_end p k opens) = absurd (not_whole ts m h k.0)
one_reason ts f g (deep m e h begins) (in_bracket n outer p k opens) = absurd (not_whole ts m h k.0)
one_reason ts f g (at_end e h opens) (not_begun n p k none) = absurd (not_whole ts n k h.0)
one_reason ts f g (at_end e h opens) (deep n p k begins) = absurd (not_whole ts n k h.0)
one_reason ts f g (at_end e h opens) (at_end p k also) = e ∙ sym p
one_reason ts f g (at_end e h opens) (in_bracket n outer p k inner) = absurd (nil_no_cons (sym opens ∙ inner))
one_reason ts f g (in_bracket m outer e h opens) (not_begun n p k none) = absurd (not_whole ts n k h.0)
one_reason ts f g (in_bracket m outer e h opens) (deep n p k begins) = absurd (not_whole ts n k h.0)
one_reason ts f g (in_bracket m outer e h opens) (at_end p k none) = absurd (nil_no_cons (sym none ∙ opens))
one_reason ts f g (in_bracket m outer e h opens) (in_bracket n more p k also) = e ∙ (ap (λ i. (unclosed, i)) (same_head (sym opens ∙ also)) ∙ sym p)

pub one_end : (ts : List Token) (f g : NumberedFault) → EndsPrefix ts f → EndsPrefix ts g → f ≡ g
one_end ts f g h k = one_reason ts f g (reason ts f h) (reason ts g k)

-- tokens of a tree within the limit have none
tree_is_whole : (ts : List Token) (f : NumberedFault) (x : Syntax) → tokens_of x ≡ ts → levels x ≤ 128 → Reason ts f → ⊥
tree_is_whole ts f x e l r = go r
  where
    all : take (length ts) ts ≡ ts
    all = ap (take (length ts)) (sym (append-nil ts)) ∙ take-append_seam ts []

    shallow : IsShallow ts (length ts)
    shallow = (
      subst BeginsTree (sym all) (x, [], e ∙ sym (append-nil ts)),
      inl (subst (BeginsWithin 128) (sym all) (x, [], e ∙ sym (append-nil ts), l)),
    )

    go : Reason ts f → ⊥
    go (not_begun n p h none) = not_whole ts n h shallow
    go (deep n p h begins) = not_whole ts n h shallow
    go (at_end p h opens) = h.1 x e
    go (in_bracket n outer p h opens) = h.1 x e

ends_fault : (ts : List Token) (f : NumberedFault) → EndsPrefix ts f → grammar_fault ts ≡ Some f
ends_fault ts f h = go (grammar_fault ts) refl
  where
    go : (o : Option NumberedFault) → grammar_fault ts ≡ o → o ≡ Some f
    go None e = (let x = whole ts e in absurd (tree_is_whole ts f x.0 x.1 x.2 (reason ts f h)))
    go (Some g) e = ap Some (one_end ts g f (fault_ends_prefix ts g e) h)

pub fault_exactly : (ts : List Token) (f : NumberedFault) → (grammar_fault ts ≡ Some f) ↔ EndsPrefix ts f
fault_exactly ts f = (fault_ends_prefix ts f, ends_fault ts f)

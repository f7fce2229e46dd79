-- The first fault of tokens under any limit on levels: that of the grammar is at 128.
use Rattle.std.proofs.Common.{arith, ◌≡◌, ◌+◌, ℕ, suc, List, [], ◌∷◌, ◌++◌, length, Option, Some, None, refl, ap}
use Rattle.gv_model.specs.TextFault.Cause.{unexpected}
use Rattle.gv_model.specs.Tokens.{Token}
use Rattle.gv_model.specs.GrammarFaults.{Want, NumberedFault, step, at_end, wants_of, or_fault, first_fault, numbered, grammar_fault}
use Rattle.gv_model.specs.GrammarFaults.Want.{a_value}

unfoldable pub fault_to : ℕ → ℕ → List (Want ℕ) → List Token → Option NumberedFault
fault_to l n [] [] = None
fault_to l n (w ∷ wants) [] = Some (at_end n (w ∷ wants))
fault_to l n [] (t ∷ ts) = Some (unexpected, n)
fault_to l n (w ∷ wants) (t ∷ ts) = or_fault (step l w n t) (fault_to l (suc n) (wants_of (step l w n t) ++ wants) ts)

-- the numbered tokens, up to that end
faults_128 : (end : ℕ) (ts : List Token) (n : ℕ) (ws : List (Want ℕ)) → n + length ts ≡ end → fault_to 128 n ws ts ≡ first_fault end ws (numbered n ts)
unfolding fault_to first_fault
faults_128 end [] n [] h = refl
faults_128 end [] n (w ∷ ws) h = let same : n ≡ end = omega (arith, h) in ap (λ e. Some (at_end e (w ∷ ws))) same
faults_128 end (t ∷ ts) n [] h = refl
faults_128 end (t ∷ ts) n (w ∷ ws) h =
    ap (or_fault (step 128 w n t)) (faults_128 end ts (suc n) (wants_of (step 128 w n t) ++ ws) (omega (arith, h)))

pub fault_128 : (ts : List Token) → fault_to 128 0 (a_value 1 ∷ []) ts ≡ grammar_fault ts
fault_128 ts = faults_128 (length ts) ts 0 (a_value 1 ∷ []) (omega arith)

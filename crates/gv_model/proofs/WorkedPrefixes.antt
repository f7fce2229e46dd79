-- Worked faults of tokens that nest too deep: `EndsPrefix` holds of the first fault, and of no other.
use Rattle.std.proofs.Common.{◌≡◌, ℕ, false, List, [], ◌∷◌, ◌++◌, Some, refl, sym, ◌∙◌}
use Rattle.std.specs.Prelude.{replicate}
use Rattle.std.proofs.lemmas.Option.{same_Some}
use Rattle.gv_model.specs.TextFault.Cause.{too_deep}
use Rattle.gv_model.specs.Tokens.{Token}
use Rattle.gv_model.specs.Tokens.Mark.{open_list, close_tuple}
use Rattle.gv_model.specs.Tokens.Word.{just}
use Rattle.gv_model.specs.Tokens.Token.{mark, integer_token, word}
use Rattle.gv_model.specs.GrammarFaults.{NumberedFault, grammar_fault, first_fault}
use Rattle.gv_model.specs.TextLaws.{EndsPrefix}
use Rattle.gv_model.proofs.OnePrefix.{fault_exactly}

-- the fault at that token, and no other
abbrev IsAloneAt : ℕ → List Token → Type 0
IsAloneAt n ts = EndsPrefix ts (too_deep, n) × ((f : NumberedFault) → EndsPrefix ts f → f ≡ (too_deep, n))

alone_at : (n : ℕ) (ts : List Token) → grammar_fault ts ≡ Some (too_deep, n) → IsAloneAt n ts
alone_at n ts e = ((fault_exactly ts (too_deep, n)).0 e, λ f h. same_Some f (too_deep, n) (sym ((fault_exactly ts f).1 h) ∙ e))

-- 129 times `[`, and `)`
wrong_bracket : IsAloneAt 128 (replicate 129 (mark open_list) ++ mark close_tuple ∷ [])
unfolding first_fault
wrong_bracket = alone_at 128 (replicate 129 (mark open_list) ++ mark close_tuple ∷ []) refl

-- 129 times `[`
open_brackets_alone : IsAloneAt 128 (replicate 129 (mark open_list))
unfolding first_fault
open_brackets_alone = alone_at 128 (replicate 129 (mark open_list)) refl

-- 128 times `just`, and `1`
value_after_just : IsAloneAt 128 (replicate 128 (word just) ++ integer_token false 1 ∷ [])
unfolding first_fault
value_after_just = alone_at 128 (replicate 128 (word just) ++ integer_token false 1 ∷ []) refl

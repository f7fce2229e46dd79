use Rattle.std.proofs.Common.{rules, ℕ, ◌≡◌, ◌+◌, Bool, true, false, List, [], ◌∷◌, length, refl, sym, ◌∙◌, arith}
use Rattle.std.proofs.lemmas.Iterator.{YieldsList-from_slice, IsFirst-from_position, index_from_first}
use borrow.Author.Tests.{tests}
use Rattle.gv_model.specs.Characters.{prefix_of}
use Rattle.gv_syntax.specs.ByteClasses.{is_of}
use Rattle.gv_syntax.proofs.lexing.bytes.ByteClass.prefix_len.Goals as goal

-- the length of a prefix, byte by byte
no_byte : (f : ℕ → Bool) → length (prefix_of f []) ≡ 0
unfolding prefix_of
no_byte f = refl

other_byte : (f : ℕ → Bool) (c : ℕ) (cs : List ℕ) → f c ≡ false → length (prefix_of f (c ∷ cs)) ≡ 0
unfolding prefix_of
other_byte f c cs e = rw e

such_byte : (f : ℕ → Bool) (c : ℕ) (cs : List ℕ) → f c ≡ true → length (prefix_of f (c ∷ cs)) ≡ length (prefix_of f cs) + 1
unfolding prefix_of
such_byte f c cs e = rw e (omega arith)

pub returns-clause-len : goal.returns-clause-len
returns-clause-len c =
    let f = is_of c.args.self in
    let first = IsFirst-from_position _ _ _ (λ x. f x ≡ false) (λ x. f x ≡ true) c.position.ensures.ran (YieldsList-from_slice c.args.text.now cc) (λ x q k. search (rules, tests)) (λ x q k. search (rules, tests)) in
    c.unwrap_or.ensures ∙ sym (index_from_first (λ s. length (prefix_of f s)) (λ x. f x ≡ false) (λ x. f x ≡ true) (no_byte f) (other_byte f) (such_byte f) c.args.text.now c.position.result first)

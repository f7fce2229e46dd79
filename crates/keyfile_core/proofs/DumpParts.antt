-- A path below a directory, cut at its last slash.
use Rattle.std.proofs.Common.{◌≡◌, ℕ, ◌+◌, ◌-◌, ◌==◌, true, false, List, length, get_or, Option, Some, None, refl, sym, ap, ◌∙◌, arith, eqb, MatchOption, IsSome, not}
use denote.Ref.{Bor}
use Rattle.std.specs.List.{starts_with}
use Rattle.std.specs.Str.Pattern.{FindsTextPrefix, LacksTextAt, StripsPrefix}
use Rattle.std.proofs.lemmas.Bool.{true≢false, false_from_ne_true}
use Rattle.std.proofs.lemmas.List.Sums.{suffix_len_is}
use Rattle.std.proofs.lemmas.Str.Pattern.{starts_text}
use Rattle.memchr.specs.Find.{Nowhere, NoneAfter, Passes, is_byte}
use Rattle.dconf_model.specs.Keyfiles.{key_len}

pub is_stripped : (r : Option (Bor (List ℕ))) (n s : List ℕ) → MatchOption r (LacksTextAt n s 0) (λ x. StripsPrefix (FindsTextPrefix n) s x.now) → starts_with eqb s n ≡ true → IsSome r
is_stripped None n s lacks starts = absurd (true≢false (sym starts ∙ sym (starts_text false n s lacks)))
is_stripped (Some x) n s strips starts = refl

-- the bytes from there on are the key's
pub after_slash : (s : List ℕ) (at : ℕ) → NoneAfter (Passes (is_byte 47) s) 0 (length s) at → (get_or s at 0 == 47) ≡ true → key_len s ≡ length s - (at + 1)
after_slash s at none is =
    suffix_len_is (λ c. not (c == 47)) s (at + 1) 0 (omega (arith, none.high))
    (λ k from below. ap not (false_from_ne_true (get_or s k 0 == 47) (λ e. none.after k from below e)))
    (λ some. ap not (ap (λ k. get_or s k 0 == 47) (omega arith) ∙ is))

pub no_slash : (s : List ℕ) → Nowhere (Passes (is_byte 47) s) 0 (length s) → key_len s ≡ length s
no_slash s none =
    let whole = suffix_len_is (λ c. not (c == 47)) s 0 0 (omega arith) (λ k from below. ap not (false_from_ne_true (get_or s k 0 == 47) (λ e. none k from below e))) (λ some. absurd (omega arith)) in
    omega (arith, whole)

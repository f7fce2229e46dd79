-- The input of a run, where no read of it failed.
use Rattle.std.proofs.Common.{◌≡◌, ◌++◌, ◌∙◌, ◌+◌, ℕ, Bool, true, false, List, [], Option, Some, None, unwrap_or, refl, sym, ap, subst, arith}
use Rattle.std.specs.Prelude.{◌∷◌, Result, Ok, Err, is_ok, is_err, if◌then◌else◌}
use Rattle.std.specs.Io.KnownBytes.{Consumes}
use Rattle.dconf_model.specs.Reads.{Input}
use Rattle.dconf_streams.specs.declared.counted.Counted.{Counted}
use Rattle.dconf_streams.specs.Counted.{failures_of, inner_of}
use Rattle.dconf_streams.specs.Streams.{NoneFailed, one_more}
use Rattle.dconf_streams.specs.Inputs.{Took}

some_is : (xs ys : List ℕ) → Some xs ≡ Some ys → xs ≡ ys
some_is xs ys e = ap (λ o. unwrap_or o []) e

consumed : (old new : Option (List ℕ)) (gave all : List ℕ) → old ≡ Some all → Consumes old new gave → gave ++ unwrap_or new [] ≡ all
consumed None new gave all is h = cc
consumed (Some xs) None gave all is h = absurd h
consumed (Some xs) (Some ys) gave all is h = sym h ∙ some_is xs all is

all_given : (i : Input) (all : List ℕ) → i.bytes ≡ all → i.fails ≡ false → i ≡ record { bytes = all; fails = false }
all_given i all bytes fails = λ k. record { bytes = bytes k; fails = fails k }

one_of_none : one_more 0 ≡ 0 + 1
one_of_none = refl

not_one : (n : ℕ) → n ≡ 0 → n ≡ one_more 0 → ⊥
not_one n none one = let bad = sym none ∙ (one ∙ one_of_none) in omega (arith, bad)

module _ {R : Type 0} (remaining : R → Option (List ℕ)) (old new : Counted R) (i : Input) (all : List ℕ) (took : Took remaining old new i)
    (none_before : failures_of old ≡ 0) (none_after : failures_of new ≡ 0) where
  none_failed : (b : Bool) → i.fails ≡ b → i.fails ≡ false
  none_failed false is = is
  none_failed true is = absurd (not_one (failures_of new) none_after ((took.part is).1 ∙ ap one_more none_before))

  -- it is all that there was to read
  pub took_all : remaining (inner_of old) ≡ Some all → i ≡ record { bytes = all; fails = false }
  took_all held =
      let fails = none_failed i.fails refl in
      all_given i all (took.whole fails ∙ consumed (remaining (inner_of old)) (remaining (inner_of new)) took.gave all held took.given.left) fails

-- no write failed, by the counts that were read
pub none_between : (x y old new : ℕ) → NoneFailed x y → x ≡ old → y ≡ new → NoneFailed old new
none_between x y old new none x_is y_is = subst (λ n. NoneFailed old n) y_is (subst (λ n. NoneFailed n y) x_is none)

-- one status more
pub pushed : {X U E : Type 0} (r : Result U E) (b : Bool) (old new : List X) (x : X) → new ≡ (if is_ok r then old ++ x ∷ [] else old) → b ≡ is_err r → b ≡ false → new ≡ old ++ x ∷ []
pushed (Ok u) b old new x items same none = items
pushed (Err e) b old new x items same none = let bad : true ≡ false = sym same ∙ none in cc

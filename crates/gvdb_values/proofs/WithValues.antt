-- Values that are appended, each at a multiple of 8, occur in the file.
use Rattle.std.proofs.lemmas.Grind.{common_steps}
use Rattle.std.proofs.Common.{ℕ, zero, suc, ◌≡◌, ◌<◌, ◌≤◌, ◌+◌, ◌-◌, ◌%◌, List, [], ◌∷◌, ◌++◌, length, get_or, take, replicate, refl, ap, ◌∙◌, subst, arith, length-append, Bor}
use Rattle.std.proofs.lemmas.List.{length-replicate, take_all}
use Rattle.gv_model.specs.Layout.{round_up}
use Rattle.dconf_model.specs.TableBytes.{OccursAt}
use Rattle.dconf_model.specs.Plans.{values_end}
use Rattle.dconf_model.proofs.Occurrences.{occurs_at, occurs_last, occurs_still}
use Rattle.gvdb_values.specs.WrittenValues.{with_padding, with_values}

not_below : (n : ℕ) → n ≤ round_up 8 n
unfolding round_up
not_below n = omega arith

pub length-padded : (file : List ℕ) → length (with_padding 8 file) ≡ round_up 8 (length file)
length-padded file = grind (arith, common_steps, replicate, length-append, length-replicate, not_below)

length-next : (file value : List ℕ) → length (with_padding 8 file ++ value) ≡ round_up 8 (length file) + length value
length-next file value = length-append (with_padding 8 file) value ∙ ap (λ (n : ℕ). n + length value) (length-padded file)

-- as long as the ends of the values say
pub length-with_values : (values : List (List ℕ)) (file : List ℕ) → length (with_values file values) ≡ values_end (length file) values
length-with_values [] file = refl
length-with_values (value ∷ values) file =
    length-with_values values (with_padding 8 file ++ value) ∙ ap (λ (n : ℕ). values_end n values) (length-next file value)

-- what was there is still there
pub occurs_before : (values : List (List ℕ)) (file : List ℕ) (at : ℕ) (bytes : List ℕ) → OccursAt file at bytes → OccursAt (with_values file values) at bytes
occurs_before [] file at bytes s = s
occurs_before (value ∷ values) file at bytes s =
    occurs_before values (with_padding 8 file ++ value) at bytes
    (occurs_still (with_padding 8 file) at bytes value (occurs_still file at bytes (replicate (round_up 8 (length file) - length file) 0) s))

-- each value is where the one before it ends, at the next multiple of 8
pub value_occurs : (values : List (List ℕ)) (i : ℕ) (file : List ℕ) → i < length values → OccursAt (with_values file values) (round_up 8 (values_end (length file) (take i values))) (get_or values i [])
value_occurs [] i file l = absurd (omega (arith, l))
value_occurs (value ∷ values) zero file l =
    occurs_at (with_values (with_padding 8 file ++ value) values) (length (with_padding 8 file)) (round_up 8 (length file)) value (length-padded file)
    (occurs_before values (with_padding 8 file ++ value) (length (with_padding 8 file)) value (occurs_last (with_padding 8 file) value))
value_occurs (value ∷ values) (suc i) file l =
    subst (λ (n : ℕ). OccursAt (with_values (with_padding 8 file ++ value) values) (round_up 8 (values_end n (take i values))) (get_or values i [])) (length-next file value)
    (value_occurs values i (with_padding 8 file ++ value) (omega (arith, l)))

-- ends never fall
pub values_rise : (values : List (List ℕ)) (at : ℕ) → at ≤ values_end at values
values_rise [] at = omega arith
values_rise (value ∷ values) at =
    let le = not_below at in
    let more = values_rise values (round_up 8 at + length value) in
    omega (arith, le, more)

pub prefix_ends_below : (values : List (List ℕ)) (i : ℕ) (at : ℕ) → values_end at (take i values) ≤ values_end at values
prefix_ends_below [] zero at = omega arith
prefix_ends_below [] (suc i) at = omega arith
prefix_ends_below (value ∷ values) zero at = values_rise (value ∷ values) at
prefix_ends_below (value ∷ values) (suc i) at = prefix_ends_below values i (round_up 8 at + length value)

-- ---- as the code appends them

pub next_8 : (k n : ℕ) → k ≤ n → n < k + 8 → n % 8 ≡ 0 → n ≡ round_up 8 k
unfolding round_up
next_8 k n le less whole = omega (arith, le, less, whole)

pub next_4 : (k n : ℕ) → k ≤ n → n < k + 4 → n % 4 ≡ 0 → n ≡ round_up 4 k
unfolding round_up
next_4 k n le less whole = omega (arith, le, less, whole)

pub padded_is : (to : ℕ) (file after : List ℕ) (len n : ℕ) → len ≡ length file → n ≡ round_up to len → after ≡ file ++ replicate (n - length file) 0 → after ≡ with_padding to file
padded_is to file after len n is e a = a ∙ ap (λ (m : ℕ). file ++ replicate (m - length file) 0) (e ∙ ap (round_up to) is)

pub value_appended : (values : List (List ℕ)) (i : ℕ) (out before pad after : List ℕ) → i < length values → before ≡ with_values out (take i values) → pad ≡ with_padding 8 before → after ≡ pad ++ get_or values i [] → after ≡ with_values out (take (i + 1) values)
value_appended values i out before pad after l b p a = grind (arith, common_steps)

-- after the last one
pub all_taken : {X : Type 0} (bytes : List X → List ℕ) (xs : List X) (i : ℕ) (last : List ℕ) → length xs ≤ i → last ≡ bytes (take i xs) → last ≡ bytes xs
all_taken bytes xs i last le e = e ∙ ap bytes (take_all i xs le)

-- no value, which stands for what is past the end
abbrev pub no_bytes : Bor (List ℕ)
no_bytes = record { ref_ptr = (0, 0); now = [] }

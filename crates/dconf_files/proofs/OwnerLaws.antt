-- Who may do what with a new file.
use Rattle.std.proofs.Common.{ℕ, ◌≡◌, ◌⊎◌, ◌+◌, ◌*◌, ◌/◌, ◌%◌, ◌<◌, ◌≤◌, Bool, true, false, not, ◌&&◌, refl, sym, ◌∙◌, ap, subst, inl, inr, ⊎_elim, arith}
use Rattle.std.specs.Prelude.{if◌then◌else◌, ◌==◌, bit_and, bit_or}
use Rattle.std.specs.Int.Bits.{and_self}
use Rattle.std.proofs.lemmas.Nat.{and_le_r, and_comm, and_assoc}
use Rattle.dconf_files.specs.declared.owner.OldFile.{OldFile}
use Rattle.dconf_files.specs.declared.owner.FileOwner.{FileOwner}
use Rattle.dconf_files.specs.declared.owner.NewFile.{NewFile}
use Rattle.dconf_files.specs.declared.owner.NewOwner.{NewOwner}
use Rattle.dconf_files.specs.declared.owner.NewOwner.TheVariants.{Given, Refused, Again}
use Rattle.dconf_files.specs.Owners.{groups, others, both, bits_for, first_bits, new_bits, given, as_old, AreRightsOf, IsGoodOwner, NobodyGains}

-- ---- digits

pub and_small : (a b : ℕ) → bit_and a b ≤ b
and_small a b = and_le_r a b

both_small : (b : ℕ) → both b < 8
both_small b = let le : both b ≤ others b = and_le_r (groups b) (others b) in let d : others b < 8 = omega arith in omega arith

both_of_others : (b : ℕ) → AreRightsOf (both b) (others b)
both_of_others b = and_assoc (others b) (groups b) (others b) ∙ ap (bit_and (groups b)) (and_self (others b))

both_of_groups : (b : ℕ) → AreRightsOf (both b) (groups b)
both_of_groups b =
    ap (λ x. bit_and x (groups b)) (and_comm (groups b) (others b)) ∙ and_assoc (groups b) (others b) (groups b) ∙ ap (bit_and (others b)) (and_self (groups b)) ∙ and_comm (others b) (groups b)

groups_of_rest : (k both : ℕ) → both < 8 → groups (k * 64 + both * 8 + both) ≡ both
groups_of_rest k both small = omega arith

others_of_rest : (k both : ℕ) → both < 8 → others (k * 64 + both * 8 + both) ≡ both
others_of_rest k both small = omega arith

groups_below : (b : ℕ) → groups (b % 512) ≡ groups b
groups_below b = omega arith

others_below : (b : ℕ) → others (b % 512) ≡ others b
others_below b = omega arith

groups_first : (k b : ℕ) → groups (k * 64 + b % 64) ≡ groups b
groups_first k b = omega arith

others_first : (k b : ℕ) → others (k * 64 + b % 64) ≡ others b
others_first k b = omega arith

groups_for : (x : ℕ) → groups (bits_for x false) ≡ both (x % 512)
groups_for x = groups_of_rest (x % 512 / 64) (both (x % 512)) (both_small (x % 512))

others_for : (x : ℕ) → others (bits_for x false) ≡ both (x % 512)
others_for x = others_of_rest (x % 512 / 64) (both (x % 512)) (both_small (x % 512))

-- ---- rights

are_same : (a b : ℕ) → a ≡ b → AreRightsOf a b
are_same a b e = ap (λ x. bit_and x b) e ∙ and_self b ∙ sym e

both_are : (a b : ℕ) (m : Bool) → a ≡ both b → AreRightsOf a (if m then groups b else others b)
both_are a b true e = ap (λ x. bit_and x (groups b)) e ∙ both_of_groups b ∙ sym e
both_are a b false e = ap (λ x. bit_and x (others b)) e ∙ both_of_others b ∙ sym e

abbrev bits_by : Bool → Bool → ℕ → ℕ
bits_by regular keeps b = if not regular then 384 else if keeps then first_bits (b % 512) else b % 512

groups_by : (keeps : Bool) (b : ℕ) → groups (bits_by true keeps b) ≡ groups b
groups_by true b = groups_first (bit_or (b % 512 / 64) 6 % 8) (b % 512) ∙ groups_below b
groups_by false b = groups_below b

others_by : (keeps : Bool) (b : ℕ) → others (bits_by true keeps b) ≡ others b
others_by true b = others_first (bit_or (b % 512 / 64) 6 % 8) (b % 512) ∙ others_below b
others_by false b = others_below b

abbrev old_by : Bool → Bool → Bool → ℕ → ℕ
old_by there regular m b = if there && regular then (if m then groups b else others b) else 0

own_by : (there regular keeps m : Bool) (b : ℕ) → there ≡ true
    → AreRightsOf (if m then groups (bits_by regular keeps b % 512) else others (bits_by regular keeps b % 512)) (old_by there regular m b)
own_by false regular keeps m b e = absurd (let bad : false ≡ true = e in cc)
own_by true false keeps true b e = refl
own_by true false keeps false b e = refl
own_by true true keeps true b e = are_same (groups (bits_by true keeps b % 512)) (groups b) (groups_below (bits_by true keeps b) ∙ groups_by keeps b)
own_by true true keeps false b e = are_same (others (bits_by true keeps b % 512)) (others b) (others_below (bits_by true keeps b) ∙ others_by keeps b)

both_by : (keeps : Bool) (b : ℕ) → both (bits_by true keeps b % 512) ≡ both b
both_by keeps b =
    ap (λ g. bit_and g (others (bits_by true keeps b % 512))) (groups_below (bits_by true keeps b) ∙ groups_by keeps b)
    ∙ ap (bit_and (groups b)) (others_below (bits_by true keeps b) ∙ others_by keeps b)

-- the rights of whoever is not the owner, in another group
foreign_is : (x : ℕ) (n : Bool) → (if n then groups (bits_for x false) else others (bits_for x false)) ≡ both (x % 512)
foreign_is x true = groups_for x
foreign_is x false = others_for x

foreign_by : (there regular keeps m n : Bool) (b : ℕ) → there ≡ true
    → AreRightsOf (if n then groups (bits_for (bits_by regular keeps b) false) else others (bits_for (bits_by regular keeps b) false)) (old_by there regular m b)
foreign_by false regular keeps m n b e = absurd (let bad : false ≡ true = e in cc)
foreign_by true false keeps m true b e = refl
foreign_by true false keeps m false b e = refl
foreign_by true true keeps m n b e =
    both_are (if n then groups (bits_for (bits_by true keeps b) false) else others (bits_for (bits_by true keeps b) false)) b m
    (foreign_is (bits_by true keeps b) n ∙ both_by keeps b)

-- ---- which file is given to whom

abbrev owner_by : Bool → Bool → Bool → Bool → NewOwner → NewOwner → NewOwner
owner_by there linked roots unread none old = if not there then none else if linked then (if roots then old else Refused) else if unread then Again else old

record IsOld (there linked roots unread : Bool) (old new : NewOwner) : Type 0 where
  there_is : there ≡ true
  why : ((linked ≡ true) × (roots ≡ true)) ⊎ (unread ≡ false)
  is : old ≡ new

cases_of : (there linked roots unread : Bool) (none old : NewOwner) (new : NewFile) → owner_by there linked roots unread none old ≡ Given new
    → ((there ≡ false) × (none ≡ Given new)) ⊎ IsOld there linked roots unread old (Given new)
cases_of false linked roots unread none old new e = inl (refl, e)
cases_of true true true unread none old new e = inr (record { there_is = refl; why = inl (refl, refl); is = e })
cases_of true true false unread none old new e = absurd (let bad : Refused ≡ Given new = e in cc)
cases_of true false roots true none old new e = absurd (let bad : Again ≡ Given new = e in cc)
cases_of true false roots false none old new e = inr (record { there_is = refl; why = inr refl; is = e })

file_of : NewFile → NewOwner → NewFile
file_of other (Given new) = new
file_of other Refused = other
file_of other Again = other

none_good : (old : OldFile) (above : FileOwner) (is_root keeps : Bool) → old.is_there ≡ false
    → IsGoodOwner old above is_root keeps (record { user = above.user; group = above.group; bits = 384 })
none_good old above is_root keeps e = record {
  own = λ is_in. none_has (is_in above.group) old.is_there old.is_regular (is_in old.group) old.bits e;
  foreign = λ is_in group. none_has (is_in group) old.is_there old.is_regular (is_in old.group) old.bits e;
  root = λ r t. absurd (let bad : false ≡ true = sym e ∙ t in cc);
  kept = λ t r k. absurd (let bad : false ≡ true = sym e ∙ t in cc);
} where
  none_has : (n there regular m : Bool) (b : ℕ) → there ≡ false → AreRightsOf (if n then 0 else 0) (old_by there regular m b)
  none_has true false regular m b e = refl
  none_has false false regular m b e = refl
  none_has n true regular m b e = absurd (let bad : true ≡ false = e in cc)

read_if : (is_root is_read : Bool) → (is_root && not is_read) ≡ false → is_root ≡ true → is_read ≡ true
read_if true true e r = refl
read_if true false e r = absurd (let bad : true ≡ false = e in cc)
read_if false is_read e r = absurd (let bad : false ≡ true = r in cc)

zero_if : (n : ℕ) → (n == 0) ≡ true → n ≡ 0
zero_if n e = grind arith

kept_by : (regular keeps : Bool) (b : ℕ) → regular ≡ true → keeps ≡ false → bits_by regular keeps b ≡ b % 512
kept_by true false b r k = refl
kept_by false keeps b r k = absurd (let bad : false ≡ true = r in cc)
kept_by true true b r k = absurd (let bad : true ≡ false = k in cc)

old_good : (old : OldFile) (above : FileOwner) (is_root keeps : Bool) → old.is_there ≡ true
    → (((is_root && keeps && old.is_link) ≡ true) × ((old.user == 0) ≡ true)) ⊎ ((is_root && not old.is_read) ≡ false)
    → IsGoodOwner old above is_root keeps (record { user = old.user; group = old.group; bits = new_bits old keeps })
old_good old above is_root keeps there why = record {
  own = λ is_in. own_by old.is_there old.is_regular keeps (is_in old.group) old.bits there;
  foreign = λ is_in group. foreign_by old.is_there old.is_regular keeps (is_in old.group) (is_in group) old.bits there;
  root = λ r t. (refl, ⊎_elim (λ z. inr (zero_if old.user z.1)) (λ unread. inl (read_if is_root old.is_read unread r)) why);
  kept = λ t regular keeps_not. kept_by old.is_regular keeps old.bits regular keeps_not;
}

pub nobody_gains : NobodyGains
unfolding file_of
nobody_gains old above is_root keeps new e =
    ⊎_elim
    (λ none. subst (IsGoodOwner old above is_root keeps) (ap (file_of new) none.1) (none_good old above is_root keeps none.0))
    (λ it. subst (IsGoodOwner old above is_root keeps) (ap (file_of new) it.is) (old_good old above is_root keeps it.there_is it.why))
    (cases_of old.is_there (is_root && keeps && old.is_link) (old.user == 0) (is_root && not old.is_read) (given above.user above.group 384) (as_old old keeps) new e)

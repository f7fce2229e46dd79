-- Members of one letter each, which are passed in one go.
use Rattle.std.proofs.Common.{ℕ, ◌⊎◌, inl, inr, ◌≢◌, ◌+◌, ◌≤◌, ◌<◌, ◌≡◌, ◌==◌, Bool, true, false, if◌then◌else◌, Some, List, [], ◌∷◌, length, length-append, refl, ap, arith}
use Rattle.std.proofs.lemmas.Bool.{false≢true}
use Rattle.gv_model.specs.Ty.{spellings}
use Rattle.gv_model.specs.TypeText.{TypeMark, mark}
use Rattle.gv_model.specs.TypeText.TypeMark.{letter, of_variant, of_array, of_maybe, open_tuple, open_entry}
use Rattle.gv_types.specs.declared.class.BasicType.{BasicType}
use Rattle.gv_types.specs.declared.class.Class.{Class}
use Rattle.gv_types.specs.declared.class.Class.TheVariants as classes
use Rattle.gv_types.specs.Classes.{basic_type, class_of_mark, is_single_mark}
use Rattle.gv_types.specs.TypePrefix.{ReadsType, after_letters}
use Rattle.gv_types.proofs.MemberLaws.{HasRead, one_read, counted_if}
use Rattle.gv_types.proofs.TypeSteps.{reads_single, reads_shorter}

-- the class of a type of one letter
pub record IsSingle (m : TypeMark) : Type 0 where
  pub class : Class
  pub is : class_of_mark m ≡ Some class
  pub one : ((k : BasicType) × (class ≡ classes.Basic k)) ⊎ (class ≡ classes.Variant)

pub single_class : (m : TypeMark) → is_single_mark m ≡ true → IsSingle m
single_class (letter k) e = record { class = classes.Basic (basic_type k); is = refl; one = inl (basic_type k, refl) }
single_class of_variant e = record { class = classes.Variant; is = refl; one = inr refl }
single_class _ e = absurd (false≢true e)

-- ---- what follows them

pub after_none : after_letters [] ≡ []
unfolding after_letters
after_none = refl

pub after_single : (b : ℕ) (rest : List ℕ) → is_single_mark (mark b) ≡ true → after_letters (b ∷ rest) ≡ after_letters rest
unfolding after_letters
after_single b rest e = rw e refl

pub after_other : (b : ℕ) (rest : List ℕ) → is_single_mark (mark b) ≡ false → after_letters (b ∷ rest) ≡ b ∷ rest
unfolding after_letters
after_other b rest e = rw e refl

shorter_at : (s : Bool) (b : ℕ) (rest : List ℕ) → is_single_mark (mark b) ≡ s → length (after_letters rest) ≤ length rest → length (after_letters (b ∷ rest)) ≤ length (b ∷ rest)
shorter_at true b rest e h = omega (arith, h, ap length (after_single b rest e))
shorter_at false b rest e h = omega (arith, ap length (after_other b rest e))

pub letters_shorter : (rest : List ℕ) → length (after_letters rest) ≤ length rest
letters_shorter [] = omega (arith, ap length after_none)
letters_shorter (b ∷ rest) = shorter_at (is_single_mark (mark b)) b rest refl (letters_shorter rest)

-- ---- they are members, too

-- what is counted after them: as much as before, if there are none
abbrev Counts : List ℕ → ℕ → ℕ → Type 0
Counts rest before after = (length (after_letters rest) ≡ length rest → after ≡ before) × ((length (after_letters rest) ≢ length rest) → after ≡ 0)

abbrev Runs : ℕ → List ℕ → List ℕ → Type 0
Runs room text rest = (before after : ℕ) → length rest < length text → HasRead room text rest before → Counts rest before after → HasRead room text (after_letters rest) after

run_at : (s : Bool) (room b : ℕ) (text rest : List ℕ) → is_single_mark (mark b) ≡ s → (room ≡ 0 → ⊥) → Runs room text rest → Runs room text (b ∷ rest)
run_at true room b text rest e some more before after short h counts =
    let single = single_class (mark b) e in
    let skips = after_single b rest e in
    let passed = one_read room text (b ∷ rest) rest before 0 0 h (reads_single room b single.class (b ∷ rest) rest single.is single.one some refl)
    (counted_if (b ∷ rest) text 0 0 (inr ((λ same. omega (arith, same, short)), refl))) in
    let none : after ≡ 0 = counts.1 (λ same. omega (arith, same, ap length skips, letters_shorter rest)) in
    rw skips (more 0 after (omega (arith, short)) passed ((λ _. none), (λ _. none)))
run_at false room b text rest e some more before after short h counts =
    let stays = after_other b rest e in
    rw (stays, counts.0 (ap length stays)) h

run : (room : ℕ) (text rest : List ℕ) → (room ≡ 0 → ⊥) → Runs room text rest
run room text [] some before after short h counts = rw (after_none, counts.0 (ap length after_none)) h
run room text (b ∷ rest) some before after short h counts = run_at (is_single_mark (mark b)) room b text rest refl some (run room text rest some) before after short h counts

-- a member and the letters behind it, as the code counts
pub more_read : (room : ℕ) (text rest next : List ℕ) (before singles after : ℕ) → HasRead room text rest before → ReadsType room rest next singles → (room ≡ 0 → ⊥)
    → (length rest ≡ length text) × (length (after_letters next) ≡ length next) × (after ≡ singles + 1) ⊎ ((length rest ≡ length text → length (after_letters next) ≢ length next) × (after ≡ 0))
    → HasRead room text (after_letters next) after
more_read room text rest next before singles after h r some is =
    let mid = one_read room text rest next before singles (if length rest == length text then singles + 1 else 0) h r refl in
    let short : length next < length text = omega (arith, reads_shorter room rest next r.begins, ap length h.members.whole, length-append (spellings h.members.types) rest) in
    run room text next some (if length rest == length text then singles + 1 else 0) after short mid (elim is [
      | inl one ↦ ((λ _. counted_if rest text singles after (inl (one.0, one.2))), (λ differ. absurd (differ one.1)))
      | inr none ↦ ((λ same. counted_if rest text singles after (inr ((λ e. none.0 e same), none.1))), (λ _. none.1))
    ])

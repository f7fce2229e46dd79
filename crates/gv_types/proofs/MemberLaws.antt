-- The members of a tuple, read one after the other.
use Rattle.std.proofs.Common.{ℕ, suc, ◌⊎◌, inl, inr, ◌≢◌, ◌+◌, ◌≤◌, ◌≡◌, ◌==◌, true, false, if◌then◌else◌, List, ◌++◌, length, length-append, refl, sym, ap, ◌∙◌, append_assoc, append-nil, arith}
use Rattle.std.proofs.lemmas.Bool.Decides.{nat_tests}
use Rattle.gv_model.specs.Ty.{Ty, Types, spelling, spellings, nesting, greatest_nesting}
use Rattle.gv_model.specs.Ty.Ty.{basic, variant, array, maybe, tuple, entry}
use Rattle.gv_model.specs.Ty.Types.{end, member}
use Rattle.gv_model.proofs.Prefixes.{spelling-positive}
use Rattle.gv_types.specs.SingleTuples.{single_tuples}
use Rattle.gv_types.specs.TypePrefix.{ReadsType}

-- the members that occur before the rest
pub record MembersSoFar (room : ℕ) (text rest : List ℕ) : Type 0 where
  pub types : Types
  pub whole : text ≡ spellings types ++ rest
  pub within : greatest_nesting types ≤ room

-- the same, where the tuple of these members is so many of one member, one in another
pub record HasRead (room : ℕ) (text rest : List ℕ) (singles : ℕ) : Type 0 where
  pub members : MembersSoFar room text rest
  pub counted : singles ≡ single_tuples (tuple members.types)

with_last : Types → Ty → Types
with_last end t = member t end
with_last (member u ts) t = member u (with_last ts t)

spellings-with_last : (ts : Types) (t : Ty) (rest : List ℕ) → spellings (with_last ts t) ++ rest ≡ spellings ts ++ (spelling t ++ rest)
unfolding spellings with_last
spellings-with_last end t rest = ap (λ x. x ++ rest) (append-nil (spelling t))
spellings-with_last (member u ts) t rest =
    append_assoc (spelling u) (spellings (with_last ts t)) rest
    ∙ (ap (λ x. spelling u ++ x) (spellings-with_last ts t rest)
    ∙ sym (append_assoc (spelling u) (spellings ts) (spelling t ++ rest)))

nesting-with_last : (ts : Types) (t : Ty) (room : ℕ) → greatest_nesting ts ≤ room → nesting t ≤ room → greatest_nesting (with_last ts t) ≤ room
unfolding greatest_nesting with_last
nesting-with_last end t room h g = omega arith
nesting-with_last (member u ts) t room h g =
    let rest = nesting-with_last ts t room (omega arith) g in
    omega arith

pub no_members : (room : ℕ) (text : List ℕ) → MembersSoFar room text text
unfolding spellings greatest_nesting
no_members room text = record { types = end; whole = refl; within = omega arith }

pub one_more : (room : ℕ) (text rest others : List ℕ) (t : Ty) → MembersSoFar room text rest → rest ≡ spelling t ++ others → nesting t ≤ room → MembersSoFar room text others
one_more room text rest others t m e h = record {
  types = with_last m.types t;
  whole = m.whole ∙ (ap (λ x. spellings m.types ++ x) e ∙ sym (spellings-with_last m.types t others));
  within = nesting-with_last m.types t room m.within h;
}

-- ---- how many tuples of one member they make

pub none_read : (room : ℕ) (text : List ℕ) → HasRead room text text 0
unfolding no_members single_tuples
none_read room text = record { members = no_members room text; counted = refl }

same_length : (rest text : List ℕ) → text ≡ rest → (length rest == length text) ≡ true
same_length rest text e = grind (arith, nat_tests, ap length e)

other_length : (u : Ty) (us : Types) (rest text : List ℕ) → text ≡ spellings (member u us) ++ rest → (length rest == length text) ≡ false
unfolding spellings
other_length u us rest text e =
    grind (arith, nat_tests, ap length e, length-append (spelling u ++ spellings us) rest, length-append (spelling u) (spellings us), spelling-positive u)

singles-with_last : (ts : Types) (t : Ty) (text rest : List ℕ) → text ≡ spellings ts ++ rest → single_tuples (tuple (with_last ts t)) ≡ (if length rest == length text then single_tuples t + 1 else 0)
unfolding single_tuples with_last spellings
singles-with_last end t text rest e = rw (same_length rest text e) (omega arith)
singles-with_last (member u end) t text rest e = rw (other_length u end rest text e) refl
singles-with_last (member u (member v ts)) t text rest e = rw (other_length u (member v ts) rest text e) refl

pub one_read : (room : ℕ) (text rest others : List ℕ) (before singles after : ℕ) → HasRead room text rest before → ReadsType room rest others singles → after ≡ (if length rest == length text then singles + 1 else 0) → HasRead room text others after
unfolding one_more
one_read room text rest others before singles after m r e = record {
  members = one_more room text rest others r.begins.type m.members r.begins.whole r.begins.within;
  counted = e ∙ (ap (λ n. if length rest == length text then n + 1 else 0) r.counted ∙ sym (singles-with_last m.members.types r.begins.type text rest m.members.whole));
}

-- each of them is a level
singles_within : (t : Ty) → suc (single_tuples t) ≤ nesting t
unfolding single_tuples nesting greatest_nesting
singles_within (tuple (member t end)) = omega (arith, singles_within t)
singles_within _ = omega arith

pub singles_fit : (room : ℕ) (text rest : List ℕ) (singles : ℕ) → ReadsType room text rest singles → suc singles ≤ room
singles_fit room text rest singles r = omega (arith, r.counted, singles_within r.begins.type, r.begins.within)

-- how the code says it
pub counted_if : (rest text : List ℕ) (singles after : ℕ) → (length rest ≡ length text) × (after ≡ singles + 1) ⊎ (length rest ≢ length text) × (after ≡ 0) → after ≡ (if length rest == length text then singles + 1 else 0)
counted_if rest text singles after (inl h) = h.1 ∙ sym (rw (same h.0) refl)
  where
    same : length rest ≡ length text → (length rest == length text) ≡ true
    same e = grind (arith, nat_tests)
counted_if rest text singles after (inr h) = h.1 ∙ sym (rw (other h.0) refl)
  where
    other : (length rest ≢ length text) → (length rest == length text) ≡ false
    other e = grind (arith, nat_tests)

use Rattle.std.proofs.Common.{◌+◌, ◌*◌, ◌-◌, ◌<◌, ◌≤◌, ◌≡◌, inl, inr, ◌∙◌, ℕ, length, arith, ap, sym, subst}
use Rattle.std.proofs.Math.Nat.{add-mul, mul-le-mul_right}
use Rattle.std.proofs.lemmas.Bool.{cases_order}
use Rattle.dconf_model.specs.Bytes.{hash_of}
use Rattle.dconf_model.specs.Search.{Fits, IsWanted, PassesBloom, span_end, span_size, span_start}
use Rattle.dconf_model.proofs.PathMaps.{no_truth}
use Rattle.gvdb_format.specs.Kinds.{letter_of}
use Rattle.gvdb_check.proofs.Below.{below_next}
use Rattle.gvdb_read.specs.Tables.{region}
use Rattle.gvdb_read.proofs.table.Table.find_hashed.Goals as goal

-- none before this one is such
least_from : (P : ℕ → Type 0) (i : ℕ) → ((j : ℕ) → j < i → P j → ⊥) → (j : ℕ) → P j → i ≤ j
least_from P i none j here = elim (cases_order j i) [
  | inl e ↦ omega (arith, e)
  | inr rest ↦ elim rest [
    | inl lower ↦ absurd (none j lower here)
    | inr higher ↦ omega (arith, higher)
  ]
]

within_all : (s b m k n : ℕ) → b ≤ s + k * n → k ≤ m → b ≤ s + m * n
within_all s b m k n le small = let more : k * n ≤ m * n = mul-le-mul_right n small in omega arith

-- one item more takes as many steps more
one_more : (s b c k m n : ℕ) → b ≤ s + k * n → c ≤ b + n → m ≡ k + 1 → c ≤ s + m * n
one_more s b c k m n le step more = subst (λ (x : ℕ). c ≤ s + x * n) (sym more) (let e = add-mul k 1 n in omega (arith, e, le, step))

pub loop-i-preserved : goal.loop-i-preserved
loop-i-preserved c =
    let t = region c.args.self in
    let name = c.args.name.now in
    let before = c.loop-i.invariant in
    let wanted = c.is_wanted.ensures in
    let first : c.span-first.result.0 ≡ span_start t (hash_of name) = c.span-first.ensures.first ∙ ap (span_start t) c.requires.hash_is in
    let end : c.span-first.result.1 ≡ span_end t (hash_of name) = c.span-first.ensures.end ∙ ap (span_end t) c.requires.hash_is in
    let more : c.loop-i.i + 1 - span_start t (hash_of name) ≡ c.loop-i.i - span_start t (hash_of name) + 1 = omega (arith, first, c.loop-i.auto.i) in
    record {
      none = below_next (λ j. Fits t name (letter_of c.args.kind) j → ⊥) c.loop-i.i before.none
          (λ fits. no_truth (sym c.if-is_wanted.false ∙ wanted.wanted.1 (subst (λ h. IsWanted t h name (letter_of c.args.kind) c.loop-i.i) (sym c.requires.hash_is) fits.wanted)));
      within = omega (arith, more, first, end, c.loop-i-test.true);
      cost = one_more _ _ _ _ _ (length name + 1) before.cost (omega (arith, wanted.cost)) more;
      grows = omega (arith, before.grows, wanted.grows);
    }

pub returns-clause-cost : goal.returns-clause-cost
returns-clause-cost c = within_all _ _ _ _ _ c.loop-i.invariant.cost c.loop-i.invariant.within

pub is_wanted-requires-clause-room : goal.is_wanted-requires-clause-room
is_wanted-requires-clause-room c =
    let t = region c.args.self in
    let name = c.args.name.now in
    let passes : PassesBloom t (hash_of name) = subst (PassesBloom t) c.requires.hash_is (c.passes_bloom.ensures.0 c.if-not-passes_bloom.false) in
    let room = c.requires.room passes in
    let first : c.span-first.result.0 ≡ span_start t (hash_of name) = c.span-first.ensures.first ∙ ap (span_start t) c.requires.hash_is in
    let end : c.span-first.result.1 ≡ span_end t (hash_of name) = c.span-first.ensures.end ∙ ap (span_end t) c.requires.hash_is in
    let more : c.loop-i.i + 1 - span_start t (hash_of name) ≡ c.loop-i.i - span_start t (hash_of name) + 1 = omega (arith, first, c.loop-i.auto.i) in
    let within : c.loop-i.i + 1 - span_start t (hash_of name) ≤ span_size t (hash_of name) = omega (arith, more, first, end, c.loop-i-test.true) in
    let all = within_all _ _ _ _ _ (one_more _ _ (c.loop-i.steps + (length name + 1)) _ _ (length name + 1) c.loop-i.invariant.cost (omega arith) more) within in
    omega (arith, all, room)

pub returns-then-is_wanted-clause-found : goal.returns-then-is_wanted-clause-found
returns-then-is_wanted-clause-found c =
    let t = region c.args.self in
    let name = c.args.name.now in
    let first : c.span-first.result.0 ≡ span_start t (hash_of name) = c.span-first.ensures.first ∙ ap (span_start t) c.requires.hash_is in
    let end : c.span-first.result.1 ≡ span_end t (hash_of name) = c.span-first.ensures.end ∙ ap (span_end t) c.requires.hash_is in
    let fits : Fits t name (letter_of c.args.kind) c.loop-i.i = record {
      passes = subst (PassesBloom t) c.requires.hash_is (c.passes_bloom.ensures.0 c.if-not-passes_bloom.false);
      in_span = record { first = omega (arith, first, c.loop-i.auto.i); before = omega (arith, end, c.loop-i-test.true) };
      wanted = subst (λ h. IsWanted t h name (letter_of c.args.kind) c.loop-i.i) c.requires.hash_is (c.is_wanted.ensures.wanted.0 c.if-is_wanted.true);
    } in
    record { fits = fits; least = least_from (Fits t name (letter_of c.args.kind)) c.loop-i.i c.loop-i.invariant.none }

pub returns-then-is_wanted-clause-spared : goal.returns-then-is_wanted-clause-spared
returns-then-is_wanted-clause-spared c ruled_out =
    absurd (ruled_out (subst (PassesBloom (region c.args.self)) c.requires.hash_is (c.passes_bloom.ensures.0 c.if-not-passes_bloom.false)))

pub returns-clause-spared : goal.returns-clause-spared
returns-clause-spared c ruled_out =
    absurd (ruled_out (subst (PassesBloom (region c.args.self)) c.requires.hash_is (c.passes_bloom.ensures.0 c.if-not-passes_bloom.false)))

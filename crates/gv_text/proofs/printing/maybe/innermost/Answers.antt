use Rattle.std.proofs.Common.{◌≡◌, inr, refl, sym, ap, ◌∙◌, arith, ◌⊎◌, inl}
use Rattle.gv_types.specs.Classes.{class_of}
use Rattle.gv_types.specs.declared.class.Class.TheVariants.{Maybe}
use Rattle.gv_types.specs.TypeStr.{ty}
use Rattle.gv_view.specs.Views.{value, view_ty, view_bytes}
use Rattle.gv_view.proofs.Depths.{depth_children}
use Rattle.gv_text.proofs.Maybes.{is_just, is_nothing, just_depth, just_deeper, inside_just, nothing_inside, nothing_level, other_ends, within}
use Rattle.gv_text.proofs.printing.maybe.innermost.Goals as goal

right_of : {A B : Type 0} → (A → ⊥) → A ⊎ B → B
right_of h (inl a) = absurd (h a)
right_of h (inr b) = b

pub returns-in_default-child-clause-inner : goal.returns-in_default-child-clause-inner
returns-in_default-child-clause-inner c =
    let kind : class_of (view_ty c.loop-inner.inner) ≡ Maybe = sym (c.in-Maybe.ensures ∙ ap (λ t. class_of (ty t)) c.type_str.ensures) in
    let end = is_nothing (view_ty c.loop-inner.inner) (view_bytes c.loop-inner.inner) kind (sym c.in_default-child.ensures.value) in
    nothing_inside (value c.args.view) (value c.loop-inner.inner) c.loop-inner.invariant.0 end

pub returns-in_default-child-clause-left : goal.returns-in_default-child-clause-left
returns-in_default-child-clause-left c =
    let kind : class_of (view_ty c.loop-inner.inner) ≡ Maybe = sym (c.in-Maybe.ensures ∙ ap (λ t. class_of (ty t)) c.type_str.ensures) in
    let one = nothing_level (view_ty c.loop-inner.inner) (view_bytes c.loop-inner.inner) kind (sym c.in_default-child.ensures.value) in
    omega (arith, one, c.loop-inner.invariant.1, c.loop-inner.invariant.2)

pub returns-then-left-eq0-clause-deep : goal.returns-then-left-eq0-clause-deep
returns-then-left-eq0-clause-deep c =
    let kind : class_of (view_ty c.loop-inner.inner) ≡ Maybe = sym (c.in-Maybe.ensures ∙ ap (λ t. class_of (ty t)) c.type_str.ensures) in
    let just = is_just (view_ty c.loop-inner.inner) (view_bytes c.loop-inner.inner) (value c.in-Some.child) kind (sym c.in-Some.ensures.value) in
    (refl, omega (arith, just_depth (value c.loop-inner.inner) (value c.in-Some.child) just, depth_children (value c.in-Some.child), c.if-left-eq0.true, c.loop-inner.invariant.1, c.loop-inner.invariant.2))

pub loop-inner-smaller : goal.loop-inner-smaller
loop-inner-smaller c =
    let kind : class_of (view_ty c.loop-inner.inner) ≡ Maybe = sym (c.in-Maybe.ensures ∙ ap (λ t. class_of (ty t)) c.type_str.ensures) in
    just_deeper _ _ (is_just (view_ty c.loop-inner.inner) (view_bytes c.loop-inner.inner) (value c.in-Some.child) kind (sym c.in-Some.ensures.value))

pub loop-inner-preserved : goal.loop-inner-preserved
loop-inner-preserved c =
    let kind : class_of (view_ty c.loop-inner.inner) ≡ Maybe = sym (c.in-Maybe.ensures ∙ ap (λ t. class_of (ty t)) c.type_str.ensures) in
    let just = is_just (view_ty c.loop-inner.inner) (view_bytes c.loop-inner.inner) (value c.in-Some.child) kind (sym c.in-Some.ensures.value) in
    let one = just_depth (value c.loop-inner.inner) (value c.in-Some.child) just in (
      inside_just (value c.args.view) (value c.loop-inner.inner) (value c.in-Some.child) c.loop-inner.invariant.0 just,
      omega (arith, c.if-left-eq0.false, c.loop-inner.invariant.1),
      omega (arith, one, c.loop-inner.invariant.1, c.loop-inner.invariant.2),
      omega (arith, c.loop-inner.invariant.3),
      inr (omega (arith, c.loop-inner.invariant.1, c.loop-inner.invariant.3)),
    )

pub returns : goal.returns
returns c =
    let other : class_of (view_ty c.loop-inner.inner) ≡ Maybe → ⊥ = λ e. c.in_default.not-Maybe (c.class.ensures ∙ (ap (λ t. class_of (ty t)) c.type_str.ensures ∙ e)) in
    let fewer = right_of other c.loop-inner.invariant.4 in
    record {
      inner = within (value c.args.view) (value c.loop-inner.inner) c.loop-inner.invariant.0 (other_ends (view_ty c.loop-inner.inner) (view_bytes c.loop-inner.inner) other) (omega (arith, fewer, c.loop-inner.invariant.2));
      left = (fewer, c.loop-inner.invariant.2);
      deep = tt;
    }

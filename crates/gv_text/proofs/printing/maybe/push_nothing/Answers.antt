use Rattle.std.proofs.Common.{◌++◌, sym, ap, ◌∙◌, string_bytes}
use Rattle.gv_view.specs.Views.{value, view_ty, view_bytes}
use Rattle.gv_text.proofs.Maybes.{is_just, just_deeper, just_written, ends_class, nothing_text}
use Rattle.gv_text.proofs.printing.maybe.push_nothing.Goals as goal

pub loop-child-smaller : goal.loop-child-smaller
loop-child-smaller c =
    just_deeper _ _ (is_just (view_ty c.loop-child.level) (view_bytes c.loop-child.level) (value c.in-Some.child) (ends_class (view_ty c.loop-child.level) (view_bytes c.loop-child.level) c.loop-child.invariant.0) (sym c.in-Some.ensures.value))

pub loop-child-preserved : goal.loop-child-preserved
loop-child-preserved c =
    let just = is_just (view_ty c.loop-child.level) (view_bytes c.loop-child.level) (value c.in-Some.child) (ends_class (view_ty c.loop-child.level) (view_bytes c.loop-child.level) c.loop-child.invariant.0) (sym c.in-Some.ensures.value) in
    just_written (value c.loop-child.level) (value c.in-Some.child) (string_bytes c.loop-child.to) (string_bytes c.push_str.new.self) just c.loop-child.invariant.0 c.in_ok-push_str.ensures.bytes c.loop-child.invariant.1

pub returns : goal.returns
returns c =
    let text = nothing_text (view_ty c.loop-child.level) (view_bytes c.loop-child.level) (ends_class (view_ty c.loop-child.level) (view_bytes c.loop-child.level) c.loop-child.invariant.0) (sym c.in_default.ensures.value) in
    c.in_ok-push_str-2.ensures.bytes ∙ (ap (λ s. string_bytes c.loop-child.to ++ s) (sym text) ∙ c.loop-child.invariant.1)

-- Whoever reads what is told of a value has the value.
use Rattle.std.proofs.Common.{◌≡◌, ◌∙◌, ◌∷◌, inl, inr, ℕ, Bool, true, false, List, [], Option, Some, None, refl, sym, subst}
use Rattle.std.specs.Prelude.{if◌then◌else◌, option_map, slice_get}
use Rattle.json.specs.Token.{string}
use Rattle.gv_model.specs.Ty.{Ty}
use Rattle.gv_model.specs.Ty.Ty.{variant}
use Rattle.gv_model.specs.Tree.{Tree}
use Rattle.gv_model.specs.Children.{Child, child_bytes}
use Rattle.gv_model.specs.Decode.{cut, decode}
use Rattle.gv_model.specs.Printed.{holds_double, is_too_large, printed}
use Rattle.gv_model.proofs.ChildLaws.{child_of_value}
use Rattle.dconf_json.specs.Values.{Tells, WhatIsToldIsTheValue, child_tokens, double_tokens, typed_tokens}

told_by : (large double : Bool) (v : Tree) (t : Ty) (bytes : List ℕ) → decode t bytes ≡ v
    → Tells v (if large then typed_tokens t bytes else if double then double_tokens false t bytes else string (printed v true) ∷ [])
told_by true double v t bytes is = inr (t, bytes, refl, is)
told_by false true v t bytes is = inr (t, bytes, refl, is)
told_by false false v t bytes is = inl refl

told_of : (bytes : List ℕ) (v : Tree) (o : Option Child) → option_map (λ c. decode c.type (child_bytes bytes c)) o ≡ Some v → Tells v (child_tokens false bytes o)
told_of bytes v None e = cc
told_of bytes v (Some c) e =
    let w = decode c.type (child_bytes bytes c) in
    subst (λ (x : Tree). Tells x (child_tokens false bytes (Some c))) (cc e) (told_by (is_too_large w) (holds_double w) w c.type (child_bytes bytes c) refl)

pub what_is_told : WhatIsToldIsTheValue
what_is_told bytes v held = told_of bytes v (slice_get (cut variant bytes) 0) (sym (child_of_value variant bytes 0) ∙ held)

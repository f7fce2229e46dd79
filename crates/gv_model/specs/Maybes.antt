-- Where the child of a maybe lies.
-- GVariant Specification, "Maybes". Of a fixed size: Just exactly where the bytes have that size. Of no
-- fixed size: Nothing is no bytes, and Just is the child's bytes and one more, whatever that one is.
use Rattle.std.specs.Prelude.{ℕ, ◌-◌, List, [], ◌∷◌, Option, Some, None, ◌==◌, if◌then◌else◌}
use Rattle.gv_model.specs.Ty.{Ty}
use Rattle.gv_model.specs.Children.{Span}

abbrev pub just_span : Ty → ℕ → Option ℕ → List (Ty × Span)
just_span t n (Some size) = if n == size then (t, Some (0, n)) ∷ [] else []
just_span t n None = if n == 0 then [] else (t, Some (0, n - 1)) ∷ []

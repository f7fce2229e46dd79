-- What a variant holds, and where.
-- GVariant Specification, "Variants": the child's bytes, a zero byte, the child's type text. Where there is
-- no zero byte or no type after the last one, the value is `<()>`.
use Rattle.std.specs.Prelude.{ℕ, List, [], ◌∷◌, length, Option, Some, None, ◌==◌, if◌then◌else◌}
use Rattle.gv_model.specs.Ty.{Ty}
use Rattle.gv_model.specs.Ty.Ty.{tuple}
use Rattle.gv_model.specs.Ty.Types.{end}
use Rattle.gv_model.specs.TypeText.{type_of_text}
use Rattle.gv_model.specs.Children.{Span}

-- the bytes before the last zero byte, and those after it
abbrev pub add_first : ℕ → List ℕ → Option (List ℕ × List ℕ) → Option (List ℕ × List ℕ)
add_first c cs (Some p) = Some (c ∷ p.0, p.1)
add_first c cs None = if c == 0 then Some ([], cs) else None

unfoldable pub at_last_zero : List ℕ → Option (List ℕ × List ℕ)
at_last_zero [] = None
at_last_zero (c ∷ cs) = add_first c cs (at_last_zero cs)

abbrev pub unit_span : Ty × Span
unit_span = (tuple end, None)

-- the first n bytes, at the type that was read
abbrev pub typed_span : ℕ → Option Ty → Ty × Span
typed_span n None = unit_span
typed_span n (Some t) = (t, Some (0, n))

abbrev pub variant_span : Option (List ℕ × List ℕ) → Ty × Span
variant_span None = unit_span
variant_span (Some p) = typed_span (length p.0) (type_of_text p.1)

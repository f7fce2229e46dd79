-- Children that are known to be in order, so that one behind them is found without looking at each of them again.
use Rattle.std.specs.Prelude.{◌≤◌, ℕ, suc, List, [], ◌∷◌, Option, if◌then◌else◌}
use Rattle.gv_model.specs.Ty.{Ty}
use Rattle.gv_model.specs.Children.{Span, is_out}
use Rattle.gv_model.specs.Decode.{body, spans}

-- how many stand before the first that is out of order
unfoldable pub in_order : Option ℕ → List (Ty × Span) → ℕ
in_order m [] = 0
in_order m (c ∷ cs) = if is_out m c.1 then 0 else suc (in_order m cs)

-- the first `passed` children of a value are in order
abbrev pub ArePassed : Ty → List ℕ → ℕ → Type 0
ArePassed t b passed = passed ≤ in_order (body t b) (spans t b)

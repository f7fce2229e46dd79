-- What a text that spells a type, or none, makes of bytes.
use Rattle.std.proofs.Common.{◌≡◌, ℕ, List, Some, None, ap, sym, ◌∙◌}
use Rattle.std.specs.Prelude.{unwrap_or}
use Rattle.gv_model.specs.Ty.{Ty}
use Rattle.gv_model.specs.Ty.Ty.{tuple}
use Rattle.gv_model.specs.Ty.Types.{end}
use Rattle.gv_model.specs.Tree.Tree.{node}
use Rattle.gv_model.specs.Tree.Trees.{none}
use Rattle.gv_model.specs.TypeText.{type_at, type_of_text}
use Rattle.gv_model.specs.Decode.{decode}
use Rattle.gv_model.proofs.EmptyLaws.{decode-unit}

pub typed_at : (text : List ℕ) (t : Ty) → type_of_text text ≡ Some t → t ≡ type_at text
typed_at text t h = sym (ap (λ o. unwrap_or o (tuple end)) h)

-- no type is the empty tuple, whatever the bytes are
pub untyped : (text b : List ℕ) → type_of_text text ≡ None → decode (type_at text) b ≡ node (tuple end) none
untyped text b h = ap (λ o. decode (unwrap_or o (tuple end)) b) h ∙ decode-unit b

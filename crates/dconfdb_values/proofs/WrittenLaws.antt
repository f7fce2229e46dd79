-- What is written for a value, with the text of its type behind it.
use Rattle.std.specs.Prelude.{IfOk}
use Rattle.std.proofs.Common.{◌≡◌, ◌≤◌, ◌++◌, ◌∙◌, ℕ, List, Err, Ok, Result, Some, length, refl, ap, ap₂, sym, subst}
use Rattle.gv_model.specs.Ty.{Ty, spelling}
use Rattle.gv_model.specs.Tree.{Tree, type_of, depth}
use Rattle.gv_model.specs.TypeText.{type_at, type_of_text}
use Rattle.gv_model.specs.Decode.{decode}
use Rattle.gv_model.specs.Encode.{encode}
use Rattle.gv_model.specs.Normal.{IsNormal}
use Rattle.gv_model.proofs.RoundTrip.{round_trip}
use Rattle.gv_model.proofs.TypeTextLaws.{type_of_text-spelling}
use Rattle.gv_tree.specs.Wholes.{IsWhole}
use Rattle.dconfdb_values.specs.Parsed.{IsWritten}
use Rattle.dconfdb_values.specs.declared.parsing.Parsed.{Parsed}
use Rattle.dconfdb_values.specs.declared.parsing.Unparsed.{Unparsed}
use Rattle.dconfdb_values.proofs.TypedLaws.{typed_at}

normal_form : (v : Tree) → IsWhole v → decode (type_of v) (encode v) ≡ v → IsNormal (type_of v) (encode v)
normal_form v whole back =
    record { written = ap encode (sym back); shallow = subst (λ (u : Tree). depth u ≤ 128) (sym back) whole.levels }

written : (v : Tree) (block : List ℕ) (size : ℕ) → IsWhole v → block ≡ encode v ++ spelling (type_of v) → size ≡ length (encode v) → IsWritten v block size
written v block size whole block_is size_is =
    let typed : type_of_text (spelling (type_of v)) ≡ Some (type_of v) = type_of_text-spelling (type_of v) whole.limits in
    let at : type_of v ≡ type_at (spelling (type_of v)) = typed_at (spelling (type_of v)) (type_of v) typed in
    let back : decode (type_of v) (encode v) ≡ v = round_trip (type_of v) v (record { type = refl; value = whole.value }) in
    record {
      bytes = encode v;
      type_text = spelling (type_of v);
      block_is = block_is;
      size_is = size_is;
      typed = typed;
      value_is = subst (λ (t : Ty). decode t (encode v) ≡ v) at back;
      normal = subst (λ (t : Ty). IsNormal t (encode v)) at (normal_form v whole back);
    }

-- what comes of the bytes of a value and the text of its type
pub all_written : (r : Result Parsed Unparsed) (v : Tree) (bytes type_text : List ℕ) → IsWhole v → bytes ≡ encode v → type_text ≡ spelling (type_of v) →
    IfOk r (λ p. p.block.items ≡ bytes ++ type_text) → IfOk r (λ p. p.size ≡ length bytes) → IfOk r (λ p. IsWritten v p.block.items p.size)
all_written (Ok p) v bytes type_text whole bytes_are text_is block size =
    written v p.block.items p.size whole (block ∙ ap₂ (λ (b w : List ℕ). b ++ w) bytes_are text_is) (size ∙ ap (λ (b : List ℕ). length b) bytes_are)
all_written (Err e) v bytes type_text whole bytes_are text_is block size = tt

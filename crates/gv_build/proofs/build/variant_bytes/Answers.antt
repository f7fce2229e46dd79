use Rattle.std.proofs.Common.{◌∷◌, ap, ◌∙◌, length, length-append, refl, arith, inl, inr}
use Rattle.gv_model.specs.Ty.{spelling}
use Rattle.gv_model.specs.Tree.{type_of}
use Rattle.gv_model.specs.Encode.{encode}
use Rattle.gv_types.specs.TypeStr.{ty}
use Rattle.gv_build.proofs.Outcomes.{stops_for}
use Rattle.gv_build.proofs.Encodings.{encode_variant}
use Rattle.gv_build.proofs.Wholes.{two_parts_alone}
use Rattle.gv_build.proofs.build.variant_bytes.Goals as goal

pub returns-then-levels-ge-MAX_LEVELS-clause-fault : goal.returns-then-levels-ge-MAX_LEVELS-clause-fault
returns-then-levels-ge-MAX_LEVELS-clause-fault c = inr (omega (arith, c.type_text-of.ensures.whole.levels))

pub returns-in_err-write_tree-clause-fault : goal.returns-in_err-write_tree-clause-fault
returns-in_err-write_tree-clause-fault c =
    let v = c.args.tree.now in
    let size = ap length (encode_variant _ v refl) in
    let empty = ap length c.in_ok-out.ensures.items in
    stops_for c.from_residual-in_err-write_tree.result _ _ _ (λ over. inl (omega (arith, size, over, empty, length-append (encode v) (0 ∷ spelling (type_of v))))) c.in_err-write_tree.ensures.fault c.from_residual-in_err-write_tree.ensures.1

pub returns-in_err-end_variant-clause-fault : goal.returns-in_err-end_variant-clause-fault
returns-in_err-end_variant-clause-fault c =
    let v = c.args.tree.now in
    let end = ap (λ u. 0 ∷ spelling u) c.type_text-of.ensures.text in
    let whole = two_parts_alone c.write_tree.new.out.items _ (encode v) _ _ _ c.in_ok-out.ensures.items c.in_ok-write_tree.ensures.bytes end (encode_variant _ v refl) in
    let size = ap length whole in
    stops_for c.from_residual-in_err-end_variant.result _ _ _ (λ over. inl (omega (arith, size, over, length-append c.write_tree.new.out.items (0 ∷ spelling (ty c.type_text-of.result))))) c.in_err-end_variant.ensures.fault c.from_residual-in_err-end_variant.ensures.1

pub returns-clause-bytes : goal.returns-clause-bytes
returns-clause-bytes c =
    let v = c.args.tree.now in
    let end = ap (λ u. 0 ∷ spelling u) c.type_text-of.ensures.text in
    c.in_ok-end_variant.ensures.bytes ∙ two_parts_alone c.write_tree.new.out.items _ (encode v) _ _ _ c.in_ok-out.ensures.items c.in_ok-write_tree.ensures.bytes end (encode_variant _ v refl)

pub returns-clause-fits : goal.returns-clause-fits
returns-clause-fits c = let same = ap length (returns-clause-bytes c) in omega (arith, same, c.in_ok-end_variant.ensures.fits)

pub returns-clause-levels : goal.returns-clause-levels
returns-clause-levels c = omega arith

pub returns-clause-whole : goal.returns-clause-whole
returns-clause-whole c = c.type_text-of.ensures.whole

use Rattle.std.proofs.Common.{rules, arith, ◌≡◌, ◌↔◌, [], ◌∷◌, sym, ap, ◌∙◌, subst}
use Rattle.std.specs.Prelude.{IsTrue}
use Rattle.gv_model.specs.Ty.Ty.{basic, variant, array}
use Rattle.gv_model.specs.Ty.Basic.{boolean, byte}
use Rattle.gv_model.specs.Syntax.{levels, greatest_levels, pairs_levels}
use Rattle.gv_model.specs.Admits.{Admits, IsNumberType, IsTextType, AllAdmit, Admit, KeysAdmit, ValuesAdmit, IsArrayOf, IsTupleOf, IsEntryOf}
use Rattle.gv_types.specs.TypeStr.{ty}
use Rattle.gv_types.specs.declared.class.Class.TheVariants as classes
use Rattle.gv_types.specs.declared.class.BasicType.TheVariants as basics
use Rattle.gv_syntax.specs.SyntaxNodes.{nodes_of, pairs_of, syntax_of}
use Rattle.gv_patterns.proofs.Levels.{list_levels, tuple_levels, dictionary_levels, levels_at, pair_levels_at}
use Rattle.gv_infer.proofs.AdmitLaws.{also_where_bare, is_boolean, is_variant, is_byte_array, admit_listed}
use Rattle.gv_infer.proofs.admits.+admits.Goals as goal

pub admits-all_admit-requires : goal.admits-all_admit-requires
admits-all_admit-requires t c =
    let deep = ap levels (sym c.node.view_is ∙ ap syntax_of c.in-Array.is) ∙ list_levels _ in
    let same = ap (λ xs. greatest_levels (nodes_of xs)) c.as_slice.ensures.value in
    (omega (arith, deep, same, c.decreases), tt)

pub admits-each_admits-requires : goal.admits-each_admits-requires
admits-each_admits-requires t c =
    let deep = ap levels (sym c.node.view_is ∙ ap syntax_of c.in-Tuple.is) ∙ tuple_levels _ in
    let same = ap (λ xs. greatest_levels (nodes_of xs)) c.as_slice-in-Tuple.ensures.value in
    (omega (arith, deep, same, c.decreases), tt)

pub admits-pairs_admit-requires : goal.admits-pairs_admit-requires
admits-pairs_admit-requires t c =
    let deep = ap levels (sym c.node.view_is ∙ ap syntax_of c.in-Dictionary.is) ∙ dictionary_levels _ in
    let same = ap (λ xs. pairs_levels (pairs_of xs)) c.as_slice-in-Dictionary.ensures.value in
    (omega (arith, deep, same, c.decreases), tt)

pub admits-returns-in-Truth : goal.admits-returns-in-Truth
admits-returns-in-Truth t c =
    let is = sym c.node.view_is ∙ ap syntax_of c.in-Truth.is in
    let kind = is_boolean _ _ c.class.ensures in
    let asked : IsTrue c.eq.result ↔ (c.class.result ≡ classes.Basic basics.Boolean) = search rules in
    subst (λ x. IsTrue c.eq.result ↔ Admits x (ty c.args.of)) (sym is) (also_where_bare (λ u. u ≡ basic boolean) _ (ty c.args.of) _ c.bare.ensures (λ h. kind.0 (asked.0 h), λ h. asked.1 (kind.1 h)))

pub admits-returns-in-Integer : goal.admits-returns-in-Integer
admits-returns-in-Integer t c =
    let is = sym c.node.view_is ∙ ap syntax_of c.in-Integer.is in
    subst (λ x. IsTrue c.is_number_type.result ↔ Admits x (ty c.args.of)) (sym is) (also_where_bare IsNumberType _ (ty c.args.of) _ c.bare-in-Integer.ensures c.is_number_type.ensures)

pub admits-returns-in-Text : goal.admits-returns-in-Text
admits-returns-in-Text t c =
    let is = sym c.node.view_is ∙ ap syntax_of c.in-Text.is in
    subst (λ x. IsTrue c.is_text_type.result ↔ Admits x (ty c.args.of)) (sym is) (also_where_bare IsTextType _ (ty c.args.of) _ c.bare-in-Text.ensures c.is_text_type.ensures)

pub admits-returns-in-ByteString : goal.admits-returns-in-ByteString
admits-returns-in-ByteString t c =
    let is = sym c.node.view_is ∙ ap syntax_of c.in-ByteString.is in
    let kind = is_byte_array _ _ c.as_str.ensures.spelled in
    let asked : IsTrue c.eq-in-ByteString.result ↔ (c.as_str.result.now ≡ 97 ∷ 121 ∷ []) = search rules in
    subst (λ x. IsTrue c.eq-in-ByteString.result ↔ Admits x (ty c.args.of)) (sym is) (also_where_bare (λ u. u ≡ array (basic byte)) _ (ty c.args.of) _ c.bare-in-ByteString.ensures (λ h. kind.0 (asked.0 h), λ h. asked.1 (kind.1 h)))

pub admits-returns-in-Array : goal.admits-returns-in-Array
admits-returns-in-Array t c =
    let is = sym c.node.view_is ∙ ap syntax_of c.in-Array.is in
    let asked = subst (λ xs. IsTrue c.all_admit.result ↔ IsArrayOf (AllAdmit (nodes_of xs)) (ty c.bare-in-Array.result)) c.as_slice.ensures.value c.all_admit.ensures in
    subst (λ x. IsTrue c.all_admit.result ↔ Admits x (ty c.args.of)) (sym is) (also_where_bare (IsArrayOf (AllAdmit (nodes_of c.in-Array.elements.items))) _ (ty c.args.of) _ c.bare-in-Array.ensures asked)

pub admits-returns-in-Tuple : goal.admits-returns-in-Tuple
admits-returns-in-Tuple t c =
    let is = sym c.node.view_is ∙ ap syntax_of c.in-Tuple.is in
    let asked = subst (λ xs. IsTrue c.each_admits.result ↔ IsTupleOf (Admit (nodes_of xs)) (ty c.bare-in-Tuple.result)) c.as_slice-in-Tuple.ensures.value c.each_admits.ensures in
    subst (λ x. IsTrue c.each_admits.result ↔ Admits x (ty c.args.of)) (sym is) (also_where_bare (IsTupleOf (Admit (nodes_of c.in-Tuple.members.items))) _ (ty c.args.of) _ c.bare-in-Tuple.ensures asked)

pub admits-returns-in-Dictionary : goal.admits-returns-in-Dictionary
admits-returns-in-Dictionary t c =
    let is = sym c.node.view_is ∙ ap syntax_of c.in-Dictionary.is in
    let asked = subst (λ ps. IsTrue c.pairs_admit.result ↔ IsArrayOf (IsEntryOf (KeysAdmit (pairs_of ps)) (ValuesAdmit (pairs_of ps))) (ty c.bare-in-Dictionary.result)) c.as_slice-in-Dictionary.ensures.value c.pairs_admit.ensures in
    let ps = pairs_of c.in-Dictionary.pairs.items in
    subst (λ x. IsTrue c.pairs_admit.result ↔ Admits x (ty c.args.of)) (sym is) (also_where_bare (IsArrayOf (IsEntryOf (KeysAdmit ps) (ValuesAdmit ps))) _ (ty c.args.of) _ c.bare-in-Dictionary.ensures asked)

pub admits-returns-in-Entry : goal.admits-returns-in-Entry
admits-returns-in-Entry t c =
    let is = sym c.node.view_is ∙ ap syntax_of c.in-Entry.is in
    let asked : IsTrue c.entry_admits.result ↔ IsEntryOf (Admits c.in-Entry.key.value) (Admits c.in-Entry.value.value) (ty c.bare-in-Entry.result) = search rules in
    subst (λ x. IsTrue c.entry_admits.result ↔ Admits x (ty c.args.of)) (sym is) (also_where_bare (IsEntryOf (Admits c.in-Entry.key.value) (Admits c.in-Entry.value.value)) _ (ty c.args.of) _ c.bare-in-Entry.ensures asked)

pub admits-returns-in-Variant : goal.admits-returns-in-Variant
admits-returns-in-Variant t c =
    let is = sym c.node.view_is ∙ ap syntax_of c.in-Variant.is in
    let kind = is_variant _ _ c.class-in-Variant.ensures in
    let asked : IsTrue c.eq-in-Variant.result ↔ (c.class-in-Variant.result ≡ classes.Variant) = search rules in
    subst (λ x. IsTrue c.eq-in-Variant.result ↔ Admits x (ty c.args.of)) (sym is) (also_where_bare (λ u. u ≡ variant) _ (ty c.args.of) _ c.bare-in-Variant.ensures (λ h. kind.0 (asked.0 h), λ h. asked.1 (kind.1 h)))

pub all_admit_one-admits-requires : goal.all_admit_one-admits-requires
all_admit_one-admits-requires t c =
    let less = levels_at c.args.elements.now c.loop-element.element-index c.element-item.result c.loop-element-test.true c.element-item.is in
    (omega (arith, less, c.decreases), tt)

pub all_pairs_admit-admits-requires : goal.all_pairs_admit-admits-requires
all_pairs_admit-admits-requires t c =
    let less = pair_levels_at c.args.pairs.now c.loop-key.key-index c.loop-key-item.result c.loop-key-test.true c.loop-key-item.is in
    (omega (arith, less.0, c.decreases), tt)

pub all_pairs_admit-admits-requires-else-not-admits : goal.all_pairs_admit-admits-requires-else-not-admits
all_pairs_admit-admits-requires-else-not-admits t c =
    let less = pair_levels_at c.args.pairs.now c.loop-key.key-index c.loop-key-item.result c.loop-key-test.true c.loop-key-item.is in
    (omega (arith, less.1, c.decreases), tt)

pub each_admits-loop-member-init : goal.each_admits-loop-member-init
each_admits-loop-member-init t c = admit_listed (nodes_of c.args.members.now) _ _ (search rules)

pub each_admits-admits-requires : goal.each_admits-admits-requires
each_admits-admits-requires t c =
    let less = levels_at c.args.members.now c.loop-member.member-index c.member-item.result c.loop-member-test.true c.member-item.is in
    (omega (arith, less, c.decreases), tt)
